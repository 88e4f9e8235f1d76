use Rattle.std.proofs.Common.{◌≡◌, ◌⊎◌, ℕ, ◌+◌, ◌≤◌, drop, length}
use Rattle.lfs_cache.specs.Contents.{IsLocked}
use Rattle.lfs_cache.specs.declared.key.Key.{Key}
use Rattle.lfs_types.specs.Changes.{CanChangeAll, applied}
use Rattle.lfs_segwrite.specs.Applying.{OneMayHaveWait, OneNames, frames_of_all, peak_of_all, records_of_all, versions_after}
use Rattle.lfs_staging.specs.Changing.{StaysInLog}
use Rattle.lfs_parts.specs.Files.{content_of}
use Rattle.lfs_staging.specs.Staging.{IsStaged}
use Rattle.lfs_parts.specs.View.{version_of, waiting_in}
use Rattle.lfs_segwrite.proofs.applying.stage_changes.Given as goal

abbrev pub invariant-loop-change : goal.invariant-loop-change
invariant-loop-change l = record {
  staged : IsStaged l.parts 0;
  content : applied (drop l.change-index l.changes) (content_of l.parts) ≡ applied l.changes (content_of l.fn.parts);
  versions : (n : ℕ) → versions_after (drop l.change-index l.changes) n (version_of l.parts n)
      ≡ versions_after l.changes n (version_of l.fn.parts n);
  can : CanChangeAll (length l.parts.log.tables.rows) (drop l.change-index l.changes) (content_of l.parts);
  log : StaysInLog l.fn.parts l.parts;
  frames : length l.parts.cache.locked + frames_of_all (drop l.change-index l.changes) ≤ length l.fn.parts.cache.locked
      + frames_of_all l.changes;
  peak : length l.parts.cache.locked + peak_of_all (drop l.change-index l.changes) ≤ length l.fn.parts.cache.locked
      + peak_of_all l.changes;
  records : length l.parts.waiting + records_of_all (drop l.change-index l.changes) ≤ length l.fn.parts.waiting
      + records_of_all l.changes;
  blocks : (key : Key) → IsLocked key l.parts.cache
      → OneMayHaveWait l.changes key.ino key.lbn.0 ⊎ IsLocked key l.fn.parts.cache;
  numbers : (number : ℕ) → (OneNames l.changes number → ⊥)
      → waiting_in l.parts.waiting number ≡ waiting_in l.fn.parts.waiting number;
  left : length l.parts.waiting + length (drop l.change-index l.changes) ≤ length l.fn.parts.waiting + length l.changes;
}
