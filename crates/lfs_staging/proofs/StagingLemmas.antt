-- A record or a block that is staged changes what its own number or block reads and nothing else: `staged_record` for
-- `stage_record`, `staged_block` for `stage_block`; `key-apart` serves all of the crate. A key is
-- number, version and code, so two blocks have two keys (`key-apart`), and the tree of a number is told from what waits
-- under the keys of its blocks (`tree-others`, `tree-staged`). A block that waits is dirty and so not clean, by which
-- no clean block is gained (`grown`); keys that left out the version would let a removed file's blocks stand for a new
-- one's.
use Rattle.std.proofs.Common.{◌≡◌, ◌≢◌, ℕ, ◌+◌, ◌≤◌, List, ◌∷◌, length, Some, is_some, true, false, refl, sym, ap, ◌∙◌}
use Rattle.std.proofs.Common.{subst, inl, inr}
use Rattle.lfs_ifile.specs.Tables.{place_of, row_of}
use Rattle.lfs_inodes.specs.declared.inode.Inode.{Inode}
use Rattle.lfs_cache.specs.declared.key.Key.{Key}
use Rattle.lfs_cache.specs.Keys.{same_key}
use Rattle.lfs_cache.specs.Changes.{GainsOnly, IsContents}
use Rattle.lfs_cache.specs.Contents.{IsLocked, block_in}
use Rattle.lfs_cache.proofs.Entries.{same_is, same_cases}
use Rattle.lfs_segments.specs.Memory.{block_at}
use Rattle.lfs_log.specs.Parts.{LogParts}
use Rattle.lfs_bmap.specs.declared.blocks.FileBlock.{FileBlock}
use Rattle.lfs_bmap.specs.Blocks.{IsFileBlock, code_of, way_to}
use Rattle.lfs_bmap.specs.Reading.{Stages}
use Rattle.lfs_bmap.specs.Ways.{code_at}
use Rattle.lfs_bmap.proofs.WayLemmas.{known_way_of, way_of-code_of}
use Rattle.lfs_bmap.specs.Ways.{way_of}
use Rattle.lfs_parts.specs.declared.parts.Parts.{Parts}
use Rattle.lfs_staging.specs.Staging.{GrowsBy, StagesBlock, StagesRecord}
use Rattle.lfs_parts.specs.View.{key_of, record_of, root_in, tree_of, version_of, waiting_in}
use Rattle.std.proofs.lemmas.Bool.{cond-true}
use Rattle.lfs_parts.specs.Waiting.{without}
use Rattle.lfs_parts.proofs.HeldLemmas.{gains_none}
use Rattle.lfs_parts.proofs.WaitingLemmas.{waiting-head, waiting-staged}
use Rattle.lfs_parts.proofs.ViewLemmas.{code_at-way_to, record_of-waiting}
use Rattle.lfs_parts.proofs.SameLogLemmas.{record_same, version-same}

-- ---- frames
pub key-apart : (a b : Key) → (a ≢ b) → same_key a b ≡ false
key-apart a b other = elim (same_cases a b) [
  | inl same ↦ absurd (other (same_is a b same))
  | inr apart ↦ apart
]

-- a key other than the one that was written waits as it did
pub grown : (key : Key) (old new : Parts) → IsContents new.cache → IsLocked key new.cache
    → GainsOnly key old.cache new.cache
    → length new.cache.locked ≤ length old.cache.locked + 1
    → (IsLocked key old.cache → length new.cache.locked ≡ length old.cache.locked) → GrowsBy key old new
grown key old new formed here gains more none = record {
  formed = formed;
  clean = gains_none old.cache new.cache key formed gains here;
  here = here;
  kept = λ other locked. elim (same_cases key other) [
    | inl same ↦ subst (λ k. IsLocked k new.cache) (same_is key other same) here
    | inr apart ↦ ap is_some (gains.dirty other apart) ∙ locked
  ];
  only = λ other locked. elim (same_cases key other) [
    | inl same ↦ inl (sym (same_is key other same))
    | inr apart ↦ inr (sym (ap is_some (gains.dirty other apart)) ∙ locked)
  ];
  one_more = more;
  none_more = none;
}

-- ---- trees
-- Where the log and the records stay, bytes that wait under one key change what waits for that block alone.
module _ (old new : Parts) (number : ℕ) (block : FileBlock) (bytes : List ℕ) (log : new.log ≡ old.log)
    (records : (n : ℕ) → record_of new n ≡ record_of old n)
    (here : block_in (key_of number (version_of old number) (code_of block)) new.cache.locked ≡ Some bytes)
    (gains : (other : Key) → same_key (key_of number (version_of old number) (code_of block)) other ≡ false
    → block_in other new.cache.locked ≡ block_in other old.cache.locked) where
  pub tree-others : (n : ℕ) → n ≢ number → tree_of new n ≡ tree_of old n
  tree-others n other =
      let waits : (way : List ℕ) → (tree_of new n).waits way ≡ (tree_of old n).waits way
      = λ way.
      ap (λ v. block_in (key_of n v (code_at way)) new.cache.locked) (version-same old new n log)
      ∙ gains (key_of n (version_of old n) (code_at way))
      (key-apart (key_of number (version_of old number) (code_of block)) (key_of n (version_of old n) (code_at way))
      (λ e. other (sym (ap (λ (k : Key). k.ino) e)))) in
      λ i. record { root = root_in (records n i); waits = λ way. waits way i; block = λ a. (tree_blocks a) i }
    where
      tree_blocks : (a : ℕ) → (tree_of new 0).block a ≡ (tree_of old 0).block a
      tree_blocks a = ap (λ (l : LogParts). block_at l.memory a) log

  pub tree-staged : IsFileBlock block → Stages (tree_of old number) (tree_of new number) (way_to block) bytes
  tree-staged can = record {
    root = ap root_in (records number);
    waiting = ap (λ v. block_in (key_of number v (code_at (way_to block))) new.cache.locked)
        (version-same old new number log)
        ∙ ap (λ c. block_in (key_of number (version_of old number) c) new.cache.locked) (code_at-way_to block) ∙ here;
    waits = λ way known other.
        ap (λ v. block_in (key_of number v (code_at way)) new.cache.locked) (version-same old new number log)
        ∙ gains (key_of number (version_of old number) (code_at way))
        (key-apart (key_of number (version_of old number) (code_of block))
        (key_of number (version_of old number) (code_at way))
        (λ e. other (sym (known_way_of way known) ∙ ap way_of (sym (ap (λ (k : Key). k.lbn.0) e))
        ∙ way_of-code_of block can)));
    blocks = λ a. ap (λ (l : LogParts). block_at l.memory a) log;
  }

-- ---- a record
used_place : (p : Parts) (n : ℕ) → (row_of p.log.tables n).used ≡ true
    → place_of p.log.tables n ≡ Some (record {
      addr = (row_of p.log.tables n).address;
      slot = (row_of p.log.tables n).slot;
      version = (row_of p.log.tables n).version;
    })
used_place p n used = cond-true _ _ _ used

pub staged_record : (old new : Parts) (v : Inode) → new.log ≡ old.log → new.cache ≡ old.cache → new.waiting ≡ v
    ∷ without v.number old.waiting
    → (row_of old.log.tables v.number).used ≡ true → StagesRecord v old new
staged_record old new v log cache waiting used = record {
  log = log;
  cache = cache;
  waiting = waiting;
  here =
      let now : (row_of new.log.tables v.number).used
      ≡ true = ap (λ (l : LogParts). (row_of l.tables v.number).used) log ∙ used in
      record_of-waiting new v.number _ v (used_place new v.number now) (ap (λ vs. waiting_in vs v.number) waiting
      ∙ waiting-head v (without v.number old.waiting) v.number refl);
  others = λ n other. record_same old new n log (ap (λ vs. waiting_in vs n) waiting
      ∙ waiting-staged v old.waiting n other);
}

-- ---- a block
pub staged_block : (old new : Parts) (number version lbn : ℕ) (block : FileBlock) (bytes : List ℕ) → IsFileBlock block
    → version ≡ version_of old number → lbn ≡ code_of block
    → new.log ≡ old.log → new.waiting ≡ old.waiting
    → block_in (key_of number version lbn) new.cache.locked ≡ Some bytes
    → GainsOnly (key_of number version lbn) old.cache new.cache → length new.cache.locked ≤ length old.cache.locked + 1
    → (IsLocked (key_of number version lbn) old.cache → length new.cache.locked ≡ length old.cache.locked)
    → IsContents new.cache
    → StagesBlock number block bytes old new
staged_block old new number version lbn block bytes can at code log waiting here gains more none formed =
    let key : key_of number version lbn ≡ key_of number (version_of old number) (code_of block) =
    λ i. key_of number (at i) (code i) in
    let held : block_in (key_of number (version_of old number) (code_of block)) new.cache.locked ≡ Some bytes
    = subst (λ k. block_in k new.cache.locked ≡ Some bytes) key here in
    let gained : GainsOnly (key_of number (version_of old number) (code_of block)) old.cache new.cache
    = subst (λ k. GainsOnly k old.cache new.cache) key gains in
    let records : (n : ℕ) → record_of new n ≡ record_of old n =
    λ n. record_same old new n log (ap (λ vs. waiting_in vs n) waiting) in
    record {
      log = log;
      waiting = waiting;
      staged = tree-staged old new number block bytes log records held gained.dirty can;
      others = tree-others old new number block bytes log records held gained.dirty;
      frames = grown (key_of number (version_of old number) (code_of block)) old new formed
          (ap is_some held) gained more
          (λ locked. none (subst (λ k. IsLocked k old.cache) (sym key) locked));
    }
