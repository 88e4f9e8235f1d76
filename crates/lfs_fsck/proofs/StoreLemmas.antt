-- A log whose checks all passed is one that a store may stand on: `is_stored`, for `check_parts`; `other_frames` says
-- that the number of frames makes no difference. With an empty cache and nothing waiting, all that IsStore asks of
-- locks and mirrors holds of none, so what is left is just what was checked: files (`checked_file`), keys and their
-- sums, reserved numbers and the end of the log. A block past a file's size has no address, as each counted key lies
-- below it (`none_past`); whatever IsStore is made to ask of the log must be checked by `check_parts`, or
-- `flushed_store` can't be built.
use Rattle.std.proofs.Common.{◌≡◌, ◌≢◌, ℕ, ◌-◌, ◌*◌, ◌<◌, ◌≤◌, List, [], length, Some, true, false, is_some, refl, sym}
use Rattle.std.proofs.Common.{ap, ◌∙◌, subst, inl, inr, arith}
use Rattle.std.specs.Prelude.{IsSome}
use Rattle.std.proofs.lemmas.Bool.{cases_Bool, cases_eq, cases_lt, false≢true}
use Rattle.std.proofs.lemmas.List.{get_or_past}
use Rattle.std.proofs.lemmas.List.Elements.{All-nil}
use Rattle.std.proofs.lemmas.Option.{none-some, same_Some}
use Rattle.lfs_types.specs.Ranges.{least_frames}
use Rattle.lfs_types.specs.declared.limits.TheConstants.{FIRST_INODE, ROOT_INODE, SEGMENT_BLOCKS}
use Rattle.lfs_segments.specs.Log.{Expects}
use Rattle.lfs_segments.specs.Memory.{next_address}
use Rattle.lfs_ifile.specs.declared.inode.InodeRow.{InodeRow}
use Rattle.lfs_ifile.specs.Inode.{fresh_row}
use Rattle.lfs_ifile.specs.Tables.{row_of}
use Rattle.lfs_inodes.specs.declared.inode.Inode.{Inode}
use Rattle.lfs_inodes.specs.Facts.{block_count}
use Rattle.lfs_inodes.specs.Reading.{AreFields, Fields, fields_of}
use Rattle.lfs_cache.specs.Changes.{IsContents}
use Rattle.lfs_cache.specs.Contents.{nothing_in}
use Rattle.lfs_bmap.specs.declared.blocks.FileBlock.{FileBlock}
use Rattle.lfs_bmap.specs.declared.blocks.TheConstants.{BLOCK_CODES}
use Rattle.lfs_bmap.specs.Blocks.{IsFileBlock, code_of, first_under, way_to}
use Rattle.lfs_bmap.specs.Counting.{live_bytes}
use Rattle.lfs_bmap.specs.Log.{IsLog, LogState}
use Rattle.lfs_bmap.specs.Pieces.{IsPadded}
use Rattle.lfs_bmap.specs.Reading.{Tree, address, data_block, places}
use Rattle.lfs_bmap.specs.Ways.{way_of}
use Rattle.lfs_bmap.proofs.BlockLemmas.{block_with-code_of, code_of-below}
use Rattle.lfs_bmap.proofs.ReadingLemmas.{address-root}
use Rattle.lfs_bmap.proofs.WayLemmas.{way_of-code_of, way_of-zero}
use Rattle.lfs_log.specs.Parts.{IsParts, LogParts, live_of, record_place}
use Rattle.lfs_log.specs.Parts as log
use Rattle.lfs_log.proofs.PartsLemmas.{AreSegments-kept}
use Rattle.lfs_parts.specs.declared.parts.Parts.{Parts}
use Rattle.lfs_parts.specs.Keys.{log_state}
use Rattle.lfs_parts.specs.Store.{AreFiles, IsFile, IsPresent, IsStore, IsWithin}
use Rattle.lfs_parts.specs.View.{record_of, root_in, tree_of, tree_with, version_of}
use Rattle.lfs_parts.proofs.CleanLemmas.{mirrors_none}
use Rattle.lfs_parts.proofs.FileLemmas.{record_used}
use Rattle.lfs_parts.proofs.ViewLemmas.{record_like}
use Rattle.lfs_parts.proofs.WaitingLemmas.{none_once}
use Rattle.lfs_fsck.specs.Checks.{AreChecked, IsChecked, IsCounted, IsKept, IsRecordOf}
use Rattle.lfs_fsck.specs.Stored.{IsStored, keys_of, flushed, stored}
use Rattle.lfs_fsck.proofs.KeyLemmas.{at_block}

-- frames that hold nothing
nothing_formed : (n : ℕ) → IsContents (nothing_in n)
nothing_formed n = record {
  apart = tt;
  sized = λ key block held. absurd (none-some block held);
  limit = omega arith;
}

-- ---- the number of frames makes no difference
module _ (l : LogParts) (m n : ℕ) where
  abbrev p : Parts
  p = stored m l

  abbrev q : Parts
  q = stored n l

  same_record : (k : ℕ) → record_of q k ≡ record_of p k
  same_record k = record_like p q k refl refl refl

  same_tree : (k : ℕ) → tree_of q k ≡ tree_of p k
  same_tree k = ap (λ r. tree_with p k (version_of p k) (root_in r)) (same_record k)

  same_state : log_state q ≡ log_state p
  same_state = λ i. log.log_state l (places (record_place l.tables) (λ k. same_tree k i))

  same_file : (k : ℕ) (f : Fields) → IsFile p k f → IsFile q k f
  same_file k f h = record {
    formed = h.formed;
    own_number = h.own_number;
    own_version = h.own_version;
    none_past = λ block can past. ap (λ (t : Tree). address t (way_to block)) (same_tree k)
        ∙ h.none_past block can past;
    padded = subst (λ (t : Tree). IsPadded (data_block t) f.attributes.size) (sym (same_tree k)) h.padded;
  }

  pub other_frames : IsStore p → IsStore q
  other_frames h = record {
    whole = record {
      parts = h.whole.parts;
      cache = nothing_formed n;
      reserved = h.whole.reserved;
      recorded = λ k used. subst IsSome (sym (same_record k)) (h.whole.recorded k used);
      files = λ k f is. same_file k f (h.whole.files k f (sym (same_record k) ∙ is));
      records = All-nil (λ (v : Inode). IsPresent q v.number v.version);
      frames = λ key locked. absurd (false≢true locked);
      coded = λ key locked. absurd (false≢true locked);
      mirrors = mirrors_none q refl;
    };
    log = subst (λ (s : LogState). IsLog s 0) (sym same_state) h.log;
    ready = h.ready;
    parents = record {
      records = λ key locked. absurd (false≢true locked);
      holders = λ key locked i up way. absurd (false≢true locked);
    };
    once = none_once q.waiting refl;
    few = omega arith;
    within = λ k block f is can locked. absurd (false≢true locked);
  }

-- ---- one that was checked
-- a number in use is below the number of numbers
pub used_low : (l : LogParts) (number : ℕ) → (row_of l.tables number).used ≡ true → number < length l.tables.rows
used_low l number used = elim (cases_lt number (length l.tables.rows)) [
  | inl low ↦ low
  | inr past ↦ absurd (false≢true (sym (ap (λ (r : InodeRow). r.used) (get_or_past l.tables.rows number fresh_row past))
      ∙ used))
]

-- blocks past the size have no address
pub none_past : (l : LogParts) (number : ℕ) (f : Fields) → record_of (flushed l) number ≡ Some f
    → ((code : ℕ) → code < BLOCK_CODES → IsKept l number code)
    → (block : FileBlock) → IsFileBlock block → block_count f.attributes.size ≤ first_under block
    → address (tree_of (flushed l) number) (way_to block) ≡ 0
none_past l number f is kept block can past =
    let t = tree_of (flushed l) number in
    elim (cases_eq (code_of block) 0) [
      | inl record_ ↦ ap (address t) (sym (way_of-code_of block can) ∙ ap way_of record_ ∙ way_of-zero) ∙ address-root t
      | inr other ↦ elim (cases_eq (address t (way_to block)) 0) [
        | inl none ↦ none
        | inr some ↦
            let at = at_block l number block can other in
            let key = kept (code_of block) (code_of-below block can) (λ e. some (omega (arith, at, e))) in
            let within : IsWithin block f.attributes.size
            = subst (λ b. IsWithin b f.attributes.size) (block_with-code_of block can) (key.within f is other) in
            absurd (omega arith)
      ]
    ]

pub checked_file : (l : LogParts) (v : Inode) → IsRecordOf l v → AreFields (fields_of v)
    → ((code : ℕ) → code < BLOCK_CODES → IsKept l v.number code)
    → IsPadded (data_block (tree_of (flushed l) v.number)) v.size → IsChecked l v.number
checked_file l v own formed kept padded = record {
  fields = fields_of v;
  is = own.is;
  file = record {
    formed = formed;
    own_number = refl;
    own_version = own.at_version;
    none_past = none_past l v.number (fields_of v) own.is kept;
    padded = padded;
  };
}

module _ (l : LogParts) (counts : List ℕ) (parts : IsParts l) (ready : Expects l.memory [])
    (counted : IsCounted l (length l.tables.rows) 0 counts)
    (files : AreChecked l (length l.tables.rows))
    (live : (s : ℕ) → s < l.memory.segments → live_of l.tables s
    ≡ live_bytes (keys_of l).numbers BLOCK_CODES (keys_of l).at s)
    (room : live_of l.tables l.memory.active ≤ 512 * (next_address l.memory - SEGMENT_BLOCKS * l.memory.active)) where
  checked : (number : ℕ) → (row_of l.tables number).used ≡ true → IsChecked l number
  checked number used = (files.each number (used_low l number used) used).checked

  not_reserved : (number : ℕ) → number < FIRST_INODE → number ≢ ROOT_INODE → (row_of l.tables number).used ≡ false
  not_reserved number low other = elim (cases_Bool (row_of l.tables number).used) [
    | inl used ↦ absurd (other ((files.each number (used_low l number used) used).allowed low))
    | inr free ↦ free
  ]

  flushed_files : AreFiles (flushed l)
  flushed_files = record {
    parts = parts;
    cache = nothing_formed least_frames;
    reserved = not_reserved;
    recorded = λ number used. ap is_some (checked number used).is;
    files = λ number f is.
        let file = checked number (record_used (flushed l) number f is) in
        subst (IsFile (flushed l) number) (same_Some file.fields f (sym file.is ∙ is)) file.file;
    records = All-nil (λ (v : Inode). IsPresent (flushed l) v.number v.version);
    frames = λ key locked. absurd (false≢true locked);
    coded = λ key locked. absurd (false≢true locked);
    mirrors = mirrors_none (flushed l) refl;
  }

  flushed_log : IsLog (keys_of l) 0
  flushed_log = record {
    segments = AreSegments-kept l (keys_of l).at parts;
    keys = λ number code placed. (counted.earlier number code placed.number_below placed.code_below
        placed.somewhere).place;
    counted = live;
    spared = omega arith;
  }

  flushed_store : IsStore (flushed l)
  flushed_store = record {
    whole = flushed_files;
    log = flushed_log;
    ready = ready;
    parents = record {
      records = λ key locked. absurd (false≢true locked);
      holders = λ key locked i up way. absurd (false≢true locked);
    };
    once = none_once (flushed l).waiting refl;
    few = omega arith;
    within = λ number block f is can locked. absurd (false≢true locked);
  }

  pub is_stored : IsStored l
  is_stored frames = other_frames l least_frames frames flushed_store
