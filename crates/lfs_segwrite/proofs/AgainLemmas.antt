-- A block that has a place may wait with what it has (`place_may`, `place_within`, `place_address`), and then no file
-- shows otherwise and only keys on its way wait more (`record_again`, `block_again`): for `marking::stage_info` and
-- `stage_again`. A number that isn't in use has no key with a place, so this one is in use (`place_used`); a block past
-- the size has no address, so it lies within. So the cleaner needs no right of its own: it stages what any change could
-- stage.
use Rattle.std.proofs.Common.{◌≡◌, ◌≢◌, ◌⊎◌, ℕ, zero, suc, ◌*◌, ◌/◌, ◌<◌, length, Some, IsSome, is_some, true, refl}
use Rattle.std.proofs.Common.{sym, ap, ◌∙◌, subst, inl, inr, arith}
use Rattle.std.proofs.lemmas.Bool.{cases_Bool, cases_eq, cases_lt}
use Rattle.lfs_ifile.specs.Tables.{row_of}
use Rattle.lfs_inodes.specs.declared.inode.Inode.{Inode}
use Rattle.lfs_inodes.specs.Facts.{block_count}
use Rattle.lfs_inodes.specs.Reading.{fields_of}
use Rattle.lfs_cache.specs.Contents.{IsLocked}
use Rattle.lfs_bmap.specs.declared.blocks.FileBlock.{FileBlock}
use Rattle.lfs_bmap.specs.declared.blocks.FileBlock.TheVariants.{Record}
use Rattle.lfs_bmap.specs.Blocks.{IsFileBlock, code_of, first_under, way_to}
use Rattle.lfs_bmap.specs.Log.{IsPlaced}
use Rattle.lfs_bmap.specs.Reading.{address}
use Rattle.lfs_bmap.specs.Ways.{way_of}
use Rattle.lfs_bmap.proofs.PlaceLemmas.{data_block-same}
use Rattle.lfs_bmap.proofs.WayLemmas.{way_of-code_of}
use Rattle.lfs_parts.specs.declared.parts.Parts.{Parts}
use Rattle.lfs_parts.specs.declared.records.TheConstants.{WAITING_LIMIT}
use Rattle.lfs_segwrite.specs.Flushing.{Waits}
use Rattle.lfs_parts.specs.Keys.{log_state}
use Rattle.lfs_segwrite.specs.Marking.{SameShown, StagesAgain}
use Rattle.lfs_staging.specs.Staging.{IsStaged, MayStage, SameFiles, StagesParents, StagesTable, TakesOnly}
use Rattle.lfs_parts.specs.Store.{IsFile, IsWithin}
use Rattle.lfs_parts.specs.View.{key_of, record_of, tree_of, version_of, waiting_in}
use Rattle.lfs_parts.specs.Waiting.{without}
use Rattle.lfs_parts.proofs.FileLemmas.{free_place}
use Rattle.lfs_parts.proofs.KeyLemmas.{lies_in, place-block, unused_nowhere}
use Rattle.lfs_segwrite.proofs.NamedLemmas.{codes-block}
use Rattle.lfs_parts.proofs.WaitingLemmas.{length-without, waiting-without}
use Rattle.lfs_bmap.proofs.HolderLemmas.{codes_on-record}
use Rattle.lfs_staging.proofs.StagedLemmas.{parents_staged}

-- a block that isn't a record waits under its key
pub waits_block : (p : Parts) (number code : ℕ) → code ≢ 0 → IsLocked (key_of number (version_of p number) code) p.cache
    → Waits p number code
waits_block p number zero some locked = absurd (some refl)
waits_block p number (suc code) some locked = locked

-- files that are the same show the same
pub shown_files : (old new : Parts) → SameFiles old new → SameShown old new
shown_files old new h = record {
  log = h.log;
  records = h.records;
  blocks = λ n m. data_block-same (tree_of old n) (tree_of new n) (h.readings n) m;
  addresses = λ n way known. (h.readings n).addresses way known;
}

pub SameShown-refl : (p : Parts) → SameShown p p
SameShown-refl p = record { log = refl; records = λ n. refl; blocks = λ n m. refl; addresses = λ n way known. refl }

pub SameShown-trans : (a b c : Parts) → SameShown a b → SameShown b c → SameShown a c
SameShown-trans a b c p q = record {
  log = q.log ∙ p.log;
  records = λ n. q.records n ∙ p.records n;
  blocks = λ n m. q.blocks n m ∙ p.blocks n m;
  addresses = λ n way known. q.addresses n way known ∙ p.addresses n way known;
}

-- ---- the records that wait
module _ (old new : Parts) (number : ℕ) (room : without number new.waiting ≡ without number old.waiting) where
  still_waits : IsSome (waiting_in new.waiting number) → (n : ℕ) → IsSome (waiting_in old.waiting n)
      → IsSome (waiting_in new.waiting n)
  still_waits here n was = elim (cases_eq n number) [
    | inl is ↦ subst (λ m. IsSome (waiting_in new.waiting m)) (sym is) here
    | inr other ↦
        ap is_some (sym (waiting-without new.waiting number n other) ∙ ap (λ vs. waiting_in vs n) room
        ∙ waiting-without old.waiting number n other) ∙ was
  ]

  waited_before : (n : ℕ) → IsSome (waiting_in new.waiting n) → (n ≡ number) ⊎ IsSome (waiting_in old.waiting n)
  waited_before n waits = elim (cases_eq n number) [
    | inl is ↦ inl is
    | inr other ↦ inr (
        ap is_some (sym (waiting-without old.waiting number n other) ∙ ap (λ vs. waiting_in vs n) (sym room)
        ∙ waiting-without new.waiting number n other) ∙ waits)
  ]

-- ---- the record
pub record_staged : (old new : Parts) (v : Inode) → MayStage old v → StagesParents v.number Record old new
    → IsStaged old 0 → IsStaged new 0
record_staged old new v may h staged = parents_staged old new v Record may h 0 staged
    (λ b is has. absurd (codes_on-record (code_of b) has))

pub record_again : (old new : Parts) (v : Inode) → StagesParents v.number Record old new
    → StagesAgain v.number 0 old new
record_again old new v h = record {
  same = shown_files old new h.same;
  waits = h.waits.record_waits;
  frames_still = h.stays;
  records_still = still_waits old new v.number h.room h.waits.record_waits;
  frames = subst (λ codes. TakesOnly v.number (version_of old v.number) codes old.cache new.cache)
      (sym (codes-block Record tt)) h.takes;
  records = waited_before old new v.number h.room;
}

-- ---- another block, staged with its parents
pub block_again : (old new : Parts) (v : Inode) (block : FileBlock) → IsFileBlock block → code_of block ≢ 0
    → StagesTable v.number block old new
    → StagesAgain v.number (code_of block) old new
block_again old new v block is other h = record {
  same = shown_files old new h.same;
  waits = waits_block new v.number (code_of block) other h.takes.block_waits;
  frames_still = h.takes.stays;
  records_still = still_waits old new v.number h.takes.records h.takes.waits.record_waits;
  frames = subst (λ codes. TakesOnly v.number (version_of old v.number) codes old.cache new.cache)
      (sym (codes-block block is)) h.takes.takes;
  records = waited_before old new v.number h.takes.records;
}

-- ---- a block that has a place
module _ (p : Parts) (number code : ℕ) (staged : IsStaged p 0) (there : IsPlaced (log_state p) number code) where
  -- its number is in use
  pub place_used : (row_of p.log.tables number).used ≡ true
  place_used = elim (cases_Bool (row_of p.log.tables number).used) [
    | inl used ↦ used
    | inr free ↦ absurd (there.somewhere (unused_nowhere p number code
        (free_place p number free) there.number_below staged.whole))
  ]

  module _ (v : Inode) (here : record_of p number ≡ Some (fields_of v)) where
    file : IsFile p number (fields_of v)
    file = staged.whole.files number (fields_of v) here

    pub place_may : length p.waiting < WAITING_LIMIT → MayStage p v
    place_may few =
        let own = file.own_number in
        record {
          files = staged.whole;
          parents = staged.parents;
          inside = lies_in p v.number 0 (subst (λ n. n < length p.log.tables.rows) (sym own) there.number_below)
              staged.whole.parts.laid_out staged.log;
          in_range = subst (λ n. n < length p.log.tables.rows) (sym own) there.number_below;
          in_use = ap (λ n. (row_of p.log.tables n).used) own ∙ place_used;
          here = ap (record_of p) own ∙ here;
          records = let fewer = length-without p.waiting v.number in omega arith;
        }

    address_some : (block : FileBlock) → IsFileBlock block → code_of block ≡ code → code ≢ 0
        → address (tree_of p number) (way_to block) ≢ 0
    address_some block can is some none =
        there.somewhere (place-block p number code some
        ∙ ap (λ w. 4 * address (tree_of p number) w) (ap way_of (sym is) ∙ way_of-code_of block can)
        ∙ ap (λ a. 4 * a) none)

    -- its address is that of its place
    pub place_address : (block : FileBlock) → IsFileBlock block → code_of block ≡ code → code ≢ 0 → (addr : ℕ)
        → (log_state p).at number code / 4 ≡ addr
        → address (tree_of p v.number) (way_to block) ≡ addr
    place_address block can is some addr at =
        let placed = place-block p number code some in
        let same : address (tree_of p number) (way_of code) ≡ addr = omega (arith, placed, at) in
        ap (λ n. address (tree_of p n) (way_to block)) file.own_number
        ∙ sym (ap (address (tree_of p number)) (ap way_of (sym is) ∙ way_of-code_of block can)) ∙ same

    -- it lies within the size
    pub place_within : (block : FileBlock) → IsFileBlock block → code_of block ≡ code → code_of block ≢ 0
        → IsWithin block v.size
    place_within block can is other = elim (cases_lt (first_under block) (block_count v.size)) [
      | inl more ↦ more
      | inr past ↦ absurd (address_some block can is (λ e. other (is ∙ e)) (file.none_past block can past))
    ]
