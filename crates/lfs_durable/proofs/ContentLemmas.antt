-- The content is the same (`finds_content`): a number has a record in one store where it has one in the other, since names lead to
-- just those in use, and the same record (`same_record`). Each address of a block is named by the log, so it doesn't lie behind
-- the last partial segment, and the block there is kept (`kept_at`). So each file reads alike, block by block.
use Rattle.std.proofs.Common.{◌≡◌, ℕ, ◌<◌, inl, inr, List, length, get_or, Option, None}
use Rattle.std.proofs.Common.{Some, refl, sym, ap, ◌∙◌, arith}
use Rattle.std.proofs.lemmas.Bool.{cases_Bool}
use Rattle.std.proofs.lemmas.Option.{none-some}
use Rattle.lfs_types.specs.Tree.{World}
use Rattle.lfs_types.proofs.Somewhere.{there_of, present}
use Rattle.lfs_ifile.specs.declared.inode.InodePlace.{InodePlace}
use Rattle.lfs_ifile.specs.Tables.{place_of, row_of}
use Rattle.lfs_inodes.specs.declared.inode.Inode.{Inode}
use Rattle.lfs_inodes.specs.Reading.{fields_in}
use Rattle.lfs_inodes.specs.Slots.{slot_of}
use Rattle.lfs_segments.specs.Memory.{SegmentMemory, block_at}
use Rattle.lfs_cache.specs.declared.key.Key.{Key}
use Rattle.lfs_cache.specs.Contents.{block_in}
use Rattle.lfs_bmap.specs.Reading.{SameReadings, address}
use Rattle.lfs_bmap.specs.Ways.{code_at}
use Rattle.lfs_bmap.proofs.PlaceLemmas.{data_block-same}
use Rattle.lfs_bmap.proofs.ReadingLemmas.{kept_blocks}
use Rattle.lfs_parts.specs.declared.parts.Parts.{Parts}
use Rattle.lfs_parts.specs.Files.{content_of, file_at}
use Rattle.lfs_parts.specs.Store.{IsFlushed, IsStore}
use Rattle.lfs_parts.specs.View.{key_of, record_of, root_in, tree_of, version_of, waiting_in}
use Rattle.lfs_parts.proofs.FileLemmas.{free_place}
use Rattle.lfs_parts.proofs.SameContentLemmas.{content_of-same, file_at-kept}
use Rattle.lfs_parts.proofs.ViewLemmas.{record_of-logged, record_of-unused}
use Rattle.lfs_model.specs.World.{IsTree}
use Rattle.lfs_calls.specs.Content.{Shows}
use Rattle.lfs_durable.specs.Contents.{FindsContent, IsMadeOf}
use Rattle.lfs_durable.specs.Names.{IsDurable}
use Rattle.lfs_durable.specs.Spared.{FindsSpared, IsHeld, Spares}
use Rattle.lfs_durable.proofs.LabelLemmas.{numbers_one}
use Rattle.lfs_durable.proofs.NameLemmas.{IsUsed, finds_spared_names}
use Rattle.lfs_durable.proofs.OwnLemmas.{held_named, own_spared}
use Rattle.lfs_durable.proofs.SparedLemmas.{block_held, record_held}
use Rattle.lfs_durable.proofs.PlaceLemmas.{logged, newest_one, there}

-- no block waits
none_waits : (p : Parts) (number : ℕ) → IsFlushed p → (way : List ℕ) → (tree_of p number).waits way ≡ None
none_waits p number done way =
    ap (λ (es : List (Key × List ℕ)). block_in (key_of number (version_of p number) (code_at way)) es) done.no_frame

module _ (p q : Parts) (w : World) (d : IsDurable p) (shows : Shows (content_of p) w) (tree : IsTree w.rows)
    (n : SegmentMemory) (spares : Spares p n) (made : IsMadeOf n q.log) (numbers : length q.log.tables.rows ≡ length p.log.tables.rows)
    (done : IsFlushed q) where
  abbrev m : SegmentMemory
  m = p.log.memory

  -- a block that the store holds is kept
  kept_held : (address : ℕ) → IsHeld p address → block_at q.log.memory address ≡ block_at m address
  kept_held address held =
      let inside = (held_named p d address held).inside in
      let segments = spares.segments in
      made.kept address (omega arith) (spares.ends made.last made.logged made.latest address held)
      ∙ spares.held address held

  used_here : (number : ℕ) → number < length p.log.tables.rows → IsUsed p number → (at : InodePlace)
      → place_of q.log.tables number ≡ Some at → record_of q number ≡ record_of p number
  used_here number low used at is =
      let row = row_of p.log.tables number in
      let s = there p d number used in
      let most = d.store.whole.parts.formed.inodes_most in
      let same = newest_one m d.next number (get_or made.places number None) s.newest
      (d.recoverable.to d.next d.serial d.bound)
      (spares.newest number (get_or made.places number None) used (made.newest.each number (omega arith))) s.found in
      let at_newest = made.placed number at s.newest (omega arith) is same in
      let addr : at.addr ≡ row.address = at_newest.0 ∙ s.address in
      let slot : at.slot ≡ row.slot = at_newest.1 ∙ s.slot in
      let kept : block_at q.log.memory row.address ≡ block_at m row.address =
      kept_held row.address (record_held p d number used) in
      record_of-logged q number at is (ap (λ (vs : List Inode). waiting_in vs number) done.no_record)
      ∙ ap (λ (a : ℕ). fields_in (slot_of (block_at q.log.memory a) at.slot)) addr
      ∙ ap (λ (k : ℕ). fields_in (slot_of (block_at q.log.memory row.address) k)) slot
      ∙ ap (λ (b : List ℕ). fields_in (slot_of b row.slot)) kept
      ∙ sym (logged p d number used)

  -- the same numbers are in use, with the same records
  record_by : (number : ℕ) → number < length p.log.tables.rows → (o : Option InodePlace)
      → place_of q.log.tables number ≡ o → record_of q number ≡ record_of p number
  record_by number low None is = elim (cases_Bool (row_of p.log.tables number).used) [
    | inl used ↦
        let found = (finds_spared_names p n w made.places number d spares shows tree made.newest).1 used in
        let some = there_of (place_of q.log.tables number) ((made.named number (omega arith)).1 found) in
        absurd (none-some some.value (sym is ∙ some.is))
    | inr free ↦ record_of-unused q number is ∙ sym (record_of-unused p number (free_place p number free))
  ]
  record_by number low (Some at) is =
      used_here number low ((finds_spared_names p n w made.places number d spares shows tree made.newest).0
      ((made.named number (omega arith)).0 (present is))) at is

  same_record : (number : ℕ) → number < length p.log.tables.rows → record_of q number ≡ record_of p number
  same_record number low = record_by number low (place_of q.log.tables number) refl

  -- each block of a file is read alike
  same_readings : (number : ℕ) → number < length p.log.tables.rows → SameReadings (tree_of p number) (tree_of q number)
  same_readings number low =
      kept_blocks (tree_of p number) (tree_of q number) (ap root_in (same_record number low))
      (λ way known. none_waits q number done way ∙ sym (none_waits p number d.flushed way))
      (λ way known some. kept_held (address (tree_of p number) way) (block_held p number way low known some))

  same_file : (number : ℕ) → number < length p.log.tables.rows → file_at q number ≡ file_at p number
  same_file number low = file_at-kept p q number (same_record number low)
      (data_block-same (tree_of p number) (tree_of q number) (same_readings number low))

-- the label tells how many inode numbers there are
same_numbers : (p q : Parts) (n : SegmentMemory) → IsDurable p → Spares p n → IsMadeOf n q.log → IsStore q
    → length q.log.tables.rows ≡ length p.log.tables.rows
same_numbers p q n d spares made store =
    let least = d.store.whole.parts.laid_out.at_least in
    let most = d.store.whole.parts.formed.inodes_most in
    let most_too = store.whole.parts.formed.inodes_most in
    let segments = spares.segments in
    let first : block_at q.log.memory 0 ≡ block_at n 0 =
    made.kept 0 (omega arith) (λ past. let behind = past.1 in absurd (omega arith)) in
    numbers_one q.log.memory.segments (length q.log.tables.rows) p.log.memory.segments (length p.log.tables.rows)
    (omega arith) (omega arith) (sym made.labelled ∙ first ∙ spares.label ∙ d.labelled)

pub finds_spared : FindsSpared
finds_spared p q w n d shows tree spares made store done =
    let numbers = same_numbers p q n d spares made store in
    content_of-same p q numbers (same_file p q w d shows tree n spares made numbers done)

pub finds_content : FindsContent
finds_content p q w d shows tree made store done =
    finds_spared p q w p.log.memory d shows tree (own_spared p d) made store done
