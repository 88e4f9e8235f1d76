-- The records that wait are written four to a block and land from the last: `recording_more` and `record_stands`, for
-- `land_records`. The invariant IsRecording says that those which wait still are the first of the old list and that 128
-- bytes are spare for each record in the block that hasn't landed, so each landing takes just its share. A record
-- stands in the slot by its place in the list (`record_stands`), and the log names it there; another number of records
-- in a block changes the spare bytes and the slots.
use Rattle.std.proofs.Common.{◌≡◌, ℕ, ◌+◌, ◌-◌, ◌*◌, ◌<◌, ◌≤◌, List, [], ◌∷◌, ◌++◌, length, take, drop, get_or, Some}
use Rattle.std.proofs.Common.{option_map, refl, sym, ap, ◌∙◌, subst, arith, length-append}
use Rattle.std.specs.List.{slice_get}
use Rattle.std.proofs.lemmas.Option.{slice_get_read}
use Rattle.std.proofs.Math.Seq.{take-length}
use Rattle.std.proofs.lemmas.List.{get_or-drop, get_or-take, length-drop, length-take, length-take-le, take-take}
use Rattle.lfs_log.specs.Parts.{IsParts}
use Rattle.lfs_inodes.specs.declared.inode.Inode.{Inode}
use Rattle.lfs_inodes.specs.Reading.{fields_in, fields_of}
use Rattle.lfs_inodes.specs.Slots.{slot_of}
use Rattle.lfs_segments.specs.Log.{entry_at, first_of}
use Rattle.lfs_segments.specs.Memory.{IsLaidOut, SegmentMemory, block_at, next_address}
use Rattle.lfs_log.specs.Names.{inode_key, named_at, record_in}
use Rattle.lfs_log.proofs.NameLemmas.{named_at-record}
use Rattle.lfs_parts.specs.declared.parts.Parts.{Parts}
use Rattle.lfs_segwrite.specs.Landing.{AppendsBlock}
use Rattle.lfs_parts.specs.Opening.{inodes_entry}
use Rattle.lfs_segwrite.specs.Recording.{Advances, StandsAt}
use Rattle.lfs_staging.specs.Staging.{IsStaged}
use Rattle.lfs_segwrite.proofs.AdvanceLemmas.{Advances-trans}
use Rattle.lfs_segwrite.proofs.AppendedLemmas.{appended_advances, appended_staged, fewer_spare}

-- the records from the first one on stand in the block, and those behind some wait no more
pub record IsRecording (old mid p : Parts) (first address : ℕ) : Type 0 where
  pub staged : IsStaged p (128 * (length p.waiting - first))
  pub least : first ≤ length p.waiting
  pub items : p.waiting ≡ take (length p.waiting) old.waiting
  pub memory : p.log.memory ≡ mid.log.memory
  pub cache : p.cache ≡ old.cache
  pub advances : (from : ℕ) → from ≤ address → Advances from old p

pub recording_begins : (old mid : Parts) (first address : ℕ) (block : List ℕ) → IsParts mid.log → IsStaged old 0
    → AppendsBlock old mid address block
    → first ≤ length old.waiting → length old.waiting ≤ first + 4 → IsRecording old mid mid first address
recording_begins old mid first address block parts staged put least most =
    let count : length mid.waiting ≡ length old.waiting = ap (λ (vs : List Inode). length vs) put.waiting in
    let end = put.end in
    record {
      staged = fewer_spare mid 512 (128 * (length mid.waiting - first)) (omega arith)
          (appended_staged old mid address block put parts staged);
      least = omega arith;
      items = put.waiting ∙ sym (ap (λ n. take n old.waiting) count ∙ take-length old.waiting);
      memory = refl;
      cache = put.cache;
      advances = λ from low. appended_advances old mid address block put from (omega arith);
    }

pub recording_more : (old mid p q : Parts) (first address : ℕ) → IsRecording old mid p first address
    → first < length p.waiting
    → ((spare : ℕ) → IsStaged p (spare + 128) → IsStaged q spare) → ((from : ℕ) → from ≤ address → Advances from p q)
    → q.waiting ≡ take (length p.waiting - 1) p.waiting → q.cache ≡ p.cache → q.log.memory ≡ p.log.memory
    → IsRecording old mid q first address
recording_more old mid p q first address h some staged advances items cache memory =
    let count : length q.waiting ≡ length p.waiting - 1
    = ap (λ (vs : List Inode). length vs) items ∙ length-take-le (length p.waiting - 1) p.waiting (omega arith) in
    let spare : 128 * (length p.waiting - first) ≡ 128 * (length q.waiting - first) + 128 = omega arith in
    record {
      staged = staged (128 * (length q.waiting - first)) (subst (IsStaged p) spare h.staged);
      least = omega arith;
      items = items ∙ ap (take (length p.waiting - 1)) h.items
          ∙ take-take (length p.waiting - 1) (length p.waiting) old.waiting (omega arith)
          ∙ ap (λ n. take n old.waiting) (sym count);
      memory = memory ∙ h.memory;
      cache = cache ∙ h.cache;
      advances = λ from low. Advances-trans from old p q (h.advances from low) (advances from low);
    }

-- the log goes on behind where it begins
first_before : (m : SegmentMemory) → IsLaidOut m → (address : ℕ) → address ≡ next_address m
    → first_of m.active ≤ address
first_before m laid address end = let begun = laid.begun in omega arith

-- the last record is the one in its slot
last_at : (front : List Inode) (v d : Inode) → get_or (front ++ v ∷ []) (length front) d ≡ v
last_at [] v d = refl
last_at (w ∷ front) v d = last_at front v d

pub record_stands : (old mid p : Parts) (first address slot : ℕ) (block : List ℕ) (inodes front : List Inode)
    (v : Inode) → IsLaidOut old.log.memory
    → AppendsBlock old mid address block → entry_at mid.log.memory address ≡ Some inodes_entry
    → inodes ≡ drop first old.waiting → length inodes ≤ 4
    → ((k : ℕ) → k < 4 → fields_in (slot_of block k) ≡ option_map fields_of (slice_get inodes k))
    → ((k : ℕ) → k < 4 → record_in block k ≡ option_map inode_key (slice_get inodes k))
    → IsRecording old mid p first address → first < length p.waiting → slot ≡ length p.waiting - 1 - first
    → p.waiting ≡ front ++ v ∷ [] → StandsAt p v address slot
record_stands old mid p first address slot block inodes front v laid put named from_first most reading records h some is
    items =
    let count : length p.waiting ≡ length front + 1 = ap (λ (vs : List Inode). length vs) items
    ∙ length-append front (v ∷ []) in
    let cut : length p.waiting ≤ length old.waiting
    = let whole = ap (λ (vs : List Inode). length vs) h.items in let taken =
    length-take (length p.waiting) old.waiting in omega arith in
    let long : length inodes ≡ length old.waiting - first = ap (λ (vs : List Inode). length vs) from_first
    ∙ length-drop first old.waiting in
    let in_block : slot < 4 = omega arith in
    let at : v ≡ get_or inodes slot v =
    sym (ap (λ vs. get_or vs slot v) from_first ∙ get_or-drop first old.waiting slot v
    ∙ ap (λ n. get_or old.waiting n v) (let e : first + slot ≡ length front = omega arith in e)
    ∙ sym (get_or-take (length p.waiting) old.waiting (length front) v (omega arith))
    ∙ ap (λ vs. get_or vs (length front) v) (sym h.items) ∙ ap (λ vs. get_or vs (length front) v) items
    ∙ last_at front v v) in
    let got : slice_get inodes slot ≡ Some v = slice_get_read inodes (length inodes) slot v refl (omega arith) at in
    let end = put.end in
    let begun = laid.begun in
    let active = put.step.active in
    let next = put.step.next in
    let same_active : p.log.memory.active ≡ old.log.memory.active = ap (λ (m : SegmentMemory). m.active) h.memory
    ∙ active in
    let same_next : next_address p.log.memory ≡ next_address old.log.memory
    + 1 = ap (λ (m : SegmentMemory). next_address m) h.memory ∙ next in
    record {
      from = subst (λ s. first_of s ≤ address) (sym same_active) (first_before old.log.memory laid address end);
      below = omega arith;
      in_block = in_block;
      named = ap (λ (m : SegmentMemory). named_at m (4 * address + slot)) h.memory
          ∙ named_at-record mid.log.memory address slot v.number v.version inodes_entry in_block named refl
          (ap (λ b. record_in b slot) put.written ∙ records slot in_block ∙ ap (option_map inode_key) got);
      reads = ap (λ (m : SegmentMemory). fields_in (slot_of (block_at m address) slot)) h.memory
          ∙ ap (λ b. fields_in (slot_of b slot)) put.written ∙ reading slot in_block ∙ ap (option_map fields_of) got;
    }
