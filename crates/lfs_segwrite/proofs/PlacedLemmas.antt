-- Each record of a block that was written stands at its place: `records_noted` for `land_records`, `noted_more` for the
-- loop behind it. The number of a record that waited and waits no more has its place in that block (`moved`), where the
-- log names it, so a record of it stands there. No number waits twice (`once_at`), so that one is this one.
use Rattle.std.proofs.Common.{◌≡◌, ◌≢◌, ℕ, zero, suc, ◌+◌, ◌-◌, ◌*◌, ◌/◌, ◌%◌, ◌<◌, ◌≤◌, inl, inr, List, [], ◌∷◌}
use Rattle.std.proofs.Common.{drop, get_or, length, take, Some, None, is_some, option_map, refl, sym, ap, subst, ◌∙◌}
use Rattle.std.proofs.Common.{arith}
use Rattle.std.specs.List.{slice_get}
use Rattle.std.proofs.lemmas.Bool.{cases_eq, cases_lt, false≢true}
use Rattle.std.proofs.lemmas.List.{get_or-drop, get_or-take, get_or_default, length-drop, length-take-le}
use Rattle.std.proofs.lemmas.Option.{get_or_from_slice_get, none-some, slice_get_within}
use Rattle.lfs_inodes.specs.declared.inode.Inode.{Inode}
use Rattle.lfs_inodes.specs.Reading.{Fields, fields_in, fields_of}
use Rattle.lfs_inodes.specs.Slots.{slot_of}
use Rattle.lfs_segments.specs.Log.{entry_at}
use Rattle.lfs_segments.specs.Memory.{SegmentMemory, block_at, next_address}
use Rattle.lfs_recovery.proofs.LogLemmas.{map_some}
use Rattle.lfs_bmap.specs.Log.{Owner}
use Rattle.lfs_bmap.specs.Owners.{owner_in}
use Rattle.lfs_bmap.proofs.OwnerLemmas.{in_slot}
use Rattle.lfs_log.specs.Names.{inode_key, named_at, record_in}
use Rattle.lfs_log.proofs.NameLemmas.{named_at-entry}
use Rattle.lfs_parts.specs.declared.parts.Parts.{Parts}
use Rattle.lfs_parts.specs.Keys.{log_state}
use Rattle.lfs_parts.specs.Opening.{inodes_entry}
use Rattle.lfs_parts.specs.View.{version_of, waiting_in}
use Rattle.lfs_parts.specs.Waiting.{AreOnce}
use Rattle.lfs_parts.proofs.SameLogLemmas.{used_low}
use Rattle.lfs_parts.proofs.WaitingLemmas.{waiting-at, waiting-head, waiting-none, waiting-tail}
use Rattle.lfs_staging.specs.Staging.{IsStaged}
use Rattle.lfs_segwrite.specs.Flushing.{Waits}
use Rattle.lfs_segwrite.specs.Recording.{Advances, AreNoted, IsNoted}

-- ---- no number waits twice
none_number : (vs : List Inode) (n k : ℕ) (d : Inode) → waiting_in vs n ≡ None → k < length vs → (get_or vs k d).number ≢ n
none_number [] n k d none low = absurd (omega arith)
none_number (v ∷ vs) n zero d none low = λ is. none-some v (sym none ∙ waiting-head v vs n is)
none_number (v ∷ vs) n (suc k) d none low = elim (cases_eq v.number n) [
  | inl is ↦ absurd (none-some v (sym none ∙ waiting-head v vs n is))
  | inr other ↦ none_number vs n k d (sym (waiting-tail v vs n other) ∙ none) (omega arith)
]

once_at : (vs : List Inode) (i j : ℕ) (d : Inode) → AreOnce vs → i < length vs → j < length vs
    → (get_or vs i d).number ≡ (get_or vs j d).number → i ≡ j
unfolding AreOnce
once_at [] i j d once low high same = absurd (omega arith)
once_at (v ∷ vs) zero zero d once low high same = refl
once_at (v ∷ vs) zero (suc j) d once low high same =
    absurd (none_number vs v.number j d once.0 (omega arith) (sym same))
once_at (v ∷ vs) (suc i) zero d once low high same = absurd (none_number vs v.number i d once.0 (omega arith) same)
once_at (v ∷ vs) (suc i) (suc j) d once low high same = ap suc (once_at vs i j d once.1 (omega arith) (omega arith) same)

-- a record of the list waits
waits_at : (vs : List Inode) (i : ℕ) (d : Inode) → AreOnce vs → i < length vs
    → waiting_in vs (get_or vs i d).number ≡ Some (get_or vs i d)
waits_at vs i d once low =
    waiting-at vs i (get_or vs i d).number d low
    (λ k e before same.
    let at : get_or vs k e ≡ get_or vs k d = get_or_default vs k e d (omega arith) in
    let is : k ≡ i = once_at vs k i d once (omega arith) low (sym (ap (λ (v : Inode). v.number) at) ∙ same) in
    omega arith)
    refl

-- and none of its number among those before it
waits_none : (vs : List Inode) (first i : ℕ) (d : Inode) → AreOnce vs → first ≤ i → i < length vs
    → waiting_in (take first vs) (get_or vs i d).number ≡ None
waits_none vs first i d once from low =
    waiting-none (take first vs) (get_or vs i d).number
    (λ k e before same.
    let long : length (take first vs) ≡ first = length-take-le first vs (omega arith) in
    let at : get_or (take first vs) k e ≡ get_or vs k d =
    get_or-take first vs k e (omega arith) ∙ get_or_default vs k e d (omega arith) in
    let is : k ≡ i = once_at vs k i d once (omega arith) low (sym (ap (λ (v : Inode). v.number) at) ∙ same) in
    omega arith)

-- ---- the records of a block
-- what the log names in a slot of an inode block stands there
named_in : (m : SegmentMemory) (a slot : ℕ) (block : List ℕ) (o : Owner) → slot < 4 → entry_at m a ≡ Some inodes_entry
    → block_at m a ≡ block → named_at m (4 * a + slot) ≡ Some o → record_in block slot ≡ Some (o.number, o.version)
unfolding owner_in
named_in m a slot block o low named written is =
    (in_slot (record_in block slot) o (sym (named_at-entry m a slot inodes_entry block low named written) ∙ is)).0

-- a record of the list stands at its place there
listed_at : (vs inodes : List Inode) (first slot : ℕ) (v d : Inode) → inodes ≡ drop first vs
    → slice_get inodes slot ≡ Some v → get_or vs (first + slot) d ≡ v
listed_at vs inodes first slot v d from_first is =
    sym (get_or-drop first vs slot d) ∙ ap (λ (xs : List Inode). get_or xs slot d) (sym from_first)
    ∙ get_or_from_slice_get inodes slot v d is

listed_low : (vs inodes : List Inode) (first slot : ℕ) (v : Inode) → inodes ≡ drop first vs
    → slice_get inodes slot ≡ Some v → first + slot < length vs
listed_low vs inodes first slot v from_first is =
    let long : length inodes ≡ length vs - first = ap (λ (xs : List Inode). length xs) from_first ∙ length-drop first vs in
    let within = slice_get_within inodes slot v is in
    omega arith

same_slot : (vs inodes : List Inode) (first i j : ℕ) (v w : Inode) → AreOnce vs → inodes ≡ drop first vs
    → slice_get inodes i ≡ Some v → slice_get inodes j ≡ Some w → v.number ≡ w.number → i ≡ j
same_slot vs inodes first i j v w once from_first here there same =
    let at : get_or vs (first + i) v ≡ v = listed_at vs inodes first i v v from_first here in
    let at_too : get_or vs (first + j) v ≡ w = listed_at vs inodes first j w v from_first there in
    let numbers : (get_or vs (first + i) v).number ≡ (get_or vs (first + j) v).number =
    ap (λ (x : Inode). x.number) at ∙ same ∙ sym (ap (λ (x : Inode). x.number) at_too) in
    let is : first + i ≡ first + j = once_at vs (first + i) (first + j) v once
    (listed_low vs inodes first i v from_first here) (listed_low vs inodes first j w from_first there) numbers in
    omega arith

module _ (old q : Parts) (address first : ℕ) (block : List ℕ) (inodes : List Inode) (staged : IsStaged old 0)
    (after : IsStaged q 0) (moves : Advances address old q) (some : address ≢ 0)
    (next : next_address q.log.memory ≡ address + 1) (written : block_at q.log.memory address ≡ block)
    (named : entry_at q.log.memory address ≡ Some inodes_entry) (from_first : inodes ≡ drop first old.waiting)
    (left : q.waiting ≡ take first old.waiting)
    (records : (k : ℕ) → k < 4 → record_in block k ≡ option_map inode_key (slice_get inodes k)) where
  -- the record that the log names at a place of this block
  stands_there : (number version place : ℕ) → place / 4 ≡ address
      → named_at q.log.memory place ≡ Some (record { number = number; version = version; code = 0 })
      → (w : Inode) × ((slice_get inodes (place % 4) ≡ Some w) × (w.number ≡ number))
  stands_there number version place here is =
      let unit : ℕ = place % 4 in
      let split : 4 * address + unit ≡ place = omega arith in
      let found = map_some inode_key (slice_get inodes unit) (number, version)
      (sym (records unit (omega arith)) ∙ named_in q.log.memory address unit block
      (record { number = number; version = version; code = 0 }) (omega arith) named written
      (ap (named_at q.log.memory) split ∙ is)) in
      (found.0, (found.1.0, ap (λ (k : ℕ × ℕ). k.0) found.1.1))

  inode_noted : (slot : ℕ) (v : Inode) → slot < 4 → slice_get inodes slot ≡ Some v
      → IsNoted q v.number (4 * address + slot)
  inode_noted slot v in_block is =
      let at : get_or old.waiting (first + slot) v ≡ v = listed_at old.waiting inodes first slot v v from_first is in
      let low : first + slot < length old.waiting = listed_low old.waiting inodes first slot v from_first is in
      let number : (get_or old.waiting (first + slot) v).number ≡ v.number = ap (λ (w : Inode). w.number) at in
      let waits : Waits old v.number 0 = ap is_some (ap (waiting_in old.waiting) (sym number)
      ∙ waits_at old.waiting (first + slot) v staged.once low) in
      let gone : waiting_in q.waiting v.number ≡ None = ap (λ (vs : List Inode). waiting_in vs v.number) left
      ∙ ap (waiting_in (take first old.waiting)) (sym number)
      ∙ waits_none old.waiting first (first + slot) v staged.once (omega arith) low in
      let none : Waits q v.number 0 → ⊥ = λ (w : Waits q v.number 0). false≢true (sym (ap is_some gone) ∙ w) in
      let present = staged.whole.records (first + slot) v low in
      let below : v.number < length old.log.tables.rows =
      subst (λ (m : ℕ). m < length old.log.tables.rows) number (used_low old _ present.in_use) in
      let moved = moves.moved v.number 0 below (omega arith) waits none in
      let numbers = moves.numbers in
      let place : ℕ = (log_state q).at v.number 0 in
      let block_is : place / 4 ≡ address = let from = moved.0 in let to = moved.1 in omega arith in
      let held = after.log.keys v.number 0 (record {
        number_below = omega arith;
        code_below = omega arith;
        somewhere = λ none_there. some (omega arith);
      }) in
      let w = stands_there v.number (version_of q v.number) place block_is held.owned in
      let unit : place % 4 ≡ slot = same_slot old.waiting inodes first (place % 4) slot w.0 v staged.once from_first w.1.0 is
      w.1.1 in
      record { low = omega arith; waits = none; here = omega arith }

  pub records_noted : ((k : ℕ) → k < 4 → fields_in (slot_of block k) ≡ option_map fields_of (slice_get inodes k))
      → AreNoted q address
  records_noted reading = record {
    each = λ a slot f low high in_block is.
        let at : a ≡ address = omega arith in
        let read = map_some fields_of (slice_get inodes slot) f
        (sym (reading slot in_block) ∙ ap (λ (b : List ℕ). fields_in (slot_of b slot)) (sym written)
        ∙ ap (λ (n : ℕ). fields_in (slot_of (block_at q.log.memory n) slot)) (sym at) ∙ is) in
        let note = inode_noted slot read.0 in_block read.1.0 in
        let number : read.0.number ≡ f.attributes.number = ap (λ (g : Fields). g.attributes.number) read.1.1 in
        let place : 4 * address + slot ≡ 4 * a + slot = omega arith in
        subst (λ (n : ℕ). IsNoted q n (4 * a + slot)) number
        (subst (IsNoted q read.0.number) place note);
  }

-- ---- more blocks
pub noted_more : (p q : Parts) (from : ℕ) → AreNoted p from → Advances (next_address p.log.memory) p q
    → AreNoted q (next_address p.log.memory) → AreNoted q from
noted_more p q from h moves more = record {
  each = λ a slot f low high in_block is. elim (cases_lt a (next_address p.log.memory)) [
    | inl before ↦
        let note = h.each a slot f low before in_block
        (ap (λ (b : List ℕ). fields_in (slot_of b slot)) (sym (moves.blocks a (inl before))) ∙ is) in
        let inside = note.low in
        let numbers = moves.numbers in
        record {
          low = omega arith;
          waits = λ waits. note.waits (moves.only f.attributes.number 0 inside (omega arith) waits);
          here = moves.still f.attributes.number 0 inside (omega arith) note.waits ∙ note.here;
        }
    | inr from_end ↦ more.each a slot f from_end high in_block is
  ];
}
