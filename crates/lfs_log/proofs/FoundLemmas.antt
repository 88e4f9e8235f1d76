-- The infos of a segment are those of the owners whom its log names, all of them (`infos_of-named`) and no others
-- (`infos_of-only`): `Log::infos`, from which cleaning starts, and the account of `lfs_logstore` stand on these two. An
-- info of the list comes from one name, that from one address of the log, and there `owner_in` is taken by the kind of
-- block; an inode block has one info for each slot that is a record. A kind of block added to `LogicalBlock` needs its
-- case in `block_infos` and in `owner_in` alike.
use Rattle.std.proofs.Common.{◌≡◌, ℕ, zero, suc, ◌-◌, ◌/◌, ◌%◌, ◌<◌, ◌≤◌, inl, inr, ⊎_elim, List, [], ◌∷◌, Option, Some}
use Rattle.std.proofs.Common.{None, option_map, length, get_or, refl, sym, ap, subst, ◌∙◌, arith, ◌+◌, ◌*◌}
use Rattle.std.specs.Prelude.{if◌then◌else◌, ◌==◌}
use Rattle.std.specs.List.{Contains, cons_option, filter_map, flat_map}
use Rattle.std.proofs.lemmas.Bool.{cases_eq, cases_lt, cond-false, cond-true, eq-eqb, ne_eqb}
use Rattle.std.proofs.lemmas.List.Elements.{Contains-append_cases, Contains-append_left, Contains-append_right}
use Rattle.std.proofs.lemmas.Option.{none-some, same_Some}
use Rattle.lfs_inodes.specs.Reading.{Fields, fields_in}
use Rattle.lfs_inodes.specs.Slots.{slot_of, slots}
use Rattle.lfs_segments.specs.declared.entry.LogicalBlock.{LogicalBlock}
use Rattle.lfs_segments.specs.declared.entry.LogicalBlock.TheVariants as logical
use Rattle.lfs_segments.specs.declared.entry.SummaryEntry.{SummaryEntry}
use Rattle.lfs_segments.specs.Log.{entry_at, expected, first_of, log_block, names_from}
use Rattle.lfs_segments.specs.Memory.{SegmentMemory, block_at, has_serials, log_start}
use Rattle.lfs_segments.proofs.LogLemmas.{entry_at-in, next_entry}
use Rattle.lfs_segments.proofs.MemoryLemmas.{log_start-le}
use Rattle.lfs_segments.proofs.NamesLemmas.{names_from-contains, names_from-named}
use Rattle.lfs_types.specs.declared.cleaner.BlockInfo.{BlockInfo}
use Rattle.lfs_bmap.specs.Blocks.{code_of, logical_of}
use Rattle.lfs_bmap.specs.declared.blocks.FileBlock.{FileBlock}
use Rattle.lfs_bmap.specs.declared.blocks.FileBlock.TheVariants.{Record, Single, Double, Child, Data}
use Rattle.lfs_bmap.specs.Counting.{seg_of}
use Rattle.lfs_bmap.specs.Log.{Owner}
use Rattle.lfs_bmap.specs.Owners.{owner_at, owner_in}
use Rattle.lfs_log.specs.Infos.{HasInfo, IsInfoOf, block_infos, entry_infos, info_of, infos_of, slot_info}
use Rattle.lfs_log.specs.Names.{named_at, record_in, record_key}
use Rattle.lfs_log.proofs.NameLemmas.{named_at-entry}
use Rattle.lfs_inodes.proofs.FourSlots.{get_or-slots}
use Rattle.lfs_bmap.proofs.OwnerLemmas.{and_then_some, in_slot}

-- items of lists
contains_there : {X : Type 0} (xs : List X) (y x : X) → Contains xs x → Contains (y ∷ xs) x
contains_there xs y x h = let below = h.1 in (suc h.0, omega arith, h.2)

contains_mapped : {X Y : Type 0} (f : X → List Y) (xs : List X) (x : X) (y : Y) (k : ℕ) → k < length xs → get_or xs k x
    ≡ x → Contains (f x) y → Contains (flat_map f xs) y
contains_mapped f [] x y k below at h = absurd (omega arith)
contains_mapped f (z ∷ xs) x y zero below at h =
    Contains-append_left (f z) (flat_map f xs) y (subst (λ w. Contains (f w) y) (sym at) h)
contains_mapped f (z ∷ xs) x y (suc k) below at h =
    Contains-append_right (f z) (flat_map f xs) y (contains_mapped f xs x y k (omega arith) at h)

contains_more : {Y : Type 0} (o : Option Y) (ys : List Y) (y : Y) → Contains ys y → Contains (cons_option o ys) y
contains_more None ys y h = h
contains_more (Some z) ys y h = contains_there ys z y h

contains_kept : {X Y : Type 0} (h : X → Option Y) (xs : List X) (d : X) (y : Y) (k : ℕ) → k < length xs
    → h (get_or xs k d) ≡ Some y → Contains (filter_map h xs) y
contains_kept h [] d y k below at = absurd (omega arith)
contains_kept h (z ∷ xs) d y zero below at = rw at (0, omega arith, refl)
contains_kept h (z ∷ xs) d y (suc k) below at =
    contains_more (h z) (filter_map h xs) y (contains_kept h xs d y k (omega arith) at)

-- the owner of the first unit of a block
first_unit : (slot : ℕ) (o p : Owner) → (if slot == 0 then Some p else None) ≡ Some o → p ≡ o
first_unit slot o p h =
    elim (cases_eq slot 0) [
      | inl e ↦ same_Some p o (sym (cond-true _ _ _ (eq-eqb slot 0 e)) ∙ h)
      | inr ne ↦ absurd (none-some o (sym (cond-false _ _ _ (ne_eqb slot 0 ne)) ∙ h))
    ]

-- a record in a slot has its info
slot_info-named : (address number version slot : ℕ) (bytes : List ℕ) → record_in bytes slot ≡ Some (number, version)
    → slot_info address (slot_of bytes slot) ≡ Some (info_of address number version logical.Inodes)
unfolding record_in slot_info
slot_info-named address number version slot bytes h = each (fields_in (slot_of bytes slot)) h
  where
    each : (o : Option Fields) → option_map record_key o ≡ Some (number, version)
        → option_map (λ (f : Fields). info_of address f.attributes.number f.attributes.version logical.Inodes) o
        ≡ Some (info_of address number version logical.Inodes)
    each None h = absurd (none-some (number, version) h)
    each (Some f) h =
        let same : record_key f ≡ (number, version) = same_Some _ _ h in
        ap (λ (k : ℕ × ℕ). Some (info_of address k.0 k.1 logical.Inodes)) same

-- the owner of a unit of a block has its info among the block's
block_infos-owner : (address number version : ℕ) (block : LogicalBlock) (bytes : List ℕ) (slot : ℕ) (o : Owner)
    → slot < 4 → owner_in block number version slot (record_in bytes slot) ≡ Some o
    → HasInfo (block_infos address number version block bytes) address o
unfolding block_infos owner_in
block_infos-owner address number version logical.Inodes bytes slot o low h =
    let s = in_slot (record_in bytes slot) o h in
    record {
      block = Record;
      code = sym s.1;
      there = contains_kept (slot_info address) (slots bytes) []
          (info_of address o.number o.version logical.Inodes) slot low
          (ap (slot_info address) (get_or-slots bytes slot low)
          ∙ slot_info-named address o.number o.version slot bytes s.0);
    }
block_infos-owner address number version logical.Single bytes slot o low h =
    let same = first_unit slot o _ h in
    record {
      block = Single;
      code = ap (λ (x : Owner). x.code) same;
      there = subst (λ (x : Owner). Contains (info_of address number version logical.Single ∷ [])
          (info_of address x.number x.version logical.Single)) same (0, omega arith, refl);
    }
block_infos-owner address number version logical.Double bytes slot o low h =
    let same = first_unit slot o _ h in
    record {
      block = Double;
      code = ap (λ (x : Owner). x.code) same;
      there = subst (λ (x : Owner). Contains (info_of address number version logical.Double ∷ [])
          (info_of address x.number x.version logical.Double)) same (0, omega arith, refl);
    }
block_infos-owner address number version (logical.Child index) bytes slot o low h =
    let same = first_unit slot o _ h in
    record {
      block = Child index;
      code = ap (λ (x : Owner). x.code) same;
      there = subst (λ (x : Owner). Contains (info_of address number version (logical.Child index) ∷ [])
          (info_of address x.number x.version (logical.Child index))) same (0, omega arith, refl);
    }
block_infos-owner address number version (logical.Data index) bytes slot o low h =
    let same = first_unit slot o _ h in
    record {
      block = Data index;
      code = ap (λ (x : Owner). x.code) same;
      there = subst (λ (x : Owner). Contains (info_of address number version (logical.Data index) ∷ [])
          (info_of address x.number x.version (logical.Data index))) same (0, omega arith, refl);
    }

-- only addresses of a segment's log have an entry
entry_at-from : (m : SegmentMemory) (address : ℕ) (e : SummaryEntry) → entry_at m address ≡ Some e
    → first_of (address / 64) ≤ address
unfolding expected
entry_at-from m address e named = ⊎_elim
    (λ (before : address < first_of (address / 64)).
    let none : address - first_of (address / 64) ≡ 0 = omega arith in
    absurd (none-some e (sym (entry_at-in m (address / 64) address refl
    ∙ ap (λ (n : ℕ). next_entry (expected (has_serials m) (log_block m (address / 64)) n)) none) ∙ named)))
    (λ (from : first_of (address / 64) ≤ address). from)
    (cases_lt address (first_of (address / 64)))

-- What the log names at a place of a segment has its info there.
pub infos_of-named : (m : SegmentMemory) (segment place : ℕ) (o : Owner) → seg_of place ≡ segment → named_at m place
    ≡ Some o → HasInfo (infos_of m segment) (place / 4) o
unfolding named_at owner_at infos_of entry_infos
infos_of-named m segment place o here named =
    let found = and_then_some (entry_at m (place / 4)) _ o named in
    let e = found.0 in
    let from = entry_at-from m (place / 4) e found.1 in
    let in_segment : place / 4 / 64 ≡ segment = omega arith in
    let has = block_infos-owner (place / 4) e.number e.version e.block (block_at m (place / 4)) (place % 4) o
    (omega arith) found.2 in
    let low = log_start-le segment in
    let after : first_of segment ≤ place / 4 = subst (λ (s : ℕ). first_of s ≤ place / 4) in_segment from in
    let stands = names_from-contains m (first_of segment) (64 - log_start segment) (place / 4) e after
    (omega arith) found.1 in
    record {
      block = has.block;
      code = has.code;
      there = contains_mapped (entry_infos m) (names_from m (first_of segment) (64 - log_start segment)) (
        place / 4,
        e,
      ) _ stands.0 stands.1 stands.2 has.there;
    }

-- Where an item of a joined list comes from, and one of a list with items left out.
contains_from : {X Y : Type 0} (f : X → List Y) (xs : List X) (y : Y) → Contains (flat_map f xs) y → (x : X)
    × (Contains xs x) × (Contains (f x) y)
contains_from f [] y h = let below = h.1 in absurd (omega arith)
contains_from f (z ∷ xs) y h = ⊎_elim
    (λ (first : Contains (f z) y). (z, (0, omega arith, refl), first))
    (λ (later : Contains (flat_map f xs) y). let found = contains_from f xs y later in
    (found.0, contains_there xs z found.0 found.1, found.2))
    (Contains-append_cases (f z) (flat_map f xs) y h)

kept_step : {X Y : Type 0} (h : X → Option Y) (z : X) (xs : List X) (d : X) (y : Y) (rest : List Y)
    → (Contains rest y → (k : ℕ) × (k < length xs) × (h (get_or xs k d) ≡ Some y))
    → (o : Option Y) → h z ≡ o → (k : ℕ) → k < length (cons_option o rest) → get_or (cons_option o rest) k y ≡ y
    → (k : ℕ) × (k < suc (length xs)) × (h (get_or (z ∷ xs) k d) ≡ Some y)
kept_step h z xs d y rest before None e k below at = let found = before (k, below, at) in let low = found.1 in
    (suc found.0, omega arith, found.2)
kept_step h z xs d y rest before (Some w) e zero below at = (0, omega arith, e ∙ ap Some at)
kept_step h z xs d y rest before (Some w) e (suc k) below at = let found = before (k, omega arith, at) in let low =
    found.1 in (suc found.0, omega arith, found.2)

kept_from : {X Y : Type 0} (h : X → Option Y) (xs : List X) (d : X) (y : Y) → Contains (filter_map h xs) y → (k : ℕ)
    × (k < length xs) × (h (get_or xs k d) ≡ Some y)
kept_from h [] d y c = let below = c.1 in absurd (omega arith)
kept_from h (z ∷ xs) d y c = kept_step h z xs d y (filter_map h xs) (kept_from h xs d y) (h z) refl c.0 c.1 c.2

one_item : (x i : BlockInfo) (k : ℕ) → k < 1 → get_or (x ∷ []) k i ≡ i → x ≡ i
one_item x i zero below at = at
one_item x i (suc k) below at = absurd (omega arith)

-- an info of a slot is that of the record there
slot_info-only : (address slot : ℕ) (bytes : List ℕ) (i : BlockInfo) → slot_info address (slot_of bytes slot) ≡ Some i
    → (key : ℕ × ℕ) × (record_in bytes slot ≡ Some key) × (info_of address key.0 key.1 logical.Inodes ≡ i)
unfolding record_in slot_info
slot_info-only address slot bytes i h = each (fields_in (slot_of bytes slot)) h
  where
    each : (o : Option Fields) → option_map (λ
        (f : Fields). info_of address f.attributes.number f.attributes.version logical.Inodes) o ≡ Some i
        → (key : ℕ × ℕ) × (option_map record_key o ≡ Some key) × (info_of address key.0 key.1 logical.Inodes ≡ i)
    each None h = absurd (none-some i h)
    each (Some f) h = (record_key f, refl, same_Some _ _ h)

-- An info of a block is that of the owner of one of its units.
record IsOwned (address number version : ℕ) (block : LogicalBlock) (bytes : List ℕ) (i : BlockInfo) : Type 0 where
  slot : ℕ
  low : slot < 4
  owner : Owner
  file : FileBlock
  owned : owner_in block number version slot (record_in bytes slot) ≡ Some owner
  code : code_of file ≡ owner.code
  same : info_of address owner.number owner.version (logical_of file) ≡ i

block_infos-only : (address number version : ℕ) (block : LogicalBlock) (bytes : List ℕ) (i : BlockInfo)
    → Contains (block_infos address number version block bytes) i → IsOwned address number version block bytes i
unfolding block_infos owner_in
block_infos-only address number version logical.Inodes bytes i h =
    let kept = kept_from (slot_info address) (slots bytes) [] i h in
    let found = slot_info-only address kept.0 bytes i (ap (slot_info address) (sym (get_or-slots bytes kept.0 kept.1))
    ∙ kept.2) in
    record {
      slot = kept.0;
      low = kept.1;
      owner = record { number = found.0.0; version = found.0.1; code = 0 };
      file = Record;
      owned = ap (option_map (λ (r : ℕ × ℕ). let o : Owner = record { number = r.0; version = r.1; code = 0 } in o))
          found.1;
      code = refl;
      same = found.2;
    }
block_infos-only address number version logical.Single bytes i h = record {
  slot = 0;
  low = omega arith;
  owner = record { number = number; version = version; code = 1 };
  file = Single;
  owned = refl;
  code = refl;
  same = one_item _ i h.0 h.1 h.2;
}
block_infos-only address number version logical.Double bytes i h = record {
  slot = 0;
  low = omega arith;
  owner = record { number = number; version = version; code = 2 };
  file = Double;
  owned = refl;
  code = refl;
  same = one_item _ i h.0 h.1 h.2;
}
block_infos-only address number version (logical.Child index) bytes i h = record {
  slot = 0;
  low = omega arith;
  owner = record { number = number; version = version; code = 3 + index };
  file = Child index;
  owned = refl;
  code = refl;
  same = one_item _ i h.0 h.1 h.2;
}
block_infos-only address number version (logical.Data index) bytes i h = record {
  slot = 0;
  low = omega arith;
  owner = record { number = number; version = version; code = 131 + index };
  file = Data index;
  owned = refl;
  code = refl;
  same = one_item _ i h.0 h.1 h.2;
}

-- And no others stand there.
pub infos_of-only : (m : SegmentMemory) (segment : ℕ) (i : BlockInfo) → Contains (infos_of m segment) i
    → IsInfoOf m segment i
unfolding infos_of entry_infos
infos_of-only m segment i h =
    let found = contains_from (entry_infos m) (names_from m (first_of segment) (64 - log_start segment)) i h in
    let a = found.0.0 in
    let e = found.0.1 in
    let stands = names_from-named m (first_of segment) (64 - log_start segment) a e found.1 in
    let from = stands.0 in
    let below = stands.1 in
    let low = log_start-le segment in
    let owned = block_infos-only a e.number e.version e.block (block_at m a) i found.2 in
    let slot_low = owned.low in
    let address : (4 * a + owned.slot) / 4 ≡ a = omega arith in
    record {
      place = 4 * a + owned.slot;
      owner = owned.owner;
      block = owned.file;
      here = omega arith;
      named = named_at-entry m a owned.slot e (block_at m a) owned.low stands.2 refl ∙ owned.owned;
      code = owned.code;
      same = ap (λ (n : ℕ). info_of n owned.owner.number owned.owner.version (logical_of owned.file)) address
          ∙ owned.same;
    }
