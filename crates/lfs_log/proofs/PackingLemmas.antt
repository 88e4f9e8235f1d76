-- Up to four inodes packed one after another make an inode block: `IsPackedBelow-more` and `IsInodeBlock-packed`, for
-- `packed`; `decoded_slot` and `record_in-read` say what `inode_in` reads of a slot. The invariant is that the slots so
-- far have the records and the others are zeros; a record put into its slot leaves the others, as they are 128 bytes
-- each. A slot of zeros is read as none because no inode's number is 0; records of another size, or an unused slot with
-- other bytes, would break that.
use Rattle.std.proofs.Common.{◌≡◌, ◌≢◌, ℕ, ◌+◌, ◌<◌, ◌≤◌, List, [], Option, Some, None, option_map, length, get_or, set}
use Rattle.std.proofs.Common.{replicate, refl, sym, ap, subst, ◌∙◌, ⊎_elim, arith}
use Rattle.std.specs.List.{slice_get}
use Rattle.std.proofs.lemmas.Bool.{cases_lt}
use Rattle.std.proofs.lemmas.List.{get_or-set_other, get_or-set_same}
use Rattle.std.proofs.lemmas.Option.{slice_get_past}
use Rattle.lfs_types.specs.Blocks.{zero_block}
use Rattle.lfs_inodes.specs.declared.inode.Inode.{Inode}
use Rattle.lfs_inodes.specs.Record.{IsRecord}
use Rattle.lfs_inodes.specs.Slots.{slot_of, slots}
use Rattle.lfs_inodes.specs.Reading.{fields_in, fields_of}
use Rattle.lfs_inodes.proofs.FieldsRead.{fields_in-is, fields_in-zeros}
use Rattle.lfs_log.specs.Names.{inode_key, record_in, record_key}
use Rattle.lfs_log.specs.Packing.{IsInodeBlock, IsSlot}
use Rattle.lfs_inodes.proofs.FourSlots.{get_or-slots, slot_of-zeros}

-- the first k inodes are packed, and the other slots are zeros
pub record IsPackedBelow (k : ℕ) (inodes : List Inode) (block : List ℕ) : Type 0 where
  pub records : (j : ℕ) → j < k → IsSlot (slot_of block j) (slice_get inodes j)
  pub unused : (j : ℕ) → k ≤ j → j < 4 → slot_of block j ≡ replicate 128 0

pub IsPackedBelow-none : (inodes : List Inode) (block : List ℕ) → block ≡ zero_block → IsPackedBelow 0 inodes block
IsPackedBelow-none inodes block zeros = record {
  records = λ j below. absurd (omega arith);
  unused = λ j from below. slot_of-zeros block j below zeros;
}

pub IsPackedBelow-more : (k : ℕ) (inodes : List Inode) (old new bytes : List ℕ) (v : Inode) → IsPackedBelow k inodes old
    → k < 4 → slice_get inodes k ≡ Some v → IsRecord bytes v
    → slots new ≡ set (slots old) k bytes → IsPackedBelow (k + 1) inodes new
IsPackedBelow-more k inodes old new bytes v p room here spelled put = record {
  records = λ j below. ⊎_elim
      (λ (less : j < k). subst (λ (xs : List ℕ). IsSlot xs (slice_get inodes j))
      (sym (other j (omega arith) (omega arith))) (p.records j less))
      (λ (from : k ≤ j). let same : j ≡ k = omega arith in
      rw (same, here) (subst (λ (xs : List ℕ). IsRecord xs v) (sym written) spelled))
      (cases_lt j k);
  unused = λ j from below. other j below (omega arith) ∙ p.unused j (omega arith) below;
}
  where
    written : slot_of new k ≡ bytes
    written = sym (get_or-slots new k room) ∙ ap (λ (xs : List (List ℕ)). get_or xs k []) put
        ∙ get_or-set_same (slots old) k bytes [] room

    other : (j : ℕ) → j < 4 → j ≢ k → slot_of new j ≡ slot_of old j
    other j below apart =
        sym (get_or-slots new j below) ∙ ap (λ (xs : List (List ℕ)). get_or xs j []) put
        ∙ get_or-set_other (slots old) k j bytes [] apart ∙ get_or-slots old j below

pub IsInodeBlock-packed : (inodes : List Inode) (block : List ℕ) (k : ℕ) → length inodes ≤ 4 → length inodes ≤ k
    → IsPackedBelow k inodes block → IsInodeBlock block inodes
IsInodeBlock-packed inodes block k fits all p = record {
  at_most = fits;
  slots = λ j below. ⊎_elim
      (λ (less : j < k). p.records j less)
      (λ (past : k ≤ j). rw (slice_get_past inodes j (omega arith)) (p.unused j past below))
      (cases_lt j k);
}

-- what a slot is decoded to
pub decoded_slot : (bytes slot : List ℕ) (held answer : Option Inode) → bytes ≡ slot → IsSlot slot held
    → ((v : Inode) → IsRecord bytes v → answer ≡ Some v) → (bytes ≡ replicate 128 0 → answer ≡ None) → answer ≡ held
decoded_slot bytes slot None answer same p only unused = unused (same ∙ p)
decoded_slot bytes slot (Some v) answer same p only unused = only v (rw same p)

-- A slot is read as the fields of the inode that it has.
pub fields_in-slot : (bytes : List ℕ) (held : Option Inode) → IsSlot bytes held → fields_in bytes
    ≡ option_map fields_of held
fields_in-slot bytes None p = ap fields_in p ∙ fields_in-zeros
fields_in-slot bytes (Some v) p = fields_in-is bytes v p

-- and so are the number and the version of its record
pub record_in-read : (block : List ℕ) (k : ℕ) (held : Option Inode) → option_map fields_of held
    ≡ fields_in (slot_of block k)
    → option_map inode_key held ≡ record_in block k
unfolding record_in
record_in-read block k held reading = each held ∙ ap (option_map record_key) reading
  where
    each : (held : Option Inode) → option_map inode_key held ≡ option_map record_key (option_map fields_of held)
    each None = refl
    each (Some v) = refl
