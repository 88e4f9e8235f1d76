-- `fields_in` reads of bytes the fields of the inode whose record they are, and None where they are none
-- (`fields_in-is`, `fields_in-answer`, for `Inode::encode` and `decode`). `Holds` has the tests as facts: a record
-- passes them, and of bytes that pass `made` is the inode, so that bytes of no inode fail a test. A field more in
-- `IsRecord` needs its test in `is_record` and its line in `read`, else `made-record` can't be shown.
use Rattle.std.proofs.Common.{◌≡◌, ℕ, ◌<◌, false, List, length, get_or, eqb, refl, sym, ap, ◌∙◌, arith, inl, inr}
use Rattle.std.specs.Prelude.{Option, Some, None, IfSome, IfNone, replicate}
use Rattle.std.specs.Option.{option_map}
use Rattle.std.proofs.lemmas.Bool.{cases_lt, cases_eq, eq-eqb, ne_eqb, false_from_ne_true}
use Rattle.std.proofs.lemmas.List.{ext_get_or}
use Rattle.lfs_types.specs.declared.attrs.Kind.{Kind}
use Rattle.lfs_types.specs.declared.attrs.Kind.TheVariants.{File, Directory}
use Rattle.lfs_types.specs.Blocks.{zero_block}
use Rattle.lfs_inodes.specs.declared.inode.Inode.{Inode}
use Rattle.lfs_inodes.specs.Bytes.{number_at}
use Rattle.lfs_inodes.specs.Addresses.{addresses, numbers}
use Rattle.lfs_inodes.specs.Record.{IsKindCode, IsRecord, HasAddresses}
use Rattle.lfs_inodes.specs.Reading.{fields_of, fields_as, fields_in, is_record, read}
use Rattle.lfs_inodes.proofs.Cells.{length-numbers, slice_index-numbers}
use Rattle.lfs_inodes.specs.Slots.{slot_of}
use Rattle.lfs_inodes.proofs.FourSlots.{slot_of-zeros}
use Rattle.lfs_inodes.proofs.Grammar.{zeros_no_record}
use Rattle.lfs_inodes.proofs.AddressLemmas.{length-addresses, slice_index-direct, slice_index-double}
use Rattle.lfs_inodes.proofs.AddressLemmas.{slice_index-single}
use Rattle.lfs_inodes.proofs.FieldTests.{Holds, record_decides}

-- the tests pass on a record
Holds-from_record : (bytes : List ℕ) (v : Inode) → IsRecord bytes v → Holds v.kind bytes
Holds-from_record bytes v h = record {
  whole = h.whole;
  record_version = rw h.addresses.double h.record_version;
  number = rw h.identity.number v.numbered;
  version = rw h.identity.version v.versioned;
  mode = rw h.attributes.mode v.permitted;
  after_mode = h.attributes.unnamed;
  flags = rw h.attributes.flags v.flagged;
  size = rw h.attributes.size v.sized;
  direct = λ n lt. rw (h.attributes.size, h.addresses.direct n lt) (v.addressed n lt);
  single = rw (h.attributes.size, h.addresses.single) v.indirect;
  double = rw (h.attributes.size, h.addresses.double) v.doubled;
  after_double = h.addresses.unnamed;
}

-- the addresses stand side by side
addresses-read : (bytes : List ℕ) (v : Inode) → HasAddresses bytes v → numbers bytes 36 14 ≡ addresses v
addresses-read bytes v h = ext_get_or 0 (numbers bytes 36 14) (addresses v) (length-numbers bytes 36 14
    ∙ sym (length-addresses v)) each
  where
    each : (k : ℕ) → k < length (numbers bytes 36 14) → get_or (numbers bytes 36 14) k 0 ≡ get_or (addresses v) k 0
    each k lt = elim (cases_lt k 12) [
      | inl direct ↦ slice_index-numbers bytes 36 14 k (omega arith) ∙ h.direct k direct
          ∙ sym (slice_index-direct v k direct)
      | inr past ↦ elim (cases_eq k 12) [
        | inl same ↦ rw same (slice_index-numbers bytes 36 14 12 (omega arith) ∙ h.single ∙ sym (slice_index-single v))
        | inr ne ↦
            let last : k ≡ 13 = omega (arith, length-numbers bytes 36 14) in
            rw last (slice_index-numbers bytes 36 14 13 (omega arith) ∙ h.double ∙ sym (slice_index-double v))
      ]
    ]

-- what is read of a record
read-is : (bytes : List ℕ) (v : Inode) → IsRecord bytes v → read v.kind bytes ≡ fields_of v
unfolding read
read-is bytes v h = λ i. record {
  attributes = record {
    kind = v.kind;
    number = h.identity.number i;
    version = h.identity.version i;
    owner = h.attributes.owner i;
    group = h.attributes.group i;
    mode = h.attributes.mode i;
    flags = h.attributes.flags i;
    size = h.attributes.size i;
  };
  addresses = addresses-read bytes v h.addresses i;
}

fields_as-is : (bytes : List ℕ) (v : Inode) → IsRecord bytes v → fields_as v.kind bytes ≡ Some (fields_of v)
fields_as-is bytes v h = rw ((record_decides v.kind bytes).1 (Holds-from_record bytes v h))
    (ap Some (read-is bytes v h))

pub fields_in-by_kind : (kind : Kind) (bytes : List ℕ) → IsKindCode (number_at bytes 2 2) kind → fields_in bytes
    ≡ fields_as kind bytes
unfolding fields_in
fields_in-by_kind File bytes e = rw (eq-eqb (number_at bytes 2 2) 1 e) refl
fields_in-by_kind Directory bytes e =
    let other : eqb (number_at bytes 2 2) 1 ≡ false = ne_eqb (number_at bytes 2 2) 1 (λ same. omega arith) in
    rw (other, eq-eqb (number_at bytes 2 2) 2 e) refl

pub fields_in-is : (bytes : List ℕ) (v : Inode) → IsRecord bytes v → fields_in bytes ≡ Some (fields_of v)
fields_in-is bytes v h = fields_in-by_kind v.kind bytes h.identity.kind ∙ fields_as-is bytes v h

-- the inode of bytes that pass the tests
pub made : (kind : Kind) (bytes : List ℕ) → Holds kind bytes → Inode
made kind bytes h = record {
  kind = kind;
  number = number_at bytes 4 4;
  version = number_at bytes 8 4;
  owner = number_at bytes 12 4;
  group = number_at bytes 16 4;
  mode = number_at bytes 20 2;
  flags = number_at bytes 24 4;
  size = number_at bytes 28 8;
  direct = numbers bytes 36 12;
  single = number_at bytes 84 4;
  double = number_at bytes 88 4;
  numbered = h.number;
  versioned = h.version;
  permitted = h.mode;
  flagged = h.flags;
  sized = h.size;
  whole = length-numbers bytes 36 12;
  addressed = λ n lt. rw (slice_index-numbers bytes 36 12 n lt) (h.direct n lt);
  indirect = h.single;
  doubled = h.double;
}

pub made-record : (kind : Kind) (bytes : List ℕ) → IsKindCode (number_at bytes 2 2) kind → (h : Holds kind bytes)
    → IsRecord bytes (made kind bytes h)
unfolding made
made-record kind bytes e h = record {
  whole = h.whole;
  record_version = h.record_version;
  identity = record { kind = e; number = refl; version = refl };
  attributes = record { owner = refl; group = refl; mode = refl; unnamed = h.after_mode; flags = refl; size = refl };
  addresses = record {
    direct = λ n lt. sym (slice_index-numbers bytes 36 12 n lt);
    single = refl;
    double = refl;
    unnamed = h.after_double;
  };
}

no_fields : (kind : Kind) (bytes : List ℕ) → IsKindCode (number_at bytes 2 2) kind
    → ((v : Inode) → IsRecord bytes v → ⊥) → fields_as kind bytes ≡ None
no_fields kind bytes e none = rw (false_from_ne_true (is_record kind bytes) (λ passes.
    let h = (record_decides kind bytes).0 passes in none (made kind bytes h) (made-record kind bytes e h))) refl

-- nothing is read of bytes that are no record
pub fields_in-none : (bytes : List ℕ) → ((v : Inode) → IsRecord bytes v → ⊥) → fields_in bytes ≡ None
unfolding fields_in
fields_in-none bytes none = elim (cases_eq (number_at bytes 2 2) 1) [
  | inl file ↦ fields_in-by_kind File bytes file ∙ no_fields File bytes file none
  | inr other ↦ elim (cases_eq (number_at bytes 2 2) 2) [
    | inl directory ↦ fields_in-by_kind Directory bytes directory ∙ no_fields Directory bytes directory none
    | inr neither ↦ rw (ne_eqb (number_at bytes 2 2) 1 other, ne_eqb (number_at bytes 2 2) 2 neither) refl
  ]
]

-- an answer that is in the grammar is what is read
pub fields_in-answer : (bytes : List ℕ) (answer : Option Inode) → IfSome answer (λ v. IsRecord bytes v)
    → IfNone answer ((v : Inode) → IsRecord bytes v → ⊥)
    → option_map fields_of answer ≡ fields_in bytes
fields_in-answer bytes None found none = sym (fields_in-none bytes none)
fields_in-answer bytes (Some v) found none = sym (fields_in-is bytes v found)

-- nothing is read of an unused slot
pub fields_in-zeros : fields_in (replicate 128 0) ≡ None
fields_in-zeros = fields_in-none (replicate 128 0) (λ v h. zeros_no_record (replicate 128 0) v refl h)

-- nor of a slot of an empty block
pub fields_in-unused : (block : List ℕ) (k : ℕ) → k < 4 → block ≡ zero_block → fields_in (slot_of block k) ≡ None
fields_in-unused block k lt zeros = ap fields_in (slot_of-zeros block k lt zeros) ∙ fields_in-zeros
