-- What is read of a record keeps the bounds of its fields: `AreFields-fields_in` for `decode`, and
-- `AreFields-fields_of` for callers that have an inode. Bytes of which fields are read passed `is_record` (FieldTests),
-- so they are the record of an inode (`inode_in`), whose type has the bounds. Bytes of a kind that is neither file nor
-- directory are read as nothing; a bound in Inode that `is_record` doesn't test would make `inode_in` false.
use Rattle.std.proofs.Common.{◌≡◌, ℕ, Bool, true, false, cond, List, refl, sym}
use Rattle.std.proofs.Common.{subst, ◌∙◌, arith, inl, inr}
use Rattle.std.specs.Prelude.{Some, None}
use Rattle.std.proofs.lemmas.Bool.{cases_lt, cases_eq, cond-false, ne_eqb}
use Rattle.lfs_types.specs.declared.attrs.Kind.{Kind}
use Rattle.lfs_types.specs.declared.attrs.Kind.TheVariants.{File, Directory}
use Rattle.lfs_inodes.specs.declared.inode.Inode.{Inode}
use Rattle.std.specs.Prelude.{◌≤◌}
use Rattle.lfs_inodes.specs.Addresses.{first_at}
use Rattle.lfs_inodes.specs.Facts.{block_count}
use Rattle.lfs_inodes.specs.Bytes.{number_at}
use Rattle.lfs_inodes.specs.Record.{IsKindCode, IsRecord}
use Rattle.lfs_inodes.specs.Reading.{AreFields, Fields, fields_as, fields_in, fields_of, is_record, read}
use Rattle.lfs_inodes.proofs.AddressLemmas.{length-addresses, slice_index-direct, slice_index-double}
use Rattle.lfs_inodes.proofs.AddressLemmas.{slice_index-single}
use Rattle.lfs_inodes.proofs.FieldTests.{record_decides}
use Rattle.lfs_inodes.proofs.FieldsRead.{fields_in-by_kind, fields_in-is, made, made-record}

-- the facts of an inode's type are those of its fields
pub AreFields-fields_of : (v : Inode) → AreFields (fields_of v)
AreFields-fields_of v = record {
  numbered = v.numbered;
  versioned = v.versioned;
  permitted = v.permitted;
  flagged = v.flagged;
  sized = v.sized;
  whole = length-addresses v;
  in_volume = λ n lt. elim (cases_lt n 12) [
    | inl direct ↦ rw (slice_index-direct v n direct) (v.addressed n direct).0
    | inr past ↦ elim (cases_eq n 12) [
      | inl same ↦ rw (same, slice_index-single v) v.indirect.0
      | inr ne ↦ let last : n ≡ 13 = omega arith in rw (last, slice_index-double v) v.doubled.0
    ]
  ];
  within = λ n lt past. elim (cases_lt n 12) [
    | inl direct ↦ slice_index-direct v n direct
        ∙ (v.addressed n direct).1 (subst (λ m. block_count v.size ≤ m)
        (cond-false _ _ _ (ne_eqb n 13 (λ e. omega arith))) past)
    | inr high ↦ elim (cases_eq n 12) [
      | inl same ↦ rw (same, slice_index-single v)
          (v.indirect.1 (subst (λ m. block_count v.size ≤ first_at m) same past))
      | inr ne ↦ let last : n ≡ 13 = omega arith in
          rw (last, slice_index-double v) (v.doubled.1 (subst (λ m. block_count v.size ≤ first_at m) last past))
    ]
  ];
}

passes : (kind : Kind) (bytes : List ℕ) (f : Fields) (b : Bool) → is_record kind bytes ≡ b
    → cond b (Some (read kind bytes)) None ≡ Some f → is_record kind bytes ≡ true
passes kind bytes f true e h = e
passes kind bytes f false e h = cc

inode_as : (kind : Kind) (bytes : List ℕ) (f : Fields) → IsKindCode (number_at bytes 2 2) kind → fields_as kind bytes
    ≡ Some f → (v : Inode) × IsRecord bytes v
inode_as kind bytes f code e =
    let h = (record_decides kind bytes).0 (passes kind bytes f (is_record kind bytes) refl e) in
    (made kind bytes h, made-record kind bytes code h)

-- bytes of which fields are read are the record of an inode
pub inode_in : (bytes : List ℕ) (f : Fields) → fields_in bytes ≡ Some f → (v : Inode) × IsRecord bytes v
unfolding fields_in
inode_in bytes f e = elim (cases_eq (number_at bytes 2 2) 1) [
  | inl file ↦ inode_as File bytes f file (sym (fields_in-by_kind File bytes file) ∙ e)
  | inr other ↦ elim (cases_eq (number_at bytes 2 2) 2) [
    | inl directory ↦ inode_as Directory bytes f directory (sym (fields_in-by_kind Directory bytes directory) ∙ e)
    | inr neither ↦
        let none : fields_in bytes ≡ None = rw (
          ne_eqb (number_at bytes 2 2) 1 other,
          ne_eqb (number_at bytes 2 2) 2 neither,
        ) refl in
        cc
  ]
]

-- what is read keeps the bounds of fields
pub AreFields-fields_in : (bytes : List ℕ) (f : Fields) → fields_in bytes ≡ Some f → AreFields f
AreFields-fields_in bytes f e =
    let v = inode_in bytes f e in
    let same : fields_of v.0 ≡ f = (let is = fields_in-is bytes v.0 v.1 in cc) in
    subst AreFields same (AreFields-fields_of v.0)
