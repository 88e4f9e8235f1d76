-- An entry names a key just if the log does so at the key's place: `name_block` and `named_block` for `check_name`,
-- `name_record` and `named_record` for `check_record_name`. A block's place is four times its address, where the entry
-- names its first unit; a record's is the slot of an inode block, where the bytes in the slot must say the number and
-- version too. Each direction is needed: one to go on, the other to make a fault of what isn't so; a kind of block more
-- needs its line in `owner_in-first`.
use Rattle.std.proofs.Common.{◌≡◌, ◌≢◌, ℕ, ◌+◌, ◌*◌, ◌/◌, ◌<◌, Option, None, Some, refl, sym, ap, ◌∙◌, subst, inl, inr}
use Rattle.std.proofs.Common.{arith}
use Rattle.lfs_segments.specs.declared.entry.LogicalBlock.{LogicalBlock}
use Rattle.lfs_segments.specs.declared.entry.LogicalBlock.TheVariants.{Data, Single, Double, Child, Inodes}
use Rattle.lfs_segments.specs.declared.entry.SummaryEntry.{SummaryEntry}
use Rattle.lfs_segments.specs.Log.{entry_at}
use Rattle.lfs_segments.specs.Memory.{SegmentMemory, block_at}
use Rattle.lfs_bmap.specs.Blocks.{code_of, file_block_of}
use Rattle.lfs_bmap.specs.Log.{Owner}
use Rattle.lfs_bmap.specs.Owners.{owner_in}
use Rattle.lfs_bmap.proofs.OwnerLemmas.{owner_at-named}
use Rattle.lfs_log.specs.Names.{named_at, record_at, record_in}
use Rattle.lfs_log.proofs.NameLemmas.{named_at-entry, named_at-record}
use Rattle.lfs_fsck.specs.Names.{IsNameOf, IsOfRecords, NamesCode}

-- an entry that isn't of records names the first unit of its block
owner_in-first : (block : LogicalBlock) (number version : ℕ) (found : Option (ℕ × ℕ))
    → code_of (file_block_of block) ≢ 0
    → owner_in block number version 0 found ≡ Some
    (record { number = number; version = version; code = code_of (file_block_of block) })
unfolding owner_in
owner_in-first (Data index) number version found some = refl
owner_in-first Single number version found some = refl
owner_in-first Double number version found some = refl
owner_in-first (Child index) number version found some = refl
owner_in-first Inodes number version found some = absurd (some refl)

abbrev pub owner : ℕ → ℕ → ℕ → Owner
owner number version code = record { number = number; version = version; code = code }

-- an entry for an address
name_some : (m : SegmentMemory) (a number version code : ℕ) (e : SummaryEntry) → entry_at m a ≡ Some e → code ≢ 0
    → NamesCode e number version code
    → named_at m (4 * a) ≡ Some (owner number version code)
name_some m a number version code e is some h =
    let first : 4 * a ≡ 4 * a + 0 = omega arith in
    let other : code_of (file_block_of e.block) ≢ 0 = λ z. some (sym h.code_is ∙ z) in
    ap (named_at m) first ∙ named_at-entry m a 0 e (block_at m a) (omega arith) is refl
    ∙ owner_in-first e.block e.number e.version (record_in (block_at m a) 0) other
    ∙ ap (λ n. Some (owner n e.version (code_of (file_block_of e.block)))) h.number_is
    ∙ ap (λ v. Some (owner number v (code_of (file_block_of e.block)))) h.version_is
    ∙ ap (λ c. Some (owner number version c)) h.code_is

pub name_block : (m : SegmentMemory) (a number version code : ℕ) (name : Option SummaryEntry) → name ≡ entry_at m a
    → code ≢ 0 → IsNameOf name number version code
    → named_at m (4 * a) ≡ Some (owner number version code)
name_block m a number version code None is some h = absurd h
name_block m a number version code (Some e) is some h = name_some m a number version code e (sym is) some h

-- and what it names
named_some : (m : SegmentMemory) (a number version code : ℕ) → code ≢ 0 → named_at m (4 * a)
    ≡ Some (owner number version code) → IsNameOf (entry_at m a) number version code
unfolding named_at
named_some m a number version code some h =
    let found = owner_at-named (entry_at m) (record_at m) (4 * a) (owner number version code) h in
    let here : (4 * a) / 4 ≡ a = omega arith in
    let is : entry_at m a ≡ Some found.0 = sym (ap (entry_at m) here) ∙ found.1 in
    subst (λ n. IsNameOf n number version code) (sym is)
    (elim found.2 [
      | inl names ↦ record { number_is = names.number; version_is = names.version; code_is = names.code }
      | inr of_record ↦ absurd (some of_record.code)
    ])

pub named_block : (m : SegmentMemory) (a number version code : ℕ) (name : Option SummaryEntry) → name ≡ entry_at m a
    → code ≢ 0
    → named_at m (4 * a) ≡ Some (owner number version code) → IsNameOf name number version code
named_block m a number version code name is some h =
    subst (λ n. IsNameOf n number version code) (sym is) (named_some m a number version code some h)

-- a block of records
pub name_record : (m : SegmentMemory) (a slot number version : ℕ) (name : Option SummaryEntry) → name ≡ entry_at m a
    → slot < 4 → IsOfRecords name
    → record_in (block_at m a) slot ≡ Some (number, version) → named_at m (4 * a + slot) ≡ Some (owner number version 0)
name_record m a slot number version None is low h found = absurd h
name_record m a slot number version (Some e) is low h found =
    named_at-record m a slot number version e low (sym is) h found

records_only : (block : LogicalBlock) → code_of (file_block_of block) ≡ 0 → block ≡ Inodes
records_only (Data index) h = absurd (omega arith)
records_only Single h = absurd (omega arith)
records_only Double h = absurd (omega arith)
records_only (Child index) h = absurd (omega arith)
records_only Inodes h = refl

named_records : (m : SegmentMemory) (a slot number version : ℕ) → slot < 4 → named_at m (4 * a + slot)
    ≡ Some (owner number version 0) → IsOfRecords (entry_at m a)
unfolding named_at
named_records m a slot number version low h =
    let found = owner_at-named (entry_at m) (record_at m) (4 * a + slot) (owner number version 0) h in
    let here : (4 * a + slot) / 4 ≡ a = omega arith in
    let is : entry_at m a ≡ Some found.0 = sym (ap (entry_at m) here) ∙ found.1 in
    subst IsOfRecords (sym is)
    (elim found.2 [
      | inl names ↦ records_only found.0.block names.code
      | inr of_record ↦ of_record.inodes
    ])

pub named_record : (m : SegmentMemory) (a slot number version : ℕ) (name : Option SummaryEntry) → name ≡ entry_at m a
    → slot < 4
    → named_at m (4 * a + slot) ≡ Some (owner number version 0) → IsOfRecords name
named_record m a slot number version name is low h =
    subst IsOfRecords (sym is) (named_records m a slot number version low h)
