-- What `owner_at` names at a place stands in the entry of its address: a block's own name at unit 0, or the record in a
-- slot of an inode block (`owner_at-named`; the way back `owner_at-block`, `owner_at-record`, for NameLemmas of
-- `lfs_log` and of `lfs_fsck`). By cases of the entry's kind; only in an inode block do the slot's bytes decide, so an
-- owner stays where its entry and its block do (`owner_at-kept`). A kind of block with several owners would need its
-- bytes here too.
use Rattle.std.proofs.Common.{◌≡◌, ◌≢◌, ℕ, ◌+◌, ◌*◌, ◌/◌, ◌%◌, ◌<◌, ◌⊎◌, inl, inr, Option, Some, None, option_map}
use Rattle.std.proofs.Common.{option_and_then, refl, sym, ap, ◌∙◌, arith}
use Rattle.std.specs.Prelude.{if◌then◌else◌, ◌==◌}
use Rattle.std.proofs.lemmas.Bool.{cases_eq, cond-true, cond-false, eq-eqb, ne_eqb}
use Rattle.std.proofs.lemmas.Option.{none-some, same_Some}
use Rattle.lfs_segments.specs.declared.entry.LogicalBlock.{LogicalBlock}
use Rattle.lfs_segments.specs.declared.entry.LogicalBlock.TheVariants as logical
use Rattle.lfs_segments.specs.declared.entry.SummaryEntry.{SummaryEntry}
use Rattle.lfs_bmap.specs.Blocks.{code_of, logical_of, file_block_of}
use Rattle.lfs_bmap.specs.Log.{Owner}
use Rattle.lfs_bmap.specs.Owners.{owner_in, owner_at}
use Rattle.lfs_bmap.specs.declared.blocks.FileBlock.{FileBlock}
use Rattle.lfs_bmap.specs.declared.blocks.FileBlock.TheVariants.{Record, Single, Double, Child, Data}

-- What an entry says of the owner of a unit of its block: it names the block itself, or it is an inode block, which has
-- the record there.
pub record NamesBlock (e : SummaryEntry) (slot : ℕ) (o : Owner) : Type 0 where
  pub number : e.number ≡ o.number
  pub version : e.version ≡ o.version
  pub code : code_of (file_block_of e.block) ≡ o.code
  pub first : slot ≡ 0

pub record NamesRecord (e : SummaryEntry) (found : Option (ℕ × ℕ)) (o : Owner) : Type 0 where
  pub inodes : e.block ≡ logical.Inodes
  pub found_there : found ≡ Some (o.number, o.version)
  pub code : o.code ≡ 0

owner_in-block : (block : FileBlock) (number version : ℕ) (found : Option (ℕ × ℕ)) → code_of block ≢ 0
    → owner_in (logical_of block) number version 0 found
    ≡ Some (record { number = number; version = version; code = code_of block })
unfolding owner_in
owner_in-block Record number version found some = absurd (some refl)
owner_in-block Single number version found some = refl
owner_in-block Double number version found some = refl
owner_in-block (Child index) number version found some = refl
owner_in-block (Data index) number version found some = refl

owner_in-record : (number version slot n v : ℕ) → owner_in logical.Inodes number version slot (Some (n, v))
    ≡ Some (record { number = n; version = v; code = 0 })
unfolding owner_in
owner_in-record number version slot n v = refl

module _ (entries : ℕ → Option SummaryEntry) (records : ℕ → ℕ → Option (ℕ × ℕ)) where
  -- the owner by the place's address and slot
  owner_at-entry : (a slot : ℕ) (e : SummaryEntry) → slot < 4 → entries a ≡ Some e
      → owner_at entries records (4 * a + slot) ≡ owner_in e.block e.number e.version slot (records a slot)
  unfolding owner_at
  owner_at-entry a slot e low is =
      let address : (4 * a + slot) / 4 ≡ a = omega arith in
      let unit : (4 * a + slot) % 4 ≡ slot = omega arith in
      ap (λ b. option_and_then (λ (x : SummaryEntry). owner_in x.block x.number x.version ((4 * a + slot) % 4)
      (records b ((4 * a + slot) % 4))) (entries b)) address
      ∙ ap (λ s. option_and_then (λ (x : SummaryEntry). owner_in x.block x.number x.version s (records a s))
      (entries a)) unit
      ∙ ap (option_and_then (λ (x : SummaryEntry). owner_in x.block x.number x.version slot (records a slot))) is

  -- a block that an entry names has its place at four times its address
  pub owner_at-block : (a number version : ℕ) (block : FileBlock) → code_of block ≢ 0
      → entries a ≡ Some (record { number = number; version = version; block = logical_of block })
      → owner_at entries records (4 * a) ≡ Some (record { number = number; version = version; code = code_of block })
  owner_at-block a number version block some is =
      let first : 4 * a ≡ 4 * a + 0 = omega arith in
      ap (owner_at entries records) first ∙ owner_at-entry a 0 _ (omega arith) is
      ∙ owner_in-block block number version (records a 0) some

  -- a record has its place at the slot of an inode block
  pub owner_at-record : (a slot number version : ℕ) (e : SummaryEntry) → slot < 4 → entries a ≡ Some e → e.block
      ≡ logical.Inodes
      → records a slot ≡ Some (number, version)
      → owner_at entries records (4 * a + slot) ≡ Some (record { number = number; version = version; code = 0 })
  owner_at-record a slot number version e low is inodes found =
      owner_at-entry a slot e low is ∙ ap (λ b. owner_in b e.number e.version slot (records a slot)) inodes
      ∙ ap (owner_in logical.Inodes e.number e.version slot) found
      ∙ owner_in-record e.number e.version slot number version

-- the owner stays where the entry and the block at the place's address do
pub owner_at-kept : (entries others : ℕ → Option SummaryEntry) (records found : ℕ → ℕ → Option (ℕ × ℕ)) (place : ℕ)
    → others (place / 4) ≡ entries (place / 4) → found (place / 4) (place % 4) ≡ records (place / 4) (place % 4)
    → owner_at others found place ≡ owner_at entries records place
unfolding owner_at
owner_at-kept entries others records found place e f =
    ap (λ r. option_and_then (λ (x : SummaryEntry). owner_in x.block x.number x.version (place % 4) r)
    (others (place / 4))) f
    ∙ ap (option_and_then (λ (x : SummaryEntry). owner_in x.block x.number x.version (place % 4)
    (records (place / 4) (place % 4)))) e

first_unit : (slot : ℕ) (o p : Owner) → (if slot == 0 then Some p else None) ≡ Some o → (slot ≡ 0) × (p ≡ o)
first_unit slot o p h =
    elim (cases_eq slot 0) [
      | inl e ↦ (e, same_Some p o (sym (cond-true _ _ _ (eq-eqb slot 0 e)) ∙ h))
      | inr ne ↦ absurd (none-some o (sym (cond-false _ _ _ (ne_eqb slot 0 ne)) ∙ h))
    ]

-- the owner of a slot
pub in_slot : (found : Option (ℕ × ℕ)) (o : Owner)
    → option_map (λ r. record { number = r.0; version = r.1; code = 0 }) found ≡ Some o
    → (found ≡ Some (o.number, o.version)) × (o.code ≡ 0)
in_slot None o h = absurd (none-some o h)
in_slot (Some r) o h =
    let same : record { number = r.0; version = r.1; code = 0 } ≡ o = same_Some _ o h in
    (ap (λ (x : Owner). Some (x.number, x.version)) same, sym (ap (λ (x : Owner). x.code) same))

owner_in-named : (block : LogicalBlock) (number version slot : ℕ) (found : Option (ℕ × ℕ)) (o : Owner)
    → owner_in block number version slot found ≡ Some o
    → (NamesBlock (record { number = number; version = version; block = block }) slot o)
    ⊎ (NamesRecord (record { number = number; version = version; block = block }) found o)
unfolding owner_in
owner_in-named logical.Inodes number version slot found o h =
    let s = in_slot found o h in inr (record { inodes = refl; found_there = s.0; code = s.1 })
owner_in-named logical.Single number version slot found o h =
    let s = first_unit slot o _ h in
    inl (record {
      number = ap (λ (x : Owner). x.number) s.1;
      version = ap (λ (x : Owner). x.version) s.1;
      code = ap (λ (x : Owner). x.code) s.1;
      first = s.0;
    })
owner_in-named logical.Double number version slot found o h =
    let s = first_unit slot o _ h in
    inl (record {
      number = ap (λ (x : Owner). x.number) s.1;
      version = ap (λ (x : Owner). x.version) s.1;
      code = ap (λ (x : Owner). x.code) s.1;
      first = s.0;
    })
owner_in-named (logical.Child index) number version slot found o h =
    let s = first_unit slot o _ h in
    inl (record {
      number = ap (λ (x : Owner). x.number) s.1;
      version = ap (λ (x : Owner). x.version) s.1;
      code = ap (λ (x : Owner). x.code) s.1;
      first = s.0;
    })
owner_in-named (logical.Data index) number version slot found o h =
    let s = first_unit slot o _ h in
    inl (record {
      number = ap (λ (x : Owner). x.number) s.1;
      version = ap (λ (x : Owner). x.version) s.1;
      code = ap (λ (x : Owner). x.code) s.1;
      first = s.0;
    })

pub and_then_some : (o : Option SummaryEntry) (f : SummaryEntry → Option Owner) (x : Owner) → option_and_then f o
    ≡ Some x → (e : SummaryEntry) × (o ≡ Some e) × (f e ≡ Some x)
and_then_some None f x h = absurd (none-some x h)
and_then_some (Some e) f x h = (e, refl, h)

-- where the log names an owner, it has an entry for the address, which names this block or has this record
pub owner_at-named : (entries : ℕ → Option SummaryEntry) (records : ℕ → ℕ → Option (ℕ × ℕ)) (place : ℕ) (o : Owner)
    → owner_at entries records place ≡ Some o
    → (e : SummaryEntry) × (entries (place / 4) ≡ Some e)
    × ((NamesBlock e (place % 4) o) ⊎ (NamesRecord e (records (place / 4) (place % 4)) o))
unfolding owner_at
owner_at-named entries records place o h =
    let found = and_then_some (entries (place / 4)) _ o h in (
      found.0,
      found.1,
      owner_in-named found.0.block found.0.number found.0.version (place % 4)
          (records (place / 4) (place % 4)) o found.2,
    )
