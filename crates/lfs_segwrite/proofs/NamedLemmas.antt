-- `code_named` turns the logical number of an info into the code of its block, `BLOCK_CODES` where there is none
-- (`code_named-block`, `code_named-none`), and a named info has its block at its address (`named_there`,
-- `named_place`), for `counting` and `marking`; `named_address` is for the `bmapv` of `lfs_logstore`. A number is of
-- one of five kinds or of no block (`kinds`), and no two numbers have one code (`same_lbn`), so infos that name one
-- block are the same (`same_named`). Another kind of logical number is another case of `kinds`, apart from all the
-- others.
use Rattle.std.proofs.Common.{◌≡◌, ◌≢◌, ◌⊎◌, ℕ, ◌-◌, ◌/◌, ◌<◌, ◌≤◌, List, [], length, min, refl, sym, ap, ◌∙◌, subst}
use Rattle.std.proofs.Common.{inl, inr, arith}
use Rattle.std.specs.Prelude.{◌&&◌, if◌then◌else◌, nat_le, nat_lt}
use Rattle.std.proofs.lemmas.Bool.{cases_eq, cases_lt, cond-true, cond-false, ne_eqb, lt-leb, lt-ltb, le-leb, le-ltb}
use Rattle.lfs_types.specs.declared.cleaner.BlockInfo.{BlockInfo}
use Rattle.lfs_types.specs.declared.limits.TheConstants.{FILE_BLOCKS}
use Rattle.lfs_segments.specs.declared.entry.LogicalBlock.{LogicalBlock}
use Rattle.lfs_segments.specs.declared.entry.LogicalBlock.TheVariants.{Data, Single, Double, Child, Inodes}
use Rattle.lfs_segments.specs.Entry.{IsLogicalBlock, block_number}
use Rattle.lfs_segments.specs.Reading.{block_from}
use Rattle.lfs_segments.proofs.TestLemmas.{block_from-block_number}
use Rattle.lfs_bmap.specs.declared.blocks.FileBlock.{FileBlock}
use Rattle.lfs_bmap.specs.declared.blocks.TheConstants.{BLOCK_CODES}
use Rattle.lfs_bmap.specs.Blocks.{IsFileBlock, code_of, file_block_of, logical_of, way_to}
use Rattle.lfs_bmap.specs.Ways.{codes_on, way_of}
use Rattle.lfs_bmap.proofs.TableLemmas.{codes_on-long, way_length}
use Rattle.lfs_bmap.proofs.WayLemmas.{way_of-code_of, way_of-known}
use Rattle.lfs_bmap.specs.Log.{IsPlaced, LogState, SameKeys}
use Rattle.lfs_bmap.specs.Moves.{present_address}
use Rattle.lfs_bmap.proofs.BlockLemmas.{code_of-below, file_block_of-is, logical_of-file_block, same_block}
use Rattle.lfs_bmap.proofs.MoveLemmas.{present_address-key, present_address-other, present_address-same}
use Rattle.lfs_segwrite.specs.Marking.{IsNamed, code_named, codes_to_mark}

-- ---- codes
code_named-is : (lbn : ℕ) → code_named lbn ≡ min (code_of (file_block_of (block_from lbn))) BLOCK_CODES
unfolding code_named
code_named-is lbn = refl

pub code_named-block : (block : LogicalBlock) → IsLogicalBlock block → code_named (block_number block)
    ≡ code_of (file_block_of block)
code_named-block block is =
    let low = code_of-below (file_block_of block) (file_block_of-is block is) in
    let same = ap (λ b. code_of (file_block_of b)) (block_from-block_number block is) in
    let named = code_named-is (block_number block) in
    omega arith

-- a number of no block
record IsOther (n : ℕ) : Type 0 where
  pub single : n ≢ 0x8000_0000
  pub double : n ≢ 0x8000_0001
  pub inodes : n ≢ 0xffff_ffff
  pub data_ : FILE_BLOCKS ≤ n
  pub child : (n < 0x8000_0100) ⊎ (0x8000_0180 ≤ n)

other_data : (n : ℕ) → (n < 0x8000_0100) ⊎ (0x8000_0180 ≤ n)
    → (if nat_le 0x8000_0100 n && nat_lt n 0x8000_0180 then Child (n - 0x8000_0100) else Data n) ≡ Data n
other_data n (inl low) = rw (lt-leb 0x8000_0100 n low) refl
other_data n (inr past) = rw (le-leb 0x8000_0100 n (omega arith), le-ltb n 0x8000_0180 past) refl

block_from-other : (n : ℕ) → IsOther n → block_from n ≡ Data n
block_from-other n h =
    cond-false _ _ _ (ne_eqb n 0x8000_0000 h.single) ∙ cond-false _ _ _ (ne_eqb n 0x8000_0001 h.double)
    ∙ cond-false _ _ _ (ne_eqb n 0xffff_ffff h.inodes) ∙ other_data n h.child

code_named-other : (n : ℕ) → IsOther n → code_named n ≡ BLOCK_CODES
code_named-other n h =
    let named = code_named-is n in
    let is = ap (λ b. code_of (file_block_of b)) (block_from-other n h) in
    let past = h.data_ in
    omega arith

-- no block has such a number
other_none : (n : ℕ) → IsOther n → (block : LogicalBlock) → IsLogicalBlock block → block_number block ≡ n → ⊥
other_none n h (Data k) low e = let past = h.data_ in omega arith
other_none n h Single is e = h.single (sym e)
other_none n h Double is e = h.double (sym e)
other_none n h (Child k) low e = elim h.child [ inl below ↦ omega arith | inr past ↦ omega arith ]
other_none n h Inodes is e = h.inodes (sym e)

-- every number names a block, or none
abbrev NamedBlock : ℕ → Type 0
NamedBlock lbn = (block : LogicalBlock) × IsLogicalBlock block × (block_number block ≡ lbn)

kinds : (lbn : ℕ) → NamedBlock lbn ⊎ IsOther lbn
kinds lbn = elim (cases_eq lbn 0x8000_0000) [
  | inl single ↦ inl (Single, tt, sym single)
  | inr not_single ↦ elim (cases_eq lbn 0x8000_0001) [
    | inl double ↦ inl (Double, tt, sym double)
    | inr not_double ↦ elim (cases_eq lbn 0xffff_ffff) [
      | inl inodes ↦ inl (Inodes, tt, sym inodes)
      | inr not_inodes ↦ elim (cases_lt lbn FILE_BLOCKS) [
        | inl low ↦ inl (Data lbn, low, refl)
        | inr past ↦ elim (cases_lt lbn 0x8000_0100) [
          | inl low ↦ inr (record {
            single = not_single;
            double = not_double;
            inodes = not_inodes;
            data_ = past;
            child = inl low;
          })
          | inr from ↦ elim (cases_lt lbn 0x8000_0180) [
            | inl to ↦ inl (Child (lbn - 0x8000_0100), omega arith, omega arith)
            | inr behind ↦ inr (record {
              single = not_single;
              double = not_double;
              inodes = not_inodes;
              data_ = past;
              child = inr behind;
            })
          ]
        ]
      ]
    ]
  ]
]

pub named_cases : (lbn : ℕ) → ((block : LogicalBlock) × IsLogicalBlock block × (block_number block ≡ lbn))
    ⊎ ((block : LogicalBlock) → IsLogicalBlock block → block_number block ≡ lbn → ⊥)
named_cases lbn = elim (kinds lbn) [
  | inl named ↦ inl named
  | inr other ↦ inr (other_none lbn other)
]

pub code_named-none : (lbn : ℕ) → ((block : LogicalBlock) → IsLogicalBlock block → block_number block ≡ lbn → ⊥)
    → code_named lbn ≡ BLOCK_CODES
code_named-none lbn none = elim (kinds lbn) [
  | inl named ↦ absurd (none named.0 named.1 named.2)
  | inr other ↦ code_named-other lbn other
]

-- ---- frames
pub codes-block : (block : FileBlock) → IsFileBlock block → codes_to_mark (code_of block) ≡ codes_on (way_to block)
unfolding codes_to_mark
codes-block block is =
    cond-true _ _ _ (lt-ltb (code_of block) BLOCK_CODES (code_of-below block is))
    ∙ ap codes_on (way_of-code_of block is)

pub codes-none : codes_to_mark BLOCK_CODES ≡ []
unfolding codes_to_mark
codes-none = refl

pub codes-most : (code : ℕ) → length (codes_to_mark code) ≤ 3
unfolding codes_to_mark
codes-most code = elim (cases_lt code BLOCK_CODES) [
  | inl low ↦ subst (λ (cs : List ℕ). length cs ≤ 3) (sym (cond-true _ _ _ (lt-ltb code BLOCK_CODES low)))
      (subst (λ n. n ≤ 3) (sym (codes_on-long (way_of code))) (way_length (way_of code) (way_of-known code low)))
  | inr past ↦ subst (λ (cs : List ℕ). length cs ≤ 3) (sym (cond-false _ _ _ (le-ltb code BLOCK_CODES past)))
      (omega arith)
]

-- ---- what an info names
-- the present address that a call gives
pub named_address : (l : LogState) (info : BlockInfo) (result : ℕ)
    → ((block : LogicalBlock) → IsLogicalBlock block → block_number block ≡ info.lbn → result
    ≡ present_address l info.ino info.version (code_of (file_block_of block)))
    → (((block : LogicalBlock) → IsLogicalBlock block → block_number block ≡ info.lbn → ⊥) → result ≡ 0)
    → result ≡ present_address l info.ino info.version (code_named info.lbn)
named_address l info result known unknown = elim (named_cases info.lbn) [
  | inl h ↦
      known h.0 h.1 h.2 ∙ ap (present_address l info.ino info.version)
      (sym (ap code_named (sym h.2) ∙ code_named-block h.0 h.1))
  | inr none ↦
      unknown none ∙ sym (present_address-other l info.ino info.version (code_named info.lbn)
      (inr (inr (let e = code_named-none info.lbn none in omega arith))))
]

-- it is there: the number has the version, and the block a place
pub named_there : (l : LogState) (info : BlockInfo) → IsNamed l info → IsPlaced l info.ino (code_named info.lbn)
    × (l.version info.ino ≡ info.version)
named_there l info h =
    let code = code_named info.lbn in
    let not_none : present_address l info.ino info.version code ≡ 0 → ⊥ = λ e. h.somewhere (sym h.present ∙ e) in
    elim (cases_lt info.ino l.numbers) [
      | inr past ↦ absurd (not_none (present_address-other l info.ino info.version code (inl past)))
      | inl low ↦ elim (cases_eq (l.version info.ino) info.version) [
        | inr other ↦ absurd (not_none (present_address-other l info.ino info.version code (inr (inl other))))
        | inl same ↦ elim (cases_lt code BLOCK_CODES) [
          | inr past ↦ absurd (not_none (present_address-other l info.ino info.version code (inr (inr past))))
          | inl below ↦
              let at : l.at info.ino code / 4 ≡ info.addr
              = sym (present_address-key l info.ino code low below) ∙ ap (λ v. present_address l info.ino v code) same
              ∙ h.present in (
                record {
                  number_below = low;
                  code_below = below;
                  somewhere = λ none. h.somewhere (sym at ∙ ap (λ n. n / 4) none);
                },
                same,
              )
        ]
      ]
    ]

-- its place is at the address that the info names
pub named_place : (l : LogState) (info : BlockInfo) → IsNamed l info → l.at info.ino (code_named info.lbn) / 4
    ≡ info.addr
named_place l info h =
    let there = named_there l info h in
    sym (present_address-key l info.ino (code_named info.lbn) there.0.number_below there.0.code_below)
    ∙ ap (λ v. present_address l info.ino v (code_named info.lbn)) there.1 ∙ h.present

-- the same keys, the same names
pub named_kept : (old new : LogState) (info : BlockInfo) → SameKeys old new → IsNamed old info → IsNamed new info
named_kept old new info keys h = record {
  somewhere = h.somewhere;
  present = present_address-same old new keys info.ino info.version (code_named info.lbn) ∙ h.present;
}

-- the block whose code it is
pub named_block : (lbn : ℕ) → code_named lbn < BLOCK_CODES → (block : FileBlock) × IsFileBlock block
    × (code_of block ≡ code_named lbn)
named_block lbn below = elim (named_cases lbn) [
  | inl h ↦ (file_block_of h.0, file_block_of-is h.0 h.1, sym (code_named-block h.0 h.1) ∙ ap code_named h.2)
  | inr none ↦ absurd (let e = code_named-none lbn none in omega arith)
]

-- ---- two infos that name one block are the same
same_lbn : (m n : ℕ) → code_named m < BLOCK_CODES → code_named m ≡ code_named n → m ≡ n
same_lbn m n below same =
    elim (named_cases m) [
      | inr none ↦ absurd (let e = code_named-none m none in omega arith)
      | inl a ↦ elim (named_cases n) [
        | inr none ↦ absurd (let e = code_named-none n none in omega arith)
        | inl b ↦
            let codes : code_of (file_block_of a.0) ≡ code_of (file_block_of b.0)
            = sym (code_named-block a.0 a.1) ∙ ap code_named a.2 ∙ same ∙ sym (ap code_named b.2)
            ∙ code_named-block b.0 b.1 in
            let blocks : a.0 ≡ b.0 = sym (logical_of-file_block a.0)
            ∙ ap logical_of (same_block (file_block_of a.0) (file_block_of b.0) (file_block_of-is a.0 a.1)
            (file_block_of-is b.0 b.1) codes) ∙ logical_of-file_block b.0 in
            sym a.2 ∙ ap block_number blocks ∙ b.2
      ]
    ]

pub same_named : (l : LogState) (a b : BlockInfo) → IsNamed l a → IsNamed l b → a.ino ≡ b.ino → code_named a.lbn
    ≡ code_named b.lbn → a ≡ b
same_named l a b p q number code =
    let there = named_there l a p in
    let other = named_there l b q in
    let lbn = same_lbn a.lbn b.lbn there.0.code_below code in
    let version : a.version ≡ b.version = sym there.1 ∙ ap l.version number ∙ other.1 in
    let address : a.addr ≡ b.addr
    = sym p.present ∙ ap (λ n. present_address l n a.version (code_named a.lbn)) number
    ∙ ap (λ v. present_address l b.ino v (code_named a.lbn)) version
    ∙ ap (present_address l b.ino b.version) code ∙ q.present in
    λ i. record { ino = number i; version = version i; lbn = lbn i; addr = address i }
