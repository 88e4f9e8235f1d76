-- The live bytes of a segment fit in the blocks before an address below which all of its keys lie (`live_fits`). The
-- log names one owner at each place, so at most one key has it (`one_less`). The four places of a block are those of
-- four records, or the block is one key's (`has_room`). So the keys are taken away block by block from the last one on
-- (`block_less`), each time at most 512 bytes.
use Rattle.std.proofs.Common.{◌≡◌, ◌≢◌, ℕ, zero, suc, ◌+◌, ◌*◌, ◌/◌, ◌%◌, ◌<◌, ◌≤◌, ◌⊎◌, Option, None, Some, inl, inr}
use Rattle.std.proofs.Common.{refl, sym, ap, ◌∙◌, subst, ⊎_elim, arith}
use Rattle.std.proofs.lemmas.Bool.{cases_eq, cases_lt, cond-true, eq-eqb}
use Rattle.std.proofs.lemmas.Option.{none-some, same_Some}
use Rattle.lfs_segments.specs.declared.entry.LogicalBlock.{LogicalBlock}
use Rattle.lfs_segments.specs.declared.entry.SummaryEntry.{SummaryEntry}
use Rattle.lfs_segments.specs.Log.{entry_at}
use Rattle.lfs_segments.specs.Memory.{SegmentMemory}
use Rattle.lfs_bmap.specs.declared.blocks.TheConstants.{BLOCK_CODES}
use Rattle.lfs_bmap.specs.Blocks.{code_of, file_block_of}
use Rattle.lfs_bmap.specs.Counting.{live_bytes, placed, seg_of, units, weight_of}
use Rattle.lfs_bmap.specs.Log.{LogState, Owner, owner_of}
use Rattle.lfs_bmap.proofs.CountingLemmas.{live-none, live-placed, placed-cases, weight-elsewhere, weight-here}
use Rattle.lfs_bmap.proofs.CountingLemmas.{weight-none}
use Rattle.lfs_bmap.proofs.OwnerLemmas.{owner_at-named}
use Rattle.lfs_log.specs.Names.{named_at, record_at}
use Rattle.lfs_fsck.proofs.SumLemmas.{units-most}

-- each key that lies in a segment lies below a place, and the log names it there
pub record AreBelow (l : LogState) (segment end : ℕ) (at : ℕ → ℕ → ℕ) : Type 0 where
  pub each : (n c : ℕ) → n < l.numbers → c < BLOCK_CODES → at n c ≢ 0 → seg_of (at n c) ≡ segment
      → (at n c < end) × (l.owner (at n c) ≡ Some (owner_of l n c))

-- what is left where the keys from a place on are taken away, which were of so many bytes at most
pub record HasLess (l : LogState) (segment place most : ℕ) (at : ℕ → ℕ → ℕ) : Type 0 where
  pub rest : ℕ → ℕ → ℕ
  pub below : AreBelow l segment place rest
  pub bytes : live_bytes l.numbers BLOCK_CODES at segment ≤ live_bytes l.numbers BLOCK_CODES rest segment + most

-- so many bytes have room at the places of a block: those of the owner at each place, and 512 in all
pub record HasRoom (owner : ℕ → Option Owner) (a : ℕ) : Type 0 where
  pub bytes : ℕ → ℕ
  pub each : (slot : ℕ) (o : Owner) → slot < 4 → owner (4 * a + slot) ≡ Some o → 128 * units o.code ≤ bytes slot
  pub most : bytes 0 + bytes 1 + bytes 2 + bytes 3 ≤ 512

weight-units : (place segment code : ℕ) → weight_of place segment code ≤ 128 * units code
weight-units place segment code = elim (cases_eq place 0) [
  | inl none ↦ omega (arith, ap (λ p. weight_of p segment code) none ∙ weight-none segment code)
  | inr some ↦ elim (cases_eq (seg_of place) segment) [
    | inl here ↦ omega (arith, weight-here place segment code some here)
    | inr other ↦ omega (arith, weight-elsewhere place segment code other)
  ]
]

-- ---- one place
module _ (l : LogState) (segment place end most : ℕ) (one : end ≡ place + 1) (at : ℕ → ℕ → ℕ)
    (h : AreBelow l segment end at) where
  -- no key is there
  nothing_there : ((n c : ℕ) → n < l.numbers → c < BLOCK_CODES → at n c ≢ 0 → seg_of (at n c) ≡ segment
      → at n c ≡ place → ⊥) → HasLess l segment place most at
  nothing_there none = record {
    rest = at;
    below = record {
      each = λ n c low under some here.
          let b = h.each n c low under some here in
          let before = b.0 in
          let other : at n c ≢ place = none n c low under some here in
          (omega arith, b.1);
    };
    bytes = omega arith;
  }

  -- or that of one owner
  module _ (o : Owner) (is : l.owner place ≡ Some o) where
    same_key : (n c : ℕ) → n < l.numbers → c < BLOCK_CODES → at n c ≢ 0 → seg_of (at n c) ≡ segment → at n c ≡ place
        → (n ≡ o.number) × (c ≡ o.code)
    same_key n c low under some here there =
        let b = h.each n c low under some here in
        let same : owner_of l n c ≡ o = same_Some (owner_of l n c) o (sym b.1 ∙ ap l.owner there ∙ is) in
        (ap (λ (x : Owner). x.number) same, ap (λ (x : Owner). x.code) same)

    taken : o.number < l.numbers → o.code < BLOCK_CODES → at o.number o.code ≡ place → 128 * units o.code ≤ most
        → HasLess l segment place most at
    taken low under there few =
        let rest : ℕ → ℕ → ℕ = placed at o.number o.code 0 in
        let less = live-placed l.numbers BLOCK_CODES at o.number o.code 0 segment low under in
        let none = weight-none segment o.code in
        let weight = weight-units (at o.number o.code) segment o.code in
        record {
          rest = rest;
          below = record {
            each = λ n c low under some here. elim (placed-cases at o.number o.code 0 n c) [
              | inl own ↦ absurd (some own.2)
              | inr other ↦
                  let before : at n c ≢ 0 = λ e. some (other.1 ∙ e) in
                  let inside : seg_of (at n c) ≡ segment = ap seg_of (sym other.1) ∙ here in
                  let b = h.each n c low under before inside in
                  let apart : at n c ≢ place = λ e. let same = same_key n c low under before inside e in
                  ⊎_elim (λ (ne : n ≢ o.number). ne same.0) (λ (ne : c ≢ o.code). ne same.1) other.0 in
                  let last = b.0 in
                  let kept = other.1 in
                  (omega arith, ap l.owner other.1 ∙ b.1)
            ];
          };
          bytes = omega arith;
        }

    owner_less : 128 * units o.code ≤ most → HasLess l segment place most at
    owner_less few = elim (cases_lt o.number l.numbers) [
      | inl low ↦ elim (cases_lt o.code BLOCK_CODES) [
        | inl under ↦ elim (cases_eq (at o.number o.code) place) [
          | inl there ↦ taken low under there few
          | inr away ↦ nothing_there (λ n c low under some here there.
              let same = same_key n c low under some here there in
              away (ap (λ k. at k o.code) (sym same.0) ∙ ap (at n) (sym same.1) ∙ there))
        ]
        | inr past ↦ nothing_there (λ n c low under some here there.
            let same = (same_key n c low under some here there).1 in absurd (omega arith))
      ]
      | inr past ↦ nothing_there (λ n c low under some here there.
          let same = (same_key n c low under some here there).0 in absurd (omega arith))
    ]

  less_by : (named : Option Owner) → l.owner place ≡ named
      → ((o : Owner) → l.owner place ≡ Some o → 128 * units o.code ≤ most) → HasLess l segment place most at
  less_by None is few = nothing_there (λ n c low under some here there.
      none-some (owner_of l n c) (sym is ∙ ap l.owner (sym there) ∙ (h.each n c low under some here).1))
  less_by (Some o) is few = owner_less o is (few o is)

  one_less : ((o : Owner) → l.owner place ≡ Some o → 128 * units o.code ≤ most) → HasLess l segment place most at
  one_less few = less_by (l.owner place) refl few

-- ---- one block
block_less : (l : LogState) (segment a end : ℕ) (at : ℕ → ℕ → ℕ) → end ≡ 4 * a + 4 → HasRoom l.owner a
    → AreBelow l segment end at → HasLess l segment (4 * a) 512 at
block_less l segment a end at is room h =
    let third = one_less l segment (4 * a + 3) end (room.bytes 3) (omega arith) at h
    (λ o named. room.each 3 o (omega arith) named) in
    let second = one_less l segment (4 * a + 2) (4 * a + 3) (room.bytes 2) (omega arith) third.rest third.below
    (λ o named. room.each 2 o (omega arith) named) in
    let first = one_less l segment (4 * a + 1) (4 * a + 2) (room.bytes 1) (omega arith) second.rest second.below
    (λ o named. room.each 1 o (omega arith) named) in
    let begin : 4 * a ≡ 4 * a + 0 = omega arith in
    let none = one_less l segment (4 * a) (4 * a + 1) (room.bytes 0) (omega arith) first.rest first.below
    (λ o named. room.each 0 o (omega arith) (sym (ap l.owner begin) ∙ named)) in
    let most = room.most in
    let most_third = third.bytes in
    let most_second = second.bytes in
    let most_first = first.bytes in
    let most_none = none.bytes in
    record { rest = none.rest; below = none.below; bytes = omega arith }

-- ---- all blocks
pub live_fits : (l : LogState) (segment count end : ℕ) (at : ℕ → ℕ → ℕ) → end ≡ 4 * (segment * 64 + count)
    → ((a : ℕ) → HasRoom l.owner a) → AreBelow l segment end at
    → live_bytes l.numbers BLOCK_CODES at segment ≤ 512 * count
live_fits l segment zero end at is room h =
    let none = live-none l.numbers BLOCK_CODES at segment (λ n c low under some here.
    let before = (h.each n c low under some here).0 in absurd (omega arith)) in
    omega arith
live_fits l segment (suc count) end at is room h =
    let last : ℕ = segment * 64 + count in
    let less = block_less l segment last end at (omega arith) (room last) h in
    let rest = live_fits l segment count (4 * last) less.rest (omega arith) room less.below in
    let most = less.bytes in
    omega arith

-- ---- what the log names

-- all bytes are the first unit's
abbrev first_alone : ℕ → ℕ
first_alone zero = 512
first_alone (suc slot) = 0

-- the owner is a record in an inode block, or the block is named so, and the unit is the first
named_there : (m : SegmentMemory) (a slot : ℕ) (e : SummaryEntry) (o : Owner) → slot < 4 → entry_at m a ≡ Some e
    → named_at m (4 * a + slot) ≡ Some o
    → ((o.code ≡ 0) × (code_of (file_block_of e.block) ≡ 0)) ⊎ ((code_of (file_block_of e.block) ≡ o.code) × (slot ≡ 0))
unfolding named_at
named_there m a slot e o low is named =
    let address : (4 * a + slot) / 4 ≡ a = omega arith in
    let unit : (4 * a + slot) % 4 ≡ slot = omega arith in
    let found = owner_at-named (entry_at m) (record_at m) (4 * a + slot) o named in
    let same : found.0 ≡ e = same_Some found.0 e (sym found.1 ∙ ap (entry_at m) address ∙ is) in
    let block : code_of (file_block_of e.block) ≡ code_of (file_block_of found.0.block) =
    ap (λ (x : SummaryEntry). code_of (file_block_of x.block)) (sym same) in
    elim found.2 [
      | inl names ↦ inr (block ∙ names.code, sym unit ∙ names.first)
      | inr record_ ↦ inl (record_.code, block ∙ ap (λ (b : LogicalBlock). code_of (file_block_of b)) record_.inodes)
    ]

none_there : (m : SegmentMemory) (a slot : ℕ) (o : Owner) → slot < 4 → entry_at m a ≡ None
    → named_at m (4 * a + slot) ≡ Some o → ⊥
unfolding named_at
none_there m a slot o low is named =
    let address : (4 * a + slot) / 4 ≡ a = omega arith in
    let found = owner_at-named (entry_at m) (record_at m) (4 * a + slot) o named in
    none-some found.0 (sym is ∙ ap (entry_at m) (sym address) ∙ found.1)

room_by : (m : SegmentMemory) (a : ℕ) (named : Option SummaryEntry) → entry_at m a ≡ named → HasRoom (named_at m) a
room_by m a None is = record {
  bytes = λ slot. 0;
  each = λ slot o low named. absurd (none_there m a slot o low is named);
  most = omega arith;
}
room_by m a (Some e) is = elim (cases_eq (code_of (file_block_of e.block)) 0) [
  | inl records ↦ record {
    bytes = λ slot. 128;
    each = λ slot o low named.
        let coded : o.code ≡ 0 = ⊎_elim
        (λ (own : (o.code ≡ 0) × (code_of (file_block_of e.block) ≡ 0)). own.0)
        (λ (own : (code_of (file_block_of e.block) ≡ o.code) × (slot ≡ 0)). sym own.0 ∙ records)
        (named_there m a slot e o low is named) in
        let unit : units o.code ≡ 1 = cond-true _ _ _ (eq-eqb o.code 0 coded) in
        omega arith;
    most = omega arith;
  }
  | inr block ↦ record {
    bytes = first_alone;
    each = λ slot o low named. elim (named_there m a slot e o low is named) [
      | inl records ↦ absurd (block records.1)
      | inr own ↦
          let few = units-most o.code in
          let all : 128 * units o.code ≤ 512 = omega arith in
          subst (λ k. 128 * units o.code ≤ first_alone k) (sym own.1) all
    ];
    most = omega arith;
  }
]

pub has_room : (m : SegmentMemory) (a : ℕ) → HasRoom (named_at m) a
has_room m a = room_by m a (entry_at m a) refl
