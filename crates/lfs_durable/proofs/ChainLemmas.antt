-- Chains of partial segments: where one stands (`in_chain`), that a chain stays one where each summary and each last block
-- stays (`chain_same`), and that each of a chain from where a log begins is one of the log (`chain_logged`).
use Rattle.std.proofs.Common.{◌≡◌, ◌⊎◌, ℕ, zero, suc, ◌+◌, ◌*◌, ◌<◌, ◌≤◌, true, List, [], ◌∷◌, None}
use Rattle.std.proofs.Common.{get_or, inl, inr, length, refl, sym, ap, subst, ◌∙◌, ⊎_elim, arith}
use Rattle.std.specs.List.{Contains}
use Rattle.std.proofs.lemmas.Bool.{false≢true}
use Rattle.std.proofs.lemmas.List.Elements.{Contains-append_right}
use Rattle.std.proofs.lemmas.Option.{same_Some}
use Rattle.lfs_types.specs.Blocks.{zero_block}
use Rattle.lfs_inodes.specs.Reading.{fields_in}
use Rattle.lfs_inodes.specs.Slots.{slot_of}
use Rattle.lfs_inodes.proofs.FieldsRead.{fields_in-unused}
use Rattle.lfs_segments.specs.Memory.{SegmentMemory, block_at}
use Rattle.lfs_segments.specs.Serial.{Told, told_in}
use Rattle.lfs_segments.proofs.BytesLemmas.{get_or-replicate_same}
use Rattle.lfs_segments.proofs.SerialLemmas.{told_in-zero}
use Rattle.lfs_recovery.specs.declared.places.PartialSegment.{PartialSegment}
use Rattle.lfs_recovery.specs.Course.{end_of, partials}
use Rattle.lfs_recovery.specs.Logs.{IsChain, IsLink, IsLog, IsLogged, IsLongest, log_place}
use Rattle.lfs_recovery.specs.Whole.{IsWhole, has_record, is_there}
use Rattle.lfs_recovery.proofs.LogLemmas.{partials-logs}

-- ---- the first of a list and the others

cons_at : {A : Type 0} (q p : A) (rest : List A) (k : ℕ) → k < length (q ∷ rest) → get_or (q ∷ rest) k p ≡ p
    → (q ≡ p) ⊎ Contains rest p
cons_at q p rest zero low e = inl e
cons_at q p rest (suc k) low e = inr (k, omega arith, e)

pub cons_cases : {A : Type 0} (q p : A) (rest : List A) → Contains (q ∷ rest) p → (q ≡ p) ⊎ Contains rest p
cons_cases q p rest there = cons_at q p rest there.0 there.1 there.2

pub cons_there : {A : Type 0} (q p : A) (rest : List A) → Contains rest p → Contains (q ∷ rest) p
cons_there q p rest there = Contains-append_right (q ∷ []) rest p there

pub cons_first : {A : Type 0} (q : A) (rest : List A) → Contains (q ∷ rest) q
cons_first q rest = (0, omega arith, refl)

-- ---- chains

-- where a partial segment of a chain stands
pub record IsInChain (m : SegmentMemory) (segment address above : ℕ) (p : PartialSegment) : Type 0 where
  pub whole : IsWhole m p
  pub low : address ≤ p.address
  pub high : p.address + p.count < (segment + 1) * 64
  pub rises : above < p.serial

pub in_chain : (m : SegmentMemory) (segment address above : ℕ) (ps : List PartialSegment) (p : PartialSegment)
    → IsChain m segment address above ps → Contains ps p → IsInChain m segment address above p
in_chain m segment address above [] p chain there = let below = there.1 in absurd (omega arith)
in_chain m segment address above (q ∷ rest) p chain there = ⊎_elim
    (λ (same : q ≡ p). subst (λ (r : PartialSegment). IsInChain m segment address above r) same (record {
      whole = chain.0.whole;
      low = let at = chain.0.place in omega arith;
      high = chain.0.inside;
      rises = chain.0.rises;
    }))
    (λ (behind : Contains rest p).
    let at = chain.0.place in
    let newer = chain.0.rises in
    let is = in_chain m segment (q.address + 1 + q.count) q.serial rest p chain.1 behind in
    let low = is.low in
    let rises = is.rises in
    record { whole = is.whole; low = omega arith; high = is.high; rises = omega arith })
    (cons_cases q p rest there)

-- ---- the same blocks

-- two memories have the same summary and the same last block of a partial segment
abbrev pub HasSame : SegmentMemory → SegmentMemory → PartialSegment → Type 0
HasSame m n p = (block_at n p.address ≡ block_at m p.address)
    × (block_at n (p.address + p.count) ≡ block_at m (p.address + p.count))

pub whole_same : (m n : SegmentMemory) (p : PartialSegment) → HasSame m n p → IsWhole m p → IsWhole n p
unfolding has_record
whole_same m n p same w = record {
  told = w.told;
  spelled = ap (λ (b : List ℕ). told_in b) same.0 ∙ w.spelled;
  serial = w.serial;
  count = w.count;
  segment = w.segment;
  offset = w.offset;
  last = w.last;
  record_there = ap (λ (b : List ℕ). is_there (fields_in (slot_of b 0))) same.1 ∙ w.record_there;
}

pub chain_same : (m n : SegmentMemory) (segment address above : ℕ) (ps : List PartialSegment)
    → ((p : PartialSegment) → Contains ps p → HasSame m n p) → IsChain m segment address above ps
    → IsChain n segment address above ps
chain_same m n segment address above [] same chain = tt
chain_same m n segment address above (q ∷ rest) same chain =
    let link : IsLink n segment address above q = record {
      whole = whole_same m n q (same q (cons_first q rest)) chain.0.whole;
      place = chain.0.place;
      inside = chain.0.inside;
      rises = chain.0.rises;
    } in (
      link,
      chain_same m n segment (q.address + 1 + q.count) q.serial rest
          (λ p in_rest. same p (cons_there q p rest in_rest)) chain.1,
    )

-- zeros are no summary
pub zeros_tell : told_in zero_block ≡ None
unfolding zero_block
zeros_tell = told_in-zero zero_block (omega (
  arith,
  get_or-replicate_same {A = ℕ} 512 0 12,
  get_or-replicate_same {A = ℕ} 512 0 13,
  get_or-replicate_same {A = ℕ} 512 0 14,
  get_or-replicate_same {A = ℕ} 512 0 15,
))

-- nor is a block of them the last one of a whole partial segment
pub zeros_last : (n : SegmentMemory) (a : ℕ) → block_at n a ≡ zero_block → has_record n a ≡ true → ⊥
unfolding has_record
zeros_last n a zeros there =
    absurd (false≢true (sym (ap is_there (fields_in-unused (block_at n a) 0 (omega arith) zeros)) ∙ there))

-- ---- logs

-- the partial segment at an address is one
link_one : (m : SegmentMemory) (segment address above : ℕ) (p q : PartialSegment) → IsLink m segment address above p
    → IsLink m segment address above q → p ≡ q
link_one m segment address above p q a b =
    let place : p.address ≡ q.address = a.place ∙ sym b.place in
    let told : a.whole.told ≡ b.whole.told = same_Some a.whole.told b.whole.told
    (sym a.whole.spelled ∙ ap (λ (n : ℕ). told_in (block_at m n)) place ∙ b.whole.spelled) in
    let serial : p.serial ≡ q.serial = sym a.whole.serial ∙ ap (λ (t : Told). t.serial) told ∙ b.whole.serial in
    let count : p.count ≡ q.count = sym a.whole.count ∙ ap (λ (t : Told). length t.entries) told ∙ b.whole.count in
    λ i. record { serial = serial i; address = place i; count = count i }

-- a longest chain has each of another one
chain_longest : (m : SegmentMemory) (segment address above : ℕ) (ps qs : List PartialSegment) (p : PartialSegment)
    → IsChain m segment address above ps → IsLongest m segment address above qs → Contains ps p → Contains qs p
chain_longest m segment address above [] qs p chain longest there = let below = there.1 in absurd (omega arith)
chain_longest m segment address above (r ∷ ps) [] p chain longest there = absurd (longest.ended r (chain.0, tt))
chain_longest m segment address above (r ∷ ps) (q ∷ qs) p chain longest there =
    let same : r ≡ q = link_one m segment address above r q chain.0 longest.chain.0 in
    let rest : IsLongest m segment (q.address + 1 + q.count) q.serial qs =
    record { chain = longest.chain.1; ended = λ s is. longest.ended s (longest.chain.0, is) } in
    ⊎_elim
    (λ (first : r ≡ p). subst (λ (s : PartialSegment). Contains (q ∷ qs) s) (sym same ∙ first) (cons_first q qs))
    (λ (behind : Contains ps p). cons_there q p qs (chain_longest m segment (q.address + 1 + q.count) q.serial ps qs p
    (subst (λ (s : PartialSegment). IsChain m segment (s.address + 1 + s.count) s.serial ps) same chain.1) rest behind))
    (cons_cases r p ps there)

pub chain_logged : (m : SegmentMemory) (segment : ℕ) (ps : List PartialSegment) (p : PartialSegment)
    → segment < m.segments → IsChain m segment (log_place segment) 0 ps → Contains ps p → IsLogged m p
chain_logged m segment ps p below chain there =
    let logs = partials-logs m (partials m (end_of m)) refl in
    let is : IsLog m segment (logs.logs segment) = logs.each segment below in
    record {
      segment = segment;
      log = logs.logs segment;
      below = below;
      is = is;
      there = chain_longest m segment (log_place segment) 0 ps (logs.logs segment) p chain is there;
    }
