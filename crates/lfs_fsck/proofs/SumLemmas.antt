-- Sums that grow by one, and how big they get, for KeyLemmas: `total-more` and `live-more` for a number or a code more,
-- `total-most` and `live-most` for the bound. A block is four units and a record one, so each weighs at most 512 bytes
-- (`weight-most`), and a sum over so many codes of so many numbers is at most 512 times their product; so none
-- overflows.
use Rattle.std.proofs.Common.{◌≡◌, ℕ, zero, suc, ◌+◌, ◌*◌, ◌≤◌, add-one, inl, inr, refl, ap, ◌∙◌, arith}
use Rattle.std.proofs.lemmas.Bool.{cases_eq, cond-true, cond-false, eq-eqb, ne_eqb}
use Rattle.lfs_bmap.specs.Counting.{live_bytes, seg_of, total, units, weight_of}
use Rattle.lfs_bmap.proofs.CountingLemmas.{weight-none, weight-here, weight-elsewhere}

pub total-more : (f : ℕ → ℕ) (n : ℕ) → total f (n + 1) ≡ f n + total f n
unfolding total
total-more f n = ap (total f) (add-one n)

pub total-most : (f : ℕ → ℕ) (b n : ℕ) → ((k : ℕ) → f k ≤ b) → total f n ≤ b * n
unfolding total
total-most f b zero h = omega arith
total-most f b (suc n) h =
    let last = h n in
    let rest = total-most f b n h in
    let more : b * suc n ≡ b + b * n = omega arith in
    omega arith

pub units-most : (code : ℕ) → units code ≤ 4
units-most code = elim (cases_eq code 0) [
  | inl none ↦ let e : units code ≡ 1 = cond-true _ _ _ (eq-eqb code 0 none) in omega arith
  | inr some ↦ let e : units code ≡ 4 = cond-false _ _ _ (ne_eqb code 0 some) in omega arith
]

pub weight-most : (place segment code : ℕ) → weight_of place segment code ≤ 512
weight-most place segment code =
    let most = units-most code in
    elim (cases_eq place 0) [
      | inl none ↦ omega (arith, ap (λ p. weight_of p segment code) none ∙ weight-none segment code)
      | inr some ↦ elim (cases_eq (seg_of place) segment) [
        | inl here ↦ omega (arith, weight-here place segment code some here)
        | inr other ↦ omega (arith, weight-elsewhere place segment code other)
      ]
    ]

pub live-more : (numbers codes : ℕ) (at : ℕ → ℕ → ℕ) (segment : ℕ)
    → live_bytes (numbers + 1) codes at segment ≡ total (λ c. weight_of (at numbers c) segment c) codes
    + live_bytes numbers codes at segment
unfolding live_bytes
live-more numbers codes at segment = total-more (λ n. total (λ c. weight_of (at n c) segment c) codes) numbers

pub live-first : (codes : ℕ) (at : ℕ → ℕ → ℕ) (segment : ℕ) → live_bytes 0 codes at segment ≡ 0
unfolding live_bytes total
live-first codes at segment = refl

pub total-first : (f : ℕ → ℕ) → total f 0 ≡ 0
unfolding total
total-first f = refl

pub live-most : (numbers codes : ℕ) (at : ℕ → ℕ → ℕ) (segment : ℕ)
    → live_bytes numbers codes at segment ≤ 512 * codes * numbers
unfolding live_bytes
live-most numbers codes at segment =
    total-most (λ n. total (λ c. weight_of (at n c) segment c) codes) (512 * codes) numbers
    (λ n. total-most (λ c. weight_of (at n c) segment c) 512 codes (λ c. weight-most (at n c) segment c))
