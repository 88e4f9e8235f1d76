-- When one key gets another place, the live bytes of each segment change by that key's weight (`live-placed`), and they
-- are 0 just where no key lies in it (`live-none`, `live-empty`): LogLemmas and SegmentLemmas stand on these. Both sums
-- go by induction on their bound; with one term changed the two sums differ in that term (`total-changed`), used for
-- the row of the number and then for the code in it. `live-empty` needs that a placed key weighs something
-- (`units-some`): a kind of block of weight 0 would let its segment be cleaned.
use Rattle.std.proofs.Common.{◌≡◌, ◌≢◌, ℕ, zero, suc, ◌+◌, ◌*◌, ◌<◌, ◌≤◌, ◌⊎◌, inl, inr, refl, ap, ◌∙◌, arith}
use Rattle.std.proofs.lemmas.Bool.{cases_eq, cond-true, cond-false, eq-eqb, ne_eqb, and_from, and_left, and_right}
use Rattle.lfs_bmap.specs.Counting.{seg_of, units, total, weight_of, live_bytes, placed}

-- sums of functions that agree below the bound
pub total-same : (f g : ℕ → ℕ) (n : ℕ) → ((k : ℕ) → k < n → f k ≡ g k) → total f n ≡ total g n
unfolding total
total-same f g zero h = refl
total-same f g (suc n) h =
    let last : f n ≡ g n = h n (omega arith) in
    let rest : total f n ≡ total g n = total-same f g n (λ k below. h k (omega arith)) in
    omega arith

-- and of functions that differ at one number
pub total-changed : (f g : ℕ → ℕ) (n i : ℕ) → i < n → ((k : ℕ) → k < n → k ≢ i → f k ≡ g k) → total f n + g i
    ≡ total g n + f i
unfolding total
total-changed f g zero i below h = absurd (omega arith)
total-changed f g (suc n) i below h =
    elim (cases_eq n i) [
      | inl e ↦
          let rest : total f n ≡ total g n = total-same f g n
          (λ k less. h k (omega arith) (λ same. absurd (omega arith))) in
          let fs : f n ≡ f i = ap f e in
          let gs : g n ≡ g i = ap g e in
          omega arith
      | inr ne ↦
          let last : f n ≡ g n = h n (omega arith) ne in
          let rest : total f n + g i ≡ total g n + f i =
          total-changed f g n i (omega arith) (λ k less. h k (omega arith)) in
          omega arith
    ]

-- each part is at most the sum
pub total-part : (f : ℕ → ℕ) (n k : ℕ) → k < n → f k ≤ total f n
unfolding total
total-part f zero k h = absurd (omega arith)
total-part f (suc n) k h =
    elim (cases_eq k n) [
      | inl e ↦ let same : f k ≡ f n = ap f e in omega arith
      | inr ne ↦ let rest : f k ≤ total f n = total-part f n k (omega arith) in omega arith
    ]

-- a sum of zeros is zero
pub total-zero : (f : ℕ → ℕ) (n : ℕ) → ((k : ℕ) → k < n → f k ≡ 0) → total f n ≡ 0
unfolding total
total-zero f zero h = refl
total-zero f (suc n) h =
    let last : f n ≡ 0 = h n (omega arith) in
    let rest : total f n ≡ 0 = total-zero f n (λ k below. h k (omega arith)) in
    omega arith

-- What a key gives a segment, by its place.
pub weight-none : (segment code : ℕ) → weight_of 0 segment code ≡ 0
unfolding weight_of
weight-none segment code = refl

pub weight-here : (place segment code : ℕ) → place ≢ 0 → seg_of place ≡ segment → weight_of place segment code
    ≡ 128 * units code
unfolding weight_of
weight-here place segment code some here =
    cond-false _ _ _ (ne_eqb place 0 some) ∙ cond-true _ _ _ (eq-eqb (seg_of place) segment here)

pub weight-elsewhere : (place segment code : ℕ) → seg_of place ≢ segment → weight_of place segment code ≡ 0
unfolding weight_of
weight-elsewhere place segment code away =
    elim (cases_eq place 0) [
      | inl none ↦ cond-true _ _ _ (eq-eqb place 0 none)
      | inr some ↦ cond-false _ _ _ (ne_eqb place 0 some) ∙ cond-false _ _ _ (ne_eqb (seg_of place) segment away)
    ]

units-some : (code : ℕ) → 1 ≤ units code
units-some code =
    elim (cases_eq code 0) [
      | inl e ↦ let is : units code ≡ 1 = cond-true _ _ _ (eq-eqb code 0 e) in omega arith
      | inr ne ↦ let is : units code ≡ 4 = cond-false _ _ _ (ne_eqb code 0 ne) in omega arith
    ]

-- a key without weight in a segment has no place there
pub weight-zero : (place segment code : ℕ) → place ≢ 0 → weight_of place segment code ≡ 0 → seg_of place ≢ segment
weight-zero place segment code some none here =
    let full = weight-here place segment code some here in
    let many = units-some code in
    omega arith

-- The places with one changed, at that key and at another.
pub placed-here : (at : ℕ → ℕ → ℕ) (number code place : ℕ) → placed at number code place number code ≡ place
placed-here at number code place =
    cond-true _ _ _ (and_from _ _ (eq-eqb number number refl) (eq-eqb code code refl))

pub placed-number : (at : ℕ → ℕ → ℕ) (number code place n c : ℕ) → n ≢ number → placed at number code place n c ≡ at n c
placed-number at number code place n c ne = cond-false _ _ _ (and_left _ _ (ne_eqb n number ne))

pub placed-code : (at : ℕ → ℕ → ℕ) (number code place n c : ℕ) → c ≢ code → placed at number code place n c ≡ at n c
placed-code at number code place n c ne = cond-false _ _ _ (and_right _ _ (ne_eqb c code ne))

-- a key is the one that was placed, or its place is the old one
pub placed-cases : (at : ℕ → ℕ → ℕ) (number code place n c : ℕ)
    → ((n ≡ number) × (c ≡ code) × (placed at number code place n c ≡ place))
    ⊎ (((n ≢ number) ⊎ (c ≢ code)) × (placed at number code place n c ≡ at n c))
placed-cases at number code place n c =
    elim (cases_eq n number) [
      | inl e ↦ elim (cases_eq c code) [
        | inl f ↦ inl (e, f, cond-true _ _ _ (and_from _ _ (eq-eqb n number e) (eq-eqb c code f)))
        | inr ne ↦ inr (inr ne, placed-code at number code place n c ne)
      ]
      | inr ne ↦ inr (inl ne, placed-number at number code place n c ne)
    ]

module _ (numbers codes : ℕ) where
  -- live bytes depend on the places of the keys alone
  pub live-same : (at others : ℕ → ℕ → ℕ) (segment : ℕ) → ((n c : ℕ) → n < numbers → c < codes → at n c ≡ others n c)
      → live_bytes numbers codes at segment ≡ live_bytes numbers codes others segment
  unfolding live_bytes
  live-same at others segment h =
      total-same _ _ numbers (λ n low. total-same _ _ codes
      (λ c below. ap (λ p. weight_of p segment c) (h n c low below)))

  -- Where one key gets another place, each segment loses what the old place gave it and gains what the new one gives.
  pub live-placed : (at : ℕ → ℕ → ℕ) (number code place segment : ℕ) → number < numbers → code < codes
      → live_bytes numbers codes (placed at number code place) segment + weight_of (at number code) segment code
      ≡ live_bytes numbers codes at segment + weight_of place segment code
  unfolding live_bytes
  live-placed at number code place segment low below =
      let row : (ℕ → ℕ → ℕ) → ℕ → ℕ = λ ps n. total (λ c. weight_of (ps n c) segment c) codes in
      let new : ℕ → ℕ → ℕ = placed at number code place in
      let rows : total (row new) numbers + row at number ≡ total (row at) numbers + row new number =
      total-changed (row new) (row at) numbers number low
      (λ n less ne. total-same _ _ codes (λ c under. ap (λ p. weight_of p segment c)
      (placed-number at number code place n c ne))) in
      let cells : row new number + weight_of (at number code) segment code ≡ row at number
      + weight_of (new number code) segment code =
      total-changed (λ c. weight_of (new number c) segment c) (λ c. weight_of (at number c) segment c) codes code below
      (λ c under ne. ap (λ p. weight_of p segment c) (placed-code at number code place number c ne)) in
      let here : weight_of (new number code) segment code ≡ weight_of place segment code =
      ap (λ p. weight_of p segment code) (placed-here at number code place) in
      omega arith

  -- no key in a segment: no live bytes
  pub live-none : (at : ℕ → ℕ → ℕ) (segment : ℕ)
      → ((n c : ℕ) → n < numbers → c < codes → at n c ≢ 0 → seg_of (at n c) ≢ segment)
      → live_bytes numbers codes at segment ≡ 0
  unfolding live_bytes
  live-none at segment h =
      total-zero _ numbers (λ n low. total-zero _ codes (λ c below. elim (cases_eq (at n c) 0) [
        | inl none ↦ ap (λ p. weight_of p segment c) none ∙ weight-none segment c
        | inr some ↦ weight-elsewhere (at n c) segment c (h n c low below some)
      ]))

  -- what one key gives is at most the live bytes
  pub live-part : (at : ℕ → ℕ → ℕ) (segment n c : ℕ) → n < numbers → c < codes
      → weight_of (at n c) segment c ≤ live_bytes numbers codes at segment
  unfolding live_bytes
  live-part at segment n c low below =
      let cell = total-part (λ d. weight_of (at n d) segment d) codes c below in
      let row = total-part (λ m. total (λ d. weight_of (at m d) segment d) codes) numbers n low in
      omega arith

  -- no live bytes: no key in the segment
  pub live-empty : (at : ℕ → ℕ → ℕ) (segment : ℕ) → live_bytes numbers codes at segment ≡ 0
      → (n c : ℕ) → n < numbers → c < codes → at n c ≢ 0 → seg_of (at n c) ≢ segment
  live-empty at segment empty n c low below some =
      let part = live-part at segment n c low below in
      weight-zero (at n c) segment c some (omega arith)
