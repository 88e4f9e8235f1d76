-- Numbers in a summary's bytes stay where these stay, and equal numbers have equal bytes: `word_kept` and `half_kept`
-- for `encode`, `word_bytes` and `half_bytes` for EntryLemmas and SummaryLemmas. A number is its bytes weighed by
-- powers of 256, and each is below 256 (IsBlock), so it fixes them. Without that bound two blocks could spell the same
-- summary, and a summary wouldn't be told by its bytes.
use Rattle.std.proofs.Common.{◌≡◌, ℕ, zero, suc, ◌+◌, ◌-◌, ◌<◌, ◌≤◌, List, length, get_or, slice_index, take, drop}
use Rattle.std.proofs.Common.{replicate, refl, sym, ap, ◌∙◌, ⊎_elim, arith}
use Rattle.std.proofs.lemmas.Bool.{cases_lt}
use Rattle.std.proofs.lemmas.List.{length-take, length-drop, get_or-take, get_or-drop, get_or_past}
use Rattle.lfs_segments.specs.Bytes.{IsBlock, word_at, half_at}

-- past the end of a list of one value, the default is that value too
pub get_or-replicate_same : {A : Type 0} (n : ℕ) (a : A) (i : ℕ) → get_or (replicate n a) i a ≡ a
get_or-replicate_same zero a i = refl
get_or-replicate_same (suc n) a zero = refl
get_or-replicate_same (suc n) a (suc i) = get_or-replicate_same n a i

pub word_kept : (xs ys : List ℕ) (place : ℕ)
    → ((i : ℕ) → place ≤ i → i < place + 4 → slice_index ys i ≡ slice_index xs i) → word_at ys place ≡ word_at xs place
word_kept xs ys place same =
    omega (
      arith,
      same place (omega arith) (omega arith),
      same (place + 1) (omega arith) (omega arith),
      same (place + 2) (omega arith) (omega arith),
      same (place + 3) (omega arith) (omega arith),
    )

pub half_kept : (xs ys : List ℕ) (place : ℕ)
    → ((i : ℕ) → place ≤ i → i < place + 2 → slice_index ys i ≡ slice_index xs i) → half_at ys place ≡ half_at xs place
half_kept xs ys place same =
    omega (arith, same place (omega arith) (omega arith), same (place + 1) (omega arith) (omega arith))

-- equal numbers have equal bytes
pub word_bytes : (xs ys : List ℕ) (place i : ℕ) → IsBlock xs → IsBlock ys → word_at xs place ≡ word_at ys place
    → place ≤ i → i < place + 4 → slice_index xs i ≡ slice_index ys i
word_bytes xs ys place i p q e low high =
    let a = p.bytes_below place in
    let b = p.bytes_below (place + 1) in
    let c = p.bytes_below (place + 2) in
    let d = p.bytes_below (place + 3) in
    let f = q.bytes_below place in
    let g = q.bytes_below (place + 1) in
    let h = q.bytes_below (place + 2) in
    let j = q.bytes_below (place + 3) in
    ⊎_elim
    (λ lt. let at : i ≡ place = omega arith in let goal : slice_index xs place
    ≡ slice_index ys place = omega arith in rw at goal)
    (λ ge. ⊎_elim
    (λ lt. let at : i ≡ place + 1 = omega arith in let goal : slice_index xs (place + 1)
    ≡ slice_index ys (place + 1) = omega arith in rw at goal)
    (λ ge. ⊎_elim
    (λ lt. let at : i ≡ place + 2 = omega arith in let goal : slice_index xs (place + 2)
    ≡ slice_index ys (place + 2) = omega arith in rw at goal)
    (λ ge. let at : i ≡ place + 3 = omega arith in let goal : slice_index xs (place + 3)
    ≡ slice_index ys (place + 3) = omega arith in rw at goal)
    (cases_lt i (place + 3)))
    (cases_lt i (place + 2)))
    (cases_lt i (place + 1))

pub half_bytes : (xs ys : List ℕ) (place i : ℕ) → IsBlock xs → IsBlock ys → half_at xs place ≡ half_at ys place
    → place ≤ i → i < place + 2 → slice_index xs i ≡ slice_index ys i
half_bytes xs ys place i p q e low high =
    let a = p.bytes_below place in
    let b = p.bytes_below (place + 1) in
    let f = q.bytes_below place in
    let g = q.bytes_below (place + 1) in
    ⊎_elim
    (λ lt. let at : i ≡ place = omega arith in let goal : slice_index xs place
    ≡ slice_index ys place = omega arith in rw at goal)
    (λ ge. let at : i ≡ place + 1 = omega arith in let goal : slice_index xs (place + 1)
    ≡ slice_index ys (place + 1) = omega arith in rw at goal)
    (cases_lt i (place + 1))

-- zeros in the rest of a list are zeros from there on
pub zero_to_end : (bytes : List ℕ) (n m : ℕ) → length bytes ≤ m
    → ((i : ℕ) → i < length (take (m - n) (drop n bytes)) → slice_index (take (m - n) (drop n bytes)) i ≡ 0) → (i : ℕ)
    → n ≤ i → slice_index bytes i ≡ 0
zero_to_end bytes n m long are_zero i from = ⊎_elim
    (λ (inside : i < length bytes). let lt : i - n < m - n = omega arith in
    let fits : i - n < length (take (m - n) (drop n bytes)) = simp (length-take, length-drop) (omega arith) in
    let at : n + (i - n) ≡ i = omega arith in
    ap (λ (j : ℕ). slice_index bytes j) (sym at) ∙ sym (get_or-drop n bytes (i - n) 0)
    ∙ sym (get_or-take (m - n) (drop n bytes) (i - n) 0 lt) ∙ are_zero (i - n) fits)
    (λ past. get_or_past bytes i 0 past)
    (cases_lt i (length bytes))
