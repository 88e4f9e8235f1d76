-- Bytes that are filled up with zeros and then written over are spliced: `splice_filled`, for the splices of this crate
-- and of lfs_opens. The bytes are filled up as far as the new ones reach. Before these stand the old bytes and zeros up
-- to them, and behind them stand old bytes only, as no zeros were added past their end (`take_filled`, `drop_filled`).
use Rattle.std.proofs.Common.{◌≡◌, ℕ, zero, suc, ◌+◌, ◌-◌, ◌<◌, ◌≤◌, List, [], ◌∷◌, ◌++◌, length, take, drop, replicate}
use Rattle.std.proofs.Common.{refl, sym, ap, ◌∙◌, arith}
use Rattle.std.proofs.lemmas.List.{append-nil, take-replicate, drop-replicate}
use Rattle.lfs_types.specs.Splicing.{splice}

take_nil : (n : ℕ) → take n (let none : List ℕ = [] in none) ≡ []
take_nil zero = refl
take_nil (suc n) = refl

drop_nil : (n : ℕ) → drop n (let none : List ℕ = [] in none) ≡ []
drop_nil zero = refl
drop_nil (suc n) = refl

none_left : (n : ℕ) → n ≡ 0 → replicate n (let z : ℕ = 0 in z) ≡ []
none_left n h = rw h refl

take_filled : (old : List ℕ) (off n : ℕ) → off ≤ length old + n → take off (old ++ replicate n 0) ≡ take off old
    ++ replicate (off - length old) 0
take_filled [] off n h =
    let whole : off ≡ off - 0 = omega arith in
    rw (take_nil off) (take-replicate off n 0 (omega arith) ∙ ap (λ k. replicate k 0) whole)
take_filled (x ∷ xs) zero n h = sym (none_left _ (omega arith))
take_filled (x ∷ xs) (suc off) n h =
    let same : off - length xs ≡ suc off - suc (length xs) = omega arith in
    ap (λ ys. x ∷ ys) (take_filled xs off n (omega arith) ∙ ap (λ k. take off xs ++ replicate k 0) same)

drop_filled : (old : List ℕ) (end n : ℕ) → n ≡ end - length old → drop end (old ++ replicate n 0) ≡ drop end old
drop_filled [] end n h = drop-replicate end n 0 ∙ none_left _ (omega arith) ∙ sym (drop_nil end)
drop_filled (x ∷ xs) zero n h = rw (none_left n (omega arith)) (append-nil (x ∷ xs))
drop_filled (x ∷ xs) (suc end) n h = drop_filled xs end n (omega arith)

-- bytes put into a file that was filled up to their end with zeros are spliced into it
pub splice_filled : (old : List ℕ) (off : ℕ) (bytes : List ℕ) → 0 < length bytes
    → take off (old ++ replicate (off + length bytes - length old) 0) ++ bytes
    ++ drop (off + length bytes) (old ++ replicate (off + length bytes - length old) 0) ≡ splice old off bytes
splice_filled old off [] h = absurd (omega arith)
splice_filled old off (b ∷ bs) h =
    rw (
      take_filled old off (off + length (b ∷ bs) - length old) (omega arith),
      drop_filled old (off + length (b ∷ bs)) (off + length (b ∷ bs) - length old) refl,
    ) refl
