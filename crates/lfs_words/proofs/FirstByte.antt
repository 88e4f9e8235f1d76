-- Where a search finds the first byte of a text.
use Rattle.std.proofs.Common.{◌≡◌, ◌==◌, ℕ, List, length, Option, None, Some, sym, ◌∙◌, arith, ap}
use Rattle.std.specs.Prelude.{nat_lt}
use Rattle.std.specs.List.{position}
use Rattle.std.proofs.lemmas.Bool.{cond-false, cond-true, false_from_ne_true, le-ltb, lt-ltb}
use Rattle.std.proofs.lemmas.List.Sums.{position_or_len_is}
use Rattle.memchr.specs.Find.{IsFirstByte, is_byte}

-- the place that a search gives is the first where the byte stands
pub first_place : (a : ℕ) (text : List ℕ) (r : Option ℕ) → IsFirstByte (is_byte a) text r → r
    ≡ position (λ b. b == a) text
first_place a text None nowhere =
    let at_end = position_or_len_is (λ b. b == a) text (length text) 0 (omega arith)
    (λ k low. false_from_ne_true _ (nowhere k (omega arith) low)) (λ past. absurd (omega arith)) in
    sym (cond-false _ _ _ (ap (λ n. nat_lt n (length text)) at_end ∙ le-ltb (length text) (length text) (omega arith)))
first_place a text (Some k) found =
    let at = position_or_len_is (λ b. b == a) text k 0 (let high = found.0.high in omega arith)
    (λ i low. false_from_ne_true _ (found.0.before i (omega arith) low)) (λ within. found.1) in
    sym (cond-true _ _ _ (ap (λ n. nat_lt n (length text)) at ∙ lt-ltb k (length text) found.0.high) ∙ ap Some at)

-- so it is of a text whose bytes were searched
pub first_place_of : (a : ℕ) (text bytes : List ℕ) (r : Option ℕ) → bytes ≡ text → IsFirstByte (is_byte a) bytes r → r
    ≡ position (λ b. b == a) text
first_place_of a text bytes r same found = first_place a bytes r found ∙ ap (position (λ b. b == a)) same
