-- A list that is padded with zeros to a length is given back by its front.
use Rattle.std.proofs.Common.{◌≡◌, ℕ, ◌-◌, ◌≤◌, List, ◌++◌, length, take, drop, replicate, ap, sym, ◌∙◌, arith}
use Rattle.std.proofs.Common.{length-take, take-append-drop}

pub length_front : (count : ℕ) (xs : List ℕ) → count ≤ length xs → length (take count xs) ≡ count
length_front count xs h = simp length-take (omega arith)

pub padded_front : (n count : ℕ) (xs : List ℕ) → length xs ≡ n → count ≤ n → drop count xs ≡ replicate (n - count) 0
    → take count xs ++ replicate (n - length (take count xs)) 0 ≡ xs
padded_front n count xs whole within zeros =
    let front : length (take count xs) ≡ count = length_front count xs (omega arith) in
    rw front (ap (λ r. take count xs ++ r) (sym zeros) ∙ take-append-drop count xs)
