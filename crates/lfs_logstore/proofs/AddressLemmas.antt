-- Items of a list are changed one after the other: `mapped_none`, `mapped_more` and `mapped_all`, for the loop of
-- `bmapv`. The first i items are changed and the others as they were (`mapped_below`); the loop sets item i to what the
-- function makes of it, which is still the old one, and in the end all are changed.
use Rattle.std.proofs.Common.{◌≡◌, ℕ, zero, suc, ◌<◌, ◌≤◌, List, [], ◌∷◌, length, get_or, refl, sym, ap, ◌∙◌, arith}
use Rattle.std.specs.Prelude.{map}
use Rattle.std.proofs.Math.ListN.{set}

-- the first items of a list changed by a function, and the others as they are
unfoldable pub mapped_below : {X : Type 0} → (X → X) → ℕ → List X → List X
mapped_below f zero xs = xs
mapped_below f (suc i) [] = []
mapped_below f (suc i) (x ∷ xs) = f x ∷ mapped_below f i xs

pub mapped_none : {X : Type 0} (f : X → X) (xs : List X) → xs ≡ mapped_below f 0 xs
unfolding mapped_below
mapped_none f xs = refl

mapped_next : {X : Type 0} (f : X → X) (i : ℕ) (xs : List X) (d : X) → i < length (mapped_below f i xs)
    → set (mapped_below f i xs) i (f (get_or (mapped_below f i xs) i d)) ≡ mapped_below f (suc i) xs
unfolding mapped_below
mapped_next f zero [] d low = absurd (omega arith)
mapped_next f zero (x ∷ xs) d low = refl
mapped_next f (suc i) [] d low = absurd (omega arith)
mapped_next f (suc i) (x ∷ xs) d low = ap (λ ys. f x ∷ ys) (mapped_next f i xs d (omega arith))

-- one more item is changed
pub mapped_more : {X : Type 0} (f : X → X) (i j : ℕ) (xs ys : List X) (d : X) → ys ≡ mapped_below f i xs → i < length ys
    → j ≡ suc i
    → set ys i (f (get_or ys i d)) ≡ mapped_below f j xs
mapped_more f i j xs ys d is low next =
    ap (λ zs. set zs i (f (get_or zs i d))) is
    ∙ mapped_next f i xs d (let same : length ys ≡ length (mapped_below f i xs) = ap length is in omega arith)
    ∙ ap (λ k. mapped_below f k xs) (sym next)

-- and then all are
pub mapped_all : {X : Type 0} (f : X → X) (i : ℕ) (xs : List X) → length xs ≤ i → mapped_below f i xs ≡ map f xs
unfolding mapped_below
mapped_all f zero [] all = refl
mapped_all f zero (x ∷ xs) all = absurd (omega arith)
mapped_all f (suc i) [] all = refl
mapped_all f (suc i) (x ∷ xs) all = ap (λ ys. f x ∷ ys) (mapped_all f i xs (omega arith))
