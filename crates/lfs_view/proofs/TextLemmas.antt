-- Texts grow by their lines and signs.
use Rattle.std.proofs.Common.{◌≡◌, ℕ, suc, ◌+◌, List, [], ◌∷◌, ◌++◌, map, replicate}
use Rattle.std.proofs.Common.{sym, ap, ◌∙◌, append_assoc, append-nil, arith}
use Rattle.std.proofs.lemmas.List.{replicate_more}
use Rattle.lfs_parts.specs.declared.parts.Parts.{Parts}
use Rattle.lfs_view.specs.Cells.{cells_of}
use Rattle.lfs_view.specs.MapText.{cell_sign, row_text, rows_below, use_text}
use Rattle.lfs_view.specs.declared.cells.Cell.{Cell}

-- one more space
pub spaces_more : (out done new : List ℕ) (n : ℕ) → done ≡ out ++ replicate n 32 → new ≡ done ++ 32 ∷ [] → new ≡ out
    ++ replicate (n + 1) 32
spaces_more out done new n so_far grown =
    grown ∙ ap (λ (xs : List ℕ). xs ++ 32 ∷ []) so_far ∙ append_assoc out (replicate n 32) (32 ∷ [])
    ∙ ap (λ (xs : List ℕ). out ++ xs) (replicate_more n 32)

-- a row, part by part
pub row_added : (p : Parts) (segment : ℕ) (out a b c new : List ℕ) (slice cells : List Cell) → a ≡ out
    ++ use_text p segment → b ≡ a ++ 32 ∷ [] → slice ≡ cells → cells ≡ cells_of p segment
    → c ≡ b ++ map cell_sign slice → new ≡ c ++ 10 ∷ [] → new ≡ out ++ row_text p segment
unfolding row_text
row_added p segment out a b c new slice cells one two same all three four =
    rw (four, three, same, all, two, one) (simp append_assoc)

-- one more row, and all of them
pub rows_none : (p : Parts) (out : List ℕ) → out ≡ out ++ rows_below p 0
unfolding rows_below
rows_none p out = sym (append-nil out)

pub rows_more : (p : Parts) (out done new : List ℕ) (n : ℕ) → done ≡ out ++ rows_below p n → new ≡ done ++ row_text p n
    → new ≡ out ++ rows_below p (n + 1)
unfolding rows_below
rows_more p out done new n so_far grown =
    let one : n + 1 ≡ suc n = omega arith in
    rw (grown, so_far, one) (append_assoc out (rows_below p n) (row_text p n))
