-- Bytes compared piece by piece: `piece_is` for `has_piece`, `more_pieces` and `all_pieces` for `has_bytes`. So many
-- pieces and one more are the first bytes up to the end of that one.
use Rattle.std.proofs.Common.{◌≡◌, ℕ, ◌+◌, ◌-◌, ◌*◌, ◌≤◌, List, ◌++◌, length, take, drop, sym, ap, ◌∙◌, ⊎_elim, arith}
use Rattle.std.proofs.Math.Seq.{take-add}
use Rattle.std.proofs.lemmas.Bool.{cases_lt}
use Rattle.std.proofs.lemmas.List.{length-drop, take_all}
use Rattle.lfs_types.specs.Stored.{slice_of}

-- the bytes up to an end are those of a piece, where the end is that of the piece or of all
pub piece_is : (xs : List ℕ) (off end : ℕ) → off ≤ length xs → (length xs ≤ off + 4096 → end ≡ length xs)
    → (off + 4096 ≤ length xs → end ≡ off + 4096) → take (end - off) (drop off xs) ≡ slice_of xs off 4096
piece_is xs off end within short long = ⊎_elim
    (λ less.
    let is = short (omega (arith, less)) in
    let left = length-drop off xs in
    take_all (end - off) (drop off xs) (omega (arith, is, left)) ∙ sym (take_all 4096 (drop off xs) (omega (arith, less, left))))
    (λ more.
    let is = long (omega (arith, more)) in
    let size : end - off ≡ 4096 = omega (arith, is) in
    ap (λ n. take n (drop off xs)) size)
    (cases_lt (length xs) (off + 4096))

pub more_pieces : (xs ys : List ℕ) (k : ℕ) → take (k * 4096) xs ≡ take (k * 4096) ys
    → slice_of xs (k * 4096) 4096 ≡ slice_of ys (k * 4096) 4096 → take ((k + 1) * 4096) xs ≡ take ((k + 1) * 4096) ys
more_pieces xs ys k before here =
    let next : (k + 1) * 4096 ≡ k * 4096 + 4096 = omega arith in
    ap (λ n. take n xs) next ∙ take-add (k * 4096) 4096 xs
    ∙ ap (λ bs. bs ++ slice_of xs (k * 4096) 4096) before ∙ ap (λ bs. take (k * 4096) ys ++ bs) here
    ∙ sym (take-add (k * 4096) 4096 ys) ∙ ap (λ n. take n ys) (sym next)

pub all_pieces : (xs ys : List ℕ) (k : ℕ) → length xs ≡ length ys → length ys ≤ k * 4096
    → take (k * 4096) xs ≡ take (k * 4096) ys → xs ≡ ys
all_pieces xs ys k size over same =
    sym (take_all (k * 4096) xs (omega (arith, size, over))) ∙ same ∙ take_all (k * 4096) ys over
