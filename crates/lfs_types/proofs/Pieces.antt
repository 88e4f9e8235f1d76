-- Pieces of a list into which others were put: `piece-before`, `piece-here` and `piece-behind` for a list over which
-- others were put, `splice-put_over` for bytes that are spliced within it. Such a list is the old front, the new bytes
-- and what stood behind them, and the seams lie at the start and at the start and their number. So a piece that ends
-- before or begins behind is the old one; the whole is longer only where the new bytes reach past its end.
use Rattle.std.proofs.Common.{◌≡◌, ℕ, ◌+◌, ◌-◌, ◌<◌, ◌≤◌, List, [], ◌∷◌, ◌++◌, length, take, drop, sym, ap, subst, ◌∙◌}
use Rattle.std.proofs.Common.{arith, length-append, length-take, length-drop, append_assoc}
use Rattle.std.proofs.Math.ListN.{length-replicate}
use Rattle.std.proofs.lemmas.List.{take-append-drop}
use Rattle.std.proofs.lemmas.Slice.{drop-append-drop}
use Rattle.std.proofs.lemmas.Grind.{common_steps}
use Rattle.std.proofs.Math.Seq.{drop-append_seam, take-append_seam}
use Rattle.lfs_types.specs.Splicing.{splice, resized}

-- a piece that lies in the front
pub piece-front : (n j : ℕ) (xs ys : List ℕ) → j + n ≤ length xs → take n (drop j (xs ++ ys)) ≡ take n (drop j xs)
piece-front n j xs ys h = grind (arith, common_steps)

-- the bytes with others put over those from start on
abbrev pub put_over : List ℕ → ℕ → List ℕ → List ℕ
put_over old start new = (take start old ++ new) ++ drop (start + length new) old

-- bytes put within the old ones or at their end are put over them
pub splice-within : (old : List ℕ) (start b : ℕ) (bs : List ℕ) → start ≤ length old → splice old start (b ∷ bs)
    ≡ put_over old start (b ∷ bs)
splice-within old start b bs h = let none : start - length old ≡ 0 = omega arith in rw none (simp append_assoc)

module _ (old : List ℕ) (start : ℕ) (new : List ℕ) (within : start ≤ length old) where
  -- the front has the length to which it was cut
  pub front_length : length (take start old) ≡ start
  front_length = simp length-take (omega arith)

  -- a piece that ends before the new bytes is the old one
  pub piece-before : (n j : ℕ) → j + n ≤ start → take n (drop j (put_over old start new)) ≡ take n (drop j old)
  piece-before n j h =
      let fits : j + n ≤ length (take start old) = omega (arith, front_length) in
      ap (λ x. take n (drop j x)) (append_assoc (take start old) new _) ∙ piece-front n j (take start old) _ fits
      ∙ sym (piece-front n j (take start old) (drop start old) fits)
      ∙ ap (λ x. take n (drop j x)) (take-append-drop start old)

  -- the new bytes stand where they were put
  pub piece-here : take (length new) (drop start (put_over old start new)) ≡ new
  piece-here =
      let seam : drop start (take start old ++ (new ++ drop (start + length new) old)) ≡ new
      ++ drop (start + length new) old =
      subst (λ k. drop k (take start old ++ (new ++ drop (start + length new) old)) ≡ new
      ++ drop (start + length new) old) front_length (drop-append_seam (take start old) _) in
      ap (λ x. take (length new) (drop start x)) (append_assoc (take start old) new _) ∙ ap (take (length new)) seam
      ∙ take-append_seam new _

  -- a piece behind them is the old one
  pub piece-behind : (n j : ℕ) → start + length new ≤ j → take n (drop j (put_over old start new)) ≡ take n (drop j old)
  piece-behind n j h =
      let ends : length (take start old ++ new) ≡ start
      + length new = simp length-append (omega (arith, front_length)) in
      ap (take n) (drop-append-drop (start + length new) old (take start old ++ new) j h ends)

  -- the length of the whole
  pub length-put_over : length (put_over old start new) ≡ start + length new + (length old - (start + length new))
  length-put_over = simp (length-append, length-drop) (omega (arith, front_length))

-- some bytes put within the old ones or at their end are put over them
pub splice-put_over : (old : List ℕ) (start : ℕ) (new : List ℕ) → 0 < length new → start ≤ length old
    → splice old start new ≡ put_over old start new
splice-put_over old start [] some h = absurd (omega arith)
splice-put_over old start (b ∷ bs) some h = splice-within old start b bs h

-- bytes of another length have that length
pub length-resized : (old : List ℕ) (len : ℕ) → length (resized old len) ≡ len
length-resized old len = simp (length-append, length-take, length-replicate) (omega arith)
