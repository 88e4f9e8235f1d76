-- The last of some names, and those before it: `last_stands` for `last_name`, `front_stands` for `parents_of` and
-- lfs_explain. Some names are those before the last and the last, so the last stands at the index of how many there are
-- before it.
use Rattle.std.proofs.Common.{◌≡◌, ℕ, ◌-◌, ◌<◌, List, [], ◌∷◌, ◌++◌, length, take, slice_index_or, sym, ap, ◌∙◌, arith}
use Rattle.std.proofs.Common.{length-append}
use Rattle.std.proofs.Math.Seq.{get_or-append_seam, take-append_seam}
use Rattle.std.proofs.lemmas.Bool.{ne_eqb}
use Rattle.lfs_model.specs.Rules.{front, last}
use Rattle.lfs_model.proofs.Allowed.{split_last}

module _ (names : List (List ℕ)) (some : 0 < length names) where
  halves : front names ++ last names ∷ [] ≡ names
  halves = split_last names (ne_eqb (length names) 0 (λ z. absurd (omega (arith, some))))

  before : length names - 1 ≡ length (front names)
  before =
      let long = ap (λ (l : List (List ℕ)). length l) halves in
      let more = length-append (front names) (last names ∷ []) in
      omega (arith, long, more)

  -- the last stands at the last index
  pub last_stands : (d : List ℕ) → slice_index_or names (length names - 1) d ≡ last names
  last_stands d =
      ap (λ k. slice_index_or names k d) before
      ∙ ap (λ ns. slice_index_or ns (length (front names)) d) (sym halves)
      ∙ get_or-append_seam (front names) (last names) [] d

  -- the others stand before it
  pub front_stands : take (length names - 1) names ≡ front names
  front_stands =
      ap (λ k. take k names) before
      ∙ ap (λ ns. take (length (front names)) ns) (sym halves)
      ∙ take-append_seam (front names) (last names ∷ [])
