-- The next of some changes, and those behind it, for the loop of `stage_changes`. The list of those that are left is
-- the next one and the list behind it (`next_first`), so what is defined over the list splits so: the content that they
-- make, whether they may be made, the versions behind them, their sum and their peak.
use Rattle.std.proofs.Common.{◌≡◌, ℕ, ◌+◌, ◌<◌, List, ◌∷◌, length, max, get_or, drop, sym, ap, ◌∙◌, subst}
use Rattle.std.specs.Prelude.{sum_by}
use Rattle.std.proofs.lemmas.List.{drop_more}
use Rattle.std.proofs.lemmas.List.Sums.{sum_by-drop_more}
use Rattle.lfs_types.specs.Changes.{CanChange, CanChangeAll, applied, changed}
use Rattle.lfs_types.specs.Tree.{Content}
use Rattle.lfs_types.specs.declared.store.Change.{Change}
use Rattle.lfs_staging.specs.Changing.{frames_of, version_after}
use Rattle.lfs_segwrite.specs.Applying.{peak_of, peak_of_all, versions_after}

module _ (xs : List Change) (i : ℕ) (d : Change) (low : i < length xs) (is : d ≡ get_or xs i d) where
  -- the next one comes first
  pub next_first : drop i xs ≡ d ∷ drop (i + 1) xs
  next_first = drop_more xs i d low ∙ ap (λ x. x ∷ drop (i + 1) xs) (sym is)

  pub next_applied : (c new : Content) → new ≡ changed d c → applied (drop (i + 1) xs) new ≡ applied (drop i xs) c
  next_applied c new made = ap (applied (drop (i + 1) xs)) made ∙ sym (ap (λ ys. applied ys c) next_first)

  pub next_versions : (number version : ℕ) → versions_after (drop (i + 1) xs) number (version_after d number version)
      ≡ versions_after (drop i xs) number version
  next_versions number version = sym (ap (λ ys. versions_after ys number version) next_first)

  pub next_can : (n : ℕ) (c : Content) → CanChangeAll n (drop i xs) c → CanChange n d c
      × CanChangeAll n (drop (i + 1) xs) (changed d c)
  next_can n c can = subst (λ ys. CanChangeAll n ys c) next_first can

  pub rest_can : (n m : ℕ) (c new : Content) → CanChangeAll n (drop i xs) c → m ≡ n → new ≡ changed d c
      → CanChangeAll m (drop (i + 1) xs) new
  rest_can n m c new can same made =
      subst (λ k. CanChangeAll k (drop (i + 1) xs) new) (sym same)
      (subst (CanChangeAll n (drop (i + 1) xs)) (sym made) (next_can n c can).1)

  pub next_peak : peak_of_all (drop i xs) ≡ max (peak_of d) (frames_of d + peak_of_all (drop (i + 1) xs))
  next_peak = ap peak_of_all next_first

  pub next_sum : (f : Change → ℕ) → sum_by f (drop i xs) ≡ f d + sum_by f (drop (i + 1) xs)
  next_sum f = sum_by-drop_more f xs i d low ∙ ap (λ x. f x + sum_by f (drop (i + 1) xs)) (sym is)
