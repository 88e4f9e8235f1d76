-- The rows that a walk leads through are the ancestors of its end, so a row that isn't among them may be moved there:
-- `no_ancestor` for EffectTree and MayLemmas, `no_file_on_way` for MoveJudging, `way_further` for `judge_way`. By
-- induction on the names: what is no ancestor of a directory, and not the row that hangs there, is no ancestor of that
-- row (`one_down`). The root is everybody's ancestor, so it must be another row; IsNotBeneathItself asks just for this,
-- and without it a Rename could cut a ring off the tree.
use Rattle.std.proofs.Common.{◌≡◌, ◌≢◌, ℕ, zero, suc, ◌+◌, ◌==◌, true, false, List, [], ◌∷◌, Some, Ok, sym, ap, subst}
use Rattle.std.proofs.Common.{◌∙◌, arith}
use Rattle.std.specs.Prelude.{◌||◌, unwrap_or}
use Rattle.std.specs.List.{list_any}
use Rattle.std.proofs.lemmas.Bool.{eqb-false, ne_eqb, cond-false, or_parts}
use Rattle.std.specs.FinMap as map
use Rattle.lfs_types.specs.Caller.{Caller}
use Rattle.lfs_types.specs.Tree.{root}
use Rattle.lfs_model.specs.World.{Rows, child, parent_of, ancestor, IsTree}
use Rattle.lfs_model.specs.Rules.{is_directory_row, next, reached, visited, position}
use Rattle.lfs_model.specs.Walks.{is_on_way}
use Rattle.lfs_model.specs.Walks.{walked}
use Rattle.lfs_model.proofs.Children.{child-is}
use Rattle.lfs_model.proofs.Deciding.{walked_taken}
use Rattle.lfs_model.proofs.Trees.{root_above}

-- the row from which names lead on is the first that they lead through
visited-first : (rows : Rows) (at n : ℕ) (names : List (List ℕ)) → list_any (λ m. m == n) (visited rows at names)
    ≡ false → at ≢ n
visited-first rows at n [] h = eqb-false at n (or_parts (at == n) false h).0
visited-first rows at n (name ∷ names) h =
    eqb-false at n (or_parts (at == n) (list_any (λ m. m == n) (visited rows (next rows at name) names)) h).0

-- what is no ancestor of a directory, and not the row that hangs there, is no ancestor of that row
one_down : (rows : Rows) (n at to : ℕ) (name : List ℕ) → child rows at name ≡ Some to
    → ((k : ℕ) → ancestor rows k at ≢ n) → to ≢ n → (k : ℕ) → ancestor rows k to ≢ n
unfolding ancestor
one_down rows n at to name h away other zero = other
one_down rows n at to name h away other (suc k) = λ e.
    let c = child-is rows at name to h in
    away k (sym (ap (λ o. ancestor rows k (parent_of o)) c.there ∙ ap (ancestor rows k) c.hangs) ∙ e)

not_on_way : (rows : Rows) (caller : Caller) (path k at n m : ℕ) (names : List (List ℕ))
    → walked rows caller path k at names ≡ Ok m
    → ((j : ℕ) → ancestor rows j at ≢ n) → list_any (λ x. x == n) (visited rows at names) ≡ false → (j : ℕ)
    → ancestor rows j (reached rows at names) ≢ n
not_on_way rows caller path k at n m [] h away none = away
not_on_way rows caller path k at n m (name ∷ names) h away none =
    let t = walked_taken rows caller path k at name names m h in
    let rest : list_any (λ x. x == n) (visited rows (next rows at name) names)
    ≡ false = (or_parts (at == n) _ none).1 in
    let there : next rows at name ≡ t.to = ap (λ o. unwrap_or o 0) t.child in
    let after = subst (λ x. list_any (λ y. y == n) (visited rows x names) ≡ false) there rest in
    subst (λ x. (j : ℕ) → ancestor rows j (reached rows x names) ≢ n) (sym there)
    (not_on_way rows caller path (k + 1) t.to n m names t.rest
    (one_down rows n at t.to name t.child away (visited-first rows t.to n names after)) after)

-- a row that a walk doesn't lead through is no ancestor of the row at which it ends
pub no_ancestor : (rows : Rows) → IsTree rows → (caller : Caller) (path n m : ℕ) (names : List (List ℕ))
    → walked rows caller path 0 root names ≡ Ok m → (n ≡ root → ⊥)
    → list_any (λ x. x == n) (visited rows root names) ≡ false → (j : ℕ) → ancestor rows j (reached rows root names) ≢ n
no_ancestor rows tree caller path n m names h below none =
    not_on_way rows caller path 0 root n m names h (λ j e. below (sym e ∙ root_above rows tree j)) none

-- ---- the way, name by name

-- names lead through a row as the rest of them does from a row on the way, the first k rows being others
pub record IsRest (rows : Rows) (names : List (List ℕ)) (n k at : ℕ) (rest : List (List ℕ)) : Type 0 where
  pub same : is_on_way rows names n ≡ list_any (λ m. m == n) (visited rows at rest)
  pub placed : position n (visited rows root names) ≡ k + position n (visited rows at rest)

module _ (rows : Rows) (names : List (List ℕ)) (n k at : ℕ) where
  -- the rest of a way, a name further
  pub way_further : (name : List ℕ) (rest : List (List ℕ)) (to : ℕ) → IsRest rows names n k at (name ∷ rest) → (at == n)
      ≡ false → child rows at name ≡ Some to → IsRest rows names n (k + 1) to rest
  way_further name rest to is h there =
      let step : next rows at name ≡ to = ap (λ o. unwrap_or o 0) there in
      let more = cond-false (at == n) 0 (1 + position n (visited rows (next rows at name) rest)) h in
      record {
        same = is.same ∙ ap (λ b. b || list_any (λ m. m == n) (visited rows (next rows at name) rest)) h
            ∙ ap (λ x. list_any (λ m. m == n) (visited rows x rest)) step;
        placed = omega (arith, is.placed, more, ap (λ x. position n (visited rows x rest)) step);
      }

-- ---- a file is on no way

-- the rows before the last that a walk leads through are directories
pub no_file_on_way : (rows : Rows) (caller : Caller) (path k at n m : ℕ) (names : List (List ℕ))
    → walked rows caller path k at names ≡ Ok m
    → is_directory_row (map.get rows n) ≡ false → is_directory_row (map.get rows m) ≡ true
    → list_any (λ x. x == n) (visited rows at names) ≡ false
unfolding walked
no_file_on_way rows caller path k at n m [] h file dir =
    ap (λ b. b || false) (ne_eqb at n (λ e. let same : at
    ≡ m = cc in let is = ap (λ x. is_directory_row (map.get rows x)) (sym e ∙ same) in absurd (cc)))
no_file_on_way rows caller path k at n m (name ∷ names) h file dir =
    let t = walked_taken rows caller path k at name names m h in
    let here = t.directory in
    let other = ne_eqb at n (λ e. let is = ap (λ x. is_directory_row (map.get rows x)) e in absurd (cc)) in
    ap (λ b. b || list_any (λ x. x == n) (visited rows (next rows at name) names)) other
    ∙ ap (λ o. list_any (λ x. x == n) (visited rows (unwrap_or o 0) names)) t.child
    ∙ no_file_on_way rows caller path (k + 1) t.to n m names t.rest file dir
