-- What a caller reaches whose walk passed: `walk_reaches`, for CallLaws, Fates and MayLemmas. He reaches a row if he
-- may search each row above it. Nothing is above the root (`reaches_root`), and what hangs in a row that he reaches and
-- may search he reaches too (`reaches_below`); a walk whose tests were met searched each directory on its way.
use Rattle.std.proofs.Common.{◌≡◌, ℕ, ◌+◌, zero, suc, List, [], ◌∷◌, true, None, Some, refl, sym, ap, subst, ◌∙◌}
use Rattle.std.specs.FinMap as map
use Rattle.lfs_types.specs.Caller.{Caller}
use Rattle.lfs_types.specs.Tree.{Row, root}
use Rattle.lfs_types.specs.declared.attrs.Bit.TheVariants as bits
use Rattle.lfs_model.specs.World.{Rows, ancestor, parent_of, IsTree}
use Rattle.lfs_model.specs.Rules.{first_failing, next, reached, row_grants, walk}
use Rattle.lfs_laws.specs.Rights.{Reaches}
use Rattle.lfs_model.proofs.Allowed.{child_there}
use Rattle.lfs_model.proofs.Children.{child-is}
use Rattle.lfs_model.proofs.Deciding.{met_first}
use Rattle.lfs_model.proofs.Trees.{root_above}

-- nothing is above the root
pub reaches_root : (rows : Rows) (caller : Caller) → IsTree rows → Reaches rows caller root
reaches_root rows caller tree k below = absurd (below (root_above rows tree k))

-- a caller reaches what hangs in a directory that he reaches and may search
pub reaches_below : (rows : Rows) (caller : Caller) (n : ℕ) (r : Row) → map.get rows n ≡ Some r
    → Reaches rows caller r.parent
    → row_grants caller bits.Search (map.get rows r.parent) ≡ true → Reaches rows caller n
unfolding ancestor
reaches_below rows caller n r there up search zero below =
    subst (λ o. row_grants caller bits.Search (map.get rows (parent_of o)) ≡ true) (sym there) search
reaches_below rows caller n r there up search (suc k) below =
    subst (λ o. row_grants caller bits.Search (map.get rows (ancestor rows (suc k) (parent_of o))) ≡ true) (sym there)
    (up k (λ e. below (ap (λ o. ancestor rows k (parent_of o)) there ∙ e)))

-- a walk whose tests are met ends at what the caller reaches
pub walk_reaches : (rows : Rows) (caller : Caller) (path k at : ℕ) (names : List (List ℕ)) → Reaches rows caller at
    → first_failing (walk rows caller path k at names) ≡ None → Reaches rows caller (reached rows at names)
walk_reaches rows caller path k at [] up h = up
walk_reaches rows caller path k at (name ∷ names) up h =
    let a = met_first _ _ _ h in
    let b = met_first _ _ _ a.1 in
    let c = met_first _ _ _ b.1 in
    let hangs = child-is rows at name (next rows at name) (child_there _ _ c.0 refl) in
    let below = reaches_below rows caller (next rows at name) hangs.row hangs.there
    (subst (Reaches rows caller) (sym hangs.hangs) up)
    (subst (λ p. row_grants caller bits.Search (map.get rows p) ≡ true) (sym hangs.hangs) b.0) in
    walk_reaches rows caller path (k + 1) (next rows at name) names below c.1
