-- A row that a Rename replaces: `may_be_replaced` and `same_kinds`, for MayLemmas and Fates. Whoever may replace it may
-- take it away by a call of his own, as the tests of a Rename's second path and of the row there are those of a
-- removal; a walk's tests say the same of whichever path they are (`walk_of_path`). The two tests of kinds, together,
-- say that both rows are of one kind.
use Rattle.std.proofs.Common.{◌≡◌, ℕ, ◌+◌, ◌||◌, not, true, false, List, [], ◌∷◌, None, Some, refl, sym, ap, subst, ◌∙◌}
use Rattle.std.proofs.lemmas.Bool.{cond-true}
use Rattle.std.specs.Prelude.{is_some, unwrap_or}
use Rattle.std.specs.FinMap as map
use Rattle.lfs_types.specs.Caller.{Caller}
use Rattle.lfs_types.specs.Kinds.{is_directory_kind}
use Rattle.lfs_types.specs.Tree.{root}
use Rattle.lfs_types.specs.declared.attrs.Bit.TheVariants as bits
use Rattle.lfs_types.specs.declared.attrs.Kind.{Kind}
use Rattle.lfs_types.specs.declared.attrs.Kind.TheVariants.{File as Regular, Directory}
use Rattle.lfs_rules.specs.Locks.{is_immutable, is_append_only}
use Rattle.lfs_rules.specs.Sticky.{is_barred}
use Rattle.lfs_model.specs.World.{Rows, child, IsTree}
use Rattle.lfs_model.specs.Rules.{attrs_at, first_failing, front, is_directory_row, last, next, reached, row_grants}
use Rattle.lfs_model.specs.Rules.{walk}
use Rattle.lfs_model.proofs.Allowed.{MayArrive, MayGo, MayRemove, directory_row_there, grants_attrs, reached_last}
use Rattle.lfs_model.proofs.Children.{child-is}
use Rattle.lfs_model.proofs.Deciding.{met_first}

-- a walk whose tests are met is one of the other path too
walk_of_path : (rows : Rows) (caller : Caller) (path other k at : ℕ) (names : List (List ℕ))
    → first_failing (walk rows caller path k at names) ≡ None → first_failing (walk rows caller other k at names) ≡ None
walk_of_path rows caller path other k at [] h = refl
walk_of_path rows caller path other k at (name ∷ names) h =
    let a = met_first (is_directory_row (map.get rows at)) _ _ h in
    let b = met_first (row_grants caller bits.Search (map.get rows at)) _ _ a.1 in
    let c = met_first (is_some (child rows at name)) _ _ b.1 in
    cond-true _ _ _ a.0 ∙ cond-true _ _ _ b.0 ∙ cond-true _ _ _ c.0
    ∙ walk_of_path rows caller path other (k + 1) (next rows at name) names c.1

-- a row that is replaced may be taken away as by a call of its own
pub may_be_replaced : (rows : Rows) → IsTree rows → (caller : Caller) (from to : List (List ℕ)) (m : ℕ)
    → MayArrive rows caller to → MayGo rows caller from to (Some m)
    → child rows (reached rows root (front to)) (last to) ≡ Some m → (reached rows root to ≡ m)
    × MayRemove rows caller to
may_be_replaced rows tree caller from to m arrives goes is =
    let here : reached rows root to ≡ m = reached_last rows root to arrives.filled ∙ ap (λ o. unwrap_or o 0) is in
    let way = goes.gives m refl in
    let dir = directory_row_there _ arrives.directory in (
      here,
      record {
        walks = walk_of_path rows caller 1 0 0 root (front to) arrives.walks;
        searches = arrives.searches;
        dir_mutable = goes.enters.mutable;
        dir_rewritable = way.dir_rewritable;
        hangs = child-is rows _ (last to) (reached rows root to) (is ∙ ap Some (sym here));
        granted = grants_attrs caller bits.Write _ dir ∙ goes.enters.granted;
        unbarred = subst (λ n. is_barred caller (attrs_at rows (reached rows root (front to))) (attrs_at rows n)
            ≡ false) (sym here) way.unbarred;
        mutable = subst (λ n. is_immutable (attrs_at rows n) ≡ false) (sym here) way.mutable;
        rewritable = subst (λ n. is_append_only (attrs_at rows n) ≡ false) (sym here) way.rewritable;
      },
    )

-- they are of one kind
pub same_kinds : (k l : Kind) → (not (is_directory_kind k) || is_directory_kind l) ≡ true
    → (is_directory_kind k || not (is_directory_kind l)) ≡ true → k ≡ l
same_kinds Regular Regular h g = refl
same_kinds Regular Directory h g = absurd (cc)
same_kinds Directory Regular h g = absurd (cc)
same_kinds Directory Directory h g = refl
