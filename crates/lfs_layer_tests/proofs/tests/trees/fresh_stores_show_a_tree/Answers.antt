use Rattle.std.proofs.Common.{◌≡◌, ◌<◌, ℕ, None, sym, subst, ◌∙◌, ⊎_elim, arith}
use Rattle.std.specs.Prelude.{IsSome}
use Rattle.std.specs.FinMap as map
use Rattle.std.specs.Ordering.{nat_cmp}
use Rattle.std.proofs.lemmas.Bool.{cases_eq}
use Rattle.lfs_types.specs.StoreStates.{StoreState}
use Rattle.lfs_types.specs.Tree.{fresh_root, opening_content}
use Rattle.lfs_types.proofs.Maps.{get-insert_other}
use Rattle.lfs_types.proofs.Somewhere.{none_there, there_of}
use Rattle.lfs_layer_tests.proofs.tests.trees.fresh_stores_show_a_tree.Goals as goal

-- a fresh volume has no number but the root's
root_alone : (n : ℕ) → IsSome (map.get opening_content n) → n < 16
root_alone n used = ⊎_elim
    (λ same. omega arith)
    (λ other.
    let none : map.get opening_content n ≡ None = get-insert_other map.empty 2 fresh_root n other
    ∙ map.get-empty nat_cmp n in
    let there = there_of (map.get opening_content n) used in
    none_there (map.get opening_content n) there.value none there.is)
    (cases_eq n 2)

pub check_tree-requires : goal.check_tree-requires
check_tree-requires g c =
    subst (λ (s : StoreState). (n : ℕ) → IsSome (map.get s.content n) → n < 16)
    (sym c.fresh_log-store.ensures) root_alone
