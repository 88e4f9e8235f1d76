-- The names up from a node, and down from the root: `leads_more` and `slashed_more` for the loop of `names_up`,
-- `leads_down` and `slashed_reversed` for NamesLemmas. Up from a node stands its name, then its parent's, and so on; a
-- name more is that of the topmost so far. By induction on them the names above lead from the root to the parent's row,
-- and there the node's name has its row, since nodes are true of the tree and a name is one row's.
use Rattle.std.proofs.Common.{◌≡◌, ◌≢◌, ℕ, suc, ◌+◌, List, [], ◌∷◌, ◌++◌, length, Option, None, Some, Ok, refl, sym, ap}
use Rattle.std.proofs.Common.{subst, ◌∙◌, arith, length-append, append_assoc}
use Rattle.std.specs.Prelude.{unwrap_or, IsSomeAnd}
use mathlib.Core.List.{reverse}
use Rattle.std.proofs.lemmas.List.{reverse-append}
use Rattle.lfs_types.specs.Paths.{slashed}
use Rattle.lfs_types.specs.Tree.{root}
use Rattle.lfs_types.proofs.Somewhere.{some_and, there_of}
use Rattle.lfs_model.specs.World.{Rows, child, IsChild, IsTree}
use Rattle.lfs_model.specs.Rules.{reached, next}
use Rattle.lfs_model.proofs.Children.{child-answer}
use Rattle.lfs_nodes.specs.declared.place.Place.{Place}
use Rattle.lfs_nodes.specs.declared.node.Hang.{Hang}
use Rattle.lfs_nodes.specs.declared.node.Node.{Node}
use Rattle.lfs_nodes.specs.Places.{place_of}
use Rattle.lfs_nodes.specs.Reads.{hang_in}
use Rattle.lfs_nodes.specs.Nodes.{AreNodes, live_row}
use Rattle.lfs_nodes.specs.Ways.{LeadsUp}
use Rattle.lfs_nodes.proofs.NodesLemmas.{hung_row}

-- one name more
pub leads_more : (hangs : ℕ → Option Hang) (id : ℕ) (names : List (List ℕ)) (top : ℕ) (place : Place)
    → LeadsUp hangs id names top → place_of (hangs top) ≡ Some place
    → LeadsUp hangs id (names ++ place.name ∷ []) place.parent
leads_more hangs id [] top place up e = (place.parent, ap (λ x. place_of (hangs x)) up ∙ e, refl)
leads_more hangs id (name ∷ names) top place up e = (up.0, up.1, leads_more hangs up.0 names top place up.2 e)

pub slashed_more : (names : List (List ℕ)) (name : List ℕ) → length (slashed (names ++ name ∷ []))
    ≡ length (slashed names) + (length name + 1)
slashed_more [] name = let all = length-append name [] in omega (arith, all)
slashed_more (n ∷ names) name =
    let more = slashed_more names name in
    let before = length-append n (slashed names) in
    let after = length-append n (slashed (names ++ name ∷ [])) in
    omega (arith, more, before, after)

pub slashed_reversed : (names : List (List ℕ)) → length (slashed (reverse names)) ≡ length (slashed names)
slashed_reversed [] = refl
slashed_reversed (n ∷ names) =
    let more = slashed_more (reverse names) n in
    let before = slashed_reversed names in
    let all = length-append n (slashed names) in
    let turned = ap (λ ns. length (slashed ns)) (reverse-append (n ∷ []) names) in
    omega (arith, more, before, all, turned)

reached_more : (rows : Rows) (at : ℕ) (names : List (List ℕ)) (name : List ℕ) → reached rows at (names ++ name ∷ [])
    ≡ next rows (reached rows at names) name
reached_more rows at [] name = refl
reached_more rows at (n ∷ names) name = reached_more rows (next rows at n) names name

-- the names of a node, from the root on, lead to its row
pub leads_down : (rows : Rows) (K : ℕ → Option Node) → IsTree rows → AreNodes rows K
    → (id top n m : ℕ) (names : List (List ℕ)) → LeadsUp (λ q. hang_in (K q)) id names top
    → live_row (K top) ≡ Some n → live_row (K id) ≡ Some m → reached rows n (reverse names) ≡ m
leads_down rows K tree are id top n m [] up e f = let one : Some n ≡ Some m = sym e ∙ ap (λ x. live_row (K x)) (sym up)
    ∙ f in (cc)
leads_down rows K tree are id top n m (name ∷ names) up e f =
    let above = some_and _ _ (are.hung id (record { parent = up.0; name = name }) m up.1 f) in
    let before : reached rows n (reverse names)
    ≡ above.value = leads_down rows K tree are up.0 top n above.value names up.2 e above.is in
    ap (reached rows n) (reverse-append (name ∷ []) names) ∙ reached_more rows n (reverse names) name
    ∙ ap (λ x. next rows x name) before
    ∙ ap (λ o. unwrap_or o 0) (child-answer rows tree.unique above.value name (Some m) above.holds)
