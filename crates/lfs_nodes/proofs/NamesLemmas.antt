-- What the names of a node say of a tree: `names_lead` and `names_turned`, for `Nodes::names`. The names are found from
-- the node up, place by place, and end at node 1, which is of the root's row; turned round they lead from the root down
-- to the node's row (`leads_down` of WayLemmas), as nodes are true of the tree. Each node on the way hangs, so it has a
-- row (`live_there`). Turned round the names are as long.
use Rattle.std.proofs.Common.{◌≡◌, ◌≢◌, ℕ, ◌≤◌, List, [], ◌∷◌, length, Option, None, Some, Ok, refl, sym, ap, subst}
use Rattle.std.proofs.Common.{◌∙◌}
use mathlib.Core.List.{reverse}
use Rattle.lfs_types.specs.Paths.{slashed}
use Rattle.lfs_types.specs.Tree.{root}
use Rattle.lfs_types.proofs.Somewhere.{There, there_of}
use Rattle.lfs_model.specs.World.{Rows, IsTree}
use Rattle.lfs_model.specs.Rules.{reached}
use Rattle.lfs_nodes.specs.declared.node.Hang.{Hang}
use Rattle.lfs_nodes.specs.declared.node.Hang.TheVariants.{Root}
use Rattle.lfs_nodes.specs.declared.parts.Parts.{Parts}
use Rattle.lfs_nodes.specs.Maps.{node_at}
use Rattle.lfs_nodes.specs.Nodes.{AreNodes, known, live_row}
use Rattle.lfs_nodes.specs.Places.{place_of}
use Rattle.lfs_nodes.specs.Reads.{hang_in}
use Rattle.lfs_nodes.specs.Ways.{LeadsUp, NamesUp, NamesDown}
use Rattle.lfs_nodes.specs.Whole.{IsWhole}
use Rattle.lfs_nodes.proofs.ChangeLemmas.{rooted_known}
use Rattle.lfs_nodes.proofs.HoldsLemmas.{hang_shown}
use Rattle.lfs_nodes.proofs.NodesLemmas.{hung_row}
use Rattle.lfs_nodes.proofs.WayLemmas.{leads_down, slashed_reversed}

-- the other way round
pub names_turned : (hangs : ℕ → Option Hang) (id : ℕ) (names turned : List (List ℕ)) → turned ≡ reverse names
    → NamesUp hangs id (Ok names) → NamesDown hangs id (Ok turned)
names_turned hangs id names turned e h = (
  record { names = h.0.names; top = h.0.top; up = h.0.up; holding = (ap reverse h.0.holding.0 ∙ sym e, h.0.holding.1) },
  subst (λ n. n ≤ 1024) (sym (ap (λ ns. length (slashed ns)) e ∙ slashed_reversed names)) h.1,
)

-- the names lead to the node's row
pub names_lead : (parts : Parts) → IsWhole parts → (rows : Rows) → IsTree rows → AreNodes rows (known parts)
    → (id : ℕ) (names turned : List (List ℕ)) → turned ≡ reverse names
    → NamesUp (λ q. hang_in (node_at parts.table q)) id (Ok names) → live_row (known parts id)
    ≡ Some (reached rows root turned)
names_lead parts whole rows tree are id names turned e h =
    let row = live_there id h.0.names h.0.top h.0.up top_row in
    let down = leads_down rows (known parts) tree are id h.0.top root row.value h.0.names
    (shown_up id h.0.names h.0.top h.0.up) top_row row.is in
    row.is ∙ ap Some (sym down ∙ ap (λ ns. reached rows root (reverse ns)) h.0.holding.0
    ∙ ap (reached rows root) (sym e))
  where
    same : (q : ℕ) → hang_in (known parts q) ≡ hang_in (node_at parts.table q)
    same q = hang_shown (node_at parts.table q)

    top_row : live_row (known parts h.0.top) ≡ Some root
    top_row = rooted_known parts whole h.0.top (same h.0.top ∙ h.0.holding.1)

    shown_up : (id : ℕ) (ns : List (List ℕ)) (top : ℕ) → LeadsUp (λ q. hang_in (node_at parts.table q)) id ns top
        → LeadsUp (λ q. hang_in (known parts q)) id ns top
    shown_up id [] top up = up
    shown_up id (n ∷ ns) top up = (up.0, ap place_of (same id) ∙ up.1, shown_up up.0 ns top up.2)

    live_there : (id : ℕ) (ns : List (List ℕ)) (top : ℕ) → LeadsUp (λ q. hang_in (node_at parts.table q)) id ns top
        → live_row (known parts top) ≡ Some root → There (live_row (known parts id))
    live_there id [] top up r = record { value = root; is = ap (λ x. live_row (known parts x)) up ∙ r }
    live_there id (n ∷ ns) top up r = there_of _
        (hung_row (known parts id) (record { parent = up.0; name = n }) (ap place_of (same id) ∙ up.1))
