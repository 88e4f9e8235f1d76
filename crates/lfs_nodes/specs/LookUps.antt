-- What a look-up makes of nodes, and why it gives none.
use Rattle.std.specs.Prelude.{◌≡◌, ◌≢◌, ⊤, ℕ, ◌+◌, ◌⊎◌, None, Some}
use Rattle.lfs_nodes.specs.declared.place.Place.{Place}
use Rattle.lfs_nodes.specs.declared.node.Hang.TheVariants.{At}
use Rattle.lfs_nodes.specs.declared.parts.Parts.{Parts}
use Rattle.lfs_nodes.specs.declared.fault.LookUpFault.{LookUpFault}
use Rattle.lfs_nodes.specs.declared.fault.LookUpFault.TheVariants.{Stale, Exhausted, Memory}
use Rattle.lfs_nodes.specs.Changes.{one_look_up_more}
use Rattle.lfs_nodes.specs.Holds.{fresh}
use Rattle.lfs_nodes.specs.Maps.{id_at, changed_at}
use Rattle.lfs_nodes.specs.Moves.{gone_at}
use Rattle.lfs_nodes.specs.Nodes.{known, IsKnownAs}

-- A node that hangs at a place, of a row of this number, has one look-up more, and each other node is as it was.
pub record IsLookedUpAgain (before : Parts) (place : Place) (row id : ℕ) (after : Parts) : Type 0 where
  pub was : IsKnownAs before place row id
  pub nodes : (q : ℕ) → known after q ≡ changed_at id one_look_up_more (known before) q

-- A node that hangs at a place, of a row of this number, has its first look-up, under an id that was never given out;
-- what hung there before is gone, and each other node is as it was.
pub record IsLookedUpFirst (before : Parts) (place : Place) (row id : ℕ) (after : Parts) : Type 0 where
  pub next : id ≡ before.next
  pub given : after.next ≡ before.next + 1
  pub there : known after id ≡ Some (fresh (At place) row)
  pub others : (q : ℕ) → q ≢ id → known after q ≡ gone_at (id_at before.index place) (known before) q

-- the node of a row at a place was looked up
abbrev pub IsLookedUp : Parts → Place → ℕ → ℕ → Parts → Type 0
IsLookedUp before place row id after =
    IsLookedUpAgain before place row id after ⊎ IsLookedUpFirst before place row id after

-- Why a look-up is given no node: the directory's node isn't known, each id was given out, or memory is wanting.
abbrev pub IsLookUpFault : Parts → ℕ → LookUpFault → Type 0
IsLookUpFault before parent Stale = known before parent ≡ None
IsLookUpFault before parent Exhausted = before.next ≡ 0xFFFF_FFFF_FFFF_FFFF
IsLookUpFault before parent Memory = ⊤
