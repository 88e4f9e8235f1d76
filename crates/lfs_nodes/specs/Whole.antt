-- When the maps of nodes agree.
use Rattle.std.specs.Prelude.{◌≡◌, ℕ, zero, suc, ◌+◌, ◌<◌, ◌≤◌, ◌==◌, Bool, true, false, Option, None, Some, IsSome}
use Rattle.std.specs.Prelude.{if◌then◌else◌}
use Rattle.lfs_types.specs.Tree.{root as root_row}
use Rattle.lfs_nodes.specs.declared.place.Place.{Place}
use Rattle.lfs_nodes.specs.declared.place.TheConstants.{ROOT_ID}
use Rattle.lfs_nodes.specs.declared.node.Hang.{Hang}
use Rattle.lfs_nodes.specs.declared.node.Hang.TheVariants.{Root, At, Gone}
use Rattle.lfs_nodes.specs.declared.parts.Parts.{Parts}
use Rattle.lfs_nodes.specs.Places.{place_of}
use Rattle.lfs_nodes.specs.Maps.{node_at, id_at}
use Rattle.lfs_nodes.specs.Reads.{hang_in, number_in, children_in}

-- 1 where a place is in this directory
abbrev pub beneath : ℕ → Option Place → ℕ
beneath parent None = 0
beneath parent (Some place) = if place.parent == parent then 1 else 0

-- how many of the first ids have a place in a directory
unfoldable pub kids : (ℕ → Option Place) → ℕ → ℕ → ℕ
kids places parent zero = 0
kids places parent (suc n) = kids places parent n + beneath parent (places n)

-- Where each id hangs, the number of its row, how many hang beneath it, the id at each place, and the next id agree:
-- node 1 is the root alone, and of row 2; the index has each place; no id is as large as the next; what a node hangs in
-- is known; and what hangs beneath a node is counted.
pub record AreWhole (hangs : ℕ → Option Hang) (numbers counts : ℕ → Option ℕ) (index : Place → Option ℕ)
    (next : ℕ) : Type 0 where
  pub root : hangs ROOT_ID ≡ Some Root
  pub row : numbers ROOT_ID ≡ Some root_row
  pub rooted : (id : ℕ) → hangs id ≡ Some Root → id ≡ ROOT_ID
  pub indexed : (id : ℕ) (place : Place) → place_of (hangs id) ≡ Some place → index place ≡ Some id
  pub named : (place : Place) (id : ℕ) → index place ≡ Some id → place_of (hangs id) ≡ Some place
  pub below : (id : ℕ) (hang : Hang) → hangs id ≡ Some hang → id < next
  pub fits : next ≤ 0xFFFF_FFFF_FFFF_FFFF
  pub parents : (id : ℕ) (place : Place) → place_of (hangs id) ≡ Some place → IsSome (hangs place.parent)
  pub counted : (id count : ℕ) → counts id ≡ Some count → count ≡ kids (λ q. place_of (hangs q)) id next

-- the maps of nodes agree
abbrev pub IsWhole : Parts → Type 0
IsWhole parts = AreWhole (λ q. hang_in (node_at parts.table q)) (λ q. number_in (node_at parts.table q))
    (λ q. children_in (node_at parts.table q)) (id_at parts.index) parts.next
