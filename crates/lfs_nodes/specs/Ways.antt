-- The names from the root to a node.
use Rattle.std.specs.Prelude.{◌≡◌, ℕ, ◌<◌, ◌≤◌, List, [], ◌∷◌, length, Option, None, Some, Result, Ok, Err}
use mathlib.Core.List.{reverse}
use Rattle.lfs_types.specs.Paths.{slashed}
use Rattle.lfs_nodes.specs.declared.place.Place.{Place}
use Rattle.lfs_nodes.specs.declared.place.TheConstants.{ROOT_ID}
use Rattle.lfs_nodes.specs.declared.node.Hang.{Hang}
use Rattle.lfs_nodes.specs.declared.node.Hang.TheVariants.{Root, At, Gone}
use Rattle.lfs_nodes.specs.declared.fault.PathFault.{PathFault}
use Rattle.lfs_nodes.specs.declared.fault.PathFault.TheVariants.{Unknown, Stale, Long, Memory, Name}
use Rattle.lfs_nodes.specs.Places.{place_of}

-- these names, its own first, lead up from a node to another
abbrev pub LeadsUp : (ℕ → Option Hang) → ℕ → List (List ℕ) → ℕ → Type 0
LeadsUp hangs id [] top = id ≡ top
LeadsUp hangs id (name ∷ names) top = (parent : ℕ)
    × (place_of (hangs id) ≡ Some (record { parent = parent; name = name })) × LeadsUp hangs parent names top

-- names lead up from a node to one of which this holds
pub record LeadsTo (hangs : ℕ → Option Hang) (id : ℕ) (holds : List (List ℕ) → ℕ → Type 0) : Type 0 where
  pub names : List (List ℕ)
  pub top : ℕ
  pub up : LeadsUp hangs id names top
  pub holding : holds names top

-- what may be said of the names of a node, its own first: the names up to the root, which are short enough for a path;
-- that the node, or one above it, isn't known or is gone; or that the names take too many bytes
abbrev pub NamesUp : (ℕ → Option Hang) → ℕ → Result (List (List ℕ)) PathFault → Type 0
NamesUp hangs id (Ok names) = LeadsTo hangs id (λ ns top. (ns ≡ names) × (hangs top ≡ Some Root))
    × (length (slashed names) ≤ 1024)
NamesUp hangs id (Err Unknown) = LeadsTo hangs id (λ ns top. hangs top ≡ None)
NamesUp hangs id (Err Stale) = LeadsTo hangs id (λ ns top. hangs top ≡ Some Gone)
NamesUp hangs id (Err Long) = LeadsTo hangs id (λ ns top. 1024 < length (slashed ns))
NamesUp hangs id (Err Memory) = Unit {0}
NamesUp hangs id (Err (Name fault)) = ⊥

-- what is above a node: a place, nothing above the root, or no way up
abbrev pub IsAbove : Option Hang → Result (Option Place) PathFault → Type 0
IsAbove hang (Ok (Some place)) = place_of hang ≡ Some place
IsAbove hang (Ok None) = hang ≡ Some Root
IsAbove hang (Err Unknown) = hang ≡ None
IsAbove hang (Err Stale) = hang ≡ Some Gone
IsAbove hang (Err Long) = ⊥
IsAbove hang (Err Memory) = ⊥
IsAbove hang (Err (Name fault)) = ⊥

-- what may be said of the names of a node from the root on: as of those up to the root, in the other order
abbrev pub NamesDown : (ℕ → Option Hang) → ℕ → Result (List (List ℕ)) PathFault → Type 0
NamesDown hangs id (Ok names) = LeadsTo hangs id (λ ns top. (reverse ns ≡ names) × (hangs top ≡ Some Root))
    × (length (slashed names) ≤ 1024)
NamesDown hangs id (Err fault) = NamesUp hangs id (Err fault)
