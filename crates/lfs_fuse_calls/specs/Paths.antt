-- The paths of nodes.
use Rattle.std.specs.Prelude.{◌≡◌, ℕ, ◌<◌, ◌⊎◌, List, ◌++◌, length, Option, None, Some, Result, Ok, Err, ⊤}
use Rattle.std.specs.Option.{option_to_list}
use Rattle.lfs_types.specs.Naming.{name_fault}
use Rattle.lfs_types.specs.Paths.{slashed}
use Rattle.lfs_types.specs.Tree.{root}
use Rattle.lfs_types.specs.declared.name.BadName.{BadName}
use Rattle.lfs_types.specs.declared.name.BadName.TheVariants.{Empty, Long, Slash, Nul, Dot}
use Rattle.lfs_model.specs.Rules.{reached}
use Rattle.lfs_model.specs.World.{Rows, IsTree}
use Rattle.lfs_nodes.specs.declared.node.Hang.{Hang}
use Rattle.lfs_nodes.specs.declared.node.Hang.TheVariants.{Gone}
use Rattle.lfs_nodes.specs.declared.node.Node.{Node}
use Rattle.lfs_nodes.specs.Nodes.{AreNodes, live_row}
use Rattle.lfs_nodes.specs.Ways.{LeadsTo, NamesDown}
use Rattle.lfs_fuse_reply.specs.declared.errno.Errno.{Errno}
use Rattle.lfs_fuse_reply.specs.declared.errno.Errno.TheVariants as errno

-- the names of a path are those that lead to a node, and behind them a name in it, if there is one
pub record IsPathOf (hangs : ℕ → Option Hang) (node : ℕ) (name : Option (List ℕ)) (path : List (List ℕ)) : Type 0 where
  pub above : List (List ℕ)
  pub down : NamesDown hangs node (Ok above)
  pub all : path ≡ above ++ option_to_list name

-- the names of a path lead to a node's row in each tree that the nodes are true of, and behind them is a name in it, if
-- there is one
pub record LeadsToRow (nodes : ℕ → Option Node) (node : ℕ) (name : Option (List ℕ))
    (path : List (List ℕ)) : Type 0 where
  pub above : List (List ℕ)
  pub leads : (rows : Rows) → IsTree rows → AreNodes rows nodes
      → live_row (nodes node) ≡ Some (reached rows root above)
  pub all : path ≡ above ++ option_to_list name

-- ---- why there is no path

-- The errors of a node that has no path, or of bytes that are no name, before any call: the node isn't known or is gone
-- (ESTALE), the path or the name is too long, the bytes are no name (EINVAL; ENOENT of none), or memory is wanting.
abbrev pub IsPathError : Errno → Type 0
IsPathError errno.ESTALE = ⊤
IsPathError errno.ENAMETOOLONG = ⊤
IsPathError errno.EINVAL = ⊤
IsPathError errno.ENOENT = ⊤
IsPathError errno.ENOMEM = ⊤
IsPathError error = ⊥

-- a node that isn't known, or that is gone
abbrev pub IsLost : Option Hang → Type 0
IsLost None = ⊤
IsLost (Some Gone) = ⊤
IsLost hang = ⊥

-- Why no names lead to a node, and to a name in it, by the error that is told: the node, or one above it, isn't known or
-- is gone; or the name and those up to the node, or to one above it, take more than 1,024 bytes with their slashes. Of
-- want of memory nothing is said.
abbrev pub LacksNames : (ℕ → Option Hang) → ℕ → Option (List ℕ) → Errno → Type 0
LacksNames hangs node name errno.ESTALE = LeadsTo hangs node (λ names top. IsLost (hangs top))
LacksNames hangs node name errno.ENAMETOOLONG =
    LeadsTo hangs node (λ names top. 1024 < length (slashed (names ++ option_to_list name)))
LacksNames hangs node name errno.ENOMEM = ⊤
LacksNames hangs node name error = ⊥

-- bytes that have a slash or a zero byte, or are one or two dots
abbrev pub IsMarred : Option BadName → Type 0
IsMarred (Some Slash) = ⊤
IsMarred (Some Nul) = ⊤
IsMarred (Some Dot) = ⊤
IsMarred fault = ⊥

-- Why bytes are no name, by the error that is told: there are none, or more than 255, or they are marred.
abbrev pub LacksName : Option (List ℕ) → Errno → Type 0
LacksName None error = ⊥
LacksName (Some bytes) errno.ENOENT = name_fault bytes ≡ Some Empty
LacksName (Some bytes) errno.ENAMETOOLONG = name_fault bytes ≡ Some Long
LacksName (Some bytes) errno.EINVAL = IsMarred (name_fault bytes)
LacksName (Some bytes) errno.ENOMEM = ⊤
LacksName (Some bytes) error = ⊥

-- why there is no path of a node, or of a name in it, by the error that is told
abbrev pub LacksPath : (ℕ → Option Hang) → ℕ → Option (List ℕ) → Errno → Type 0
LacksPath hangs node name error = LacksNames hangs node name error ⊎ LacksName name error

-- the error of a node that is gone, if memory isn't wanting
abbrev pub IsStaleError : Errno → Type 0
IsStaleError errno.ESTALE = ⊤
IsStaleError errno.ENOMEM = ⊤
IsStaleError error = ⊥

-- there is none for a node that is gone
abbrev pub IsStale : {X : Type 0} → Result X Errno → Type 0
IsStale (Ok path) = ⊥
IsStale (Err error) = IsStaleError error
