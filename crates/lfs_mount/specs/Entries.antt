-- What becomes of nodes behind the calls of a message, and which of them an entry names.
use Rattle.std.specs.Prelude.{◌≡◌, ℕ, List, Option, None, Some}
use Rattle.lfs_nodes.specs.LookUps.{IsLookUpFault, IsLookedUp}
use Rattle.lfs_nodes.specs.Maps.{id_at}
use Rattle.lfs_nodes.specs.Moves.{gone_at}
use Rattle.lfs_nodes.specs.Nodes.{IsKnownAs, known, place_at}
use Rattle.lfs_nodes.specs.declared.fault.LookUpFault.TheVariants.{Exhausted, Memory, Stale}
use Rattle.lfs_nodes.specs.declared.parts.Parts.{Parts}
use Rattle.lfs_fuse_wire.specs.Said.{Said, lookup, mknod, mkdir, create, unlink, rmdir}
use Rattle.lfs_fuse_reply.specs.declared.errno.Errno.{Errno}
use Rattle.lfs_fuse_reply.specs.declared.errno.Errno.TheVariants as errno
use Rattle.lfs_fuse_calls.specs.declared.telling.Seen.{Seen as Stat}
use Rattle.lfs_fuse_calls.specs.declared.told.Told.{Told}
use Rattle.lfs_fuse_calls.specs.declared.told.Told.TheVariants as told

-- why an entry of a directory has no node, by the error that is told
abbrev pub IsNodeFault : Parts → ℕ → Errno → Type 0
IsNodeFault nodes directory errno.ESTALE = IsLookUpFault nodes directory Stale
IsNodeFault nodes directory errno.EOVERFLOW = IsLookUpFault nodes directory Exhausted
IsNodeFault nodes directory errno.ENOMEM = IsLookUpFault nodes directory Memory
IsNodeFault nodes directory error = ⊥

-- A node of a row of this number at a name in a directory was looked up: the one that is known there, if one is.
pub record IsNodeOf (directory : ℕ) (name : List ℕ) (row node : ℕ) (before after : Parts)
    : Type 0 where
  pub looked_up : IsLookedUp before (place_at directory name) row node after
  pub same : (id : ℕ) → IsKnownAs before (place_at directory name) row id → node ≡ id

-- None is known there, and none could be given, for this error. Each node is as it was.
pub record LacksNode (directory : ℕ) (name : List ℕ) (row : ℕ) (error : Errno)
    (before after : Parts) : Type 0 where
  pub none : (id : ℕ) → IsKnownAs before (place_at directory name) row id → ⊥
  pub fault : IsNodeFault before directory error
  pub same : (q : ℕ) → known after q ≡ known before q

-- The node that an entry names is that of its row at its name in the directory; or it is told why there is none.
abbrev pub NamesNode : ℕ → List ℕ → ℕ → Told → Parts → Parts → Type 0
NamesNode directory name row (told.Entry entry) before after =
    IsNodeOf directory name row entry.node before after
NamesNode directory name row (told.Create entry opened) before after =
    IsNodeOf directory name row entry.node before after
NamesNode directory name row (told.Error error) before after =
    LacksNode directory name row error before after
NamesNode directory name row reply before after = ⊥

-- the same of the row that a Stat showed, if one did
abbrev pub NamesSeen : ℕ → List ℕ → Option Stat → Told → Parts → Parts → Type 0
NamesSeen directory name None reply before after = (reply ≡ told.Error errno.EIO) × (after ≡ before)
NamesSeen directory name (Some seen) reply before after =
    NamesNode directory name seen.number reply before after

-- the node at a name in a directory, if there is one, is gone, and each other is as it was
abbrev pub LosesNode : ℕ → List ℕ → Parts → Parts → Type 0
LosesNode directory name before after =
    (q : ℕ) → known after q
    ≡ gone_at (id_at before.index (place_at directory name)) (known before) q

-- what becomes of nodes behind the calls of a message, which were served
abbrev pub NodesFollow : Said → ℕ → Option Stat → Told → Parts → Parts → Type 0
NodesFollow (lookup name) directory seen reply before after =
    NamesSeen directory name seen reply before after
NodesFollow (mknod fields name) directory seen reply before after =
    NamesSeen directory name seen reply before after
NodesFollow (mkdir fields name) directory seen reply before after =
    NamesSeen directory name seen reply before after
NodesFollow (create fields name) directory seen reply before after =
    NamesSeen directory name seen reply before after
NodesFollow (unlink name) directory seen reply before after = LosesNode directory name before after
NodesFollow (rmdir name) directory seen reply before after = LosesNode directory name before after
NodesFollow message directory seen reply before after = after ≡ before
