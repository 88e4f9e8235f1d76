-- What the kernel forgets of its nodes.
use Rattle.std.specs.Prelude.{◌≡◌, ◌≢◌, ⊤, ℕ, zero, suc, ◌/◌, true, false, List, length, Option, None, Some}
use Rattle.lfs_nodes.specs.declared.node.Node.{Node}
use Rattle.lfs_nodes.specs.declared.parts.Parts.{Parts}
use Rattle.lfs_nodes.specs.Changes.{forgotten}
use Rattle.lfs_nodes.specs.Holds.{is_known_held}
use Rattle.lfs_nodes.specs.Maps.{node_at}
use Rattle.lfs_nodes.specs.Nodes.{known}
use Rattle.lfs_nodes.specs.Reads.{children_in}
use Rattle.lfs_fuse_wire.specs.Forgetting.{node_forgotten_at}
use Rattle.lfs_fuse_wire.specs.Said.{Said, forget, batch_forget}
use Rattle.lfs_fuse_wire.specs.declared.forgetting.NodeForget.{NodeForget}
use Rattle.lfs_fuse_wire.specs.declared.header.Header.{Header}

-- So many look-ups of a node were forgotten: it has so many fewer, or is dropped where nothing holds it any more. Each
-- other node that the kernel holds is as it was, and any other is so too, or is dropped.
pub record IsForgotten (id count : ℕ) (before after : Parts) : Type 0 where
  pub counted : (n : Node) → known before id ≡ Some n
      → is_known_held (Some (forgotten count n)) ≡ true
      → known after id ≡ Some (forgotten count n)
  pub dropped : (n : Node) → known before id ≡ Some n
      → is_known_held (Some (forgotten count n)) ≡ false
      → children_in (node_at before.table id) ≡ Some 0 → known after id ≡ None
  pub held : (q : ℕ) → q ≢ id → is_known_held (known before q) ≡ true
      → known after q ≡ known before q
  pub others : (q : ℕ) (n : Node) → q ≢ id → known after q ≡ Some n → known before q ≡ Some n
  pub next : after.next ≡ before.next

-- look-ups of one node of a batch, if there is one
abbrev pub IsOneForgotten : Option NodeForget → Parts → Parts → Type 0
IsOneForgotten None before after = after ≡ before
IsOneForgotten (Some one) before after = IsForgotten one.node one.lookups before after

-- look-ups of the first n nodes of a batch, one after another
unfoldable pub AreForgotten : List ℕ → ℕ → Parts → Parts → Type 0
AreForgotten bytes zero before after = after ≡ before
AreForgotten bytes (suc n) before after =
    (between : Parts) × AreForgotten bytes n before between
    × IsOneForgotten (node_forgotten_at n bytes) between after

-- what a message has the kernel forget: of the node of its header, or of each node of a batch, in order
abbrev pub IsForgetting : Said → ℕ → Parts → Parts → Type 0
IsForgetting (forget fields) node before after = IsForgotten node fields.lookups before after
IsForgetting (batch_forget bytes) node before after =
    AreForgotten bytes (length bytes / 16) before after
IsForgetting message node before after = ⊤

-- a message that has nothing forgotten
abbrev pub ForgetsNothing : Said → Type 0
ForgetsNothing (forget fields) = ⊥
ForgetsNothing (batch_forget bytes) = ⊥
ForgetsNothing message = ⊤

-- the same of the bytes of a message, if they are one
abbrev pub IsForgettingOf : Option Said → ℕ → Parts → Parts → Type 0
IsForgettingOf None node before after = ⊤
IsForgettingOf (Some message) node before after = IsForgetting message node before after

-- and of the message of a header, if there is one
abbrev pub IsForgettingIn : Option Header → Option Said → Parts → Parts → Type 0
IsForgettingIn None message before after = ⊤
IsForgettingIn (Some header) message before after = IsForgettingOf message header.node before after
