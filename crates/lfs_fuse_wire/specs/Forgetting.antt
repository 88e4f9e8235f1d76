-- The fields of messages that forget nodes (the FUSE protocol's fuse.h).
use Rattle.std.specs.Prelude.{ℕ, ◌+◌, ◌*◌, ◌/◌, List, length, nat_lt, if◌then◌else◌, Option, Some, None}
use Rattle.lfs_fuse_wire.specs.declared.forgetting.Forget.{Forget}
use Rattle.lfs_fuse_wire.specs.declared.forgetting.NodeForget.{NodeForget}
use Rattle.lfs_fuse_wire.specs.Numbers.{at_least, number_at}

abbrev pub forget_of : List ℕ → Forget
forget_of body = record { lookups = number_at body 0 8 }

abbrev pub forget_in : List ℕ → Option Forget
forget_in = at_least 8 forget_of

-- the 16 bytes of one node
abbrev pub node_forgotten : List ℕ → ℕ → NodeForget
node_forgotten bytes at = record { node = number_at bytes at 8; lookups = number_at bytes (at + 8) 8 }

-- the node at a place of a batch
abbrev pub node_forgotten_at : ℕ → List ℕ → Option NodeForget
node_forgotten_at index bytes = if nat_lt index (length bytes / 16) then Some (node_forgotten bytes (16 * index))
    else None
