-- Who makes the calls of a message.
use Rattle.std.specs.Prelude.{ℕ, false, List, ◌∷◌, take}
use Rattle.lfs_types.specs.Caller.{Caller}
use Rattle.lfs_fuse_wire.specs.declared.header.Header.{Header}

-- the user and the group of a message's header, and the first 15 of the other groups of its process; never init
abbrev pub caller_of : Header → List ℕ → Caller
caller_of header others = record { uid = header.uid; groups = header.gid ∷ take 15 others; init = false }
