-- Where the first message of bytes ends.
use Rattle.std.specs.Prelude.{◌≡◌, ℕ, List, length, nat_lt, take, if◌then◌else◌, Some, ⊤}
use Rattle.lfs_fuse_wire.specs.declared.framing.Frame.{Frame}
use Rattle.lfs_fuse_wire.specs.declared.framing.Frame.TheVariants.{Whole, Partial, Bad}
use Rattle.lfs_fuse_wire.specs.declared.header.TheConstants.{HEADER_SIZE}
use Rattle.lfs_fuse_wire.specs.Header.{message_in}
use Rattle.lfs_fuse_wire.specs.Numbers.{number_at}

-- a message of this length at the front of so many bytes
abbrev pub frame_of : ℕ → ℕ → ℕ → Frame
frame_of most size told =
    if nat_lt told HEADER_SIZE then Bad else
    (if nat_lt most told then Bad else
    (if nat_lt size told then Partial else
    Whole told))

-- the length stands in the first four bytes
abbrev pub frame_in : ℕ → List ℕ → Frame
frame_in most bytes = if nat_lt (length bytes) 4 then Partial else frame_of most (length bytes) (number_at bytes 0 4)

-- the bytes of a whole message are those that are read as the first
abbrev pub IsFirst : List ℕ → Frame → Type 0
IsFirst bytes (Whole size) = message_in bytes ≡ Some (take size bytes)
IsFirst bytes Partial = ⊤
IsFirst bytes Bad = ⊤
