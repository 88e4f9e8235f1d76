-- The header of a message: which bytes hold what (the FUSE protocol's fuse.h), and how far the message goes.
use Rattle.std.specs.Prelude.{ℕ, List, nat_lt, if◌then◌else◌, is_some, Option, None}
use Rattle.std.specs.Option.{option_and_then}
use Rattle.lfs_fuse_wire.specs.declared.header.Header.{Header}
use Rattle.lfs_fuse_wire.specs.declared.header.TheConstants.{HEADER_SIZE}
use Rattle.lfs_fuse_wire.specs.declared.message.MessageFault.{MessageFault}
use Rattle.lfs_fuse_wire.specs.declared.message.MessageFault.TheVariants.{Cut, Short}
use Rattle.lfs_fuse_wire.specs.Names.{first_in}
use Rattle.lfs_fuse_wire.specs.Numbers.{at_least, number_at}

-- bytes 36 to 39 say how long what follows the message's own fields is, and are not looked at
abbrev pub header_of : List ℕ → Header
header_of bytes = record {
  length = number_at bytes 0 4;
  opcode = number_at bytes 4 4;
  unique = number_at bytes 8 8;
  node = number_at bytes 16 8;
  uid = number_at bytes 24 4;
  gid = number_at bytes 28 4;
  pid = number_at bytes 32 4;
}

-- the header that the bytes begin with, if they are as many as a header has
abbrev pub header_in : List ℕ → Option Header
header_in = at_least HEADER_SIZE header_of

-- as many of the bytes as this header tells
abbrev pub told_by : List ℕ → Header → Option (List ℕ)
told_by bytes header = if nat_lt header.length HEADER_SIZE then None else first_in header.length bytes

-- the bytes of the message at the front: as many as its header tells, and no others
abbrev pub message_in : List ℕ → Option (List ℕ)
message_in bytes = option_and_then (told_by bytes) (header_in bytes)

-- why bytes that say nothing do
abbrev pub bad_message : List ℕ → MessageFault
bad_message bytes = if is_some (message_in bytes) then Short else Cut
