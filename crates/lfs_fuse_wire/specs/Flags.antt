-- The flags of open(2) by the numbers of Linux.
use Rattle.std.specs.Prelude.{ℕ, ◌==◌, if◌then◌else◌}
use Rattle.std.specs.Int.RustNames.{bit_and}
use Rattle.lfs_fuse_wire.specs.declared.flags.AccessMode.{AccessMode}
use Rattle.lfs_fuse_wire.specs.declared.flags.AccessMode.TheVariants.{ReadOnly, WriteOnly, ReadWrite, Neither}
use Rattle.lfs_fuse_wire.specs.declared.flags.OpenFlags.{OpenFlags}
use Rattle.lfs_fuse_wire.specs.Numbers.{has}

-- the lowest two bits
abbrev pub access_in : ℕ → AccessMode
access_in flags =
    if bit_and flags 3 == 0 then ReadOnly else
    (if bit_and flags 3 == 1 then WriteOnly else
    (if bit_and flags 3 == 2 then ReadWrite else
    Neither))

abbrev pub open_flags_in : ℕ → OpenFlags
open_flags_in flags = record {
  access = access_in flags;
  append = has flags 0x400;
  truncate = has flags 0x200;
  exclusive = has flags 0x80;
  exec = has flags 0x20;
}
