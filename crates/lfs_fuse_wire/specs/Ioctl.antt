-- The fields of control calls (the FUSE protocol's fuse.h), and what their numbers ask (linux/fs.h).
use Rattle.std.specs.Prelude.{ℕ, ◌==◌, List, length, nat_lt, if◌then◌else◌, Option}
use Rattle.lfs_fuse_wire.specs.declared.ioctl.Command.{Command}
use Rattle.lfs_fuse_wire.specs.declared.ioctl.Command.TheVariants.{GetFlags, SetFlags, GetExtended, Other}
use Rattle.lfs_fuse_wire.specs.declared.ioctl.Fields.{Fields}
use Rattle.lfs_fuse_wire.specs.Numbers.{at_least, has, number_at}

abbrev pub fields_of : List ℕ → Fields
fields_of body = record {
  handle = number_at body 0 8;
  directory = has (number_at body 8 4) 16;
  number = number_at body 12 4;
  in_size = number_at body 24 4;
  out_size = number_at body 28 4;
}

abbrev pub fields_in : List ℕ → Option Fields
fields_in = at_least 32 fields_of

-- new flags are the first four of the bytes that the call carries
abbrev pub command_in : ℕ → List ℕ → Command
command_in number carried =
    if number == 0x80086601 then GetFlags else
    (if number == 0x40086602 then (if nat_lt (length carried) 4 then Other number else SetFlags (number_at carried 0 4))
    else
    (if number == 0x801c581f then GetExtended else
    Other number))
