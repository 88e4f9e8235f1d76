-- The fields of the message with which the talk begins (the FUSE protocol's fuse.h).
use Rattle.std.specs.Prelude.{ℕ, ◌+◌, ◌*◌, List, length, nat_lt, if◌then◌else◌, Option}
use Rattle.lfs_fuse_wire.specs.declared.init.Init.{Init}
use Rattle.lfs_fuse_wire.specs.Numbers.{at_least, has, number_at}

-- the second word of flags, which is there where bit 30 of the first says so
abbrev pub more_flags : List ℕ → ℕ
more_flags body = if nat_lt (length body) 20 then 0
    else (if has (number_at body 12 4) 0x40000000 then number_at body 16 4 else 0)

abbrev pub init_of : List ℕ → Init
init_of body = record {
  major = number_at body 0 4;
  minor = number_at body 4 4;
  max_readahead = number_at body 8 4;
  flags = record { 0 = number_at body 12 4 + 0x100000000 * more_flags body };
}

abbrev pub init_in : List ℕ → Option Init
init_in = at_least 16 init_of
