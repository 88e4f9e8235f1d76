-- The fields of messages that make and move names, each at its place behind the header (the FUSE protocol's fuse.h).
use Rattle.std.specs.Prelude.{ℕ, ◌==◌, List, if◌then◌else◌, Option}
use Rattle.lfs_fuse_wire.specs.declared.naming.Create.{Create}
use Rattle.lfs_fuse_wire.specs.declared.naming.Mkdir.{Mkdir}
use Rattle.lfs_fuse_wire.specs.declared.naming.Mknod.{Mknod}
use Rattle.lfs_fuse_wire.specs.declared.naming.Rename.{Rename}
use Rattle.lfs_fuse_wire.specs.declared.naming.RenameMode.{RenameMode}
use Rattle.lfs_fuse_wire.specs.declared.naming.RenameMode.TheVariants.{Replace, NoReplace, Exchange, Other}
use Rattle.lfs_fuse_wire.specs.Flags.{open_flags_in}
use Rattle.lfs_fuse_wire.specs.Kinds.{kind_in, permissions_in}
use Rattle.lfs_fuse_wire.specs.Numbers.{at_least, has, number_at}

abbrev pub mknod_of : List ℕ → Mknod
mknod_of body = record {
  kind = kind_in (number_at body 0 4);
  permissions = permissions_in (number_at body 0 4);
  umask = permissions_in (number_at body 8 4);
}

abbrev pub mknod_in : List ℕ → Option Mknod
mknod_in = at_least 16 mknod_of

abbrev pub mkdir_of : List ℕ → Mkdir
mkdir_of body = record {
  permissions = permissions_in (number_at body 0 4);
  umask = permissions_in (number_at body 4 4);
}

abbrev pub mkdir_in : List ℕ → Option Mkdir
mkdir_in = at_least 8 mkdir_of

abbrev pub create_of : List ℕ → Create
create_of body = record {
  flags = open_flags_in (number_at body 0 4);
  permissions = permissions_in (number_at body 4 4);
  umask = permissions_in (number_at body 8 4);
  kill_set_id = has (number_at body 12 4) 1;
}

abbrev pub create_in : List ℕ → Option Create
create_in = at_least 16 create_of

-- the flags of renameat2(2)
abbrev pub move_in : ℕ → RenameMode
move_in flags =
    if flags == 0 then Replace else
    (if flags == 1 then NoReplace else
    (if flags == 2 then Exchange else
    Other))

abbrev pub rename_of : List ℕ → Rename
rename_of body = record { directory = number_at body 0 8; mode = Replace }

abbrev pub rename_in : List ℕ → Option Rename
rename_in = at_least 8 rename_of

abbrev pub rename2_of : List ℕ → Rename
rename2_of body = record { directory = number_at body 0 8; mode = move_in (number_at body 8 4) }

abbrev pub rename2_in : List ℕ → Option Rename
rename2_in = at_least 16 rename2_of
