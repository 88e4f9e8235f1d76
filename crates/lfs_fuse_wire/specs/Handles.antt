-- The fields of messages about what is opened, each at its place behind the header (the FUSE protocol's fuse.h).
use Rattle.std.specs.Prelude.{ℕ, List, Option}
use Rattle.lfs_fuse_wire.specs.declared.handles.Flush.{Flush}
use Rattle.lfs_fuse_wire.specs.declared.handles.Fsync.{Fsync}
use Rattle.lfs_fuse_wire.specs.declared.handles.Open.{Open}
use Rattle.lfs_fuse_wire.specs.declared.handles.Read.{Read}
use Rattle.lfs_fuse_wire.specs.declared.handles.Release.{Release}
use Rattle.lfs_fuse_wire.specs.declared.handles.Write.{Write}
use Rattle.lfs_fuse_wire.specs.Flags.{open_flags_in}
use Rattle.lfs_fuse_wire.specs.Numbers.{at_least, has, number_at}

abbrev pub open_of : List ℕ → Open
open_of body = record {
  flags = open_flags_in (number_at body 0 4);
  kill_set_id = has (number_at body 4 4) 1;
}

abbrev pub open_in : List ℕ → Option Open
open_in = at_least 8 open_of

abbrev pub read_of : List ℕ → Read
read_of body = record {
  handle = number_at body 0 8;
  offset = number_at body 8 8;
  size = number_at body 16 4;
}

abbrev pub read_in : List ℕ → Option Read
read_in = at_least 40 read_of

abbrev pub write_of : List ℕ → Write
write_of body = record {
  handle = number_at body 0 8;
  offset = number_at body 8 8;
  size = number_at body 16 4;
  cached = has (number_at body 20 4) 1;
  kill_set_id = has (number_at body 20 4) 4;
  flags = open_flags_in (number_at body 32 4);
}

abbrev pub write_in : List ℕ → Option Write
write_in = at_least 40 write_of

abbrev pub release_of : List ℕ → Release
release_of body = record {
  handle = number_at body 0 8;
  flags = open_flags_in (number_at body 8 4);
  flush = has (number_at body 12 4) 1;
  unlock = has (number_at body 12 4) 2;
  lock_owner = number_at body 16 8;
}

abbrev pub release_in : List ℕ → Option Release
release_in = at_least 24 release_of

abbrev pub flush_of : List ℕ → Flush
flush_of body = record { handle = number_at body 0 8; lock_owner = number_at body 16 8 }

abbrev pub flush_in : List ℕ → Option Flush
flush_in = at_least 24 flush_of

abbrev pub fsync_of : List ℕ → Fsync
fsync_of body = record { handle = number_at body 0 8; data_only = has (number_at body 8 4) 1 }

abbrev pub fsync_in : List ℕ → Option Fsync
fsync_in = at_least 16 fsync_of
