-- What a kernel is told of a file's attributes.
use Rattle.std.specs.Prelude.{ℕ, ◌+◌, ◌/◌, ◌%◌, ◌==◌, if◌then◌else◌}
use Rattle.lfs_types.specs.declared.attrs.Attrs.{Attrs}
use Rattle.lfs_types.specs.declared.attrs.Kind.{Kind}
use Rattle.lfs_types.specs.declared.attrs.Kind.TheVariants.{File, Directory}
use Rattle.lfs_fuse_wire.specs.declared.attributes.Time.{Time}
use Rattle.lfs_fuse_wire.specs.declared.kind.FileKind.{FileKind}
use Rattle.lfs_fuse_wire.specs.declared.kind.FileKind.TheVariants as kind
use Rattle.lfs_fuse_reply.specs.declared.attr.Attr.{Attr}

abbrev pub kind_told : Kind → FileKind
kind_told File = kind.Regular
kind_told Directory = kind.Directory

-- a directory is told to have two names, a file one
abbrev pub links_told : Kind → ℕ
links_told File = 1
links_told Directory = 2

-- no time is kept
abbrev pub no_time : Time
no_time = record { seconds = 0; nanoseconds = 0 }

-- units of 512 bytes, the last one begun
abbrev pub blocks_told : ℕ → ℕ
blocks_told size = size / 512 + (if size % 512 == 0 then 0 else 1)

-- the attributes that a Stat shows, as the kernel is told them
abbrev pub attr_of : ℕ → Attrs → Attr
attr_of number attrs = record {
  inode = number;
  size = attrs.size;
  blocks = blocks_told attrs.size;
  accessed = no_time;
  modified = no_time;
  changed = no_time;
  kind = kind_told attrs.kind;
  permissions = attrs.mode;
  links = links_told attrs.kind;
  uid = attrs.uid;
  gid = attrs.gid;
  block_size = 4096;
}
