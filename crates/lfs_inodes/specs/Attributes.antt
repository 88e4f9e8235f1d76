-- The attributes of an inode, as its record has them and as stat(2) shows them.
use Rattle.std.specs.Prelude.{ℕ}
use Rattle.lfs_types.specs.declared.attrs.Attrs.{Attrs}
use Rattle.lfs_types.specs.declared.attrs.Kind.{Kind}
use Rattle.lfs_inodes.specs.declared.inode.Inode.{Inode}

-- all that a record says but its addresses
pub record Attributes : Type 0 where
  pub kind : Kind
  pub number : ℕ
  pub version : ℕ
  pub owner : ℕ
  pub group : ℕ
  pub mode : ℕ
  pub flags : ℕ
  pub size : ℕ

abbrev pub attributes : Inode → Attributes
attributes v = record {
  kind = v.kind;
  number = v.number;
  version = v.version;
  owner = v.owner;
  group = v.group;
  mode = v.mode;
  flags = v.flags;
  size = v.size;
}

-- what stat(2) shows of them
abbrev pub stat_of : Attributes → Attrs
stat_of a = record { kind = a.kind; uid = a.owner; gid = a.group; mode = a.mode; flags = a.flags; size = a.size }

-- those of a number at a version that show these attributes, but for the size
abbrev pub attributes_from : ℕ → ℕ → Attrs → ℕ → Attributes
attributes_from number version shown size = record {
  kind = shown.kind;
  number = number;
  version = version;
  owner = shown.uid;
  group = shown.gid;
  mode = shown.mode;
  flags = shown.flags;
  size = size;
}
