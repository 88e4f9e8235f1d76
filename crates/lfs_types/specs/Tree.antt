-- The tree of files, and what a store contains.
use Rattle.std.specs.Prelude.{ℕ, List, [], length, Option, None, Some}
use Rattle.std.specs.Ordering.{nat_cmp}
use Rattle.std.specs.FinMap as map
use Rattle.std.specs.FinMap.{FinMap}
use Rattle.lfs_types.specs.declared.attrs.Attrs.{Attrs}
use Rattle.lfs_types.specs.declared.attrs.Kind.{Kind}
use Rattle.lfs_types.specs.declared.attrs.Kind.TheVariants.{Directory}
use Rattle.lfs_types.specs.declared.level.Level.{Level}
use Rattle.lfs_types.specs.declared.level.Level.TheVariants.{Insecure}

-- A file: its attributes, and its bytes. In a store, a directory's bytes are its blocks; in a world, it has none.
pub record File : Type 0 where
  pub kind : Kind
  pub uid : ℕ
  pub gid : ℕ
  pub mode : ℕ
  pub flags : ℕ
  pub bytes : List ℕ

-- what a store contains: a file for each number in use
abbrev pub Content : Type 0
Content = FinMap nat_cmp File

-- a content with a file at a number, if there is one
abbrev pub content_with : ℕ → Option File → Content → Content
content_with number None c = c
content_with number (Some f) c = map.insert c number f

-- the attributes that a file shows
abbrev pub attrs_of : File → Attrs
attrs_of f = record { kind = f.kind; uid = f.uid; gid = f.gid; mode = f.mode; flags = f.flags; size = length f.bytes }

-- a file of these attributes with these bytes
abbrev pub file_of : Attrs → List ℕ → File
file_of a bytes = record { kind = a.kind; uid = a.uid; gid = a.gid; mode = a.mode; flags = a.flags; bytes = bytes }

-- a row of the tree: where its name hangs, the name, and the file
pub record Row : Type 0 where
  pub parent : ℕ
  pub name : List ℕ
  pub file : File

-- a world: the securelevel, and a row for each number in use
pub record World : Type 0 where
  pub level : Level
  pub rows : FinMap nat_cmp Row

-- the number of the root directory
abbrev pub root : ℕ
root = 2

-- the root directory of a fresh volume
abbrev pub fresh_root : File
fresh_root = record { kind = Directory; uid = 0; gid = 0; mode = 0o755; flags = 0; bytes = [] }

-- the world of a fresh volume: the root alone, at level 0
abbrev pub opening_world : World
opening_world = record {
  level = Insecure;
  rows = map.insert map.empty root (record { parent = root; name = []; file = fresh_root });
}

-- what the store of a fresh volume contains
abbrev pub opening_content : Content
opening_content = map.insert map.empty root fresh_root
