-- The grammar of an inode record: what each of its 128 bytes holds (this project's profile).
use Rattle.std.specs.Prelude.{◌≡◌, ◌<◌, ℕ, ◌+◌, ◌*◌, List, length, slice_index}
use Rattle.lfs_types.specs.declared.attrs.Kind.{Kind}
use Rattle.lfs_types.specs.declared.attrs.Kind.TheVariants.{File, Directory}
use Rattle.lfs_inodes.specs.declared.inode.Inode.{Inode}
use Rattle.lfs_inodes.specs.declared.inode.TheConstants.{DIRECT_COUNT}
use Rattle.lfs_inodes.specs.Bytes.{number_at, AreZero}
use Rattle.lfs_inodes.specs.Facts.{IsVersion}

abbrev pub IsKindCode : ℕ → Kind → Type 0
IsKindCode code File = code ≡ 1
IsKindCode code Directory = code ≡ 2

-- bytes 2 to 11: which file or directory it is
pub record HasIdentity (bytes : List ℕ) (v : Inode) : Type 0 where
  pub kind : IsKindCode (number_at bytes 2 2) v.kind
  pub number : number_at bytes 4 4 ≡ v.number
  pub version : number_at bytes 8 4 ≡ v.version

-- bytes 12 to 35: what may be said and changed of it
pub record HasAttributes (bytes : List ℕ) (v : Inode) : Type 0 where
  pub owner : number_at bytes 12 4 ≡ v.owner
  pub group : number_at bytes 16 4 ≡ v.group
  pub mode : number_at bytes 20 2 ≡ v.mode
  pub unnamed : AreZero bytes 22 24
  pub flags : number_at bytes 24 4 ≡ v.flags
  pub size : number_at bytes 28 8 ≡ v.size

-- bytes 36 to 127: the twelve direct addresses, those of the single and of the double indirect block, and zeros
pub record HasAddresses (bytes : List ℕ) (v : Inode) : Type 0 where
  pub direct : (n : ℕ) → n < DIRECT_COUNT → number_at bytes (36 + 4 * n) 4 ≡ slice_index v.direct n
  pub single : number_at bytes 84 4 ≡ v.single
  pub double : number_at bytes 88 4 ≡ v.double
  pub unnamed : AreZero bytes 92 128

-- the bytes are the record of the inode, whose type bounds its fields
pub record IsRecord (bytes : List ℕ) (v : Inode) : Type 0 where
  pub whole : length bytes ≡ 128
  pub record_version : IsVersion (number_at bytes 0 2) v.double
  pub identity : HasIdentity bytes v
  pub attributes : HasAttributes bytes v
  pub addresses : HasAddresses bytes v
