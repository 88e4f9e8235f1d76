-- Files that may stand where they do, each by itself.
use Rattle.std.specs.Prelude.{◌≡◌, ◌≢◌, ℕ, ◌/◌, ◌%◌, ◌<◌, ◌≤◌, length, Some}
use Rattle.std.specs.FinMap as map
use Rattle.lfs_types.specs.declared.attrs.Attrs.{Attrs}
use Rattle.lfs_types.specs.declared.attrs.Kind.{Kind}
use Rattle.lfs_types.specs.declared.block.TheConstants.{BLOCK_SIZE}
use Rattle.lfs_types.specs.declared.limits.TheConstants.{FIRST_INODE, FILE_BYTES}
use Rattle.lfs_types.specs.Changes.{IsLength}
use Rattle.lfs_types.specs.Stored.{bytes_of}
use Rattle.lfs_types.specs.Tree.{Content, File, root}
use Rattle.lfs_calls.specs.Content.{IsDirectoryAt}
use Rattle.lfs_trees.specs.declared.fault.TreeFault.{TreeFault}
use Rattle.lfs_trees.specs.declared.fault.TreeFault.TheVariants.{Root, Reserved, Length, Block, NameTwice, RootListed}
use Rattle.lfs_trees.specs.declared.fault.TreeFault.TheVariants.{Unused, NumberTwice, Unreached, Memory}

-- a file of this kind with so many bytes may have this number
pub record MayStand (number : ℕ) (kind : Kind) (size : ℕ) : Type 0 where
  pub numbered : number ≢ root → FIRST_INODE ≤ number
  pub sized : IsLength kind size

-- each file may
abbrev pub AreFiles : Content → Type 0
AreFiles c = (n : ℕ) (f : File) → map.get c n ≡ Some f → MayStand n f.kind (length f.bytes)

-- why a file of these attributes may not have a number
abbrev pub IsNumberFault : ℕ → Attrs → TreeFault → Type 0
IsNumberFault number attrs Root = ⊥
IsNumberFault number attrs (Reserved n) = (n ≡ number) × (number ≢ root) × (number < FIRST_INODE)
IsNumberFault number attrs (Length n) = (n ≡ number) × (IsLength attrs.kind attrs.size → ⊥)
IsNumberFault number attrs (Block directory index) = ⊥
IsNumberFault number attrs (NameTwice directory n) = ⊥
IsNumberFault number attrs (RootListed directory) = ⊥
IsNumberFault number attrs (Unused directory n) = ⊥
IsNumberFault number attrs (NumberTwice n) = ⊥
IsNumberFault number attrs (Unreached n) = ⊥
IsNumberFault number attrs Memory = ⊥

-- a directory has so many blocks, and no part of one
pub record HasWhole (c : Content) (number blocks : ℕ) : Type 0 where
  pub directory : IsDirectoryAt c number
  pub counted : blocks ≡ length (bytes_of c number) / BLOCK_SIZE
  pub whole : length (bytes_of c number) % BLOCK_SIZE ≡ 0
  pub bounded : length (bytes_of c number) ≤ FILE_BYTES
