-- Where names of directories may stand, by a table of their hashes.
use Rattle.std.specs.Prelude.{◌≡◌, ℕ, ◌+◌, ◌-◌, ◌*◌, ◌%◌, ◌<◌, ◌≤◌, ⊤, ◌⊎◌, List, length, take, drop, fold, slice_index_or}
use Rattle.std.specs.Prelude.{Option, None, Some, IsSome}
use Rattle.lfs_types.specs.declared.block.TheConstants.{BLOCK_SIZE}
use Rattle.lfs_types.specs.Stored.{bytes_of}
use Rattle.lfs_types.specs.Tree.{Content}
use Rattle.lfs_dirs.specs.Directory.{number_in}
use Rattle.lfs_dirs.specs.Reading.{entries_of}
use Rattle.lfs_known.specs.Says.{says}
use Rattle.lfs_known.specs.declared.slots.Slots.{Slots}
use Rattle.lfs_known.specs.declared.spot.Spot.{Spot}
use Rattle.lfs_known.specs.declared.spot.Spot.TheVariants.{Nowhere, One, Two, Anywhere}
use Rattle.lfs_known.specs.declared.name_table.NameTable.{NameTable}

-- names of a hash may stand in a block
abbrev pub Allows : Spot → ℕ → Type 0
Allows Nowhere k = ⊥
Allows (One a) k = k ≡ a
Allows (Two a b) k = (k ≡ a) ⊎ (k ≡ b)
Allows Anywhere k = ⊤

-- the hash of a name in a directory
unfoldable pub hash_of : ℕ → List ℕ → ℕ
hash_of dir name = fold (λ hash byte. (hash * 403 + byte) % 65536) (dir % 65536) name

-- a name of a directory may stand in a block, as spots say
unfoldable pub MayStand : List Spot → ℕ → List ℕ → ℕ → Type 0
MayStand spots dir name k = Allows (slice_index_or spots (hash_of dir name) Anywhere) k

-- a directory lists a name in a block
abbrev pub StandsAt : List ℕ → List ℕ → ℕ → Type 0
StandsAt bytes name k =
    IsSome (number_in name (entries_of (take BLOCK_SIZE (drop (BLOCK_SIZE * k) bytes))))

-- a directory has so many blocks, and each of its names stands only where spots say that it may
pub record IsPlaced (spots : List Spot) (dir : ℕ) (bytes : List ℕ) (blocks : ℕ) : Type 0 where
  pub long : length bytes ≡ BLOCK_SIZE * blocks
  pub stands : (name : List ℕ) (k : ℕ) → StandsAt bytes name k → MayStand spots dir name k

-- so it is with each directory that a table knows
abbrev pub ArePlaced : NameTable → Content → Type 0
ArePlaced table c = (dir blocks : ℕ) → says table.whole dir ≡ Some blocks
    → IsPlaced table.spots.items dir (bytes_of c dir) blocks

-- and with a table, if there is one
abbrev pub ArePlacedIn : Option NameTable → Content → Type 0
ArePlacedIn None c = ⊤
ArePlacedIn (Some table) c = ArePlaced table c

-- each directory of which a table has a number has so many blocks
abbrev pub AreSized : Slots ℕ → Content → Type 0
AreSized whole c = (dir blocks : ℕ) → says whole dir ≡ Some blocks
    → length (bytes_of c dir) ≡ BLOCK_SIZE * blocks

-- bytes that were put into a directory of so many blocks are one, over another or behind the last, and leave so many
pub record IsGrown (blocks off long now : ℕ) : Type 0 where
  pub some : 0 < blocks
  pub block : long ≡ BLOCK_SIZE
  pub aligned : off % BLOCK_SIZE ≡ 0
  pub within : off ≤ BLOCK_SIZE * blocks
  pub count : off + BLOCK_SIZE + (BLOCK_SIZE * blocks - (off + BLOCK_SIZE)) ≡ BLOCK_SIZE * now

-- names stand in blocks of directories where they stood before, but for one name, which may stand in a block of one
-- directory besides
abbrev pub StandsBesides : Content → Content → ℕ → List ℕ → ℕ → Type 0
StandsBesides old new dir name k = (d : ℕ) (n : List ℕ) (j : ℕ) → StandsAt (bytes_of new d) n j
    → StandsAt (bytes_of old d) n j ⊎ ((d ≡ dir) × (n ≡ name) × (j ≡ k))
