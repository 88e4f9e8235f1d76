-- By how much changes make files take more, by the lengths that these have.
use Rattle.std.specs.Prelude.{ℕ, ◌+◌, ◌-◌, ◌<◌, ◌≤◌, ◌==◌, List, length, if◌then◌else◌, sum_by, IsSomeAnd}
use Rattle.std.specs.FinMap as map
use Rattle.lfs_types.specs.StoreStates.{StoreState}
use Rattle.lfs_types.specs.Tree.{Content}
use Rattle.lfs_types.specs.declared.store.Change.{Change}
use Rattle.lfs_types.specs.declared.store.Change.TheVariants.{Make, Remove, SetAttrs, Put, SetLength}
use Rattle.lfs_inodes.specs.Facts.{block_count}
use Rattle.lfs_share.specs.Share.{share_of, taken, units_of_file, units_of_length}

-- by how much the file of a number takes more where it gets this length
abbrev pub growth_to : Content → ℕ → ℕ → ℕ
growth_to c ino len = units_of_length len - units_of_file (map.get c ino)

-- by how much a change makes files take more at most
abbrev pub growth_of : Content → Change → ℕ
growth_of c (Make ino attrs) = units_of_length 0
growth_of c (Remove ino) = 0
growth_of c (SetAttrs ino attrs) = 0
growth_of c (Put ino off bytes) = if length bytes.now == 0 then 0 else growth_to c ino (off + length bytes.now)
growth_of c (SetLength ino len) = growth_to c ino len

-- and so many changes together
abbrev pub growth_of_all : Content → List Change → ℕ
growth_of_all c changes = sum_by (growth_of c) changes

-- Changes make files take more, and by so much that they would pass the share of the volume.
pub record PassesShare (changes : List Change) (s : StoreState) : Type 0 where
  pub grow : 0 < growth_of_all s.content changes
  pub past : share_of s.shape.segments < taken s.shape.numbers s.content + growth_of_all s.content changes

-- A change gives back or adds nothing: it removes a file, leaves its bytes, or ends within the blocks that the file has.
abbrev pub IsEven : Content → Change → Type 0
IsEven c (Make ino attrs) = ⊥
IsEven c (Remove ino) = Unit {0}
IsEven c (SetAttrs ino attrs) = Unit {0}
IsEven c (Put ino off bytes) = 0 < length bytes.now
    → IsSomeAnd (map.get c ino) (λ f. block_count (off + length bytes.now) ≤ block_count (length f.bytes))
IsEven c (SetLength ino len) = IsSomeAnd (map.get c ino) (λ f. block_count len ≤ block_count (length f.bytes))
