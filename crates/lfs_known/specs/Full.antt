-- When what hints say of directories is true.
use Rattle.std.specs.Prelude.{◌≡◌, ℕ, ◌+◌, ◌*◌, ◌<◌, ◌≤◌, List, length, take, drop, Some}
use Rattle.lfs_types.specs.declared.block.TheConstants.{BLOCK_SIZE}
use Rattle.lfs_types.specs.Stored.{bytes_of}
use Rattle.lfs_types.specs.Tree.{Content}
use Rattle.lfs_dirs.specs.Directory.{used_of}
use Rattle.lfs_dirs.specs.Reading.{entries_of}
use Rattle.lfs_known.specs.Says.{says}
use Rattle.lfs_known.specs.declared.slots.Slots.{Slots}
use Rattle.lfs_known.specs.declared.hints.Hint.{Hint}

-- a directory's bytes have the blocks before that of a hint, and in none of them does a name of its length fit
pub record IsFullBefore (bytes : List ℕ) (hint : Hint) : Type 0 where
  pub within : BLOCK_SIZE * hint.block ≤ length bytes
  pub full : (k : ℕ) → k < hint.block → BLOCK_SIZE < used_of
      (entries_of (take BLOCK_SIZE (drop (BLOCK_SIZE * k) bytes))) + 5 + hint.length

-- what hints say is true of a content
abbrev pub AreFull : Slots Hint → Content → Type 0
AreFull hints c = (dir : ℕ) (hint : Hint) → says hints dir ≡ Some hint
    → IsFullBefore (bytes_of c dir) hint

-- a hint says no more than another: of no block behind those of the other, for names of its length
pub record IsLowered (old new : Hint) : Type 0 where
  pub block : new.block ≤ old.block
  pub length : new.length ≡ old.length
