-- How addresses move, relative to the segments that were dirty when a call began.
use Rattle.std.specs.Prelude.{◌≡◌, ℕ, ◌/◌, ◌<◌, ◌&&◌, if◌then◌else◌, ◌==◌, nat_lt}
use Rattle.lfs_ifile.specs.declared.segment.SegState.TheVariants.{Dirty}
use Rattle.lfs_bmap.specs.declared.blocks.TheConstants.{BLOCK_CODES}
use Rattle.lfs_bmap.specs.Counting.{seg_of}
use Rattle.lfs_bmap.specs.Log.{LogState, IsPlaced}

-- The present address of the block with a code of a file, by number and version: 0 where the number has another
-- version, no file can have the block, or the block has no address.
unfoldable pub present_address : LogState → ℕ → ℕ → ℕ → ℕ
present_address l number version code =
    if nat_lt number l.numbers && (l.version number == version && nat_lt code BLOCK_CODES) then l.at number code / 4
    else 0

-- the segments that are dirty
abbrev pub DirtyIn : LogState → ℕ → Type 0
DirtyIn l segment = l.state segment ≡ Dirty

-- A key whose place lies in one of these segments had that place before, in a number of the same version.
pub record Moves (Within : ℕ → Type 0) (old new : LogState) : Type 0 where
  pub numbers : new.numbers ≡ old.numbers
  pub places : (number code : ℕ) → IsPlaced new number code → Within (seg_of (new.at number code))
      → old.at number code ≡ new.at number code
  pub versions : (number code : ℕ) → IsPlaced new number code → Within (seg_of (new.at number code))
      → old.version number ≡ new.version number

-- The segments that were dirty are dirty still.
pub record StaysDirty (old new : LogState) : Type 0 where
  pub segments : new.segments ≡ old.segments
  pub dirty : (s : ℕ) → s < old.segments → old.state s ≡ Dirty → new.state s ≡ Dirty
