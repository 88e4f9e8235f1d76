-- What a log store tells where it has no room for changes that may use what is kept back.
use Rattle.std.specs.Prelude.{◌≡◌, ◌⊎◌, ℕ, ◌+◌, ◌<◌, ◌≤◌, List}
use Rattle.lfs_types.specs.declared.store.Change.{Change}
use Rattle.lfs_types.specs.declared.store.Reserve.{Reserve}
use Rattle.lfs_ifile.specs.declared.segment.SegState.TheVariants.{Dirty}
use Rattle.lfs_segments.specs.Memory.{room_of}
use Rattle.lfs_log.specs.Parts.{state_of}
use Rattle.lfs_parts.specs.declared.parts.Parts.{Parts}
use Rattle.lfs_segwrite.specs.Applying.{needs_of, spare_of, waiting_blocks}
use Rattle.lfs_segwrite.specs.Gaining.{pass_blocks, widest}
use Rattle.lfs_segwrite.specs.Giving.{LeavesFinishable}
use Rattle.lfs_segwrite.specs.declared.room.TheConstants.{WHOLE}

-- It is full for changes: at most one segment is clean, and behind them no dirty one could be finished with some to
-- spare.
pub record IsFullFor (by : Reserve) (changes : List Change) (p : Parts) : Type 0 where
  pub few : p.log.clean ≤ 1
  pub unfinished : (segment : ℕ) → LeavesFinishable (spare_of by) changes (waiting_blocks p + needs_of changes) p segment
      → ⊥

-- A segment takes too much to be cleaned: a whole one; or more than the active one has left, where none is clean or
-- where with its largest batch once more it takes above a whole one.
abbrev pub TakesTooMuch : Parts → ℕ → Type 0
TakesTooMuch p segment =
    (WHOLE ≤ pass_blocks p segment)
    ⊎ ((room_of p.log.memory < pass_blocks p segment)
    × ((p.log.clean ≡ 0) ⊎ (WHOLE < pass_blocks p segment + widest p segment)))

-- each dirty segment does
abbrev pub AllTakeTooMuch : Parts → Type 0
AllTakeTooMuch p = (segment : ℕ) → segment < p.log.memory.segments → state_of p.log.tables segment ≡ Dirty
    → TakesTooMuch p segment
