-- What a store has, from the moment at which it is laid out, so that it can be found again.
use Rattle.std.specs.Prelude.{◌≡◌, ℕ, ◌<◌, true, Some, length}
use Rattle.lfs_segments.specs.Memory.{block_at, has_serials, label}
use Rattle.lfs_found.specs.Written.{IsRecoverable}
use Rattle.lfs_parts.specs.declared.parts.Parts.{Parts}
use Rattle.lfs_parts.specs.Opening.{IsOpeningWith}
use Rattle.lfs_parts.specs.Store.{IsFlushed, IsStore}
use Rattle.lfs_segwrite.specs.Flushing.{WritesAhead}
use Rattle.lfs_segwrite.specs.Gaining.{MovesBlocks}
use Rattle.lfs_segwrite.specs.Ordered.{IsOrdered}
use Rattle.lfs_durable.specs.Names.{IsDurable}

-- A store whose summaries have serials can be found: of what was written recovery finds all, the inode map has each
-- number's latest record, and block 0 is the label.
pub record CanBeFound (p : Parts) : Type 0 where
  pub serials : has_serials p.log.memory ≡ true
  pub recoverable : IsRecoverable p.log.memory
  pub ordered : IsOrdered p.log
  pub labelled : block_at p.log.memory 0 ≡ label p.log.memory.segments (length p.log.tables.rows)

-- One that was just laid out with serials can be.
abbrev pub FreshCanBeFound : Type 0
FreshCanBeFound = (p : Parts) (segments inodes frames : ℕ) → IsOpeningWith (Some 1) segments inodes frames p
    → IsRecoverable p.log.memory → IsOrdered p.log → CanBeFound p

-- It is durable too.
abbrev pub FreshIsDurable : Type 0
FreshIsDurable = (p : Parts) (segments inodes frames : ℕ) → IsOpeningWith (Some 1) segments inodes frames p → IsStore p
    → IsRecoverable p.log.memory → IsOrdered p.log → IsDurable p

-- One that can be found still can, whatever was written at its log's end.
abbrev pub WritesCanBeFound : Type 0
WritesCanBeFound = (old new : Parts) → WritesAhead old new → CanBeFound old → CanBeFound new

-- So it can where blocks were written again.
abbrev pub MovesCanBeFound : Type 0
MovesCanBeFound = (old new : Parts) → MovesBlocks old new → CanBeFound old → CanBeFound new

-- And where no block changed, as where a segment is made clean.
abbrev pub SameCanBeFound : Type 0
SameCanBeFound = (old new : Parts) → new.log.memory ≡ old.log.memory
    → length new.log.tables.rows ≡ length old.log.tables.rows → (IsOrdered old.log → IsOrdered new.log)
    → CanBeFound old → CanBeFound new

-- Wherever nothing waits it is durable, until the last serial comes.
abbrev pub FlushedIsDurable : Type 0
FlushedIsDurable = (p : Parts) (next : ℕ) → CanBeFound p → IsStore p → IsFlushed p → p.log.memory.serial ≡ Some next
    → next < 4294967295 → IsDurable p
