-- The numbers that arguments may ask for.
use Rattle.std.specs.Prelude.{ℕ}
use Rattle.lfs_command.specs.Ranges.{IsBetween}
use Rattle.lfs_types.specs.declared.store.Params.{Params}

-- a volume with these numbers may be laid out, and its journal has at least one entry and at most so many
pub record IsInRange (journal_most : ℕ) (params : Params) : Type 0 where
  pub segments : IsBetween 6 1024 params.segments
  pub inodes : IsBetween 16 4096 params.inodes
  pub frames : IsBetween 32 1024 params.frames
  pub journal : IsBetween 1 journal_most params.journal
