-- The numbers that arguments may ask for.
use Rattle.lfs_types.specs.declared.store.Params.{Params}
use Rattle.lfs_command.specs.Ranges.{IsBetween}

-- a volume with these numbers may be laid out, and its journal has room for what a message and the cleaner behind it may
-- ask for
pub record IsInRange (params : Params) : Type 0 where
  pub segments : IsBetween 6 1024 params.segments
  pub inodes : IsBetween 16 4096 params.inodes
  pub frames : IsBetween 32 1024 params.frames
  pub journal : IsBetween 512 100000 params.journal
