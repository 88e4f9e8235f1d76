-- The numbers that arguments may ask for.
use Rattle.lfs_command.specs.Ranges.{IsBetween}
use Rattle.lfs_auditing.specs.declared.options.Options.{Options}

-- a volume may have these numbers
pub record IsInRange (options : Options) : Type 0 where
  pub inodes : IsBetween 16 4096 options.inodes
  pub segments : IsBetween 6 1024 options.segments
