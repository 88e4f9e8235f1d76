-- how states stand in bytes
use Rattle.std.specs.Prelude.{ℕ}
use Rattle.lfs_ifile.specs.declared.segment.SegState.{SegState}
use Rattle.lfs_ifile.specs.declared.segment.SegState.TheVariants.{Clean, Dirty, Active}

-- the number that stands for a state
abbrev pub state_number : SegState → ℕ
state_number Clean = 0
state_number Dirty = 1
state_number Active = 2
