-- What contracts see of a volume.
use Rattle.std.specs.Prelude.{ℕ, List}
use Rattle.lfs_types.specs.declared.level.Level.{Level}
use Rattle.lfs_model.specs.declared.journal.Entry.{Entry}

-- a volume: its store, its level, both as they were when its journal began, its journal, and how many entries that may
-- have
pub record Seen (F : Type 0) : Type 0 where
  pub store : F
  pub level : Level
  pub since : F
  pub since_level : Level
  pub journal : List Entry
  pub limit : ℕ
