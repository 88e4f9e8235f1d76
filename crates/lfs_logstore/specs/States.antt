-- What contracts see of a store over a log.
use Rattle.std.specs.Prelude.{ℕ, ◌-◌, false, length, None}
use Rattle.lfs_types.specs.StoreStates.{Shape, StoreState}
use Rattle.lfs_types.specs.Tree.{opening_content}
use Rattle.lfs_parts.specs.declared.parts.Parts.{Parts}
use Rattle.lfs_parts.specs.Files.{content_of}

-- so many inode numbers and segments; no change takes memory
abbrev pub shape_of : ℕ → ℕ → Shape
shape_of numbers segments = record {
  numbers = numbers;
  segments = segments;
  can_lack_memory = false;
  has_share = false;
}

-- what the parts contain, how many segments are clean, and how many numbers and segments there are; no base is told
abbrev pub state_of : Parts → StoreState
state_of p = record {
  content = content_of p;
  clean = p.log.clean;
  shape = shape_of (length p.log.tables.rows) p.log.memory.segments;
  base = None;
}

-- a store that was just laid out: the root directory alone, and all segments clean but the first
abbrev pub opening_state : ℕ → ℕ → StoreState
opening_state segments numbers = record {
  content = opening_content;
  clean = segments - 1;
  shape = shape_of numbers segments;
  base = None;
}
