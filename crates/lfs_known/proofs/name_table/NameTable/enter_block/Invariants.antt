use Rattle.std.proofs.Common.{◌≡◌}
use Rattle.lfs_dirs.specs.Reading.{entries_of}
use Rattle.lfs_known.proofs.SpotLemmas.{AreEntered, Keeps}
use Rattle.lfs_known.proofs.name_table.NameTable.enter_block.Given as goal

-- the names so far may stand in the block
abbrev pub invariant-loop-name : goal.invariant-loop-name
invariant-loop-name l = record {
  can_next : (goal.iterator-loop-name).can_next l.name-iterator;
  is_finite : (goal.iterator-loop-name).is_finite l.name-iterator;
  names : AreEntered l.self.spots.items l.dir l.k (entries_of l.block) l.name-iterator;
  keeps : Keeps l.fn.self.spots.items l.self.spots.items;
  whole : l.self.whole ≡ l.fn.self.whole;
}
