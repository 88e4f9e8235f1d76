use Rattle.std.proofs.Common.{◌≡◌, ◌≤◌, length, map, take}
use Rattle.std.specs.Prelude.{filter}
use Rattle.lfs_browse.specs.Listing.{has_path}
use Rattle.lfs_browse.specs.Trees.{entry_of}
use Rattle.lfs_browse.proofs.walk.entries_of.Given as goal

abbrev pub invariant-loop-name : goal.invariant-loop-name
invariant-loop-name l = record {
  entries : l.entries.items ≡ map (entry_of l.directory) (filter (has_path l.directory) (take l.name-index l.names));
  few : length l.entries.items ≤ l.name-index;
}
