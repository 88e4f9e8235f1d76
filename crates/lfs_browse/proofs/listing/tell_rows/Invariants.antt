use Rattle.std.proofs.Common.{◌≡◌, ◌≤◌, length, take}
use Rattle.std.specs.Prelude.{filter}
use Rattle.lfs_volume.specs.Cleanings.{cleaner_of}
use Rattle.lfs_browse.specs.Listing.{has_path}
use Rattle.lfs_browse.specs.Steps.{TellsRows}
use Rattle.lfs_browse.proofs.listing.tell_rows.Given as goal

abbrev pub invariant-loop-name : goal.invariant-loop-name
invariant-loop-name g l = record {
  told : TellsRows (cleaner_of g.F.FileStore.state g.F.FileStore.is_flushed g.F.FileStore.made g.F.CleanedStore.cleaner)
      l.fn.volume l.volume l.asker l.directory (take l.name-index l.names) l.fn.text.items l.text.items;
  counted : l.rows ≡ length (filter (has_path l.directory) (take l.name-index l.names));
  few : l.rows ≤ l.name-index;
}
