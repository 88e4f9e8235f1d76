use Rattle.lfs_volume.specs.Cleanings.{cleaner_of}
use Rattle.lfs_browse.proofs.ContentLemmas.{IsReading}
use Rattle.lfs_browse.proofs.content.read_pieces.Given as goal

abbrev pub invariant-loop-piece : goal.invariant-loop-piece
invariant-loop-piece g l =
    IsReading (cleaner_of g.F.FileStore.state g.F.FileStore.is_flushed g.F.FileStore.made g.F.CleanedStore.cleaner)
    l.fn.volume l.volume l.asker l.path l.piece l.fn.bytes.items l.bytes.items
