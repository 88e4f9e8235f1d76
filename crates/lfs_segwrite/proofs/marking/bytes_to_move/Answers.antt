use Rattle.std.proofs.Common.{sym, ap, ◌∙◌}
use Rattle.lfs_bmap.specs.Blocks.{way_to}
use Rattle.lfs_bmap.specs.Reading.{bytes_via}
use Rattle.lfs_bmap.proofs.ReadingLemmas.{read-via}
use Rattle.lfs_parts.specs.View.{tree_from}
use Rattle.lfs_segwrite.proofs.marking.bytes_to_move.Goals as goal

pub returns : goal.returns
returns c =
    let t = tree_from c.args.parts.now c.args.inode.now in
    c.bytes_via.ensures ∙ sym (ap (bytes_via t (way_to c.args.block)) c.requires.here)
    ∙ sym (read-via t (way_to c.args.block))
