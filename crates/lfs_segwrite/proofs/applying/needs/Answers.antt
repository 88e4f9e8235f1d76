use Rattle.std.proofs.Common.{◌+◌, sym, ◌∙◌, arith}
use Rattle.std.proofs.lemmas.Bool.{cond-false, ne_eqb}
use Rattle.lfs_segwrite.specs.Applying.{frames_of_all, records_of_all}
use Rattle.lfs_segwrite.specs.Collecting.{inode_blocks}
use Rattle.lfs_segwrite.proofs.applying.needs.Goals as goal

pub returns-else-blocks-eq0 : goal.returns-else-blocks-eq0
returns-else-blocks-eq0 c =
    omega (arith, c.frames_of_all.ensures, c.inode_blocks.ensures, c.records_of_all.ensures)
    ∙ sym (cond-false _ _ _ (ne_eqb (frames_of_all c.args.changes.now
    + inode_blocks (records_of_all c.args.changes.now)) 0
    (λ e. c.if-blocks-eq0.false (omega (
      arith,
      c.frames_of_all.ensures,
      c.inode_blocks.ensures,
      c.records_of_all.ensures,
    )))))
