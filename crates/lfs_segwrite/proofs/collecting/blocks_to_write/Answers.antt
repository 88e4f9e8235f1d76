use Rattle.std.proofs.Common.{length, sym, ◌∙◌, arith}
use Rattle.std.proofs.lemmas.Bool.{cond-true, cond-false, eq-eqb, ne_eqb}
use Rattle.lfs_segwrite.specs.Collecting.{entries_of}
use Rattle.lfs_segwrite.proofs.CollectingLemmas.{entries_of-length}
use Rattle.lfs_segwrite.proofs.collecting.blocks_to_write.Goals as goal

pub returns-then-blocks-eq0-clause-blocks : goal.returns-then-blocks-eq0-clause-blocks
returns-then-blocks-eq0-clause-blocks c =
    let whole = entries_of-length c.args.parts.now in
    sym (cond-true _ _ _ (eq-eqb (length (entries_of c.args.parts.now)) 0
    (omega (arith, c.if-blocks-eq0.true, c.locked_count.ensures.count, c.inode_blocks.ensures, c.len.ensures))))

pub returns-else-blocks-eq0-clause-blocks : goal.returns-else-blocks-eq0-clause-blocks
returns-else-blocks-eq0-clause-blocks c =
    let whole = entries_of-length c.args.parts.now in
    omega (arith, c.locked_count.ensures.count, c.inode_blocks.ensures, c.len.ensures)
    ∙ sym (cond-false _ _ _ (ne_eqb (length (entries_of c.args.parts.now)) 0
    (λ e. c.if-blocks-eq0.false (omega (
      arith,
      c.locked_count.ensures.count,
      c.inode_blocks.ensures,
      c.len.ensures,
    )))))
