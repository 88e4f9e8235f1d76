use Rattle.std.proofs.Common.{Some, None, option_copied, sym, ap, ◌∙◌}
use Rattle.lfs_types.specs.Blocks.{zero_block}
use Rattle.lfs_bmap.proofs.ReadingLemmas.{via-waits, via-log, via-none}
use Rattle.lfs_bmap.specs.Blocks.{way_to}
use Rattle.lfs_bmap.specs.Reading.{bytes_via}
use Rattle.lfs_parts.specs.View.{tree_from}
use Rattle.lfs_parts.proofs.ViewLemmas.{tree_dirty}
use Rattle.lfs_parts.proofs.parts.Parts.bytes_via.Goals as goal

pub returns-in-Some : goal.returns-in-Some
returns-in-Some c =
    let held = ap option_copied (sym c.in-Some.is) ∙ c.dirty.ensures.value in
    let waits = tree_dirty c.args.self.now c.args.inode.now c.args.block c.code.result
    (Some c.in-Some.waiting.now) c.code.ensures held in
    sym (via-waits (tree_from c.args.self.now c.args.inode.now)
    (way_to c.args.block) c.args.address c.in-Some.waiting.now waits)

pub returns-in-None : goal.returns-in-None
unfolding zero_block
returns-in-None c =
    let held = ap option_copied (sym c.in-None.is) ∙ c.dirty.ensures.value in
    let waits = tree_dirty c.args.self.now c.args.inode.now c.args.block c.code.result None c.code.ensures held in
    sym (ap (bytes_via (tree_from c.args.self.now c.args.inode.now) (way_to c.args.block)) c.if-address-eq0.true
    ∙ via-none (tree_from c.args.self.now c.args.inode.now) (way_to c.args.block) waits)

pub returns-in-None-2 : goal.returns-in-None-2
returns-in-None-2 c =
    let held = ap option_copied (sym c.in-None-2.is) ∙ c.dirty.ensures.value in
    let waits = tree_dirty c.args.self.now c.args.inode.now c.args.block c.code.result None c.code.ensures held in
    c.block.ensures.block ∙ sym (via-log (tree_from c.args.self.now c.args.inode.now)
    (way_to c.args.block) c.args.address waits c.if-address-eq0.false)
