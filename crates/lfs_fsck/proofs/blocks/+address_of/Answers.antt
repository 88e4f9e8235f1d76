use Rattle.std.proofs.Common.{◌≡◌, ◌∷◌, [], sym, ap, ◌∙◌}
use Rattle.lfs_bmap.specs.Blocks.{way_to}
use Rattle.lfs_bmap.specs.Reading.{address}
use Rattle.lfs_bmap.proofs.ReadingLemmas.{address-root}
use Rattle.lfs_parts.specs.View.{tree_of}
use Rattle.lfs_parts.proofs.KeyLemmas.{code-other}
use Rattle.lfs_parts.proofs.ViewLemmas.{held_cell, way_to-some}
use Rattle.lfs_fsck.specs.Stored.{flushed}
use Rattle.lfs_fsck.proofs.FlushedLemmas.{root_at}
use Rattle.lfs_fsck.proofs.blocks.+address_of.Goals as goal

pub returns-in_default : goal.returns-in_default
returns-in_default t c =
    let tree = tree_of (flushed c.args.log.now) c.args.inode.now.number in
    sym (ap (address tree) c.in_default.ensures.way ∙ address-root tree)

pub returns-in-Record : goal.returns-in-Record
returns-in-Record t c =
    let tree = tree_of (flushed c.args.log.now) c.args.inode.now.number in
    let way : way_to c.args.block ≡ c.in-Some.field-0.index ∷ [] = c.in-Some.ensures.way
    ∙ ap (λ b. c.in-Some.field-0.index ∷ way_to b) c.in-Record.is in
    c.root_address.ensures ∙ sym (ap (address tree) way
    ∙ root_at c.args.log.now c.args.inode.now c.in-Some.field-0.index c.requires.own)

pub returns-in-Single : goal.returns-in-Single
returns-in-Single t c =
    let number = c.args.inode.now.number in
    let tree = tree_of (flushed c.args.log.now) number in
    let some = way_to-some c.in-Some.field-0.table (code-other c.in-Some.field-0.table c.in-Single.is) in
    c.entry.ensures.read
    ∙ held_cell tree c.in-Some.field-0.index
    (way_to c.in-Some.field-0.table) c.bytes_at.result.now c.address_of-address.result some
    c.address_of-address.ensures
    (c.bytes_at.ensures number (way_to c.in-Some.field-0.table))
    ∙ ap (address tree) (sym c.in-Some.ensures.way)
