use Rattle.std.proofs.Common.{sym, ap, ◌∙◌, subst}
use Rattle.lfs_inodes.specs.Reading.{fields_of}
use Rattle.lfs_bmap.specs.Blocks.{way_to}
use Rattle.lfs_bmap.specs.Reading.{address}
use Rattle.lfs_parts.specs.View.{LiesIn, blocks_of}
use Rattle.lfs_parts.proofs.FileLemmas.{given_record, tree_from-of}
use Rattle.lfs_parts.proofs.KeyLemmas.{lies_in}
use Rattle.lfs_parts.proofs.parts.Parts.address_in.Goals as goal

pub address_of-requires-clause-inside : goal.address_of-requires-clause-inside
address_of-requires-clause-inside c =
    let p = c.args.self.now in
    let v = c.in-Some.inode in
    let has = given_record p c.args.ino c.record.result v c.record.ensures.shown c.in-Some.is in
    let same = tree_from-of p c.args.ino v has (c.requires.store.whole.files c.args.ino (fields_of v) has) in
    subst (LiesIn (blocks_of p)) (sym same) (lies_in p c.args.ino 0 c.requires.in_range
    c.requires.store.whole.parts.laid_out c.requires.store.log)

pub returns-in-Some : goal.returns-in-Some
returns-in-Some c =
    let p = c.args.self.now in
    let v = c.in-Some.inode in
    let has = given_record p c.args.ino c.record.result v c.record.ensures.shown c.in-Some.is in
    let same = tree_from-of p c.args.ino v has (c.requires.store.whole.files c.args.ino (fields_of v) has) in
    c.address_of.ensures ∙ ap (λ t. address t (way_to c.args.block)) same
