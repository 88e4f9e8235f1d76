use Rattle.std.proofs.Common.{IsTrue, ◌↔◌, sym, subst}
use Rattle.std.proofs.lemmas.Bool.{ne_eqb}
use Rattle.lfs_bmap.specs.Blocks.{way_to}
use Rattle.lfs_staging.specs.Cutting.{IsGone}
use Rattle.lfs_inodes.specs.Reading.{fields_of}
use Rattle.lfs_parts.specs.View.{LiesIn, blocks_of}
use Rattle.lfs_staging.proofs.DroppingLemmas.{gone_not, gone_test}
use Rattle.lfs_parts.proofs.FileLemmas.{tree_from-of}
use Rattle.lfs_staging.proofs.cutting.is_gone.Goals as goal

pub address_of-requires-clause-inside : goal.address_of-requires-clause-inside
address_of-requires-clause-inside c =
    let p = c.args.parts.now in let v = c.args.inode.now in
    let same = tree_from-of p v.number v c.requires.may.here
    (c.requires.may.files.files v.number (fields_of v) c.requires.may.here) in
    subst (LiesIn (blocks_of p)) (sym same) c.requires.may.inside

pub returns-then-address_of-eq0 : goal.returns-then-address_of-eq0
returns-then-address_of-eq0 c =
    gone_test c.args.parts.now c.args.inode.now c.args.block c.address_of.result c.waits.result c.requires.may
    c.address_of.ensures c.waits.ensures c.if-address_of-eq0.true

pub returns-else-address_of-eq0 : goal.returns-else-address_of-eq0
returns-else-address_of-eq0 c =
    subst (λ b. IsTrue b ↔ IsGone c.args.parts.now c.args.inode.now.number (way_to c.args.block))
    (sym (ne_eqb c.address_of.result 0 c.if-address_of-eq0.false))
    (gone_not c.args.parts.now c.args.inode.now c.args.block c.address_of.result c.requires.may c.address_of.ensures
    c.if-address_of-eq0.false)
