use Rattle.std.proofs.Common.{sym, ap, ◌∙◌, subst}
use Rattle.lfs_inodes.specs.Reading.{fields_of}
use Rattle.lfs_bmap.specs.Reading.{data_block, read}
use Rattle.lfs_bmap.specs.Ways.{data_way}
use Rattle.lfs_parts.specs.View.{LiesIn, blocks_of, tree_of}
use Rattle.lfs_parts.proofs.FileLemmas.{tree_from-of}
use Rattle.lfs_staging.proofs.PuttingLemmas.{put_one, put_zeros}
use Rattle.lfs_parts.proofs.ReadLemmas.{data_block-read}
use Rattle.lfs_staging.proofs.changing.put_part.Goals as goal

pub block_of-requires-clause-inside : goal.block_of-requires-clause-inside
block_of-requires-clause-inside c =
    let p = c.args.parts.now in
    let v = c.args.inode.now in
    let same = tree_from-of p v.number v c.requires.may.here
    (c.requires.may.files.files v.number (fields_of v) c.requires.may.here) in
    subst (LiesIn (blocks_of p)) (sym same) c.requires.may.inside

pub stage_data-requires-clause-zeros : goal.stage_data-requires-clause-zeros
stage_data-requires-clause-zeros c =
    let p = c.args.parts.now in
    let v = c.args.inode.now in
    let file = c.requires.may.files.files v.number (fields_of v) c.requires.may.here in
    let same = tree_from-of p v.number v c.requires.may.here file in
    let block = c.block_of.ensures ∙ ap (λ t. read t (data_way c.args.index)) same
    ∙ sym (data_block-read (tree_of p v.number) c.args.index c.requires.block) in
    put_zeros (data_block (tree_of p v.number)) c.args.index c.args.off v.size c.args.bytes.now c.block_of.result.now
    c.put_piece.new.block file.padded
    block c.put_piece.ensures c.requires.below

pub returns : goal.returns
returns c =
    let p = c.args.parts.now in
    let v = c.args.inode.now in
    let same = tree_from-of p v.number v c.requires.may.here
    (c.requires.may.files.files v.number (fields_of v) c.requires.may.here) in
    let block = c.block_of.ensures ∙ ap (λ t. read t (data_way c.args.index)) same
    ∙ sym (data_block-read (tree_of p v.number) c.args.index c.requires.block) in
    put_one p c.stage_data.new.parts v c.args.index c.args.off c.args.bytes.now c.block_of.result.now
    c.put_piece.new.block c.stage_data.ensures.staged
    block c.put_piece.ensures c.stage_data.ensures.again c.stage_data.ensures.kept
