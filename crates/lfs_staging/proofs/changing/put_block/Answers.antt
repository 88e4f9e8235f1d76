use Rattle.std.proofs.Common.{refl}
use Rattle.lfs_inodes.specs.Reading.{fields_of}
use Rattle.lfs_bmap.specs.Reading.{data_block}
use Rattle.lfs_parts.specs.View.{tree_of}
use Rattle.lfs_staging.proofs.PuttingLemmas.{put_one, put_zeros}
use Rattle.lfs_staging.proofs.changing.put_block.Goals as goal

pub stage_data-requires-clause-zeros : goal.stage_data-requires-clause-zeros
stage_data-requires-clause-zeros c =
    let v = c.args.inode.now in
    let blocks = data_block (tree_of c.args.parts.now v.number) in
    let file = c.requires.may.files.files v.number (fields_of v) c.requires.may.here in
    let whole = c.in-Some.block.now in
    put_zeros blocks c.args.index c.args.off v.size c.args.bytes.now (blocks c.args.index) whole file.padded refl
    (c.in-Some.ensures.whole (blocks c.args.index)) c.requires.below

pub returns-in-Some : goal.returns-in-Some
returns-in-Some c =
    let p = c.args.parts.now in let v = c.args.inode.now in
    let before = data_block (tree_of p v.number) c.args.index in
    put_one p c.stage_data.new.parts v c.args.index c.args.off c.args.bytes.now before c.in-Some.block.now
    c.stage_data.ensures.staged refl (c.in-Some.ensures.whole before) c.stage_data.ensures.again
    c.stage_data.ensures.kept
