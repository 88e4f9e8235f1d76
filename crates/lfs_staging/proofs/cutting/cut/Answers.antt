use Rattle.std.proofs.Common.{◌≡◌, ◌∙◌, ap}
use Rattle.lfs_inodes.specs.Attributes.{Attributes}
use Rattle.lfs_inodes.specs.Facts.{block_count}
use Rattle.lfs_staging.proofs.CutFileLemmas.{cut_file, last_index, may_drop_all, may_shorten, own_again, own_kept}
use Rattle.lfs_staging.proofs.CutFileLemmas.{own_room}
use Rattle.lfs_staging.proofs.cutting.cut.Goals as goal

pub cut_last-requires-clause-may : goal.cut_last-requires-clause-may
cut_last-requires-clause-may c = own_again c.args.parts.now c.stage_own_record.new.parts c.args.inode.now c.requires.may
    c.stage_own_record.ensures

pub cut_last-requires-clause-staged : goal.cut_last-requires-clause-staged
cut_last-requires-clause-staged c =
    own_kept c.args.parts.now c.stage_own_record.new.parts c.args.inode.now c.requires.may c.stage_own_record.ensures
    c.requires.staged

pub cut_last-requires-clause-room : goal.cut_last-requires-clause-room
cut_last-requires-clause-room c =
    let v = c.args.inode.now in
    own_room c.args.parts.now c.stage_own_record.new.parts v c.requires.may c.stage_own_record.ensures _
    (last_index v c.args.parts.now c.args.len c.requires.may c.requires.less) c.requires.frames

pub drop_blocks-requires : goal.drop_blocks-requires
drop_blocks-requires c =
    let left : c.blocks-2.result ≡ block_count c.args.len = c.blocks-2.ensures.count
    ∙ ap (λ (a : Attributes). block_count a.size) c.cut.ensures.attributes in
    may_drop_all c.args.parts.now c.stage_own_record.new.parts c.cut_last.new.parts c.args.inode.now c.args.len
    c.blocks-2.result c.blocks-blocks.result
    c.requires.may c.requires.less left c.blocks-blocks.ensures.count c.stage_own_record.ensures c.cut_last.ensures
    c.requires.frames

pub shorten-requires : goal.shorten-requires
shorten-requires c =
    let left : c.blocks-2.result ≡ block_count c.args.len = c.blocks-2.ensures.count
    ∙ ap (λ (a : Attributes). block_count a.size) c.cut.ensures.attributes in
    may_shorten c.args.parts.now c.stage_own_record.new.parts c.cut_last.new.parts c.args.inode.now c.args.len
    c.blocks-2.result c.blocks-blocks.result
    c.requires.may c.requires.less left c.blocks-blocks.ensures.count c.stage_own_record.ensures c.cut_last.ensures
    c.drop_blocks.new.parts c.requires.staged c.requires.sized c.drop_blocks.ensures

pub returns : goal.returns
returns c =
    let left : c.blocks-2.result ≡ block_count c.args.len = c.blocks-2.ensures.count
    ∙ ap (λ (a : Attributes). block_count a.size) c.cut.ensures.attributes in
    cut_file c.args.parts.now c.stage_own_record.new.parts c.cut_last.new.parts c.args.inode.now c.args.len
    c.blocks-2.result c.blocks-blocks.result
    c.requires.may c.requires.less left c.blocks-blocks.ensures.count c.stage_own_record.ensures c.cut_last.ensures
    c.drop_blocks.new.parts c.requires.staged c.requires.sized c.drop_blocks.ensures c.shorten.new.parts c.shorten.ensures
