use Rattle.std.proofs.Common.{◌<◌, ◌+◌, ◌⊎◌, length, sym, subst, arith}
use Rattle.lfs_cache.specs.Contents.{IsLocked}
use Rattle.lfs_bmap.specs.declared.blocks.FileBlock.TheVariants.{Data}
use Rattle.lfs_parts.specs.View.{key_of}
use Rattle.lfs_parts.proofs.SameLogLemmas.{version-same}
use Rattle.lfs_staging.proofs.TakenLemmas.{block_room, frames_above}
use Rattle.lfs_staging.proofs.KeptLemmas.{data_again, data_kept, may_present, staged_data}
use Rattle.lfs_parts.proofs.SameLogLemmas.{present_kept}
use Rattle.lfs_staging.proofs.staging.stage_data.Goals as goal

pub stage_block-requires-clause-version : goal.stage_block-requires-clause-version
stage_block-requires-clause-version c =
    let v = c.args.inode.now in
    (present_kept c.args.parts.now c.stage_parents.new.parts v.number v.version c.stage_parents.ensures.same.log
    (may_present c.args.parts.now v c.requires.may)).at_version

pub returns-clause-staged : goal.returns-clause-staged
returns-clause-staged c =
    staged_data c.args.parts.now c.stage_parents.new.parts c.stage_block.new.parts c.args.inode.now.number c.args.index
    c.args.bytes.now c.requires.block
    c.stage_parents.ensures c.stage_block.ensures

pub returns-clause-again : goal.returns-clause-again
returns-clause-again c =
    data_again c.args.parts.now c.stage_parents.new.parts c.stage_block.new.parts c.args.inode.now c.args.index
    c.args.bytes.now c.requires.block
    c.requires.may c.stage_parents.ensures c.stage_block.ensures c.told-bytes c.requires.zeros

pub returns-clause-kept : goal.returns-clause-kept
returns-clause-kept c =
    data_kept c.args.parts.now c.stage_parents.new.parts c.stage_block.new.parts c.args.inode.now c.args.index
    c.args.bytes.now c.requires.block
    c.requires.within c.requires.may c.stage_parents.ensures c.stage_block.ensures (returns-clause-again c)

pub stage_parents-requires-clause-room : goal.stage_parents-requires-clause-room
stage_parents-requires-clause-room c = frames_above c.args.parts.now c.args.inode.now.number
    (Data c.args.index) c.requires.block (λ e. omega arith) c.requires.room

pub stage_block-requires-clause-room : goal.stage_block-requires-clause-room
stage_block-requires-clause-room c =
    let p = c.args.parts.now in let q = c.stage_parents.new.parts in let v = c.args.inode.now in
    let parents = c.stage_parents.ensures in
    subst (λ n. IsLocked (key_of v.number n (131 + c.args.index)) q.cache ⊎ (length q.cache.locked < 24))
    (sym (stage_block-requires-clause-version c))
    (block_room p q v.number (Data c.args.index) c.requires.block (λ e. omega arith)
    (version-same p q v.number parents.same.log) parents.takes parents.files.cache c.requires.room)
