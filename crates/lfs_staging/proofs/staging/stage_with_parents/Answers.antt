use Rattle.std.proofs.Common.{◌∙◌}
use Rattle.lfs_staging.proofs.KeptLemmas.{table_again}
use Rattle.lfs_staging.proofs.StagedLemmas.{parents_again}
use Rattle.lfs_parts.proofs.SameLogLemmas.{version-same}
use Rattle.lfs_staging.proofs.TakenLemmas.{block_room, frames_above}
use Rattle.lfs_staging.proofs.staging.stage_with_parents.Goals as goal

pub stage_parents-requires-clause-room : goal.stage_parents-requires-clause-room
stage_parents-requires-clause-room c = frames_above c.args.parts.now c.args.inode.now.number c.args.block
    c.requires.block c.requires.other c.requires.room

pub stage_table-requires-clause-inside : goal.stage_table-requires-clause-inside
stage_table-requires-clause-inside c =
    (parents_again c.args.parts.now c.stage_parents.new.parts c.args.inode.now c.args.block c.requires.may
    c.stage_parents.ensures).inside

pub stage_table-requires-clause-here : goal.stage_table-requires-clause-here
stage_table-requires-clause-here c = c.stage_parents.ensures.same.records c.args.inode.now.number ∙ c.requires.may.here

pub stage_table-requires-clause-room : goal.stage_table-requires-clause-room
stage_table-requires-clause-room c =
    let p = c.args.parts.now in let q = c.stage_parents.new.parts in let v = c.args.inode.now in
    let parents = c.stage_parents.ensures in
    block_room p q v.number c.args.block c.requires.block c.requires.other
    (version-same p q v.number parents.same.log) parents.takes parents.files.cache c.requires.room

pub returns : goal.returns
returns c =
    table_again c.args.parts.now c.stage_parents.new.parts c.stage_table.new.parts c.args.inode.now c.args.block
    c.requires.may c.requires.block c.requires.other
    c.stage_parents.ensures c.stage_table.ensures
