use Rattle.std.proofs.Common.{◌≢◌, sym, subst, arith}
use Rattle.lfs_bmap.specs.declared.blocks.FileBlock.TheVariants.{Record}
use Rattle.lfs_bmap.specs.Blocks.{code_of, table_of, way_to}
use Rattle.lfs_bmap.specs.Ways.{codes_on}
use Rattle.lfs_bmap.proofs.BlockLemmas.{same_block}
use Rattle.lfs_bmap.proofs.HolderLemmas.{codes_on-few, codes_on-most}
use Rattle.lfs_segwrite.specs.Marking.{StagesAgain}
use Rattle.lfs_segwrite.proofs.AgainLemmas.{block_again, record_again, record_staged}
use Rattle.lfs_staging.specs.Staging.{StagesParents}
use Rattle.lfs_staging.proofs.StagedLemmas.{table_staged_still}
use Rattle.lfs_staging.proofs.TakenLemmas.{frames_enough}
use Rattle.lfs_segwrite.proofs.marking.stage_again.Goals as goal

pub stage_parents-requires-clause-room : goal.stage_parents-requires-clause-room
stage_parents-requires-clause-room c =
    frames_enough c.args.parts.now c.args.inode.now.number (codes_on (way_to (table_of c.args.block)))
    (omega (arith, codes_on-few c.args.block c.requires.block, c.requires.frames))

pub returns-in-Record-clause-staged : goal.returns-in-Record-clause-staged
returns-in-Record-clause-staged c =
    record_staged c.args.parts.now c.stage_parents.new.parts c.args.inode.now c.requires.may
    (subst (λ b. StagesParents c.args.inode.now.number b c.args.parts.now c.stage_parents.new.parts) c.in-Record.is
    c.stage_parents.ensures) c.requires.staged

pub returns-in-Record-clause-again : goal.returns-in-Record-clause-again
returns-in-Record-clause-again c =
    subst (λ b. StagesAgain c.args.inode.now.number (code_of b) c.args.parts.now c.stage_parents.new.parts)
    (sym c.in-Record.is)
    (record_again c.args.parts.now c.stage_parents.new.parts c.args.inode.now
    (subst (λ b. StagesParents c.args.inode.now.number b c.args.parts.now c.stage_parents.new.parts) c.in-Record.is
    c.stage_parents.ensures))

pub stage_moved-requires-clause-other : goal.stage_moved-requires-clause-other
stage_moved-requires-clause-other c = λ e. c.in_default.not-Record
    (same_block c.args.block Record c.requires.block tt e)

pub stage_moved-requires-clause-here : goal.stage_moved-requires-clause-here
stage_moved-requires-clause-here c = c.requires.here (stage_moved-requires-clause-other c)

pub stage_moved-requires-clause-room : goal.stage_moved-requires-clause-room
stage_moved-requires-clause-room c =
    let other = stage_moved-requires-clause-other c in
    frames_enough c.args.parts.now c.args.inode.now.number (codes_on (way_to c.args.block))
    (omega (arith, codes_on-most c.args.block c.requires.block other, c.requires.frames))

other_code : (c : goal.After-stage_moved) → code_of c.args.block ≢ 0
other_code c = λ e. c.in_default.not-Record (same_block c.args.block Record c.requires.block tt e)

pub returns-in_default-clause-staged : goal.returns-in_default-clause-staged
returns-in_default-clause-staged c =
    table_staged_still c.args.parts.now c.stage_moved.new.parts c.args.inode.now c.args.block c.requires.may
    c.requires.block
    (c.requires.within (other_code c)) c.stage_moved.ensures 0 c.requires.staged

pub returns-in_default-clause-again : goal.returns-in_default-clause-again
returns-in_default-clause-again c =
    block_again c.args.parts.now c.stage_moved.new.parts c.args.inode.now c.args.block c.requires.block
    (other_code c) c.stage_moved.ensures
