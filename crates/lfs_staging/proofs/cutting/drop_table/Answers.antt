use Rattle.std.proofs.Common.{sym, ◌∙◌, subst, inl, inr, arith}
use Rattle.std.proofs.lemmas.Bool.{false≢true}
use Rattle.lfs_bmap.specs.Blocks.{first_under, way_to}
use Rattle.lfs_bmap.specs.Ways.{codes_on}
use Rattle.lfs_staging.specs.Cutting.{ClearsBlocks, ClearsTable, DropsTable, IsGone, MayClearBetween, MayClearTable}
use Rattle.lfs_staging.specs.Cutting.{MayDrop}
use Rattle.lfs_staging.specs.Staging.{HasFrames}
use Rattle.lfs_staging.proofs.ClearingLemmas.{there_within}
use Rattle.lfs_staging.proofs.DroppingLemmas.{drop_hole, drop_none, drop_part, drop_whole, may_between, may_table}
use Rattle.lfs_staging.proofs.DroppingLemmas.{waiting_may}
use Rattle.lfs_parts.proofs.FrameLemmas.{waiting_number}
use Rattle.lfs_staging.proofs.cutting.drop_table.Goals as goal

pub returns-then-run-left-2 : goal.returns-then-run-left-2
returns-then-run-left-2 c =
    let own = c.data_run-run.ensures.own in
    let start = c.data_run-run.ensures.start in
    let some = c.if-run-left.true in
    let all = c.if-run-left-2.true in
    drop_none c.args.parts.now c.args.ino c.args.left c.args.blocks c.args.table c.requires (omega arith)
    (λ k low held. let at = (own k low).0 held in let below = at.1 in omega arith)

pub is_gone-requires-clause-may : goal.is_gone-requires-clause-may
is_gone-requires-clause-may c =
    waiting_may c.args.parts.now c.args.ino c.record_in_use-inode.result c.requires.staged c.requires.in_use
    (c.record_in_use-inode.ensures.waits c.requires.waits)

pub returns-then-is_gone : goal.returns-then-is_gone
returns-then-is_gone c =
    let p = c.args.parts.now in
    let same = waiting_number p.waiting c.args.ino c.record_in_use-inode.result
    (c.record_in_use-inode.ensures.waits c.requires.waits) in
    drop_hole p c.args.ino c.args.left c.args.blocks c.args.table c.requires
    (subst (λ n. IsGone p n (way_to c.args.table)) same (c.is_gone.ensures.0 c.if-is_gone.true))

pub stage_with_parents-requires-clause-may : goal.stage_with_parents-requires-clause-may
stage_with_parents-requires-clause-may c =
    waiting_may c.args.parts.now c.args.ino c.record_in_use-inode.result c.requires.staged c.requires.in_use
    (c.record_in_use-inode.ensures.waits c.requires.waits)

pub stage_with_parents-requires-clause-room : goal.stage_with_parents-requires-clause-room
stage_with_parents-requires-clause-room c =
    let p = c.args.parts.now in
    let same = waiting_number p.waiting c.args.ino c.record_in_use-inode.result
    (c.record_in_use-inode.ensures.waits c.requires.waits) in
    subst (λ n. HasFrames p n (codes_on (way_to c.args.table))) (sym same) c.requires.frames

pub clear_table-requires-clause-may : goal.clear_table-requires-clause-may
clear_table-requires-clause-may c =
    let p = c.args.parts.now in let b = c.stage_with_parents.new.parts in let v = c.record_in_use-inode.result in let t =
    c.args.table in
    let waits = c.record_in_use-inode.ensures.waits c.requires.waits in
    let same = waiting_number p.waiting c.args.ino v waits in
    let may = subst (λ n. MayDrop p n t c.args.left c.args.blocks) (sym same) c.requires in
    let stage = waiting_may p c.args.ino v c.requires.staged c.requires.in_use waits in
    let there : IsGone p v.number (way_to t)
    → ⊥ = λ gone. false≢true (sym c.if-is_gone.false ∙ c.is_gone.ensures.1 gone) in
    let own = c.data_run-run.ensures.own in
    let start = c.data_run-run.ensures.start in
    let end = c.min-end.ensures in
    let few = c.if-left-run.true in
    subst (λ n. MayClearTable b n t c.min-end.result) same
    (may_table p b v t c.args.left c.args.blocks may stage there c.stage_with_parents.ensures c.min-end.result
    (omega arith) (omega arith)
    (λ k low from below. (own k low).1 (omega arith, omega arith))
    (λ k low held below. let at = (own k low).0 held in let least = at.0 in let most = at.1 in
    (omega arith, omega arith)))

pub clear_table-requires-clause-ordered : goal.clear_table-requires-clause-ordered
clear_table-requires-clause-ordered c =
    let p = c.args.parts.now in let b = c.stage_with_parents.new.parts in let v = c.record_in_use-inode.result in let t =
    c.args.table in
    let waits = c.record_in_use-inode.ensures.waits c.requires.waits in
    let same = waiting_number p.waiting c.args.ino v waits in
    let may = subst (λ n. MayDrop p n t c.args.left c.args.blocks) (sym same) c.requires in
    let stage = waiting_may p c.args.ino v c.requires.staged c.requires.in_use waits in
    let there : IsGone p v.number (way_to t)
    → ⊥ = λ gone. false≢true (sym c.if-is_gone.false ∙ c.is_gone.ensures.1 gone) in
    let own = c.data_run-run.ensures.own in
    let start = c.data_run-run.ensures.start in
    let end = c.min-end.ensures in
    let ordered = c.data_run-run.ensures.ordered in
    let inside = there_within p v.number c.args.blocks c.requires.staged may.in_use may.all t c.requires.can there in
    omega arith

pub returns-then-left-run : goal.returns-then-left-run
returns-then-left-run c =
    let p = c.args.parts.now in let b = c.stage_with_parents.new.parts in let v = c.record_in_use-inode.result in let t =
    c.args.table in
    let waits = c.record_in_use-inode.ensures.waits c.requires.waits in
    let same = waiting_number p.waiting c.args.ino v waits in
    let may = subst (λ n. MayDrop p n t c.args.left c.args.blocks) (sym same) c.requires in
    let stage = waiting_may p c.args.ino v c.requires.staged c.requires.in_use waits in
    let there : IsGone p v.number (way_to t)
    → ⊥ = λ gone. false≢true (sym c.if-is_gone.false ∙ c.is_gone.ensures.1 gone) in
    let own = c.data_run-run.ensures.own in
    let start = c.data_run-run.ensures.start in
    let end = c.min-end.ensures in
    let few = c.if-left-run.true in
    let went = subst (λ n. ClearsTable n t c.min-end.result b c.clear_table.new.parts) (sym same) c.clear_table.ensures
    in
    subst (λ n. DropsTable n t c.args.left p c.clear_table.new.parts) same
    (drop_whole p b v t c.args.left c.args.blocks may stage there c.stage_with_parents.ensures went.between
    (first_under t) c.min-end.result went.blocks
    (λ k low held from below. let at = (own k low).0 held in let least = at.0 in let most = at.1 in
    (omega arith, omega arith)) (omega arith)
    c.clear_table.new.parts (omega arith) went.last)

pub clear_blocks-requires-clause-may : goal.clear_blocks-requires-clause-may
clear_blocks-requires-clause-may c =
    let p = c.args.parts.now in let b = c.stage_with_parents.new.parts in let v = c.record_in_use-inode.result in let t =
    c.args.table in
    let waits = c.record_in_use-inode.ensures.waits c.requires.waits in
    let same = waiting_number p.waiting c.args.ino v waits in
    let may = subst (λ n. MayDrop p n t c.args.left c.args.blocks) (sym same) c.requires in
    let stage = waiting_may p c.args.ino v c.requires.staged c.requires.in_use waits in
    let there : IsGone p v.number (way_to t)
    → ⊥ = λ gone. false≢true (sym c.if-is_gone.false ∙ c.is_gone.ensures.1 gone) in
    let own = c.data_run-run.ensures.own in
    let start = c.data_run-run.ensures.start in
    let end = c.min-end.ensures in
    let some = c.if-left-run.false in
    subst (λ n. MayClearBetween b n c.args.left c.min-end.result) same
    (may_between p b v t c.args.left c.args.blocks may stage there c.stage_with_parents.ensures c.args.left
    c.min-end.result (omega arith)
    (λ k low from below. (own k low).1 (omega arith, omega arith)))

pub clear_blocks-requires-clause-ordered : goal.clear_blocks-requires-clause-ordered
clear_blocks-requires-clause-ordered c =
    let p = c.args.parts.now in let b = c.stage_with_parents.new.parts in let v = c.record_in_use-inode.result in let t =
    c.args.table in
    let waits = c.record_in_use-inode.ensures.waits c.requires.waits in
    let same = waiting_number p.waiting c.args.ino v waits in
    let may = subst (λ n. MayDrop p n t c.args.left c.args.blocks) (sym same) c.requires in
    let stage = waiting_may p c.args.ino v c.requires.staged c.requires.in_use waits in
    let there : IsGone p v.number (way_to t)
    → ⊥ = λ gone. false≢true (sym c.if-is_gone.false ∙ c.is_gone.ensures.1 gone) in
    let own = c.data_run-run.ensures.own in
    let start = c.data_run-run.ensures.start in
    let end = c.min-end.ensures in
    let inside = there_within p v.number c.args.blocks c.requires.staged may.in_use may.all t c.requires.can there in
    let some = c.if-left-run.false in
    let ordered = c.requires.ordered in
    elim c.else-run-left.either [ inl part ↦ let high = part.1 in omega arith | inr whole ↦ absurd (omega arith) ]

pub returns-else-left-run : goal.returns-else-left-run
returns-else-left-run c =
    let p = c.args.parts.now in let b = c.stage_with_parents.new.parts in let v = c.record_in_use-inode.result in let t =
    c.args.table in
    let waits = c.record_in_use-inode.ensures.waits c.requires.waits in
    let same = waiting_number p.waiting c.args.ino v waits in
    let may = subst (λ n. MayDrop p n t c.args.left c.args.blocks) (sym same) c.requires in
    let stage = waiting_may p c.args.ino v c.requires.staged c.requires.in_use waits in
    let there : IsGone p v.number (way_to t)
    → ⊥ = λ gone. false≢true (sym c.if-is_gone.false ∙ c.is_gone.ensures.1 gone) in
    let own = c.data_run-run.ensures.own in
    let start = c.data_run-run.ensures.start in
    let end = c.min-end.ensures in
    let some = c.if-left-run.false in
    let cleared = subst (λ n. ClearsBlocks n c.args.left c.min-end.result b c.clear_blocks.new.parts)
    (sym same) c.clear_blocks.ensures in
    subst (λ n. DropsTable n t c.args.left p c.clear_blocks.new.parts) same
    (drop_part p b v t c.args.left c.args.blocks may stage there c.stage_with_parents.ensures c.clear_blocks.new.parts
    c.args.left c.min-end.result cleared
    (λ k low held from below. let at = (own k low).0 held in let least = at.0 in let most = at.1 in
    (omega arith, omega arith)) (omega arith) (omega arith))
