use Rattle.std.proofs.Common.{ℕ, refl, rules, subst, sym}
use Rattle.lfs_audit.proofs.RunLemmas.{on_ok}
use Rattle.lfs_audit.proofs.FaultLemmas.{has_plan, late_script_faults, layout_fault, reading_script_fault}
use Rattle.lfs_audit.proofs.ScriptLemmas.{late_silence, log_run}
use Rattle.lfs_audit.specs.Windows.{HasLineRoom}
use Rattle.lfs_audit.proofs.run.run_script_noting.Goals as goal

pub returns-clause-written : goal.returns-clause-written
returns-clause-written g c =
    on_ok c.run_windowed.result c.run_windowed.ensures.written
    (λ run. log_run (g.R.Read.remaining c.args.reader.now) c.in_ok-plan.plan c.into_steps.result _ _ _ _ _ _ _ _ _
    _
    c.in_ok-volume.ensures.begins c.in_ok-plan.ensures.plan c.into_steps.ensures refl
    c.in_ok-volume.ensures.fresh.2 run)

pub returns-clause-ranges : goal.returns-clause-ranges
returns-clause-ranges g c =
    on_ok c.run_windowed.result c.run_windowed.ensures.written (λ run. c.in_ok-volume.ensures.ranges)

pub returns-clause-fault : goal.returns-clause-fault
returns-clause-fault g c =
    late_script_faults _ _ _ _ c.run_windowed.result
    (has_plan _ c.in_ok-plan.plan c.in_ok-plan.ensures.plan) c.in_ok-volume.ensures.ranges c.run_windowed.ensures.fault

pub returns-in_err-plan-clause-fault : goal.returns-in_err-plan-clause-fault
returns-in_err-plan-clause-fault g c =
    let p = c.args.params in
    let fault = reading_script_fault (g.R.Read.remaining c.args.reader.now) p.segments p.inodes p.frames
    c.in_err-plan.field-0.0 c.in_err-plan.ensures.fault in search rules

pub returns-in_err-volume-clause-fault : goal.returns-in_err-volume-clause-fault
returns-in_err-volume-clause-fault g c =
    let p = c.args.params in
    let known = g.R.Read.remaining c.args.reader.now in
    let fault = layout_fault known p.segments p.inodes p.frames c.in_err-volume.field-0.0
    (has_plan known c.in_ok-plan.plan c.in_ok-plan.ensures.plan) c.in_err-volume.ensures.fault in search rules

pub returns-clause-unwritten : goal.returns-clause-unwritten
returns-clause-unwritten g c = late_silence _ c.run_windowed.result c.run_windowed.ensures.fault

pub run_windowed-requires-clause-room : goal.run_windowed-requires-clause-room
run_windowed-requires-clause-room g c =
    subst (λ (n : ℕ). HasLineRoom 0 n c.args.params.journal) (sym c.in_ok-volume.ensures.fresh.1) c.window_of.ensures
