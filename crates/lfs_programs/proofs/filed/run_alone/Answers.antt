use Rattle.std.proofs.Common.{Bool, refl, subst}
use Rattle.std.proofs.lemmas.Result.{err_from_is_err_and}
use Rattle.lfs_audit.proofs.FaultLemmas.{has_plan, layout_fault, reading_script_fault}
use Rattle.lfs_programs.specs.Asked.{HasGotFiled}
use Rattle.lfs_programs.proofs.FiledLemmas.{begun_of, broken_alone, broken_late, filed_alone, fresh_as, keeps_same, unfit_as}
use Rattle.lfs_programs.proofs.filed.run_alone.Goals as goal

pub run_plan-requires : goal.run_plan-requires
run_plan-requires g c =
    let fresh = c.in_ok-volume.ensures.fresh in
    begun_of c.in_ok-volume.volume c.new.result c.new-filed.result c.with_window.result.journal c.new-filed.ensures
    fresh.0 fresh.1 c.with_window.ensures.journal c.in_ok-volume.ensures.begins

pub returns-in_err-plan-clause-failed : goal.returns-in_err-plan-clause-failed
returns-in_err-plan-clause-failed g c =
    let exit = err_from_is_err_and c.from_residual.result c.from_residual.ensures.1 in
    let options = c.args.run.options in
    let p = options.params in
    let known = g.R.Read.remaining c.args.reader.now in
    let start = g.W.Write.contents c.args.stdout.now in
    rw (exit.1, exit.2)
    (λ some. broken_alone g.F.File.Write.contents options known start start c.args.stdout.now c.args.stdout.now _
    c.requires (reading_script_fault known p.segments p.inodes p.frames _ c.in_err-plan.ensures.fault)
    (λ _. keeps_same start))

pub returns-in_err-volume-clause-failed : goal.returns-in_err-volume-clause-failed
returns-in_err-volume-clause-failed g c =
    let residual = c.from_residual-in_err-volume in
    let exit = err_from_is_err_and residual.result residual.ensures.1 in
    let options = c.args.run.options in
    let p = options.params in
    let w = c.with_window.ensures in
    let params = c.with_window.result in
    let known = g.R.Read.remaining c.args.reader.now in
    let start = g.W.Write.contents c.args.stdout.now in
    rw (exit.1, exit.2)
    (λ some. broken_alone g.F.File.Write.contents options known start start c.args.stdout.now c.args.stdout.now _
    c.requires (layout_fault known p.segments p.inodes p.frames _
    (has_plan known c.in_ok-plan.plan c.in_ok-plan.ensures.plan)
    (unfit_as p.segments p.inodes p.frames params.segments params.inodes params.frames _ w.segments w.inodes w.frames
    c.in_err-volume.ensures.fault))
    (λ _. keeps_same start))

pub returns-in_err-file-clause-failed : goal.returns-in_err-file-clause-failed
returns-in_err-file-clause-failed g c =
    let residual = c.from_residual-in_err-file in
    let exit = err_from_is_err_and residual.result residual.ensures.1 in
    rw (exit.1, exit.2) (λ some. (some, refl))

pub returns-in_err-run_plan-clause-failed : goal.returns-in_err-run_plan-clause-failed
returns-in_err-run_plan-clause-failed g c =
    let residual = c.from_residual-in_err-run_plan in
    let exit = err_from_is_err_and residual.result residual.ensures.1 in
    let w = c.with_window.ensures in
    let params = c.with_window.result in
    let known = g.R.Read.remaining c.args.reader.now in
    rw (exit.1, exit.2)
    (λ some. broken_late g.F.File.Write.contents c.args.run.options known (g.W.Write.contents c.args.stdout.now)
    (g.W.Write.contents c.run_plan.new.writer) c.args.stdout.now c.run_plan.new.writer _ c.in_ok-plan.plan
    params.segments params.inodes params.frames c.requires c.in_ok-plan.ensures.plan w.segments w.inodes w.frames
    c.in_ok-volume.ensures.ranges c.in_err-run_plan.ensures.fault)

pub returns-then-branch-clause-done : goal.returns-then-branch-clause-done
returns-then-branch-clause-done g c =
    let options = c.args.run.options in
    let p = options.params in
    let w = c.with_window.ensures in
    let params = c.with_window.result in
    let volume = c.in_ok-volume.volume in
    let known = g.R.Read.remaining c.args.reader.now in
    let start = g.W.Write.contents c.args.stdout.now in
    let out = g.W.Write.contents c.run_plan.new.writer in (
      subst (λ (b : Bool). HasGotFiled g.F.File.Write.contents options b known start out) c.if-branch.true
          (filed_alone g.F.File.Write.contents (λ s. s.writer) (λ s. s.next) options known start out c.in_ok-plan.plan
          c.into_steps.result volume c.new.result c.new-filed.result c.run_plan.new.self _ c.requires
          c.in_ok-plan.ensures.plan c.into_steps.ensures
          (fresh_as p.segments p.inodes p.frames params.segments params.inodes params.frames volume.store w.segments
          w.inodes w.frames c.in_ok-volume.ensures.fresh.2)
          c.in_ok-volume.ensures.begins c.new.ensures.first c.new-filed.ensures c.in_ok-run_plan.ensures.written),
      c.in_ok-run_plan.ensures.silent c.if-branch.true,
    )

pub returns-clause-failed : goal.returns-clause-failed
returns-clause-failed g c = λ some.
    let options = c.args.run.options in
    let p = options.params in
    let w = c.with_window.ensures in
    let params = c.with_window.result in
    let volume = c.in_ok-volume.volume in
    let known = g.R.Read.remaining c.args.reader.now in
    let start = g.W.Write.contents c.args.stdout.now in
    let out = g.W.Write.contents c.run_plan.new.writer in (
      some,
      subst (λ (b : Bool). HasGotFiled g.F.File.Write.contents options b known start out) c.if-branch.false
          (filed_alone g.F.File.Write.contents (λ s. s.writer) (λ s. s.next) options known start out c.in_ok-plan.plan
          c.into_steps.result volume c.new.result c.new-filed.result c.run_plan.new.self _ c.requires
          c.in_ok-plan.ensures.plan c.into_steps.ensures
          (fresh_as p.segments p.inodes p.frames params.segments params.inodes params.frames volume.store w.segments
          w.inodes w.frames c.in_ok-volume.ensures.fresh.2)
          c.in_ok-volume.ensures.begins c.new.ensures.first c.new-filed.ensures c.in_ok-run_plan.ensures.written),
    )
