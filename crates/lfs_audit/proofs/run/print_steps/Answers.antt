use Rattle.std.proofs.Common.{[], ◌∷◌, ◌++◌, sym}
use Rattle.std.specs.Io.KnownBytes.{append_known}
use Rattle.lfs_script.proofs.SplitLemmas.{one_more}
use Rattle.lfs_volume.specs.Cleanings.{cleaner_of}
use Rattle.lfs_audit.proofs.RunLemmas.{all_written, writes_more, writes_none}
use Rattle.lfs_audit.proofs.run.print_steps.Goals as goal

pub loop-step-init : goal.loop-step-init
loop-step-init g c =
    let s = g.F.CleanedStore in
    let r = cleaner_of g.F.FileStore.state g.F.FileStore.is_flushed g.F.FileStore.made s.cleaner in
    record {
      done = [];
      whole = sym c.into_iter-step-iterator.ensures.into_iter_gives;
      writes = writes_none r c.args.volume.now c.args.refusals.now _;
    }

pub loop-step-preserved : goal.loop-step-preserved
loop-step-preserved g c =
    let s = g.F.CleanedStore in
    let r = cleaner_of g.F.FileStore.state g.F.FileStore.is_flushed g.F.FileStore.made s.cleaner in
    let done = c.loop-step.invariant.done in
    record {
      done = done ++ c.in-Some.step ∷ [];
      whole =
          one_more c.args.steps done c.loop-step.step-iterator c.next.new.self c.in-Some.step
          c.loop-step.invariant.whole c.in-Some.ensures.steps;
      writes =
          writes_more r c.args.volume.now c.loop-step.volume c.run_step.new.volume c.args.refusals.now
          c.loop-step.refusals c.run_step.new.refusals done c.in-Some.step _ _
          (append_known (g.W.Write.contents c.write_full.new.writer) c.write_full.new.text.items)
          c.loop-step.text.items c.run_step.new.text.items
          c.loop-step.invariant.writes c.in_ok-run_step.ensures c.in_ok-write_full.ensures;
    }

pub returns-clause-written : goal.returns-clause-written
returns-clause-written g c =
    let s = g.F.CleanedStore in
    let r = cleaner_of g.F.FileStore.state g.F.FileStore.is_flushed g.F.FileStore.made s.cleaner in
    all_written r c.args.volume.now c.loop-step.volume c.args.refusals.now c.loop-step.refusals c.args.steps
    c.loop-step.invariant.done c.loop-step.step-iterator _ _ c.loop-step.invariant.whole c.in-None.ensures.steps.0
    c.loop-step.invariant.writes
