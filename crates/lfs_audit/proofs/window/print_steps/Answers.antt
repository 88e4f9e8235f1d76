use Rattle.std.proofs.Common.{ℕ, [], ◌∷◌, ◌++◌, append-nil, length, sym, ap, subst, ◌∙◌}
use Rattle.std.specs.Io.KnownBytes.{append_known}
use Rattle.std.proofs.KnownBytes.{Appends-nil}
use Rattle.lfs_script.proofs.SplitLemmas.{one_more}
use Rattle.lfs_volume.specs.Cleanings.{cleaner_of}
use Rattle.lfs_audit.specs.Windows.{HasLineRoom}
use Rattle.lfs_audit.proofs.WindowLemmas.{room_least, windowed_all, windowed_more, windowed_none}
use Rattle.lfs_audit.proofs.window.print_steps.Goals as goal

pub loop-step-init : goal.loop-step-init
loop-step-init g c =
    let r = cleaner_of g.F.FileStore.state g.F.FileStore.is_flushed g.F.FileStore.made g.F.CleanedStore.cleaner in
    let window = c.args.window.now in
    let volume = c.args.volume.now in
    record {
      done = [];
      whole = sym c.into_iter-step-iterator.ensures.into_iter_gives;
      windowed = windowed_none r window.left volume window.tally.totals window.tally.refusals _ c.requires.empty
          (ap (λ t. t.totals) c.requires.untold) (ap (λ t. t.refusals) c.requires.untold) (Appends-nil _);
      room = subst (λ j. HasLineRoom (length j) volume.limit window.left) (sym c.requires.empty) c.requires.room;
    }

pub move_on-requires : goal.move_on-requires
move_on-requires g c =
    let volume = c.loop-step.volume in
    let left = c.loop-step.window.left in
    record {
      room = subst (λ (n : ℕ). HasLineRoom 0 n left) (sym c.in_ok-run_step.ensures.tells.ran.limit)
          (room_least (length volume.journal) volume.limit left c.loop-step.invariant.room);
    }

pub loop-step-preserved : goal.loop-step-preserved
loop-step-preserved g c =
    let r = cleaner_of g.F.FileStore.state g.F.FileStore.is_flushed g.F.FileStore.made g.F.CleanedStore.cleaner in
    let done = c.loop-step.invariant.done in
    let now = c.loop-step.window in
    let next = c.move_on.new.window in
    record {
      done = done ++ c.in-Some.step ∷ [];
      whole =
          one_more c.args.steps done c.loop-step.step-iterator c.next.new.self c.in-Some.step
          c.loop-step.invariant.whole c.in-Some.ensures.steps;
      windowed =
          windowed_more r c.args.window.now.left c.args.volume.now c.loop-step.volume c.run_step.new.volume
          c.move_on.new.volume now.tally.totals next.tally.totals now.tally.refusals c.run_step.new.refusals
          next.tally.refusals now.left next.left done c.in-Some.step _ _
          (append_known (g.W.Write.contents c.write_full.new.writer) c.write_full.new.text.items)
          c.loop-step.text.items c.run_step.new.text.items c.loop-step.invariant.windowed c.loop-step.invariant.room
          c.in_ok-run_step.ensures c.in_ok-move_on.ensures.moves c.move_on.ensures.refusals
          c.in_ok-write_full.ensures;
      room = c.in_ok-move_on.ensures.room;
    }

pub returns-clause-written : goal.returns-clause-written
returns-clause-written g c =
    let r = cleaner_of g.F.FileStore.state g.F.FileStore.is_flushed g.F.FileStore.made g.F.CleanedStore.cleaner in
    let window = c.loop-step.window in
    let done = c.loop-step.invariant.done in
    windowed_all r c.args.window.now.left c.args.volume.now c.loop-step.volume window.tally.totals
    window.tally.refusals window.left done c.args.steps _ _
    (sym (c.loop-step.invariant.whole ∙ ap (λ l. done ++ l) c.in-None.ensures.steps.0 ∙ append-nil done))
    c.loop-step.invariant.windowed
