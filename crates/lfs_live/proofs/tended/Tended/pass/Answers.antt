use Rattle.std.proofs.Common.{List, ℕ, [], ap, length, subst}
use Rattle.lfs_types.specs.Caller.{Caller}
use Rattle.lfs_script.specs.declared.plan.Act.TheVariants.{Pass}
use Rattle.lfs_volume.specs.Cleanings.{cleaner_of}
use Rattle.lfs_volume.specs.Seen.{Seen}
use Rattle.lfs_audit.specs.Runs.{TellsLine}
use Rattle.lfs_live.specs.Held.{Held, Moves, sink_of}
use Rattle.lfs_live.specs.Talking.{first_speaker}
use Rattle.lfs_live.proofs.tended.Tended.pass.Goals as goal

pub returns-clause-passed : goal.returns-clause-passed
returns-clause-passed g c =
    let state = g.F.FileStore.state in
    let r = cleaner_of state g.F.FileStore.is_flushed g.F.FileStore.made g.F.CleanedStore.cleaner in
    let sink = sink_of g.J.JournalSink.contents g.J.JournalSink.next in
    let v = c.self.inside in
    let first = c.self.view_is in
    let passed = c.run_step.new.volume in
    let untold = c.run_step.new.text.items in
    let moves = c.move_on.ensures.moves in (
      moves.0,
      passed,
      untold,
      subst (λ (v : Seen g.row.F.Denot). TellsLine r v passed 255 first_speaker.cred Pass [] untold)
          (ap (λ h. h.volume) first)
          (subst (λ (caller : Caller). TellsLine r c.self.inside.volume passed 255 caller Pass [] untold)
          c.first_caller.ensures
          (subst (λ (text : List ℕ). TellsLine r c.self.inside.volume passed 255 c.first_caller.result Pass text untold)
          c.new-untold.ensures.items c.in_ok-run_step.ensures.tells)),
      subst (λ (h : Held g.row.F.Denot g.row.J.Denot). Moves state sink (length h.volume.journal)
          (record h { volume = passed }) c.move_on.new.self moves.0) first
          (subst (λ (n : ℕ). Moves state sink n
          (record { volume = passed; sink = v.sink; tally = v.tally; is_open = v.is_open; cleans = v.cleans })
          c.move_on.new.self moves.0)
          (ap length c.journal-before.ensures.entries) moves.1),
    )
