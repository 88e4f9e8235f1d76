use Rattle.std.proofs.Common.{Err, ap, sym, ◌∙◌}
use Rattle.std.proofs.lemmas.Result.{err_from_is_err_and}
use Rattle.lfs_live.specs.Held.{sink_of}
use Rattle.lfs_live.specs.Scripts.{IsFresh, Manner}
use Rattle.lfs_live.proofs.StartLemmas.{begun_heard, begun_talk, fresh_log, kept_as, log_fault}
use Rattle.lfs_live.proofs.start.run_kept.Goals as goal

pub returns-in_err-run_over-clause-so_far : goal.returns-in_err-run_over-clause-so_far
returns-in_err-run_over-clause-so_far g c =
    let p = c.args.setup.params in
    let before = c.args.setup.witnesses in
    let sink = sink_of g.J.JournalSink.contents g.J.JournalSink.next in
    let made = c.in_ok-volume.ensures in
    let fresh = fresh_log p.segments p.inodes p.frames p.journal c.in_ok-volume.volume made.fresh.0 made.fresh.1
    made.fresh.2 made.begins in
    let exit = err_from_is_err_and c.from_residual-in_err-run_over.result c.from_residual-in_err-run_over.ensures.1 in
    rw (exit.1, exit.2)
    (λ is. begun_heard g.V.Watch.kept sink (IsFresh p.segments p.inodes p.frames p.journal) c.in_ok-volume.volume before.sink
    (record { is_open = before.is_open; cleans = c.args.setup.cleans; framing = c.args.setup.framing }) _ c.run_over.new.tended _ _ _ _
    c.new-tended.ensures fresh made.fresh.0 (c.in_err-run_over.ensures.so_far is))

pub returns-in_err-run_over-clause-fault : goal.returns-in_err-run_over-clause-fault
returns-in_err-run_over-clause-fault g c =
    let p = c.args.setup.params in
    let exit = err_from_is_err_and c.from_residual-in_err-run_over.result c.from_residual-in_err-run_over.ensures.1 in
    rw (exit.1, exit.2) (log_fault {A = Unit {0}} p.segments p.inodes p.frames
    (Err c.in_err-run_over.field-0.0) c.in_err-run_over.ensures.fault)

pub returns-clause-written : goal.returns-clause-written
returns-clause-written g c =
    let p = c.args.setup.params in
    let before = c.args.setup.witnesses in
    let after = c.into_witnesses in
    let sink = sink_of g.J.JournalSink.contents g.J.JournalSink.next in
    let manner : Manner = record {
      is_open = before.is_open;
      cleans = c.args.setup.cleans;
      framing = c.args.setup.framing;
    } in
    let begins = IsFresh p.segments p.inodes p.frames p.journal in
    let made = c.in_ok-volume.ensures in
    let fresh = fresh_log p.segments p.inodes p.frames p.journal c.in_ok-volume.volume made.fresh.0 made.fresh.1
    made.fresh.2 made.begins in
    kept_as g.V.Watch.kept sink begins manner c.run_over.new.tended after.result.sink
    after.result.is_open _ _ _ _ _ _ after.ensures.sink after.ensures.is_open
    (begun_talk g.V.Watch.kept sink begins c.in_ok-volume.volume before.sink manner _ c.run_over.new.tended _ _ _ _ _
    c.new-tended.ensures fresh made.fresh.0 c.in_ok-run_over.ensures.written)

pub returns-clause-silent : goal.returns-clause-silent
returns-clause-silent g c = λ same.
    c.in_ok-run_over.ensures.silent (sym c.into_witnesses.ensures.is_open ∙ same
    ∙ sym (ap (λ h. h.is_open) c.new-tended.ensures))
