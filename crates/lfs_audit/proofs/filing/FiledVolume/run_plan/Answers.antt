use Rattle.std.proofs.Common.{◌≡◌, ℕ, Bool, true, List, ◌∷◌, [], ◌++◌, refl, sym, ap, subst, ◌∙◌}
use Rattle.std.proofs.Common.{append_assoc, append-nil}
use Rattle.std.specs.Io.KnownBytes.{Appends, append_known}
use Rattle.lfs_model.specs.declared.journal.Entry.{Entry}
use Rattle.lfs_volume.specs.Cleanings.{cleaner_of}
use Rattle.lfs_volume.specs.Journals.{Begins}
use Rattle.lfs_audit.specs.FiledRuns.{IsFiledRun}
use Rattle.lfs_audit.specs.Filing.{Takes}
use Rattle.lfs_audit.proofs.FiledLemmas.{filed_run, filing_more, filing_none, filing_of, nothing_yet, was_open}
use Rattle.lfs_audit.proofs.filing.FiledVolume.run_plan.Goals as goal

pub loop-step-init : goal.loop-step-init
loop-step-init g c =
    let r = cleaner_of g.F.FileStore.state g.F.FileStore.is_flushed g.F.FileStore.made g.F.CleanedStore.cleaner in
    record {
      done = [];
      filing = filing_none r g.J.JournalSink.contents g.J.JournalSink.next c.args.self.now _ _ c.requires
          (nothing_yet (g.W.Write.contents c.args.writer.now) c.new-text.result.items c.new-text.ensures.items);
      all = c.into_iter-step-iterator.ensures.into_iter_gives;
      silent = λ _. refl;
    }

pub loop-step-preserved : goal.loop-step-preserved
loop-step-preserved g c =
    let r = cleaner_of g.F.FileStore.state g.F.FileStore.is_flushed g.F.FileStore.made g.F.CleanedStore.cleaner in
    let contents = g.J.JournalSink.contents in
    let next = g.J.JournalSink.next in
    let line = c.in_ok-run_line.ensures.done in
    let done = c.loop-step.invariant.done in
    let step = c.in-Some.step in
    let rest = c.next.new.self in
    let stepped : c.loop-step.step-iterator ≡ step ∷ rest = c.in-Some.ensures.steps in
    record {
      done = done ++ step ∷ [];
      filing = filing_more r contents next c.args.self.now c.loop-step.self c.run_line.new.self done
          c.in-Some.step (g.W.Write.contents c.args.writer.now) (g.W.Write.contents c.loop-step.writer)
          (append_known (g.W.Write.contents c.write_full.new.writer) c.write_full.new.text.items)
          c.loop-step.text.items c.run_line.new.text.items c.loop-step.invariant.filing line
          c.in_ok-write_full.ensures;
      all = append_assoc done (step ∷ []) rest ∙ ap (λ l. done ++ l) (sym stepped) ∙ c.loop-step.invariant.all;
      silent = λ taking.
          let before = was_open r contents next c.loop-step.self c.run_line.new.self _ _ _ _ _ line taking in
          c.run_line.ensures.silent (taking ∙ sym before) ∙ c.loop-step.invariant.silent before;
    }

pub returns-clause-written : goal.returns-clause-written
returns-clause-written g c =
    let r = cleaner_of g.F.FileStore.state g.F.FileStore.is_flushed g.F.FileStore.made g.F.CleanedStore.cleaner in
    let contents = g.J.JournalSink.contents in
    let next = g.J.JournalSink.next in
    let start = g.W.Write.contents c.args.writer.now in
    let known = g.W.Write.contents c.loop-step.writer in
    let text = c.loop-step.text.items in
    let done = c.loop-step.invariant.done in
    let all : done ≡ c.args.steps =
    sym (append-nil done) ∙ ap (λ l. done ++ l) (sym c.in-None.ensures.steps.0) ∙ c.loop-step.invariant.all in
    let old = c.args.self.now in
    let left = g.W.Write.contents c.report.new.writer in
    subst (λ (b : Bool). (all : List ℕ) × (entries : List Entry)
    × IsFiledRun r (Begins (g.F.FileStore.state old.volume.since) old.volume.since_level) old.volume.store
    c.args.steps b entries all × Appends start left all
    × (b ≡ true → Takes contents next old.sink c.loop-step.self.sink entries)) (sym c.takes_more.ensures)
    (filed_run r contents next old c.loop-step.self c.args.steps start known left text c.requires
    (filing_of r contents next old c.loop-step.self done c.args.steps start (append_known known text) all
    c.loop-step.invariant.filing) c.report.ensures.legal c.in_ok-report.ensures.written)

pub returns-clause-silent : goal.returns-clause-silent
returns-clause-silent g c = λ is. c.loop-step.invariant.silent (sym c.takes_more.ensures ∙ is)
