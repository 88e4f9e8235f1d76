use Rattle.std.proofs.Common.{◌≡◌, List, length, map, subst, vec_len, arith}
use Rattle.std.proofs.lemmas.List.{length-map}
use Rattle.std.proofs.lemmas.Result.{err_from_is_err_and}
use Rattle.std.specs.Global.{Vec}
use Rattle.lfs_types.specs.declared.answer.Answer.{Answer}
use Rattle.lfs_logstore.specs.States.{state_of}
use Rattle.lfs_model.specs.declared.journal.Entry.{Entry}
use Rattle.lfs_settle.specs.Interleaving.{run_of}
use Rattle.lfs_audit.specs.Filing.{Takes}
use Rattle.lfs_audit.specs.Threads.{closed_text}
use Rattle.lfs_audit.proofs.FaultLemmas.{late_threads_fault}
use Rattle.lfs_audit.proofs.ThreadLemmas.{filed_threads, transcripts_few}
use Rattle.lfs_audit.proofs.UndoneLemmas.{unserved_fault, unserved_named, unwritten_named}
use Rattle.lfs_audit.proofs.threads.run_sessions.Goals as goal

pub print_closed-requires : goal.print_closed-requires
print_closed-requires g c =
    let closed = c.in_ok-closed.closed in
    let scripts = c.args.sessions.scripts in
    let few = transcripts_few (run_of closed.volume.journal closed.volume.limit c.args.sessions.setup closed.setup.items
    scripts.items closed.transcripts.items) c.in_ok-closed.ensures.settled in
    let lists = length-map closed.transcripts.items (λ (t : Vec Answer). t.items) in
    omega (arith, few, lists, c.in_ok-closed.ensures.sessions.1, scripts.ok.0)

pub returns-in_err-print_closed-clause-fault : goal.returns-in_err-print_closed-clause-fault
returns-in_err-print_closed-clause-fault g c =
    let residual = c.from_residual-in_err-print_closed in
    let exit = err_from_is_err_and residual.result residual.ensures.1 in
    let p = c.args.sessions.params in
    let scripts = c.args.sessions.scripts in
    let count : vec_len scripts ≡ length scripts.items = omega (arith, scripts.ok.0) in
    rw (exit.1, exit.2)
    (λ known split. late_threads_fault known p.segments p.inodes p.frames (vec_len scripts) c.args.sessions.setup
    scripts.items c.in_err-print_closed.field-0.0 split count c.in_ok-closed.ensures.sessions
    c.in_ok-closed.ensures.ranges c.in_err-print_closed.ensures.fault)

pub returns-in_err-closed-clause-fault : goal.returns-in_err-closed-clause-fault
returns-in_err-closed-clause-fault g c =
    let residual = c.from_residual in
    let exit = err_from_is_err_and residual.result residual.ensures.1 in
    let p = c.args.sessions.params in
    let scripts = c.args.sessions.scripts in
    let count : vec_len scripts ≡ length scripts.items = omega (arith, scripts.ok.0) in
    rw (exit.1, exit.2) (λ known split. unserved_fault known p.segments p.inodes p.frames (vec_len scripts)
    c.args.sessions.setup scripts.items c.in_err-closed.field-0.0 split count c.in_err-closed.ensures.fault)

pub returns-in_err-closed-clause-unsettled : goal.returns-in_err-closed-clause-unsettled
returns-in_err-closed-clause-unsettled g c =
    let residual = c.from_residual in
    let exit = err_from_is_err_and residual.result residual.ensures.1 in
    let p = c.args.sessions.params in
    let served = c.in_err-closed.ensures in
    rw (exit.1, exit.2) (unserved_named (λ closed. closed.volume) (λ closed. closed.setup.items)
    (λ closed. closed.transcripts) c.args.sessions.setup c.args.sessions.scripts p.segments p.inodes p.journal
    c.in_err-closed.field-0.0 served.unsettled served.count served.limit served.shape served.legal)

pub returns-in_err-print_closed-clause-unsettled : goal.returns-in_err-print_closed-clause-unsettled
returns-in_err-print_closed-clause-unsettled g c =
    let residual = c.from_residual-in_err-print_closed in
    let exit = err_from_is_err_and residual.result residual.ensures.1 in
    rw (exit.1, exit.2) (unwritten_named {T = Unit {0}} (λ session left. ⊥) _ c.in_err-print_closed.ensures.fault)

pub returns-in_err-print_closed-clause-unwritten : goal.returns-in_err-print_closed-clause-unwritten
returns-in_err-print_closed-clause-unwritten g c =
    let residual = c.from_residual-in_err-print_closed in
    let exit = err_from_is_err_and residual.result residual.ensures.1 in
    rw (exit.1, exit.2) (λ not. absurd (not c.in_err-print_closed.ensures.fault))

pub returns-clause-written : goal.returns-clause-written
returns-clause-written g c =
    let closed = c.in_ok-closed.closed in
    let p = c.args.sessions.params in
    let scripts = c.args.sessions.scripts in
    let ensures = c.in_ok-closed.ensures in (
      closed_text closed.volume.journal closed.setup.items
          (map (λ (t : Vec Answer). t.items) closed.transcripts.items),
      closed.volume.journal,
      λ known split. filed_threads known (state_of closed.volume.store).shape p.segments p.inodes closed.volume.journal
          p.journal closed.volume.limit c.args.sessions.setup scripts.items closed.setup.items closed.transcripts.items
          split ensures.settled ensures.limit ensures.shape ensures.legal.legal,
      c.in_ok-print_closed.ensures.written,
      λ none. subst (λ (l : List Entry). Takes g.J.JournalSink.contents g.J.JournalSink.next c.args.sink.now
          c.give-lost.new.sink l) c.journal.ensures.entries (c.give-lost.ensures none),
    )
