use Rattle.std.proofs.Common.{◌≡◌, length, vec_len, arith}
use Rattle.std.proofs.lemmas.List.{length-map}
use Rattle.std.proofs.lemmas.Result.{err_from_is_err_and}
use Rattle.std.specs.Global.{Vec}
use Rattle.lfs_types.specs.declared.answer.Answer.{Answer}
use Rattle.lfs_logstore.specs.States.{state_of}
use Rattle.lfs_settle.specs.Interleaving.{run_of}
use Rattle.lfs_audit.proofs.FaultLemmas.{late_threads_fault, split_cause}
use Rattle.lfs_audit.proofs.ThreadLemmas.{threads_run, transcripts_few}
use Rattle.lfs_audit.proofs.UndoneLemmas.{script_named, unserved_fault, unserved_named, unsplit_named, unwritten_named}
use Rattle.lfs_audit.proofs.threads.run_threads_noting.Goals as goal

pub print_closed-requires : goal.print_closed-requires
print_closed-requires g c =
    let closed = c.in_ok-closed.closed in
    let scripts = c.in_ok-setup.sessions in
    let few = transcripts_few (run_of closed.volume.journal closed.volume.limit c.in_ok-setup.setup closed.setup.items
    scripts.items closed.transcripts.items) c.in_ok-closed.ensures.settled in
    let lists = length-map closed.transcripts.items (λ (t : Vec Answer). t.items) in
    omega (arith, few, lists, c.in_ok-closed.ensures.sessions.1, scripts.ok.0)

pub returns-clause-written : goal.returns-clause-written
returns-clause-written g c =
    let closed = c.in_ok-closed.closed in
    threads_run (g.R.Read.remaining c.args.reader.now)
    (state_of closed.volume.store).shape c.args.params.segments c.args.params.inodes closed.volume.journal
    c.args.params.journal closed.volume.limit c.in_ok-setup.setup c.in_ok-setup.sessions.items
    closed.setup.items closed.transcripts.items _ _ c.in_ok-setup.ensures.split c.in_ok-closed.ensures.settled
    c.in_ok-closed.ensures.limit c.in_ok-closed.ensures.shape c.in_ok-closed.ensures.legal.legal
    c.in_ok-print_closed.ensures.written

pub returns-in_err-setup-clause-fault : goal.returns-in_err-setup-clause-fault
returns-in_err-setup-clause-fault g c =
    let residual = c.from_residual in
    let exit = err_from_is_err_and residual.result residual.ensures.1 in
    let p = c.args.params in
    rw (exit.1, exit.2) (split_cause (g.R.Read.remaining c.args.reader.now) p.segments p.inodes p.frames _
    c.in_err-setup.ensures.fault)

pub returns-in_err-setup-clause-unsettled : goal.returns-in_err-setup-clause-unsettled
returns-in_err-setup-clause-unsettled g c =
    let residual = c.from_residual in
    let exit = err_from_is_err_and residual.result residual.ensures.1 in
    rw (exit.1, exit.2) (unsplit_named {T = Unit {0}} (λ session left. ⊥) (g.R.Read.remaining c.args.reader.now) _ c.in_err-setup.ensures.fault)

pub returns-in_err-closed-clause-fault : goal.returns-in_err-closed-clause-fault
returns-in_err-closed-clause-fault g c =
    let residual = c.from_residual-in_err-closed in
    let exit = err_from_is_err_and residual.result residual.ensures.1 in
    let p = c.args.params in
    let scripts = c.in_ok-setup.sessions in
    let count : vec_len scripts ≡ length scripts.items = omega (arith, scripts.ok.0) in
    rw (exit.1, exit.2) (unserved_fault (g.R.Read.remaining c.args.reader.now) p.segments p.inodes p.frames
    (vec_len scripts) c.in_ok-setup.setup scripts.items c.in_err-closed.field-0.0 c.in_ok-setup.ensures.split count
    c.in_err-closed.ensures.fault)

pub returns-in_err-closed-clause-unsettled : goal.returns-in_err-closed-clause-unsettled
returns-in_err-closed-clause-unsettled g c =
    let residual = c.from_residual-in_err-closed in
    let exit = err_from_is_err_and residual.result residual.ensures.1 in
    let p = c.args.params in
    let scripts = c.in_ok-setup.sessions in
    let served = c.in_err-closed.ensures in
    rw (exit.1, exit.2) (script_named (λ closed. closed.volume) (λ closed. closed.setup.items)
    (λ closed. closed.transcripts) (g.R.Read.remaining c.args.reader.now) c.in_ok-setup.setup scripts.items p.segments
    p.inodes p.journal _ c.in_ok-setup.ensures.split
    (unserved_named (λ closed. closed.volume) (λ closed. closed.setup.items) (λ closed. closed.transcripts)
    c.in_ok-setup.setup scripts p.segments p.inodes p.journal c.in_err-closed.field-0.0 served.unsettled served.count
    served.limit served.shape served.legal))

pub returns-in_err-print_closed-clause-fault : goal.returns-in_err-print_closed-clause-fault
returns-in_err-print_closed-clause-fault g c =
    let residual = c.from_residual-in_err-print_closed in
    let exit = err_from_is_err_and residual.result residual.ensures.1 in
    let p = c.args.params in
    let scripts = c.in_ok-setup.sessions in
    let count : vec_len scripts ≡ length scripts.items = omega (arith, scripts.ok.0) in
    rw (exit.1, exit.2) (late_threads_fault (g.R.Read.remaining c.args.reader.now) p.segments p.inodes p.frames
    (vec_len scripts) c.in_ok-setup.setup scripts.items c.in_err-print_closed.field-0.0 c.in_ok-setup.ensures.split
    count c.in_ok-closed.ensures.sessions c.in_ok-closed.ensures.ranges c.in_err-print_closed.ensures.fault)

pub returns-in_err-print_closed-clause-unsettled : goal.returns-in_err-print_closed-clause-unsettled
returns-in_err-print_closed-clause-unsettled g c =
    let residual = c.from_residual-in_err-print_closed in
    let exit = err_from_is_err_and residual.result residual.ensures.1 in
    rw (exit.1, exit.2) (unwritten_named {T = Unit {0}} (λ session left. ⊥) _ c.in_err-print_closed.ensures.fault)

pub returns-in_err-print_closed-clause-unwritten : goal.returns-in_err-print_closed-clause-unwritten
returns-in_err-print_closed-clause-unwritten g c =
    let residual = c.from_residual-in_err-print_closed in
    let exit = err_from_is_err_and residual.result residual.ensures.1 in
    rw (exit.1, exit.2) (λ not. absurd (not c.in_err-print_closed.ensures.fault))
