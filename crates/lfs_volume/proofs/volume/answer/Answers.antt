use Rattle.std.proofs.Common.{sym, ap, subst, ◌∙◌}
use Rattle.lfs_calls.specs.Asked.{IsAsked}
use Rattle.lfs_calls.specs.Calls.{answered}
use Rattle.lfs_calls.specs.Levels.{level_left}
use Rattle.lfs_calls.proofs.BaseLemmas.{call_moves}
use Rattle.lfs_volume.proofs.JournalLemmas.{of_call, on_done}
use Rattle.lfs_volume.proofs.volume.answer.Goals as goal

pub returns-clause-answered : goal.returns-clause-answered
returns-clause-answered g c =
    of_call (g.F.FileStore.state c.args.store.now)
    (g.F.FileStore.state c.serve.new.store) c.args.level.now c.serve.new.level c.args.cred.now c.args.request.now
    c.serve.result c.answered.result c.requires c.serve.ensures.call c.answered.ensures
    (c.serve.ensures.level ∙ ap (level_left c.args.level.now c.args.request.now) (sym c.answered.ensures))

pub returns-clause-synced : goal.returns-clause-synced
returns-clause-synced g c = λ sync done. on_done c.serve.result c.answered.result
    (g.F.FileStore.is_flushed c.serve.new.store) c.answered.ensures done (c.serve.ensures.synced sync)

pub returns-clause-asked : goal.returns-clause-asked
returns-clause-asked g c =
    subst (λ a. IsAsked g.F.FileStore.state g.F.FileStore.made c.args.store.now c.args.cred.now c.args.request.now a
    c.serve.new.store) (sym c.answered.ensures) c.serve.ensures.asked

pub returns-clause-base : goal.returns-clause-base
returns-clause-base g c =
    let call = c.serve.ensures.call in
    call_moves g.F.FileStore.state g.F.FileStore.made c.args.store.now c.serve.new.store c.args.cred.now
    c.args.request.now (answered c.serve.result) call.looks call.unasked c.serve.ensures.base c.serve.ensures.asked
