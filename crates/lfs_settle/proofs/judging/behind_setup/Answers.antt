use Rattle.std.proofs.Common.{◌≡◌, ◌==◌, true, length}
use Rattle.std.proofs.lemmas.Bool.{eqb-true}
use Rattle.lfs_settle.proofs.SettleLemmas.{begun_whole}
use Rattle.lfs_settle.proofs.judging.behind_setup.Goals as goal

pub returns : goal.returns
returns c =
    let none : (length c.loop-call.given.now == 0) ≡ true = cc in
    (c.loop-call.invariant c.loop-call.rest.now).0
    (begun_whole c.args.is_full c.loop-call.rest.now c.loop-call.calls.now c.loop-call.given.now
    c.in_default.ensures.cases (eqb-true _ _ none))
