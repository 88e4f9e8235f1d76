use Rattle.std.proofs.Common.{inl, inr, refl}
use Rattle.std.proofs.lemmas.Result.{IfOk-from_err}
use Rattle.lfs_rounds.specs.Rounds.{keeping_of}
use Rattle.lfs_rounds.proofs.RoundLemmas.{led_further}
use Rattle.lfs_rounds.proofs.rounds.serve_rounds.Goals as goal

pub returns-in_default-clause-settled : goal.returns-in_default-clause-settled
returns-in_default-clause-settled g c =
    let led = c.loop.invariant in
    (led.rounds, c.loop.volume, record { last = c.loop.rounds; went = led.went; asked = inr c.clients.ensures }, refl)

pub returns-in_err-next-clause-settled : goal.returns-in_err-next-clause-settled
returns-in_err-next-clause-settled g c =
    let led = c.loop.invariant in (
      led.rounds,
      c.loop.volume,
      record { last = c.loop.rounds; went = led.went; asked = inr c.clients.ensures },
      IfOk-from_err c.from_residual.result _ c.from_residual.ensures.0,
    )

pub loop-preserved : goal.loop-preserved
loop-preserved g c = led_further g.F.FileStore.state (keeping_of g.K.Rounds.asks g.K.Rounds.keeps) c.args.volume
    c.loop.volume c.in_ok-next.next c.args.rounds.now c.loop.rounds c.clients.new.self c.keep.new.self c.in_ok-next.round
    c.loop.invariant c.clients.ensures c.in_ok-next.ensures.settled c.keep.ensures

pub returns-clause-settled : goal.returns-clause-settled
returns-clause-settled g c =
    let led = c.loop.invariant in
    (led.rounds, c.loop.volume, record { last = c.loop.rounds; went = led.went; asked = inl refl }, refl)
