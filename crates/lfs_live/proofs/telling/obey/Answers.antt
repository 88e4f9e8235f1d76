use Rattle.std.proofs.Common.{[], refl}
use Rattle.lfs_sinks.proofs.RefusalLemmas.{adds_none}
use Rattle.lfs_live.proofs.TalkLemmas.{if_ok}
use Rattle.lfs_live.proofs.telling.obey.Goals as goal

pub returns-in-Act : goal.returns-in-Act
returns-in-Act g c =
    if_ok _ _ c.make.result c.make.ensures
    (λ text line. (line.tells.answers, rw c.in-Act.is (line.tells, refl, refl), line.counted))

pub returns-in-Nothing : goal.returns-in-Nothing
returns-in-Nothing g c =
    ([], rw c.in-Nothing.is (refl, refl, c.new-nothing.ensures.items, refl), adds_none c.args.refusals.now)

pub returns-in-Session : goal.returns-in-Session
returns-in-Session g c =
    ([], rw c.in-Session.is (refl, refl, c.new-nothing.ensures.items, refl), adds_none c.args.refusals.now)

pub returns-in-Caller : goal.returns-in-Caller
returns-in-Caller g c =
    ([], rw c.in-Caller.is (refl, refl, c.new-nothing.ensures.items, refl), adds_none c.args.refusals.now)
