use Rattle.std.proofs.Common.{List, sym, subst, [], take, refl}
use Rattle.std.proofs.lemmas.List.{take_more}
use Rattle.lfs_who.specs.Who.{AreNamed}
use Rattle.lfs_who.specs.declared.who.Named.{Named}
use Rattle.lfs_who.proofs.ActLemmas.{take_whole}
use Rattle.lfs_who.proofs.who.named_of.Goals as goal

pub loop-uid-init : goal.loop-uid-init
loop-uid-init c =
    subst (λ (ns : List Named). AreNamed c.args.questions.now ns c.args.others.now []) (sym c.new-named.ensures.items)
    (record { told = λ who among. absurd (cc); free = λ u none lines. refl })

pub loop-uid-preserved : goal.loop-uid-preserved
loop-uid-preserved c =
    subst (λ us. AreNamed c.args.questions.now c.put.new.named.items c.args.others.now us)
    (sym (take_more c.args.users.now c.loop-uid.uid-index 0 c.loop-uid-test.true))
    (c.in_ok-put.ensures c.args.questions.now (take c.loop-uid.uid-index c.args.users.now)
    (λ who same. c.in_ok-lines.ensures who (λ k d long. same)) c.loop-uid.invariant)

pub returns : goal.returns
returns c =
    subst (λ us. AreNamed c.args.questions.now c.loop-uid.named.items c.args.others.now us)
    (take_whole c.args.users.now c.loop-uid.uid-index c.loop-uid-test.false) c.loop-uid.invariant
