use Rattle.std.proofs.Common.{List, subst}
use Rattle.lfs_who.specs.Lines.{Told}
use Rattle.lfs_who.specs.Who.{AreNamed}
use Rattle.lfs_who.proofs.ActLemmas.{all_told}
use Rattle.lfs_who.proofs.who.who_of.Goals as goal

pub returns : goal.returns
returns c =
    all_told c.args.questions.now c.in_ok-named.named.items c.in_ok-others.others.items c.in_ok-users.users.items
    (subst (λ us. AreNamed c.args.questions.now c.in_ok-named.named.items c.in_ok-others.others.items us)
    c.deref.ensures.value
    (subst (λ (ls : List Told). AreNamed c.args.questions.now c.in_ok-named.named.items ls c.deref.result.now)
    c.deref-2.ensures.value c.in_ok-named.ensures))
    c.in_ok-users.ensures c.in_ok-others.ensures
