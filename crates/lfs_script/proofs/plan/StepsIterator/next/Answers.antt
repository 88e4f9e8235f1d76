use Rattle.lfs_script.proofs.LayoutLemmas.{asked_behind}
use Rattle.lfs_script.proofs.plan.StepsIterator.next.Goals as goal

pub invariant_of-self-2 : goal.invariant_of-self-2
invariant_of-self-2 c =
    asked_behind c.self.inside.askers.items c.self.inside.acts c.next.new.self c.in_ok-act.field-0
    c.in_ok-act.ensures.steps c.self.invariant
