use Rattle.std.proofs.Common.{None, sym, ◌∙◌, arith}
use Rattle.std.proofs.lemmas.Bool.{cond-false, cond-true, lt-ltb, le-ltb}
use Rattle.std.proofs.lemmas.List.{get_or_past, get_or-set_other, get_or-set_same}
use Rattle.lfs_known.specs.Says.{says}
use Rattle.lfs_known.proofs.slots.Slots.put.Goals as goal

pub returns-then-slot-lt-SLOTS-clause-put : goal.returns-then-slot-lt-SLOTS-clause-put
unfolding says
returns-then-slot-lt-SLOTS-clause-put g c =
    let slots = c.args.self.now.slots in
    let sized = c.args.self.now.sized in
    let long = slots.ok.0 in
    get_or-set_same slots.items c.args.number c.args.value None (omega arith)
    ∙ sym (cond-true _ _ _ (lt-ltb c.args.number 4096 c.if-slot-lt-SLOTS.true))

pub returns-then-slot-lt-SLOTS-clause-others : goal.returns-then-slot-lt-SLOTS-clause-others
unfolding says
returns-then-slot-lt-SLOTS-clause-others g c n apart =
    get_or-set_other c.args.self.now.slots.items c.args.number n c.args.value None apart

pub returns-else-slot-lt-SLOTS-clause-put : goal.returns-else-slot-lt-SLOTS-clause-put
unfolding says
returns-else-slot-lt-SLOTS-clause-put g c =
    let slots = c.args.self.now.slots in
    let sized = c.args.self.now.sized in
    let long = slots.ok.0 in
    get_or_past slots.items c.args.number None (omega arith)
    ∙ sym (cond-false _ _ _ (le-ltb c.args.number 4096 c.if-slot-lt-SLOTS.false))
