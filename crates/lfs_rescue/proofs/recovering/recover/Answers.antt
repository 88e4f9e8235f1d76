use Rattle.std.proofs.Common.{◌≡◌, sym, subst, arith}
use Rattle.std.proofs.lemmas.Result.{err_from_is_err_and}
use Rattle.std.specs.Prelude.{IfErr}
use Rattle.lfs_rescue.specs.declared.fault.RecoverFault.{RecoverFault}
use Rattle.lfs_rescue.specs.declared.fault.RecoverFault.TheVariants.{Memory}
use Rattle.lfs_rescue.specs.Contents.{IsFindableAgain, IsLeftOfNone}
use Rattle.lfs_rescue.specs.Recovering.{IsRecoverFaultOf}
use Rattle.lfs_rescue.proofs.AgainLemmas.{recovered_same}
use Rattle.lfs_rescue.proofs.EndLemmas.{serial_low, some_logged}
use Rattle.lfs_rescue.proofs.FindableLemmas.{findable_again}
use Rattle.lfs_rescue.proofs.RecoverLemmas.{build_fault, build_none, end_of, last_latest, last_logged, none_logged}
use Rattle.lfs_rescue.proofs.recovering.recover.Goals as goal

pub store_behind-requires-clause-logged : goal.store_behind-requires-clause-logged
store_behind-requires-clause-logged c =
    last_logged c.args.memory.now c.in_ok-partials.partials.items c.deref.result.now c.in-Some.last c.in_ok-partials.ensures.logs
    c.deref.ensures.value c.in-Some.ensures

pub store_behind-requires-clause-latest : goal.store_behind-requires-clause-latest
store_behind-requires-clause-latest c = λ p logged.
    last_latest c.args.memory.now c.in_ok-partials.partials.items c.deref.result.now c.in-Some.last p
    c.in_ok-partials.ensures.logs c.deref.ensures.value c.in-Some.ensures logged

pub returns-clause-again : goal.returns-clause-again
returns-clause-again c =
    recovered_same c.args.memory.now _ c.in_ok-partials.partials.items c.in_ok-partials.ensures.logs
    c.in_ok-store.ensures.recovered

pub returns-clause-findable : goal.returns-clause-findable
returns-clause-findable c =
    subst (IsFindableAgain c.args.memory.now) (sym c.in_ok-store.ensures.flushed)
    (findable_again c.args.memory.now c.in_ok-store.store.log c.args.frames c.in_ok-store.ensures.recovered
    c.in_ok-store.ensures.labelled c.in_ok-store.ensures.stored)

pub returns-in_default-clause-fault : goal.returns-in_default-clause-fault
returns-in_default-clause-fault c =
    none_logged c.args.memory.now c.in_ok-partials.partials.items c.deref.result.now c.last_of.result c.in_ok-partials.ensures.logs
    c.deref.ensures.value c.in_default.is c.last_of.ensures

pub returns-in_default-clause-none : goal.returns-in_default-clause-none
returns-in_default-clause-none c = λ other p d shown crash.
    some_logged p c.args.memory.now d crash shown
    (none_logged c.args.memory.now c.in_ok-partials.partials.items c.deref.result.now c.last_of.result c.in_ok-partials.ensures.logs
    c.deref.ensures.value c.in_default.is c.last_of.ensures)

pub returns-then-is_used_up-clause-fault : goal.returns-then-is_used_up-clause-fault
returns-then-is_used_up-clause-fault c = (
  c.in-Some.last,
  (
    last_logged c.args.memory.now c.in_ok-partials.partials.items c.deref.result.now c.in-Some.last c.in_ok-partials.ensures.logs
        c.deref.ensures.value c.in-Some.ensures,
    c.is_used_up.ensures.used c.if-is_used_up.true,
  ),
)

pub returns-then-is_used_up-clause-none : goal.returns-then-is_used_up-clause-none
returns-then-is_used_up-clause-none c = λ other p d shown crash.
    let low = serial_low p c.args.memory.now d crash c.in-Some.last
    (last_logged c.args.memory.now c.in_ok-partials.partials.items c.deref.result.now c.in-Some.last c.in_ok-partials.ensures.logs
    c.deref.ensures.value c.in-Some.ensures) in
    let used = c.is_used_up.ensures.used c.if-is_used_up.true in
    absurd (omega arith)

pub returns-in_err-store-clause-fault : goal.returns-in_err-store-clause-fault
returns-in_err-store-clause-fault c =
    let m = c.args.memory.now in
    let p = err_from_is_err_and c.from_residual-in_err-store.result c.from_residual-in_err-store.ensures.1 in
    let end = end_of c.args.memory.now c.in_ok-partials.partials.items c.deref.result.now c.in-Some.last c.in_ok-partials.ensures.logs
    c.deref.ensures.value c.in-Some.ensures
    (c.is_used_up.ensures.counted c.if-is_used_up.false) in
    subst (λ r. IfErr r (IsRecoverFaultOf m)) (sym p.1)
    (subst (IsRecoverFaultOf m) (sym p.2) (build_fault m _ end c.in_err-store.ensures.fault))

pub returns-in_err-store-clause-none : goal.returns-in_err-store-clause-none
returns-in_err-store-clause-none c =
    let m = c.args.memory.now in
    let p = err_from_is_err_and c.from_residual-in_err-store.result c.from_residual-in_err-store.ensures.1 in
    subst (λ r. IfErr r (λ (fault : RecoverFault). (fault ≡ Memory → ⊥) → IsLeftOfNone m)) (sym p.1)
    (subst (λ (fault : RecoverFault). (fault ≡ Memory → ⊥) → IsLeftOfNone m) (sym p.2)
    (build_none m _ c.in_err-store.ensures.fault))
