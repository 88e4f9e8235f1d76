use Rattle.std.proofs.Common.{IfOk, subst}
use Rattle.lfs_calls.specs.Volumes.{HasWorld}
use Rattle.lfs_checking.specs.Standing.{IsCheckTold}
use Rattle.lfs_durable_store.specs.Keeping.{Durably, durable_state}
use Rattle.lfs_durable_store.proofs.WorldLemmas.{told_durable}
use Rattle.lfs_durable_store.proofs.showing.DurableStoreChecksLog.check.Goals as goal

pub returns : goal.returns
returns c =
    let d : Durably =
    record { store = c.self.inside.store; base = c.self.inside.base.value; mark = c.self.inside.mark } in
    let told = told_durable d c.check_store.result (λ text. IsCheckTold c.self.inside.store text.items)
    c.check_store.ensures in
    subst (λ (s : Durably). IfOk c.check_store.result (λ text. HasWorld (durable_state s)
    → IsCheckTold s.store text.items))
    c.self.view_is told
