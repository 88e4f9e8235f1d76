use Rattle.std.proofs.Common.{IfOk, subst}
use Rattle.lfs_calls.specs.Volumes.{HasWorld}
use Rattle.lfs_checking.specs.Standing.{IsCheckTold}
use Rattle.lfs_parts.specs.declared.parts.Parts.{Parts}
use Rattle.lfs_logstore.specs.States.{state_of}
use Rattle.lfs_share.specs.Answering.{shared_state}
use Rattle.lfs_share.proofs.WorldLemmas.{told_shared}
use Rattle.lfs_share.proofs.showing.SharedStoreChecksLog.check.Goals as goal

pub returns : goal.returns
returns c =
    let told = told_shared (state_of c.self.inside.store) c.check_store.result
    (λ text. IsCheckTold c.self.inside.store text.items) c.check_store.ensures in
    subst (λ (p : Parts). IfOk c.check_store.result (λ text. HasWorld (shared_state p) → IsCheckTold p text.items))
    c.self.view_is told
