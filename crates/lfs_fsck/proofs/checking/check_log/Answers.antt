use Rattle.std.proofs.Common.{◌≡◌, ℕ}
use Rattle.std.proofs.lemmas.Result.{IfErr-weaker}
use Rattle.lfs_parts.specs.Store.{IsStore}
use Rattle.lfs_fsck.specs.declared.fault.LogFault.TheVariants.{Memory}
use Rattle.lfs_fsck.specs.Faults.{IsLogFaultOf}
use Rattle.lfs_fsck.specs.Stored.{stored}
use Rattle.lfs_fsck.proofs.FaultLemmas.{not_stored}
use Rattle.lfs_fsck.proofs.checking.check_log.Goals as goal

pub returns-clause-no_store : goal.returns-clause-no_store
returns-clause-no_store c =
    IfErr-weaker c.check_parts.result (IsLogFaultOf c.args.log.now) (λ fault. (fault ≡ Memory → ⊥) → (frames : ℕ)
    → IsStore (stored frames c.args.log.now) → ⊥)
    (not_stored c.args.log.now) c.check_parts.ensures.fault
