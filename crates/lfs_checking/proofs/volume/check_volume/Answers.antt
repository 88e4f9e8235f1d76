use Rattle.std.proofs.Common.{◌≡◌}
use Rattle.std.proofs.lemmas.Result.{IfErr-weaker}
use Rattle.lfs_types.specs.declared.level.Level.{Level}
use Rattle.lfs_log.specs.Parts.{LogParts}
use Rattle.lfs_checking.specs.declared.fault.VolumeFault.TheVariants.{Memory}
use Rattle.lfs_checking.specs.Volumes.{IsVolume, IsVolumeFaultOf}
use Rattle.lfs_checking.proofs.VolumeLemmas.{no_volume}
use Rattle.lfs_checking.proofs.volume.check_volume.Goals as goal

pub returns-clause-none : goal.returns-clause-none
returns-clause-none c =
    IfErr-weaker c.volume_text.result (IsVolumeFaultOf c.args.bytes.now)
    (λ fault. (fault ≡ Memory → ⊥) → (l : LogParts) (level : Level) → IsVolume c.args.bytes.now l level → ⊥)
    (no_volume c.args.bytes.now) c.volume_text.ensures.fault
