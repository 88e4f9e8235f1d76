use Rattle.std.proofs.Common.{◌≡◌}
use Rattle.std.proofs.lemmas.Result.{IfErr-weaker}
use Rattle.lfs_types.specs.declared.level.Level.{Level}
use Rattle.lfs_log.specs.Parts.{LogParts}
use Rattle.lfs_fsck.specs.Stored.{IsStored}
use Rattle.lfs_image.specs.declared.fault.ImageFault.TheVariants.{Memory}
use Rattle.lfs_image.specs.Faults.{IsImageFaultOf}
use Rattle.lfs_image.specs.Image.{IsLabelled, image_bytes}
use Rattle.lfs_image.proofs.ImageLemmas.{no_image}
use Rattle.lfs_image.proofs.loading.load.Goals as goal

pub returns-clause-none : goal.returns-clause-none
returns-clause-none c =
    IfErr-weaker c.load_parts.result (IsImageFaultOf c.args.bytes.now)
    (λ fault. (fault ≡ Memory → ⊥) → (l : LogParts) (level : Level) → IsStored l → IsLabelled l → image_bytes l level
    ≡ c.args.bytes.now → ⊥)
    (no_image c.args.bytes.now) c.load_parts.ensures.fault
