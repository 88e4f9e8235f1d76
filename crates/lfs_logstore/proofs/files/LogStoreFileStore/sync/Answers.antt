use Rattle.std.proofs.Common.{subst}
use Rattle.lfs_parts.specs.declared.parts.Parts.{Parts}
use Rattle.lfs_logstore.specs.Frames.{KeepsCached}
use Rattle.lfs_found.specs.Written.{IsRecoverable}
use Rattle.lfs_segwrite.specs.Ordered.{IsOrdered}
use Rattle.lfs_logstore.proofs.FrameLemmas.{keeps_cached}
use Rattle.lfs_logstore.proofs.files.LogStoreFileStore.sync.Goals as goal

pub returns-clause-held : goal.returns-clause-held
returns-clause-held c = subst (λ (p : Parts). KeepsCached p c.write_waiting.new.parts) c.self.view_is
    (keeps_cached c.self.inside.parts c.write_waiting.new.parts c.write_waiting.ensures)

pub returns-clause-whole : goal.returns-clause-whole
returns-clause-whole c =
    subst (λ (p : Parts). IsRecoverable p.log.memory → IsRecoverable c.write_waiting.new.parts.log.memory) c.self.view_is
    c.write_waiting.ensures.log.whole

pub returns-clause-ordered : goal.returns-clause-ordered
returns-clause-ordered c =
    subst (λ (p : Parts). IsRecoverable p.log.memory → IsOrdered p.log → IsOrdered c.write_waiting.new.parts.log)
    c.self.view_is c.write_waiting.ensures.log.ordered
