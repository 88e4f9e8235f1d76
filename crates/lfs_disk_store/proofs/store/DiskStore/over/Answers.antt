use Rattle.std.proofs.Common.{ap, ◌∙◌}
use Rattle.std.proofs.lemmas.Bool.{false≢true}
use Rattle.lfs_parts.specs.declared.parts.Parts.{Parts}
use Rattle.lfs_disk_store.proofs.store.DiskStore.over.Goals as goal

pub invariant_of-result : goal.invariant_of-result
invariant_of-result g c = record {
  written = λ none. record {
    mirrors = c.over-mirror.ensures.mirror;
    memory =
        c.over-mirror.ensures.memory ∙ c.memory.ensures
        ∙ ap (λ (p : Parts). p.log.memory) (c.parts.ensures.parts ∙ c.log.ensures.log);
  };
  failed = λ some. absurd (false≢true some);
}
