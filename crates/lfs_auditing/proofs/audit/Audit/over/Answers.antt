use Rattle.std.proofs.Common.{◌<◌, length, ap, sym, subst, ◌∙◌}
use Rattle.lfs_parts.specs.declared.parts.Parts.{Parts}
use Rattle.lfs_auditing.proofs.BeginLemmas.{within}
use Rattle.lfs_auditing.proofs.audit.Audit.over.Goals as goal

pub over-requires-clause-within : goal.over-requires-clause-within
over-requires-clause-within c n used =
    subst (λ k. n < k)
    (sym (c.inodes-numbers.ensures.inodes ∙ ap (λ (p : Parts). length p.log.tables.rows) c.parts.ensures.parts))
    (within c.args.store.now n used)
