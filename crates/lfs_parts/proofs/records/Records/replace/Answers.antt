use Rattle.std.proofs.Common.{IsSome, sym, subst}
use Rattle.lfs_parts.specs.Waiting.{waiting_in}
use Rattle.lfs_parts.proofs.RecordsLemmas.{replaced_kept}
use Rattle.lfs_parts.proofs.records.Records.replace.Goals as goal

pub invariant_of-self : goal.invariant_of-self
invariant_of-self c =
    replaced_kept _ _ _ c.self.invariant c.args.changed c.replace_record.new.records.items _
    (subst (λ vs. IsSome (waiting_in vs c.args.changed.number)) (sym c.self.view_is) c.requires)
    c.replace_record.ensures.items c.replace_record.ensures.record c.replace_record.ensures.capacity
