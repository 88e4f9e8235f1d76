use Rattle.lfs_parts.proofs.RecordsLemmas.{popped_kept}
use Rattle.lfs_parts.proofs.records.Records.pop.Goals as goal

pub invariant_of-self : goal.invariant_of-self
invariant_of-self c =
    popped_kept _ _ _ c.self.invariant c.pop_back.new.self.items c.in-Some.inode _ c.in-Some.ensures.items
    c.in-Some.ensures.capacity
