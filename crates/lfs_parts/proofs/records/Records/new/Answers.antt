use Rattle.lfs_parts.proofs.RecordsLemmas.{no_records}
use Rattle.lfs_parts.proofs.records.Records.new.Goals as goal

pub invariant_of-result : goal.invariant_of-result
invariant_of-result c = no_records _ _ _ c.in_ok-records.ensures.items
    (c.in_ok-waits.ensures.items_if_clones_equal (λ y clone. clone)) c.in_ok-records.ensures.exact
