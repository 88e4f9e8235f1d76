use Rattle.std.proofs.Common.{sym, ◌∙◌}
use Rattle.std.proofs.lemmas.Bool.{false≢true}
use Rattle.lfs_disk_start.proofs.FoundLemmas.{lost_of}
use Rattle.lfs_disk_start.proofs.finding.found_in.Goals as goal

pub returns-in-Ok-false-clause-fault : goal.returns-in-Ok-false-clause-fault
returns-in-Ok-false-clause-fault c =
    lost_of c.args.memory.now c.in-Ok.store c.in-Ok.ensures.recovered c.in-Ok.ensures.findable
    (λ can. absurd (false≢true (sym c.in-Ok-false.field-0-test ∙ c.in-Ok-false.ensures.decided.1 can)))
