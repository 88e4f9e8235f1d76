use Rattle.lfs_image.proofs.HeadLemmas.{no_head}
use Rattle.lfs_image.proofs.head.Head.read.Goals as goal

pub returns-else-is_head-clause-fault : goal.returns-else-is_head-clause-fault
returns-else-is_head-clause-fault c =
    no_head c.args.bytes.now c.in_ok-head.head c.in_ok-head.ensures.reads
    (λ e. let is = c.is_head.ensures.1 e in absurd (cc))
