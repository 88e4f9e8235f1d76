use Rattle.lfs_logstore.proofs.RecoverableLemmas.{both_ok, plain_ordered, plain_recoverable}
use Rattle.lfs_logstore.proofs.store.LogStore.format.Goals as goal

pub returns-clause-whole : goal.returns-clause-whole
returns-clause-whole c = both_ok c.format_as.result _ _ _
    (λ p o r. plain_recoverable p c.args.params.segments c.args.params.inodes c.args.params.frames o) c.format_as.ensures.laid_out
    c.format_as.ensures.rising

pub returns-clause-ordered : goal.returns-clause-ordered
returns-clause-ordered c = both_ok c.format_as.result _ _ _
    (λ p o r. plain_ordered p c.args.params.segments c.args.params.inodes c.args.params.frames o) c.format_as.ensures.laid_out
    c.format_as.ensures.rising
