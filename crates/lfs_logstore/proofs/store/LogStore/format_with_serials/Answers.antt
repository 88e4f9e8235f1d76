use Rattle.lfs_logstore.proofs.RecoverableLemmas.{both_ok, opening_ordered, opening_recoverable}
use Rattle.lfs_logstore.proofs.store.LogStore.format_with_serials.Goals as goal

pub returns-clause-whole : goal.returns-clause-whole
returns-clause-whole c = both_ok c.format_as.result _ _ _
    (λ p o r. opening_recoverable p c.args.params.segments c.args.params.inodes c.args.params.frames o r) c.format_as.ensures.laid_out
    c.format_as.ensures.rising

pub returns-clause-ordered : goal.returns-clause-ordered
returns-clause-ordered c = both_ok c.format_as.result _ _ _
    (λ p o r. opening_ordered p c.args.params.segments c.args.params.inodes c.args.params.frames o r)
    c.format_as.ensures.laid_out c.format_as.ensures.rising
