use Rattle.lfs_logged.proofs.CountLemmas.{counting_all}
use Rattle.lfs_logged.proofs.logged.Logged.over.Goals as goal

pub invariant_of-result : goal.invariant_of-result
invariant_of-result c =
    let look = c.at-kept in
    counting_all c.args.volume look.result.entries look.ensures.entries look.ensures.store c.requires look.ensures.all
