use Rattle.lfs_logged.proofs.CountLemmas.{shown_first}
use Rattle.lfs_logged.proofs.logged.Look.at.Goals as goal

pub returns-clause-all : goal.returns-clause-all
returns-clause-all c = λ from begins.
    shown_first c.args.volume.now c.journal.result.now c.journal.ensures.entries from
    (c.journal.ensures.legal from begins).shown
