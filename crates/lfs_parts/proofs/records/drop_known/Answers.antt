use Rattle.std.proofs.Common.{sym, ◌∙◌}
use Rattle.lfs_parts.proofs.RecordsLemmas.{without-untold}
use Rattle.lfs_parts.proofs.records.drop_known.Goals as goal

pub returns-else-waits-clause-items : goal.returns-else-waits-clause-items
returns-else-waits-clause-items c = sym (without-untold c.args.records.now.items c.args.number (sym c.requires
    ∙ c.if-waits.false))
