use Rattle.std.proofs.Common.{sym, subst}
use Rattle.lfs_auditing.specs.Json.{ArePlain}
use Rattle.lfs_auditing.proofs.JsonLemmas.{plain_more}
use Rattle.lfs_auditing.proofs.json.push_plain.Goals as goal

pub returns : goal.returns
returns c plain =
    subst ArePlain (sym c.in_ok-push.ensures.items)
    (plain_more c.args.values.now.items c.args.value plain c.requires)
