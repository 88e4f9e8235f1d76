use Rattle.std.proofs.Common.{map}
use Rattle.serde_json.specs.View.{view}
use Rattle.lfs_auditing.proofs.JsonLemmas.{rule_none}
use Rattle.lfs_auditing.proofs.json.push_rule.Goals as goal

pub returns-then-number-eq0 : goal.returns-then-number-eq0
returns-then-number-eq0 c = rule_none (map view c.args.values.now.items) c.args.rule c.args.number c.if-number-eq0.true
