use Rattle.std.proofs.lemmas.Result.{on_ok_weaker}
use Rattle.lfs_print.proofs.ReportLemmas.{rule_added, rule_none}
use Rattle.lfs_sinks.proofs.totals.push_denial.Goals as goal

pub returns-then-number-eq0 : goal.returns-then-number-eq0
returns-then-number-eq0 c = rule_none c.args.out.now.items c.args.rule c.args.number c.if-number-eq0.true

pub returns : goal.returns
returns c =
    on_ok_weaker c.push_count.result
    (rule_added c.args.out.now.items c.extend_from_slice.new.self.items c.push_count.new.out.items c.code.result.now
    c.args.rule c.args.number
    c.if-number-eq0.false c.in_ok-extend_from_slice.ensures.items c.code.ensures)
    c.push_count.ensures
