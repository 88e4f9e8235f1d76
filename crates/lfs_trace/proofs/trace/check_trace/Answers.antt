use Rattle.std.proofs.Common.{◌≡◌, ap, subst, ◌∙◌}
use Rattle.std.specs.Prelude.{Err}
use Rattle.lfs_trace.specs.Checking.{IsChecked, IsFirstIllegal}
use Rattle.lfs_trace.proofs.StandingLemmas.{behind_more, first_illegal}
use Rattle.lfs_trace.proofs.trace.check_trace.Goals as goal

pub returns-in-Err-Illegal-clause-first : goal.returns-in-Err-Illegal-clause-first
returns-in-Err-Illegal-clause-first c at is =
    let same : c.loop-at.at ≡ at = cc in
    subst (IsFirstIllegal c.args.numbers c.args.segments c.args.entries.now) same
    (first_illegal c.args.numbers c.args.segments c.args.entries.now c.loop-at.at c.index-entries-at.result
    c.loop-at-test.true c.index-entries-at.is
    c.loop-at.checker c.entry.new.self c.loop-at.invariant
    (subst (IsChecked c.loop-at.checker c.entry.new.self c.index-entries-at.result.cred c.index-entries-at.result.event)
    (c.in-Err-Illegal.is ∙ ap Err c.in-Err-Illegal.field-0-is) c.entry.ensures))

pub loop-at-preserved : goal.loop-at-preserved
loop-at-preserved c =
    behind_more c.args.numbers c.args.segments c.args.entries.now c.loop-at.at c.index-entries-at.result
    c.loop-at-test.true c.index-entries-at.is
    c.loop-at.checker c.entry.new.self c.loop-at.invariant
    (subst (IsChecked c.loop-at.checker c.entry.new.self c.index-entries-at.result.cred c.index-entries-at.result.event)
    c.in-Ok.is c.entry.ensures)
