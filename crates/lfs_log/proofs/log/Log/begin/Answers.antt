use Rattle.std.proofs.Common.{rules, ◌+◌, ap, subst, ◌∙◌, arith}
use Rattle.lfs_segments.specs.Log.{Extends}
use Rattle.lfs_segments.specs.Memory.{next_address}
use Rattle.lfs_segments.specs.Rising.{IsRising}
use Rattle.lfs_log.specs.Parts.{IsParts, LogParts}
use Rattle.lfs_log.proofs.NameLemmas.{Writes-extended}
use Rattle.lfs_log.proofs.log.Log.begin.Goals as goal

pub returns-clause-step : goal.returns-clause-step
returns-clause-step c = λ at.
    let view = c.self.view_is in
    Writes-extended c.args.self.now _ at (subst IsParts view c.self.invariant) (omega arith)
    (subst (λ (p : LogParts). Extends p.memory c.begin.new.self) view c.begin.ensures.extends)
    (ap (λ (p : LogParts). p.tables) view) (ap (λ (p : LogParts). p.clean) view)
    (c.begin.ensures.next ∙ ap (λ (p : LogParts). next_address p.memory + 1) view)

pub returns-clause-summary : goal.returns-clause-summary
returns-clause-summary c = search rules

pub returns-clause-expects : goal.returns-clause-expects
returns-clause-expects c = search rules

pub returns-clause-names : goal.returns-clause-names
returns-clause-names c = search rules

pub returns-clause-rising : goal.returns-clause-rising
returns-clause-rising c =
    subst (λ (p : LogParts). IsRising p.memory → IsRising c.begin.new.self) c.self.view_is c.begin.ensures.rising
