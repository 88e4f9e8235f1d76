use Rattle.std.proofs.Common.{rules, ◌+◌, ◌∷◌, ap, sym, subst, ◌∙◌, arith}
use Rattle.lfs_segments.specs.Log.{Expects, Extends}
use Rattle.lfs_segments.specs.Memory.{next_address}
use Rattle.lfs_segments.specs.Rising.{IsRising}
use Rattle.lfs_log.specs.Parts.{IsParts, LogParts}
use Rattle.lfs_log.proofs.NameLemmas.{named_at-entry, Writes-extended}
use Rattle.lfs_log.proofs.log.Log.put.Goals as goal

pub returns-clause-step : goal.returns-clause-step
returns-clause-step c = λ at.
    let view = c.self.view_is in
    Writes-extended c.args.self.now _ at (subst IsParts view c.self.invariant) (omega arith)
    (subst (λ (p : LogParts). Extends p.memory c.put.new.self) view c.put.ensures.extends)
    (ap (λ (p : LogParts). p.tables) view) (ap (λ (p : LogParts). p.clean) view)
    (c.put.ensures.next ∙ ap (λ (p : LogParts). next_address p.memory + 1) view)

pub returns-clause-owners : goal.returns-clause-owners
returns-clause-owners c = λ entry entries slot expected low.
    named_at-entry c.put.new.self c.put.result slot entry c.args.block.now low
    (c.put.ensures.names entry entries (subst (λ (p : LogParts). Expects p.memory (entry ∷ entries))
    (sym c.self.view_is) expected)) c.put.ensures.block

pub returns-clause-block : goal.returns-clause-block
returns-clause-block c = search rules

pub returns-clause-expects : goal.returns-clause-expects
returns-clause-expects c = search rules

pub returns-clause-names : goal.returns-clause-names
returns-clause-names c = search rules

pub returns-clause-rising : goal.returns-clause-rising
returns-clause-rising c = λ entry entries expected rising.
    c.put.ensures.rising entry entries
    (subst (λ (p : LogParts). Expects p.memory (entry ∷ entries)) (sym c.self.view_is) expected)
    (subst (λ (p : LogParts). IsRising p.memory) (sym c.self.view_is) rising)
