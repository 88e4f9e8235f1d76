use Rattle.std.proofs.Common.{rules, length, ap}
use Rattle.lfs_log.specs.Parts.{LogParts}
use Rattle.lfs_log.proofs.LiveLemmas.{IsParts-moved}
use Rattle.lfs_log.proofs.log.Log.give_out.Goals as goal

pub invariant_of-self : goal.invariant_of-self
invariant_of-self c =
    let p : LogParts = record {
      memory = c.self.inside.segments;
      tables = c.self.inside.ifile;
      clean = c.self.inside.clean;
    } in
    IsParts-moved p c.give_out.new.self c.self.invariant
    (ap (λ xs. length xs) c.give_out.ensures.kept.live) c.give_out.ensures.kept.states c.give_out.ensures.formed

pub returns-clause-kept : goal.returns-clause-kept
returns-clause-kept c = invariant_of-self c

pub returns-clause-version : goal.returns-clause-version
returns-clause-version c = search rules

pub returns-clause-given : goal.returns-clause-given
returns-clause-given c = search rules
