use Rattle.std.proofs.Common.{rules, length, ap}
use Rattle.lfs_log.specs.Parts.{LogParts}
use Rattle.lfs_log.proofs.LiveLemmas.{IsParts-moved}
use Rattle.lfs_log.proofs.log.Log.release.Goals as goal

pub invariant_of-self : goal.invariant_of-self
invariant_of-self c =
    let p : LogParts = record {
      memory = c.self.inside.segments;
      tables = c.self.inside.ifile;
      clean = c.self.inside.clean;
    } in
    IsParts-moved p c.release.new.self c.self.invariant
    (ap (λ xs. length xs) c.release.ensures.kept.live) c.release.ensures.kept.states c.release.ensures.formed

pub returns-clause-kept : goal.returns-clause-kept
returns-clause-kept c = invariant_of-self c

pub returns-clause-released : goal.returns-clause-released
returns-clause-released c = search rules
