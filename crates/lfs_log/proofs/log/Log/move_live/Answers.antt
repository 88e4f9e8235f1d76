use Rattle.std.proofs.Common.{rules}
use Rattle.lfs_log.specs.Parts.{LogParts}
use Rattle.lfs_log.proofs.LiveLemmas.{IsParts-moved, SameButLive-trans}
use Rattle.lfs_log.proofs.log.Log.move_live.Goals as goal

pub invariant_of-self : goal.invariant_of-self
invariant_of-self c =
    let p : LogParts = record {
      memory = c.self.inside.segments;
      tables = c.self.inside.ifile;
      clean = c.self.inside.clean;
    } in
    let same = SameButLive-trans c.self.inside.ifile c.gain.new.ifile c.lose.new.ifile c.gain.ensures.others
    c.lose.ensures.others in
    IsParts-moved p c.lose.new.ifile c.self.invariant same.segments same.states same.formed

pub returns-clause-kept : goal.returns-clause-kept
returns-clause-kept c = invariant_of-self c

pub gain-requires-clause-fits : goal.gain-requires-clause-fits
gain-requires-clause-fits c = search rules

pub returns-clause-live : goal.returns-clause-live
returns-clause-live c = search rules

pub returns-clause-step : goal.returns-clause-step
returns-clause-step c = search rules
