use Rattle.std.proofs.Common.{rules, ◌≤◌, length, subst}
use Rattle.lfs_volume.proofs.volume.Volume.journal.Goals as goal

pub returns-clause-entries : goal.returns-clause-entries
returns-clause-entries g c = search rules

pub returns-clause-legal : goal.returns-clause-legal
returns-clause-legal g c = search rules

pub returns-clause-within : goal.returns-clause-within
returns-clause-within g c =
    let begun = c.self.invariant.0 in
    subst (λ v. length v.journal ≤ v.limit) c.self.view_is (c.self.invariant.1 begun.0 begun.1).within
