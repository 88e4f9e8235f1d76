use Rattle.std.proofs.Common.{rules, ◌≡◌, subst}
use Rattle.lfs_model.specs.Counts.{counts_of}
use Rattle.lfs_volume.proofs.volume.Volume.counts.Goals as goal

pub returns-clause-counted : goal.returns-clause-counted
returns-clause-counted g c = subst (λ v. c.self.inside.counts ≡ counts_of v.journal) c.self.view_is c.self.invariant.3

pub returns-clause-legal : goal.returns-clause-legal
returns-clause-legal g c = search rules
