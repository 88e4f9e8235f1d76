use Rattle.std.proofs.Common.{subst}
use Rattle.lfs_volume.proofs.CleaningLemmas.{shape_stays}
use Rattle.lfs_logged.specs.Keeping.{KeepsCount, LoggedVolume}
use Rattle.lfs_logged.proofs.CountLemmas.{counted_so}
use Rattle.lfs_logged.proofs.logged.Logged.clean.Goals as goal

pub invariant_of-self : goal.invariant_of-self
invariant_of-self c =
    let e = c.clean-answer.ensures in
    let seen = c.at-before.ensures in
    let sees = c.at.ensures in
    (counted_so c.self.inside.volume c.clean-answer.new.self _ e.entered (shape_stays c.clean-answer.result _ _ e.cleans) e.since e.since_level
    c.self.inside.kept c.self.invariant sees.store sees.all c.kept_behind-self-inside.result _ _ _ _ e.base seen.mark
    sees.mark seen.entries sees.entries c.kept_behind-self-inside.ensures).0

pub returns-clause-counted : goal.returns-clause-counted
returns-clause-counted c =
    let e = c.clean-answer.ensures in
    let seen = c.at-before.ensures in
    let sees = c.at.ensures in
    let new : LoggedVolume = record { volume = c.clean-answer.new.self; kept = c.kept_behind-self-inside.result } in
    subst (λ (l : LoggedVolume). KeepsCount l new) c.self.view_is
    (counted_so c.self.inside.volume c.clean-answer.new.self _ e.entered (shape_stays c.clean-answer.result _ _ e.cleans) e.since e.since_level
    c.self.inside.kept c.self.invariant sees.store sees.all c.kept_behind-self-inside.result _ _ _ _ e.base seen.mark
    sees.mark seen.entries sees.entries c.kept_behind-self-inside.ensures).1
