use Rattle.std.proofs.Common.{sym, subst}
use Rattle.lfs_known.specs.Shown.{AreShown}
use Rattle.lfs_known.specs.Full.{AreFull}
use Rattle.lfs_known.specs.Spots.{ArePlacedIn}
use Rattle.lfs_calls.proofs.cached_store.apply_followed.Goals as goal

pub returns-clause-shown : goal.returns-clause-shown
returns-clause-shown g c shown = subst (AreShown c.follow_attributes.new.cache) (sym c.in_ok-apply.ensures.applies.ok)
    (c.follow_attributes.ensures _ shown)

pub returns-clause-full : goal.returns-clause-full
returns-clause-full g c full = subst (AreFull c.follow_hints.new.hints) (sym c.in_ok-apply.ensures.applies.ok)
    (c.follow_hints.ensures _ full)

pub returns-clause-placed : goal.returns-clause-placed
returns-clause-placed g c placed besides =
    subst (ArePlacedIn c.follow_table.new.table) (sym c.in_ok-apply.ensures.applies.ok)
    (c.follow_table.ensures _ placed besides)
