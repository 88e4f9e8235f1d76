use Rattle.std.proofs.Common.{sym, ◌∙◌}
use Rattle.lfs_view.proofs.SpaceLemmas.{used_not, used_there}
use Rattle.lfs_view.proofs.space.one_used.Goals as goal

pub returns-in-Some : goal.returns-in-Some
returns-in-Some c = used_there c.args.parts.now c.args.number _ (sym c.place.ensures.place ∙ c.in-Some.is)

pub returns-in-None : goal.returns-in-None
returns-in-None c = used_not c.args.parts.now c.args.number (sym c.place.ensures.place ∙ c.in-None.is)
