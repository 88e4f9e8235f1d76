use Rattle.std.proofs.Common.{◌∙◌}
use Rattle.std.proofs.lemmas.List.{take_all}
use Rattle.lfs_types.proofs.name.clone_names.Goals as goal

pub returns : goal.returns
returns c = c.loop-name.invariant ∙ take_all _ _ c.loop-name-test.false
