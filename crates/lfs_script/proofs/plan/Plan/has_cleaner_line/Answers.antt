use Rattle.std.proofs.Common.{◌∙◌}
use Rattle.lfs_script.proofs.LayoutLemmas.{cleaner_in}
use Rattle.lfs_script.proofs.plan.Plan.has_cleaner_line.Goals as goal

pub returns : goal.returns
returns c =
    rw (← c.self.view_is, ← c.chunks.ensures)
    (c.have_cleaner_act.ensures ∙ cleaner_in c.self.inside.askers.items c.chunks.result.now)
