use Rattle.lfs_script.proofs.SplitLemmas.{script_more}
use Rattle.lfs_script.proofs.split.scripts_of.Goals as goal

pub loop-list-preserved : goal.loop-list-preserved
loop-list-preserved c =
    script_more c.loop-list.yielded c.loop-list.scripts.items c.push.new.self.items c.in-Some.list c.from.result
    c.from.ensures c.loop-list.invariant c.in_ok-push.ensures.items
