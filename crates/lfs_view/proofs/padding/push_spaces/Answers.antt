use Rattle.lfs_view.proofs.TextLemmas.{spaces_more}
use Rattle.lfs_view.proofs.padding.push_spaces.Goals as goal

pub loop-preserved : goal.loop-preserved
loop-preserved c =
    spaces_more c.args.out.now.items c.loop.out.items c.push.new.self.items c.loop.counter c.loop.invariant
    c.in_ok-push.ensures.items
