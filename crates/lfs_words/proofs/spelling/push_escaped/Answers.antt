use Rattle.std.proofs.Common.{[], ◌∷◌}
use Rattle.lfs_words.proofs.PathBack.{escaped_added}
use Rattle.lfs_words.proofs.spelling.push_escaped.Goals as goal

pub loop-name-preserved : goal.loop-name-preserved
loop-name-preserved c =
    escaped_added c.args.out.now.items c.loop-name.out.items c.push.new.self.items c.push_name_text.new.out.items (32
    ∷ 37 ∷ []) c.args.names.now
    c.loop-name.name-index c.name-item.result c.loop-name-test.true c.name-item.is c.loop-name.invariant
    c.in_ok-push.ensures.items c.in_ok-push_name_text.ensures
