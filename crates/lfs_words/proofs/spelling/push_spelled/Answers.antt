use Rattle.std.proofs.Common.{[], ◌∷◌}
use Rattle.lfs_words.proofs.PathBack.{slashed_added}
use Rattle.lfs_words.proofs.spelling.push_spelled.Goals as goal

pub loop-name-preserved : goal.loop-name-preserved
loop-name-preserved c =
    slashed_added c.args.out.now.items c.loop-name.out.items c.push-in-loop-name.new.self.items
    c.extend_from_slice.new.self.items (32 ∷ []) c.args.names.now
    c.loop-name.name-index c.name-item.result c.as_bytes.result.now c.loop-name-test.true c.name-item.is
    c.as_bytes.ensures.value c.loop-name.invariant
    c.in_ok-push-2.ensures.items c.in_ok-extend_from_slice.ensures.items
