use Rattle.std.proofs.Common.{◌++◌, ◌∷◌, [], ap, ◌∙◌}
use Rattle.lfs_dirs.proofs.Ending.{front_shorter}
use Rattle.lfs_dirs.proofs.writing.without_zeros.Goals as goal

pub loop-last-preserved : goal.loop-last-preserved
loop-last-preserved c = record {
  front = front_shorter c.args.bytes.now c.loop-last.front.now c.in-Some.rest.now 1 c.loop-last.invariant.front
      (c.in-Some.ensures.cases.0 ∙ ap (λ b. c.in-Some.rest.now ++ b ∷ []) c.if-last-ne0.false);
}
