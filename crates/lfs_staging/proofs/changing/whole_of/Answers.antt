use Rattle.std.proofs.Common.{◌≡◌, ◌+◌, ◌-◌, ◌*◌, take, drop, ap, ◌∙◌, arith}
use Rattle.lfs_staging.proofs.WholeLemmas.{put_whole}
use Rattle.lfs_staging.proofs.changing.whole_of.Goals as goal

pub returns-clause-whole : goal.returns-clause-whole
returns-clause-whole c = λ old.
    let from = 512 * c.from.result - c.args.off in
    let same : from + 512 - from ≡ 512 = omega arith in
    put_whole c.args.index c.args.off from c.args.bytes.now old c.in-Ok.block.now (omega arith) (omega arith)
    (omega arith) (c.in-Ok.ensures.1.same ∙ ap (λ k. take k (drop from c.args.bytes.now)) same)
