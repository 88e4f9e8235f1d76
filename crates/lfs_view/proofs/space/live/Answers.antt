use Rattle.std.proofs.Common.{ap, ◌∙◌, ◌+◌, arith}
use Rattle.lfs_view.proofs.SpaceLemmas.{live_more, live_none}
use Rattle.lfs_view.proofs.space.live.Goals as goal

pub loop-segment-init : goal.loop-segment-init
loop-segment-init c = record { is = live_none c.args.parts.now; few = omega arith }

pub loop-segment-preserved : goal.loop-segment-preserved
loop-segment-preserved c =
    let bytes = c.loop-segment.bytes in
    let live = ap (λ u. u.live) c.usage.ensures.usage in
    record {
      is = ap (λ n. bytes + n) (c.from-bytes.ensures ∙ live)
          ∙ live_more c.args.parts.now c.loop-segment.segment bytes c.loop-segment.invariant.is;
      few = omega (arith, c.loop-segment.invariant.few, c.from-bytes.ensures, c.usage.type_inv);
    }
