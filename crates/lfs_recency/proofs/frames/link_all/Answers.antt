use Rattle.std.proofs.Common.{◌≡◌, ◌+◌, ◌∙◌, refl, lit<}
use Rattle.std.specs.Vec.{vec_ptr, vec_len}
use Rattle.lfs_recency.specs.declared.queue.Queue.TheVariants.{Empty}
use Rattle.lfs_recency.specs.Links.{frame_size, head_of}
use Rattle.lfs_recency.proofs.Lists.{head_low}
use Rattle.lfs_recency.proofs.Filled.{filled_step}
use Rattle.lfs_recency.proofs.frames.link_all.Goals as goal

pub link_front-requires-clause-next : goal.link_front-requires-clause-next
link_front-requires-clause-next c =
    let v = c.loop-number.frames in let n = c.args.count in
    let long : vec_len v ≡ n + 4 = v.ok.0 ∙ c.loop-number.invariant.filled.long in
    rw (c.head_of-head.ensures, long) (c.loop-number.invariant.filled.linked.places (head_of n Empty)
    (head_low n Empty)).0

pub loop-number-preserved : goal.loop-number-preserved
loop-number-preserved c =
    let v = c.loop-number.frames in let v1 = c.link_front.new.frames in
    record {
      ends = refl;
      filled = filled_step frame_size (vec_ptr v)
          (lit< tt) c.args.count c.loop-number.number v.items c.loop-number-test.true c.loop-number.invariant.filled
          (vec_ptr v1) v1.items c.head_of-head.result
          c.head_of-head.ensures c.link_front.ensures.place c.link_front.ensures.items;
    }
