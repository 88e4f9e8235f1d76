use Rattle.std.proofs.Common.{◌+◌, ◌<◌, ◌≡◌, length, subst, arith}
use Rattle.std.specs.Vec.{vec_ptr}
use Rattle.lfs_recency.specs.FrameLists.{FrameLists, listed, times}
use Rattle.lfs_recency.specs.Links.{frame_size, frame_at}
use Rattle.lfs_recency.proofs.Fields.{frame_is}
use Rattle.lfs_recency.proofs.Kept.{queue_is, frame_below}
use Rattle.lfs_recency.proofs.frames.Frames.queue.Goals as goal

pub returns : goal.returns
returns c =
    let v = c.self.inside.frames in let n = c.self.inside.count in let f = c.args.frame in
    let below : f < n = frame_below frame_size
    (vec_ptr v) n f v.items c.args.self.now c.self.invariant c.self.view_is c.requires in
    let long : length v.items ≡ n + 4 = c.self.invariant.long in
    let same : c.index.result.now ≡ frame_at v.items f =
    frame_is v.items f c.index.result.now (omega arith) c.index.ensures in
    subst (λ (s : FrameLists). 0 < times f (listed c.index.result.now.queue s)) c.self.view_is
    (rw same (queue_is frame_size (vec_ptr v) n f v.items c.self.invariant below))
