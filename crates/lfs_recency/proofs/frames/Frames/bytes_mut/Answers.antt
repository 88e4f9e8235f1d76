use Rattle.std.proofs.Common.{◌+◌, ◌<◌, ◌≡◌, [], length, get_or, refl, sym, ap, ◌∙◌, arith}
use Rattle.std.specs.Vec.{vec_ptr}
use Rattle.lfs_recency.specs.declared.frame.Frame.{Frame}
use Rattle.lfs_recency.specs.FrameLists.{FrameLists}
use Rattle.lfs_recency.specs.Links.{frame_size, frame_at}
use Rattle.lfs_recency.proofs.Fields.{frame_is}
use Rattle.lfs_recency.proofs.Kept.{frame_below, kept_written, block_is}
use Rattle.lfs_recency.proofs.frames.Frames.bytes_mut.Goals as goal

pub invariant_of-self-lent : goal.invariant_of-self-lent
invariant_of-self-lent c w =
    let v = c.self.inside.frames in let n = c.self.inside.count in let f = c.args.frame in
    let below : f < n = frame_below frame_size
    (vec_ptr v) n f v.items c.args.self.now c.self.invariant c.self.view_is c.requires in
    (kept_written frame_size (vec_ptr v) n f v.items c.args.self.now c.index_mut.result.now c.self.invariant
    c.self.view_is below c.index_mut.ensures.value w).0

pub returns : goal.returns
returns c =
    let v = c.self.inside.frames in let n = c.self.inside.count in let f = c.args.frame in
    let below : f < n = frame_below frame_size
    (vec_ptr v) n f v.items c.args.self.now c.self.invariant c.self.view_is c.requires in
    let long : length v.items ≡ n + 4 = c.self.invariant.long in
    let x = c.index_mut.result.now in
    let is : x ≡ frame_at v.items f = frame_is v.items f x (omega arith) c.index_mut.ensures.value in (
      (
        refl,
        λ w. (kept_written frame_size (vec_ptr v) n f v.items c.args.self.now x c.self.invariant c.self.view_is
            below c.index_mut.ensures.value w).1,
      ),
      record {
        writes_back = tt;
        value = c.bytes_mut.ensures.value ∙ (ap (λ (r : Frame). r.bytes) is
            ∙ (sym (block_is frame_size (vec_ptr v) n f v.items c.self.invariant below)
            ∙ ap (λ (s : FrameLists). get_or s.blocks f []) c.self.view_is));
      },
    )
