use Rattle.std.proofs.Common.{◌≡◌, ◌<◌, ◌≤◌, Some, sym, ap, subst, ◌∙◌}
use Rattle.std.specs.Vec.{vec_ptr}
use Rattle.lfs_recency.specs.FrameLists.{FrameLists, listed, oldest_of}
use Rattle.lfs_recency.specs.Links.{frame_size, head_of, frame_at}
use Rattle.lfs_recency.proofs.Lists.{head_low}
use Rattle.lfs_recency.proofs.Kept.{last_number, oldest_some, oldest_none, head_is, before_head}
use Rattle.lfs_recency.proofs.frames.Frames.oldest.Goals as goal

pub frame_before-requires : goal.frame_before-requires
frame_before-requires c =
    let v = c.self.inside.frames in let n = c.self.inside.count in let q = c.args.queue in
    let is : c.index.result.now ≡ frame_at v.items (head_of n q) =
    head_is frame_size (vec_ptr v) n v.items q c.self.invariant c.head_of-head.result c.index.result.now
    c.head_of-head.ensures c.index.ensures in
    rw (is, v.ok.0, c.self.invariant.long) (c.self.invariant.linked.places (head_of n q) (head_low n q)).1

pub returns-then-last-self : goal.returns-then-last-self
returns-then-last-self c =
    let v = c.self.inside.frames in let n = c.self.inside.count in let q = c.args.queue in
    let is : c.index.result.now ≡ frame_at v.items (head_of n q) =
    head_is frame_size (vec_ptr v) n v.items q c.self.invariant c.head_of-head.result c.index.result.now
    c.head_of-head.ensures c.index.ensures in
    let number : c.frame_before.result.now.number ≡ last_number frame_size (vec_ptr v) n v.items q =
    before_head frame_size (vec_ptr v) n v.items q c.index.result.now c.frame_before.result.now is
    c.frame_before.ensures in
    ap Some number ∙ (sym (oldest_some frame_size (vec_ptr v) n v.items q c.self.invariant
    (subst (λ k. k < n) number c.if-last-self.true))
    ∙ ap (λ (s : FrameLists). oldest_of (listed q s)) c.self.view_is)

pub returns-else-last-self : goal.returns-else-last-self
returns-else-last-self c =
    let v = c.self.inside.frames in let n = c.self.inside.count in let q = c.args.queue in
    let is : c.index.result.now ≡ frame_at v.items (head_of n q) =
    head_is frame_size (vec_ptr v) n v.items q c.self.invariant c.head_of-head.result c.index.result.now
    c.head_of-head.ensures c.index.ensures in
    let number : c.frame_before.result.now.number ≡ last_number frame_size (vec_ptr v) n v.items q =
    before_head frame_size (vec_ptr v) n v.items q c.index.result.now c.frame_before.result.now is
    c.frame_before.ensures in
    sym (oldest_none frame_size (vec_ptr v) n v.items q c.self.invariant
    (subst (λ k. n ≤ k) number c.if-last-self.false))
    ∙ ap (λ (s : FrameLists). oldest_of (listed q s)) c.self.view_is
