use Rattle.std.proofs.Common.{◌+◌, ◌<◌, ◌≡◌, ap, ◌∙◌, lit<}
use Rattle.std.specs.Vec.{vec_ptr, vec_len}
use Rattle.lfs_recency.specs.FrameLists.{fronted}
use Rattle.lfs_recency.specs.Links.{frame_size}
use Rattle.lfs_recency.proofs.Kept.{next_is, front_is, frame_below}
use Rattle.lfs_recency.proofs.frames.Frames.to_front.Goals as goal

pub link_front-requires-clause-next : goal.link_front-requires-clause-next
link_front-requires-clause-next c =
    let v = c.self.inside.frames in let n = c.self.inside.count in let f = c.args.frame in let v1 =
    c.unlink.new.frames in
    let below : f < n = frame_below frame_size
    (vec_ptr v) n f v.items c.args.self.now c.self.invariant c.self.view_is c.requires in
    let long : vec_len v ≡ n + 4 = v.ok.0 ∙ c.self.invariant.long in
    next_is frame_size (vec_ptr v) (lit< tt) n f c.args.queue v.items below c.self.invariant
    (vec_ptr v1) v1.items c.head_of-head.result (vec_len v1) (vec_len v)
    c.head_of-head.ensures c.unlink.ensures.place c.unlink.ensures.items c.unlink.ensures.len long

pub invariant_of-self : goal.invariant_of-self
invariant_of-self c =
    let v = c.self.inside.frames in let n = c.self.inside.count in let f = c.args.frame in let v1 =
    c.unlink.new.frames in let v2 = c.link_front.new.frames in
    let below : f < n = frame_below frame_size
    (vec_ptr v) n f v.items c.args.self.now c.self.invariant c.self.view_is c.requires in
    (front_is frame_size (vec_ptr v) (lit< tt) n f c.args.queue v.items below c.self.invariant (vec_ptr v1)
    (vec_ptr v2) v1.items v2.items c.head_of-head.result
    c.head_of-head.ensures c.unlink.ensures.place c.unlink.ensures.items c.link_front.ensures.place
    c.link_front.ensures.items).0

pub returns-clause-moved : goal.returns-clause-moved
returns-clause-moved c =
    let v = c.self.inside.frames in let n = c.self.inside.count in let f = c.args.frame in let v1 =
    c.unlink.new.frames in let v2 = c.link_front.new.frames in
    let below : f < n = frame_below frame_size
    (vec_ptr v) n f v.items c.args.self.now c.self.invariant c.self.view_is c.requires in
    (front_is frame_size (vec_ptr v) (lit< tt) n f c.args.queue v.items below c.self.invariant (vec_ptr v1)
    (vec_ptr v2) v1.items v2.items c.head_of-head.result
    c.head_of-head.ensures c.unlink.ensures.place c.unlink.ensures.items c.link_front.ensures.place
    c.link_front.ensures.items).1 ∙ ap (fronted f c.args.queue) c.self.view_is

pub returns-clause-whole : goal.returns-clause-whole
returns-clause-whole c = (invariant_of-self c).whole
