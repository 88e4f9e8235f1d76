use Rattle.std.proofs.Common.{◌⊎◌, ◌+◌, ◌<◌, ◌≤◌, length, Some, refl, sym, ap, subst, ◌∙◌}
use Rattle.std.proofs.Math.ListN.{set, length-set}
use Rattle.std.specs.Prelude.{vec_capacity}
use Rattle.lfs_recency.specs.declared.queue.Queue.TheVariants.{Locked}
use Rattle.lfs_recency.specs.FrameLists.{FrameLists, frame_count, fronted}
use Rattle.lfs_recency.specs.Lending.{with_block}
use Rattle.lfs_cache.specs.Frames.{names_after, HoldsNoOther}
use Rattle.lfs_cache.specs.Contents.{Contents, block_in, written, IsLocked}
use Rattle.lfs_cache.specs.Held.{held_by}
use Rattle.lfs_cache.specs.Changes.{GainsOnly}
use Rattle.lfs_cache.proofs.CallerLemmas.{written_dirty}
use Rattle.lfs_cache.proofs.ChangeLemmas.{written_gains, written_count, written_again}
use Rattle.lfs_cache.proofs.FormedLemmas.{contents_formed, formed_as}
use Rattle.lfs_cache.proofs.Fresh.{has_next, next_range}
use Rattle.lfs_cache.proofs.Steps.{locked_room, write_less, write_step, fresh_has_room, write_fresh_step, told}
use Rattle.lfs_cache.proofs.Steps.{names_unlisted, fresh_unlisted}
use Rattle.lfs_cache.proofs.cache.Cache.write.Goals as goal

pub move_first-requires-clause-room : goal.move_first-requires-clause-room
move_first-requires-clause-room c =
    let l = c.self.inside.frames in let keys = c.self.inside.index in let v = c.self.inside.locked in let k =
    c.args.key in let f = c.in-Some.frame in
    let may = subst (λ (s : Contents). IsLocked k s ⊎ (length s.locked < 24)) (sym c.self.view_is) c.requires in
    locked_room l keys v.items (vec_capacity v) f k c.self.invariant c.in-Some.ensures.1
    (write_less l keys v.items (vec_capacity v) f k c.self.invariant c.in-Some.ensures.1 may)

pub invariant_of-self : goal.invariant_of-self
invariant_of-self c =
    let l = c.self.inside.frames in let keys = c.self.inside.index in let v = c.self.inside.locked in let k =
    c.args.key in let f = c.in-Some.frame in let w = c.args.block.now in let m = c.move_first.new in
    let may = subst (λ (s : Contents). IsLocked k s ⊎ (length s.locked < 24)) (sym c.self.view_is) c.requires in
    (told (fronted f Locked (with_block l f w)) m.frames keys keys (names_after Locked k v.items) m.locked.items
    (vec_capacity v) (vec_capacity m.locked) (written k w (held_by l keys))
    (c.move_first.ensures.frames ∙ ap (fronted f Locked) c.copy_in.ensures) refl c.move_first.ensures.names
    c.move_first.ensures.room
    (write_step l keys v.items (vec_capacity v) f k c.self.invariant c.in-Some.ensures.1 w c.told-block may)).0

pub returns-in-Some-clause-contents : goal.returns-in-Some-clause-contents
returns-in-Some-clause-contents c =
    let l = c.self.inside.frames in let keys = c.self.inside.index in let v = c.self.inside.locked in let k =
    c.args.key in let f = c.in-Some.frame in let w = c.args.block.now in let m = c.move_first.new in
    let may = subst (λ (s : Contents). IsLocked k s ⊎ (length s.locked < 24)) (sym c.self.view_is) c.requires in
    (told (fronted f Locked (with_block l f w)) m.frames keys keys (names_after Locked k v.items) m.locked.items
    (vec_capacity v) (vec_capacity m.locked) (written k w (held_by l keys))
    (c.move_first.ensures.frames ∙ ap (fronted f Locked) c.copy_in.ensures) refl c.move_first.ensures.names
    c.move_first.ensures.room
    (write_step l keys v.items (vec_capacity v) f k c.self.invariant c.in-Some.ensures.1 w c.told-block may)).1
    ∙ ap (written k w) c.self.view_is

pub next_frame-frame-requires : goal.next_frame-frame-requires
next_frame-frame-requires c = has_next c.self.inside.frames c.self.inside.index c.self.inside.locked.items
    (vec_capacity c.self.inside.locked) c.self.invariant

pub copy_in-requires-2 : goal.copy_in-requires-2
copy_in-requires-2 c = next_range c.self.inside.frames c.next_frame-frame.result c.self.invariant.are.whole
    c.next_frame-frame.ensures

pub put-requires : goal.put-requires
put-requires c = subst (λ n. c.next_frame-frame.result < n) (sym c.self.invariant.are.sized)
    (next_range c.self.inside.frames c.next_frame-frame.result c.self.invariant.are.whole c.next_frame-frame.ensures)

pub move_first-requires-2-clause-in_range : goal.move_first-requires-2-clause-in_range
move_first-requires-2-clause-in_range c =
    let l = c.self.inside.frames in let f = c.next_frame-frame.result in
    subst (λ (t : FrameLists). f < frame_count t) (sym c.copy_in-2.ensures)
    (subst (λ n. f < n) (sym (length-set l.blocks f c.args.block.now))
    (next_range l f c.self.invariant.are.whole c.next_frame-frame.ensures))

pub move_first-requires-2-clause-room : goal.move_first-requires-2-clause-room
move_first-requires-2-clause-room c =
    let l = c.self.inside.frames in let keys = c.self.inside.index in let v = c.self.inside.locked in let k =
    c.args.key in
    let may = subst (λ (s : Contents). IsLocked k s ⊎ (length s.locked < 24)) (sym c.self.view_is) c.requires in
    fresh_has_room l keys v.items (vec_capacity v) k c.self.invariant c.in_default.ensures c.next_frame-frame.result
    c.args.block.now c.told-block c.next_frame-frame.ensures may

pub invariant_of-self-2 : goal.invariant_of-self-2
invariant_of-self-2 c =
    let l = c.self.inside.frames in let keys = c.self.inside.index in let v = c.self.inside.locked in let k =
    c.args.key in let f = c.next_frame-frame.result in let w = c.args.block.now in let m = c.move_first-2.new in
    let may = subst (λ (s : Contents). IsLocked k s ⊎ (length s.locked < 24)) (sym c.self.view_is) c.requires in
    (told (fronted f Locked (with_block l f w)) m.frames (set keys f (Some k)) c.put.new.self
    (names_after Locked k v.items) m.locked.items (vec_capacity v) (vec_capacity m.locked)
    (written k w (held_by l keys))
    (c.move_first-2.ensures.frames ∙ ap (fronted f Locked) c.copy_in-2.ensures) c.put.ensures
    c.move_first-2.ensures.names c.move_first-2.ensures.room
    (write_fresh_step l keys v.items (vec_capacity v) k c.self.invariant c.in_default.ensures f w c.told-block
    c.next_frame-frame.ensures may)).0

pub returns-clause-contents : goal.returns-clause-contents
returns-clause-contents c =
    let l = c.self.inside.frames in let keys = c.self.inside.index in let v = c.self.inside.locked in let k =
    c.args.key in let f = c.next_frame-frame.result in let w = c.args.block.now in let m = c.move_first-2.new in
    let may = subst (λ (s : Contents). IsLocked k s ⊎ (length s.locked < 24)) (sym c.self.view_is) c.requires in
    (told (fronted f Locked (with_block l f w)) m.frames (set keys f (Some k)) c.put.new.self
    (names_after Locked k v.items) m.locked.items (vec_capacity v) (vec_capacity m.locked)
    (written k w (held_by l keys))
    (c.move_first-2.ensures.frames ∙ ap (fronted f Locked) c.copy_in-2.ensures) c.put.ensures
    c.move_first-2.ensures.names c.move_first-2.ensures.room
    (write_fresh_step l keys v.items (vec_capacity v) k c.self.invariant c.in_default.ensures f w c.told-block
    c.next_frame-frame.ensures may)).1 ∙ ap (written k w) c.self.view_is

pub returns-in-Some-clause-dirty : goal.returns-in-Some-clause-dirty
returns-in-Some-clause-dirty c =
    ap (λ (s : Contents). block_in c.args.key s.locked) (returns-in-Some-clause-contents c)
    ∙ written_dirty c.args.key c.args.block.now c.args.self.now

pub returns-in-Some-clause-others : goal.returns-in-Some-clause-others
returns-in-Some-clause-others c =
    subst (GainsOnly c.args.key c.args.self.now) (sym (returns-in-Some-clause-contents c))
    (written_gains c.args.key c.args.block.now c.args.self.now)

pub returns-in-Some-clause-one_more : goal.returns-in-Some-clause-one_more
returns-in-Some-clause-one_more c =
    let old = c.args.self.now in
    subst (λ (s : Contents). length s.locked ≤ length old.locked + 1) (sym (returns-in-Some-clause-contents c))
    (written_count c.args.key c.args.block.now old)

pub returns-in-Some-clause-none_more : goal.returns-in-Some-clause-none_more
returns-in-Some-clause-none_more c = λ locked.
    let v = c.self.inside.locked in let old = c.args.self.now in
    let was = formed_as c.self.inside.frames c.self.inside.index v.items
    (vec_capacity v) old c.self.view_is c.self.invariant in
    ap (λ (s : Contents). length s.locked) (returns-in-Some-clause-contents c)
    ∙ written_again c.args.key c.args.block.now old was locked

pub returns-in-Some-clause-formed : goal.returns-in-Some-clause-formed
returns-in-Some-clause-formed c =
    let m = c.move_first.new in contents_formed m.frames c.self.inside.index m.locked.items (vec_capacity m.locked)
    (invariant_of-self c)

pub returns-clause-dirty : goal.returns-clause-dirty
returns-clause-dirty c =
    ap (λ (s : Contents). block_in c.args.key s.locked) (returns-clause-contents c)
    ∙ written_dirty c.args.key c.args.block.now c.args.self.now

pub returns-clause-others : goal.returns-clause-others
returns-clause-others c =
    subst (GainsOnly c.args.key c.args.self.now) (sym (returns-clause-contents c))
    (written_gains c.args.key c.args.block.now c.args.self.now)

pub returns-clause-one_more : goal.returns-clause-one_more
returns-clause-one_more c =
    let old = c.args.self.now in
    subst (λ (s : Contents). length s.locked ≤ length old.locked + 1) (sym (returns-clause-contents c))
    (written_count c.args.key c.args.block.now old)

pub returns-clause-none_more : goal.returns-clause-none_more
returns-clause-none_more c = λ locked.
    let v = c.self.inside.locked in let old = c.args.self.now in
    let was = formed_as c.self.inside.frames c.self.inside.index v.items
    (vec_capacity v) old c.self.view_is c.self.invariant in
    ap (λ (s : Contents). length s.locked) (returns-clause-contents c)
    ∙ written_again c.args.key c.args.block.now old was locked

pub returns-clause-formed : goal.returns-clause-formed
returns-clause-formed c =
    let m = c.move_first-2.new in contents_formed m.frames c.put.new.self m.locked.items (vec_capacity m.locked)
    (invariant_of-self-2 c)

pub move_first-requires-clause-listed : goal.move_first-requires-clause-listed
move_first-requires-clause-listed c =
    let l = c.self.inside.frames in let keys = c.self.inside.index in let v = c.self.inside.locked in let k =
    c.args.key in let f = c.in-Some.frame in
    subst (λ (t : FrameLists). HoldsNoOther f k t v.items) (sym c.copy_in.ensures)
    (names_unlisted l keys v.items (vec_capacity v) f k c.self.invariant c.in-Some.ensures.1
    (set l.blocks f c.args.block.now))

pub move_first-requires-2-clause-listed : goal.move_first-requires-2-clause-listed
move_first-requires-2-clause-listed c = λ q some ne.
    let l = c.self.inside.frames in let keys = c.self.inside.index in let v = c.self.inside.locked in let k =
    c.args.key in let f = c.next_frame-frame.result in
    fresh_unlisted l keys v.items (vec_capacity v) k c.self.invariant c.in_default.ensures f c.args.block.now
    c.told-block c.next_frame-frame.ensures
