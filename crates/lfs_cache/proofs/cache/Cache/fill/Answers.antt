use Rattle.std.proofs.Common.{◌<◌, Some, sym, ap, subst, ◌∙◌}
use Rattle.std.proofs.Math.ListN.{set, length-set}
use Rattle.std.specs.Prelude.{vec_capacity}
use Rattle.lfs_recency.specs.declared.queue.Queue.TheVariants.{Lru}
use Rattle.lfs_recency.specs.FrameLists.{FrameLists, frame_count, fronted}
use Rattle.lfs_recency.specs.Lending.{with_block}
use Rattle.lfs_cache.specs.Frames.{names_after}
use Rattle.lfs_cache.specs.Contents.{Contents, filled, block_of}
use Rattle.lfs_cache.specs.Held.{held_by}
use Rattle.lfs_cache.specs.Changes.{GainsOnly}
use Rattle.lfs_cache.proofs.CallerLemmas.{filled_locked}
use Rattle.lfs_cache.proofs.ChangeLemmas.{filled_there, filled_gains}
use Rattle.lfs_cache.proofs.FormedLemmas.{contents_formed}
use Rattle.lfs_cache.proofs.Fresh.{has_next, next_range}
use Rattle.lfs_cache.proofs.Steps.{fill_step, absent_is, told, fresh_unlisted}
use Rattle.lfs_cache.proofs.cache.Cache.fill.Goals as goal

pub next_frame-taken-requires : goal.next_frame-taken-requires
next_frame-taken-requires c = has_next c.self.inside.frames c.self.inside.index c.self.inside.locked.items
    (vec_capacity c.self.inside.locked) c.self.invariant

pub copy_in-requires : goal.copy_in-requires
copy_in-requires c = next_range c.self.inside.frames c.next_frame-taken.result c.self.invariant.are.whole
    c.next_frame-taken.ensures

pub put-requires : goal.put-requires
put-requires c = subst (λ n. c.next_frame-taken.result < n) (sym c.self.invariant.are.sized)
    (next_range c.self.inside.frames c.next_frame-taken.result c.self.invariant.are.whole c.next_frame-taken.ensures)

pub move_first-requires-clause-in_range : goal.move_first-requires-clause-in_range
move_first-requires-clause-in_range c =
    let l = c.self.inside.frames in let f = c.next_frame-taken.result in
    subst (λ (t : FrameLists). f < frame_count t) (sym c.copy_in.ensures)
    (subst (λ n. f < n) (sym (length-set l.blocks f c.args.block.now))
    (next_range l f c.self.invariant.are.whole c.next_frame-taken.ensures))

pub invariant_of-self : goal.invariant_of-self
invariant_of-self c =
    let l = c.self.inside.frames in let keys = c.self.inside.index in let v = c.self.inside.locked in let k =
    c.args.key in let f = c.next_frame-taken.result in let w = c.args.block.now in let m = c.move_first.new in
    let absent = absent_is l keys v.items (vec_capacity v) k c.self.invariant (ap (block_of k) c.self.view_is
    ∙ c.requires) in
    (told (fronted f Lru (with_block l f w)) m.frames (set keys f (Some k)) c.put.new.self
    (names_after Lru k v.items) m.locked.items (vec_capacity v) (vec_capacity m.locked)
    (filled k w (held_by l keys))
    (c.move_first.ensures.frames ∙ ap (fronted f Lru) c.copy_in.ensures) c.put.ensures c.move_first.ensures.names
    c.move_first.ensures.room
    (fill_step l keys v.items (vec_capacity v) k c.self.invariant absent f w c.told-block c.next_frame-taken.ensures)).0

pub returns-clause-contents : goal.returns-clause-contents
returns-clause-contents c =
    let l = c.self.inside.frames in let keys = c.self.inside.index in let v = c.self.inside.locked in let k =
    c.args.key in let f = c.next_frame-taken.result in let w = c.args.block.now in let m = c.move_first.new in
    let absent = absent_is l keys v.items (vec_capacity v) k c.self.invariant (ap (block_of k) c.self.view_is
    ∙ c.requires) in
    (told (fronted f Lru (with_block l f w)) m.frames (set keys f (Some k)) c.put.new.self
    (names_after Lru k v.items) m.locked.items (vec_capacity v) (vec_capacity m.locked)
    (filled k w (held_by l keys))
    (c.move_first.ensures.frames ∙ ap (fronted f Lru) c.copy_in.ensures) c.put.ensures c.move_first.ensures.names
    c.move_first.ensures.room
    (fill_step l keys v.items (vec_capacity v) k c.self.invariant absent f w c.told-block c.next_frame-taken.ensures)).1
    ∙ ap (filled k w) c.self.view_is

pub returns-clause-none_unlocked : goal.returns-clause-none_unlocked
returns-clause-none_unlocked c =
    ap (λ (s : Contents). s.locked) (returns-clause-contents c)
    ∙ filled_locked c.args.key c.args.block.now c.args.self.now

pub returns-clause-there : goal.returns-clause-there
returns-clause-there c =
    ap (block_of c.args.key) (returns-clause-contents c)
    ∙ filled_there c.args.key c.args.block.now c.args.self.now c.requires

pub returns-clause-others : goal.returns-clause-others
returns-clause-others c =
    subst (GainsOnly c.args.key c.args.self.now) (sym (returns-clause-contents c))
    (filled_gains c.args.key c.args.block.now c.args.self.now)

pub returns-clause-formed : goal.returns-clause-formed
returns-clause-formed c =
    let m = c.move_first.new in contents_formed m.frames c.put.new.self m.locked.items (vec_capacity m.locked)
    (invariant_of-self c)

pub move_first-requires-clause-listed : goal.move_first-requires-clause-listed
move_first-requires-clause-listed c = λ q some ne.
    let l = c.self.inside.frames in let keys = c.self.inside.index in let v = c.self.inside.locked in let k =
    c.args.key in let f = c.next_frame-taken.result in
    let absent = absent_is l keys v.items (vec_capacity v) k c.self.invariant (ap (block_of k) c.self.view_is
    ∙ c.requires) in
    fresh_unlisted l keys v.items (vec_capacity v) k c.self.invariant absent f c.args.block.now c.told-block
    c.next_frame-taken.ensures
