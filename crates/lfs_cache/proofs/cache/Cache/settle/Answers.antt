use Rattle.std.proofs.Common.{◌≡◌, ◌+◌, length, refl, sym, ap, subst, ◌∙◌}
use Rattle.std.specs.Prelude.{vec_capacity}
use Rattle.lfs_recency.specs.declared.queue.Queue.TheVariants.{Lru}
use Rattle.lfs_recency.specs.FrameLists.{fronted}
use Rattle.lfs_cache.specs.Frames.{names_after}
use Rattle.lfs_cache.specs.Contents.{Contents, block_in, block_of, settled, IsLocked}
use Rattle.lfs_cache.specs.Held.{held_by}
use Rattle.lfs_cache.specs.Changes.{KeepsOthers}
use Rattle.lfs_cache.proofs.CallerLemmas.{settled_kept}
use Rattle.lfs_cache.proofs.ChangeLemmas.{settled_others, settled_unlocked, settled_count}
use Rattle.lfs_cache.proofs.FormedLemmas.{contents_formed, formed_as}
use Rattle.lfs_cache.proofs.Steps.{settle_step, not_locked, told, names_unlisted}
use Rattle.lfs_cache.proofs.cache.Cache.settle.Goals as goal

pub invariant_of-self : goal.invariant_of-self
invariant_of-self c =
    let l = c.self.inside.frames in let keys = c.self.inside.index in let v = c.self.inside.locked in let k =
    c.args.key in let f = c.in-Some.frame in let m = c.move_first.new in
    let locked : IsLocked k (held_by l keys) = subst (IsLocked k) (sym c.self.view_is) c.requires in
    (told (fronted f Lru l) m.frames keys keys (names_after Lru k v.items) m.locked.items (vec_capacity v)
    (vec_capacity m.locked) (settled k (held_by l keys)) c.move_first.ensures.frames refl c.move_first.ensures.names
    c.move_first.ensures.room
    (settle_step l keys v.items (vec_capacity v) f k c.self.invariant c.in-Some.ensures.1 locked)).0

pub returns-in-Some-clause-contents : goal.returns-in-Some-clause-contents
returns-in-Some-clause-contents c =
    let l = c.self.inside.frames in let keys = c.self.inside.index in let v = c.self.inside.locked in let k =
    c.args.key in let f = c.in-Some.frame in let m = c.move_first.new in
    let locked : IsLocked k (held_by l keys) = subst (IsLocked k) (sym c.self.view_is) c.requires in
    (told (fronted f Lru l) m.frames keys keys (names_after Lru k v.items) m.locked.items (vec_capacity v)
    (vec_capacity m.locked) (settled k (held_by l keys)) c.move_first.ensures.frames refl c.move_first.ensures.names
    c.move_first.ensures.room
    (settle_step l keys v.items (vec_capacity v) f k c.self.invariant c.in-Some.ensures.1 locked)).1
    ∙ ap (settled k) c.self.view_is

pub returns-in_default-clause-contents : goal.returns-in_default-clause-contents
returns-in_default-clause-contents c =
    let l = c.self.inside.frames in let keys = c.self.inside.index in let v = c.self.inside.locked in let k =
    c.args.key in
    absurd (not_locked l keys v.items (vec_capacity v) k c.self.invariant c.in_default.ensures
    (subst (IsLocked k) (sym c.self.view_is) c.requires))

pub returns-in-Some-clause-kept : goal.returns-in-Some-clause-kept
returns-in-Some-clause-kept c = ap (block_of c.args.key) (returns-in-Some-clause-contents c)
    ∙ settled_kept c.args.key c.args.self.now

pub returns-in-Some-clause-clean : goal.returns-in-Some-clause-clean
returns-in-Some-clause-clean c =
    ap (λ (s : Contents). block_in c.args.key s.locked) (returns-in-Some-clause-contents c)
    ∙ settled_unlocked c.args.key c.args.self.now

pub returns-in-Some-clause-one_less : goal.returns-in-Some-clause-one_less
returns-in-Some-clause-one_less c =
    let v = c.self.inside.locked in let old = c.args.self.now in
    let was = formed_as c.self.inside.frames c.self.inside.index v.items
    (vec_capacity v) old c.self.view_is c.self.invariant in
    subst (λ (s : Contents). length s.locked + 1 ≡ length old.locked) (sym (returns-in-Some-clause-contents c))
    (settled_count c.args.key old was c.requires)

pub returns-in-Some-clause-others : goal.returns-in-Some-clause-others
returns-in-Some-clause-others c =
    subst (KeepsOthers c.args.key c.args.self.now) (sym (returns-in-Some-clause-contents c))
    (settled_others c.args.key c.args.self.now)

pub returns-in-Some-clause-formed : goal.returns-in-Some-clause-formed
returns-in-Some-clause-formed c =
    let m = c.move_first.new in contents_formed m.frames c.self.inside.index m.locked.items (vec_capacity m.locked)
    (invariant_of-self c)

pub returns-in_default-clause-clean : goal.returns-in_default-clause-clean
returns-in_default-clause-clean c =
    ap (λ (s : Contents). block_in c.args.key s.locked) (returns-in_default-clause-contents c)
    ∙ settled_unlocked c.args.key c.args.self.now

pub returns-in_default-clause-one_less : goal.returns-in_default-clause-one_less
returns-in_default-clause-one_less c =
    let v = c.self.inside.locked in let old = c.args.self.now in
    let was = formed_as c.self.inside.frames c.self.inside.index v.items
    (vec_capacity v) old c.self.view_is c.self.invariant in
    subst (λ (s : Contents). length s.locked + 1 ≡ length old.locked) (sym (returns-in_default-clause-contents c))
    (settled_count c.args.key old was c.requires)

pub returns-in_default-clause-formed : goal.returns-in_default-clause-formed
returns-in_default-clause-formed c =
    let v = c.self.inside.locked in formed_as c.self.inside.frames c.self.inside.index v.items
    (vec_capacity v) c.args.self.now c.self.view_is c.self.invariant

pub move_first-requires-clause-listed : goal.move_first-requires-clause-listed
move_first-requires-clause-listed c =
    let l = c.self.inside.frames in let keys = c.self.inside.index in let v = c.self.inside.locked in let k =
    c.args.key in let f = c.in-Some.frame in
    names_unlisted l keys v.items (vec_capacity v) f k c.self.invariant c.in-Some.ensures.1 l.blocks
