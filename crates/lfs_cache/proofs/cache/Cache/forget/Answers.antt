use Rattle.std.proofs.Common.{◌≡◌, ◌+◌, length, None, sym, ap, subst, ◌∙◌}
use Rattle.std.proofs.Math.ListN.{set}
use Rattle.std.specs.Prelude.{vec_capacity}
use Rattle.lfs_recency.specs.declared.queue.Queue.TheVariants.{Age}
use Rattle.lfs_recency.specs.FrameLists.{fronted}
use Rattle.lfs_cache.specs.Frames.{names_after}
use Rattle.lfs_cache.specs.Contents.{Contents, block_in, block_of, forgotten}
use Rattle.lfs_cache.specs.Held.{held_by}
use Rattle.lfs_cache.specs.Changes.{KeepsOthers}
use Rattle.lfs_cache.proofs.CallerLemmas.{forgotten_gone}
use Rattle.lfs_cache.proofs.ChangeLemmas.{forgotten_others, forgotten_unlocked, forgotten_count, forgotten_clean}
use Rattle.lfs_cache.proofs.FormedLemmas.{contents_formed, formed_as}
use Rattle.lfs_cache.proofs.Steps.{forget_step, none_forgotten, told, names_unlisted}
use Rattle.lfs_cache.proofs.cache.Cache.forget.Goals as goal

pub invariant_of-self : goal.invariant_of-self
invariant_of-self c =
    let l = c.self.inside.frames in let keys = c.self.inside.index in let v = c.self.inside.locked in let k =
    c.args.key in let f = c.in-Some.frame in let m = c.move_first.new in
    (told (fronted f Age l) m.frames (set keys f None) c.clear.new.self (names_after Age k v.items) m.locked.items
    (vec_capacity v) (vec_capacity m.locked)
    (forgotten k (held_by l keys)) c.move_first.ensures.frames c.clear.ensures c.move_first.ensures.names
    c.move_first.ensures.room
    (forget_step l keys v.items (vec_capacity v) f k c.self.invariant c.in-Some.ensures.1)).0

pub returns-in-Some-clause-contents : goal.returns-in-Some-clause-contents
returns-in-Some-clause-contents c =
    let l = c.self.inside.frames in let keys = c.self.inside.index in let v = c.self.inside.locked in let k =
    c.args.key in let f = c.in-Some.frame in let m = c.move_first.new in
    (told (fronted f Age l) m.frames (set keys f None) c.clear.new.self (names_after Age k v.items) m.locked.items
    (vec_capacity v) (vec_capacity m.locked)
    (forgotten k (held_by l keys)) c.move_first.ensures.frames c.clear.ensures c.move_first.ensures.names
    c.move_first.ensures.room
    (forget_step l keys v.items (vec_capacity v) f k c.self.invariant c.in-Some.ensures.1)).1
    ∙ ap (forgotten k) c.self.view_is

pub returns-in_default-clause-contents : goal.returns-in_default-clause-contents
returns-in_default-clause-contents c =
    let l = c.self.inside.frames in let keys = c.self.inside.index in let v = c.self.inside.locked in let k =
    c.args.key in
    sym c.self.view_is ∙ (sym (none_forgotten l keys v.items (vec_capacity v) k c.self.invariant c.in_default.ensures)
    ∙ ap (forgotten k) c.self.view_is)

pub returns-in-Some-clause-gone : goal.returns-in-Some-clause-gone
returns-in-Some-clause-gone c = ap (block_of c.args.key) (returns-in-Some-clause-contents c)
    ∙ forgotten_gone c.args.key c.args.self.now

pub returns-in_default-clause-gone : goal.returns-in_default-clause-gone
returns-in_default-clause-gone c = ap (block_of c.args.key) (returns-in_default-clause-contents c)
    ∙ forgotten_gone c.args.key c.args.self.now

pub returns-in-Some-clause-unlocked : goal.returns-in-Some-clause-unlocked
returns-in-Some-clause-unlocked c =
    ap (λ (s : Contents). block_in c.args.key s.locked) (returns-in-Some-clause-contents c)
    ∙ forgotten_unlocked c.args.key c.args.self.now

pub returns-in-Some-clause-one_less : goal.returns-in-Some-clause-one_less
returns-in-Some-clause-one_less c = λ locked.
    let v = c.self.inside.locked in let old = c.args.self.now in
    let was = formed_as c.self.inside.frames c.self.inside.index v.items
    (vec_capacity v) old c.self.view_is c.self.invariant in
    subst (λ (s : Contents). length s.locked + 1 ≡ length old.locked) (sym (returns-in-Some-clause-contents c))
    (forgotten_count c.args.key old was locked)

pub returns-in-Some-clause-none_less : goal.returns-in-Some-clause-none_less
returns-in-Some-clause-none_less c = λ clean.
    ap (λ (s : Contents). s.locked) (returns-in-Some-clause-contents c)
    ∙ forgotten_clean c.args.key c.args.self.now clean

pub returns-in-Some-clause-others : goal.returns-in-Some-clause-others
returns-in-Some-clause-others c =
    subst (KeepsOthers c.args.key c.args.self.now) (sym (returns-in-Some-clause-contents c))
    (forgotten_others c.args.key c.args.self.now)

pub returns-in-Some-clause-formed : goal.returns-in-Some-clause-formed
returns-in-Some-clause-formed c =
    let m = c.move_first.new in contents_formed m.frames c.clear.new.self m.locked.items (vec_capacity m.locked)
    (invariant_of-self c)

pub returns-in_default-clause-unlocked : goal.returns-in_default-clause-unlocked
returns-in_default-clause-unlocked c =
    ap (λ (s : Contents). block_in c.args.key s.locked) (returns-in_default-clause-contents c)
    ∙ forgotten_unlocked c.args.key c.args.self.now

pub returns-in_default-clause-one_less : goal.returns-in_default-clause-one_less
returns-in_default-clause-one_less c = λ locked.
    let v = c.self.inside.locked in let old = c.args.self.now in
    let was = formed_as c.self.inside.frames c.self.inside.index v.items
    (vec_capacity v) old c.self.view_is c.self.invariant in
    subst (λ (s : Contents). length s.locked + 1 ≡ length old.locked) (sym (returns-in_default-clause-contents c))
    (forgotten_count c.args.key old was locked)

pub returns-in_default-clause-formed : goal.returns-in_default-clause-formed
returns-in_default-clause-formed c =
    let v = c.self.inside.locked in formed_as c.self.inside.frames c.self.inside.index v.items
    (vec_capacity v) c.args.self.now c.self.view_is c.self.invariant

pub move_first-requires-clause-listed : goal.move_first-requires-clause-listed
move_first-requires-clause-listed c =
    let l = c.self.inside.frames in let keys = c.self.inside.index in let v = c.self.inside.locked in let k =
    c.args.key in let f = c.in-Some.frame in
    names_unlisted l keys v.items (vec_capacity v) f k c.self.invariant c.in-Some.ensures.1 l.blocks
