use Rattle.std.proofs.Common.{◌≡◌, [], Some, None, get_or, refl, sym, ap, subst, ◌∙◌}
use Rattle.std.specs.Prelude.{vec_capacity, option_copied}
use Rattle.lfs_recency.specs.FrameLists.{FrameLists, taken, fronted}
use Rattle.lfs_recency.proofs.Lists.{blocks-pushed}
use Rattle.lfs_cache.specs.Frames.{names_after}
use Rattle.lfs_cache.specs.Contents.{used, block_of}
use Rattle.lfs_cache.specs.Held.{held_by}
use Rattle.lfs_cache.proofs.Steps.{get_room, get_step, block_held_is, none_used, none_block, told, names_unlisted}
use Rattle.lfs_cache.specs.Changes.{IsContents}
use Rattle.lfs_cache.proofs.CallerLemmas.{used_gone, used_missing}
use Rattle.lfs_cache.proofs.ChangeLemmas.{used_kept}
use Rattle.lfs_cache.proofs.FormedLemmas.{formed_as}
use Rattle.lfs_cache.proofs.cache.Cache.get.Goals as goal

pub move_first-requires-clause-room : goal.move_first-requires-clause-room
move_first-requires-clause-room c =
    let l = c.self.inside.frames in let keys = c.self.inside.index in let v = c.self.inside.locked in let k =
    c.args.key in let f = c.in_ok-frame.frame in
    get_room l keys v.items (vec_capacity v) f k c.self.invariant c.in_ok-frame.ensures.1 c.queue-queue.result
    c.queue-queue.ensures

pub invariant_of-self-2 : goal.invariant_of-self-2
invariant_of-self-2 c =
    let l = c.self.inside.frames in let keys = c.self.inside.index in let v = c.self.inside.locked in let k =
    c.args.key in let f = c.in_ok-frame.frame in let q = c.queue-queue.result in let m = c.move_first.new in
    (told (fronted f q l) m.frames keys keys (names_after q k v.items) m.locked.items (vec_capacity v)
    (vec_capacity m.locked) (used k (held_by l keys)) c.move_first.ensures.frames refl c.move_first.ensures.names
    c.move_first.ensures.room
    (get_step l keys v.items (vec_capacity v) f k c.self.invariant c.in_ok-frame.ensures.1 q c.queue-queue.ensures)).0

pub returns-in_err-frame : goal.returns-in_err-frame
returns-in_err-frame c =
    let l = c.self.inside.frames in let keys = c.self.inside.index in let v = c.self.inside.locked in let k =
    c.args.key in
    let none : block_of k c.args.self.now ≡ None = sym (ap (block_of k) c.self.view_is)
    ∙ none_block l keys v.items (vec_capacity v) k c.self.invariant c.in_err-frame.ensures in
    let was = formed_as l keys v.items (vec_capacity v) c.args.self.now c.self.view_is c.self.invariant in (
      (
        refl,
        λ _. tt,
        sym (none_used l keys v.items (vec_capacity v) k c.self.invariant c.in_err-frame.ensures)
            ∙ ap (used k) c.self.view_is,
      ),
      record {
        used = tt;
        value = ap option_copied c.from_residual.ensures ∙ sym none;
        missing = λ _. used_gone k c.args.self.now none;
        kept = used_kept k c.args.self.now was;
        formed = subst IsContents (sym (used_missing k c.args.self.now none)) was;
      },
    )

pub returns : goal.returns
returns c =
    let l = c.self.inside.frames in let keys = c.self.inside.index in let v = c.self.inside.locked in let k =
    c.args.key in let f = c.in_ok-frame.frame in let q = c.queue-queue.result in let m = c.move_first.new in
    let same : m.frames.blocks ≡ l.blocks = ap (λ (t : FrameLists). t.blocks) c.move_first.ensures.frames
    ∙ blocks-pushed f (taken f l) q in
    let was = formed_as l keys v.items (vec_capacity v) c.args.self.now c.self.view_is c.self.invariant in
    let step = told (fronted f q l) m.frames keys keys (names_after q k v.items) m.locked.items (vec_capacity v)
    (vec_capacity m.locked) (used k (held_by l keys)) c.move_first.ensures.frames refl c.move_first.ensures.names
    c.move_first.ensures.room
    (get_step l keys v.items (vec_capacity v) f k c.self.invariant c.in_ok-frame.ensures.1 q c.queue-queue.ensures) in
    let after : held_by m.frames keys ≡ used k c.args.self.now = step.1 ∙ ap (used k) c.self.view_is in (
      (refl, λ _. tt, after),
      record {
        used = tt;
        value = ap Some (c.bytes.ensures ∙ ap (λ bs. get_or bs f []) same)
            ∙ (sym (block_held_is l keys v.items (vec_capacity v) f k c.self.invariant c.in_ok-frame.ensures.1)
            ∙ ap (block_of k) c.self.view_is);
        missing = λ h. absurd (cc);
        kept = used_kept k c.args.self.now was;
        formed = formed_as m.frames keys m.locked.items (vec_capacity m.locked) (used k c.args.self.now) after step.0;
      },
    )

pub move_first-requires-clause-listed : goal.move_first-requires-clause-listed
move_first-requires-clause-listed c =
    let l = c.self.inside.frames in let keys = c.self.inside.index in let v = c.self.inside.locked in let k =
    c.args.key in let f = c.in_ok-frame.frame in
    names_unlisted l keys v.items (vec_capacity v) f k c.self.invariant c.in_ok-frame.ensures.1 l.blocks
