use Rattle.std.proofs.Common.{◌-◌, subst, ◌∙◌}
use Rattle.lfs_cache.specs.Index.{key_at, IsFree}
use Rattle.lfs_cache.proofs.Named.{none_of, named_first, named_none, named_more}
use Rattle.lfs_cache.proofs.index.rebuild.Goals as goal
use Rattle.lfs_cache.proofs.index.rebuild.Goals.{in-Some, in_default}

pub loop-frame-init : goal.loop-frame-init
loop-frame-init c = named_first c.args.keys.now c.free_all.new.places.items (c.free_all.ensures.len
    ∙ c.requires.sized) c.free_all.ensures.none

pub loop-frame-preserved : goal.loop-frame-preserved
loop-frame-preserved c =
    let keys = c.args.keys.now in let ps = c.loop-frame.places.items in let taken = c.loop-frame.taken in let i =
    c.loop-frame.frame in
    elim c.match-keys-frame.branch [
      | in-Some w ↦ rw (w.places-is, w.taken-is)
          (named_more keys ps taken i w.start.result w.free_place-place.result w.in-Some.key c.loop-frame-test.true
          w.in-Some.is w.start.ensures.start w.free_place-place.ensures.after
          (subst (λ qs. IsFree qs w.start.result (w.free_place-place.result - w.start.result)) w.deref.ensures.value
          w.free_place-place.ensures.free) c.loop-frame.invariant)
      | in_default w ↦ rw (w.places-is, w.taken-is)
          (named_none keys ps taken i (none_of (key_at keys i) w.in_default.not-Some) c.loop-frame.invariant)
    ]
