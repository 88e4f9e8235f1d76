use Rattle.std.proofs.Common.{◌-◌, ◌≤◌, length, None, ◌∙◌, arith}
use Rattle.std.specs.Prelude.{slice_index_or}
use Rattle.lfs_opens.specs.Rewritten.{bytes_kept}
use Rattle.lfs_mount.specs.Leaving.{IsSeenIn, IsUnseenIn}
use Rattle.lfs_mount.proofs.LookedLemmas.{looked_again}
use Rattle.lfs_mount.proofs.LookedForLemmas.{looked_for_each, looked_for_next, prepared_before}
use Rattle.lfs_mount.proofs.leaving.look_for_all.Goals as goal

pub loop-slot-preserved : goal.loop-slot-preserved
loop-slot-preserved g c =
    let state = g.F.FileStore.state in
    let old = c.args.volume.now in
    let sight = c.args.leaving.now.sight in
    let node = c.args.leaving.now.node in
    let slot = c.loop-slot.slot in
    let before = c.args.opens.now.files.items in
    let mid = c.loop-slot.opens.files.items in
    let after = c.look_for.new.opens.files.items in
    let i = c.loop-slot.invariant in
    record {
      looked = looked_again state old c.loop-slot.volume c.look_for.new.volume i.looked c.look_for.ensures.looked;
      done = looked_for_next (IsSeenIn state old sight) (IsUnseenIn state old sight) node before slot mid after
          i.done i.rest
          (prepared_before state old c.loop-slot.volume sight (33554432 - bytes_kept mid) node
          (slice_index_or mid slot None) (slice_index_or after slot None) i.looked c.look_for.ensures.prepared)
          c.look_for.ensures.others;
      rest = λ t past. c.look_for.ensures.others t (λ e. omega (arith, past, e)) ∙ i.rest t (omega (arith, past));
    }

pub returns-clause-prepared : goal.returns-clause-prepared
returns-clause-prepared g c =
    let state = g.F.FileStore.state in
    let old = c.args.volume.now in
    let sight = c.args.leaving.now.sight in
    let before = c.args.opens.now.files.items in
    let after = c.loop-slot.opens.files.items in
    let all : length before ≤ c.loop-slot.slot = omega arith in
    looked_for_each (IsSeenIn state old sight) (IsUnseenIn state old sight) c.args.leaving.now.node before c.loop-slot.slot after all
    c.loop-slot.invariant.done c.loop-slot.invariant.rest
