use Rattle.std.proofs.Common.{subst, sym}
use Rattle.lfs_logstore.specs.States.{state_of}
use Rattle.lfs_calls.specs.Volumes.{HasWorld}
use Rattle.lfs_checking.proofs.VolumeLemmas.{same_volume, same_world}
use Rattle.lfs_checking.proofs.volume.load_volume.Goals as goal

pub returns-clause-volume : goal.returns-clause-volume
returns-clause-volume c =
    let told = c.in_ok-text.ensures.told in
    same_volume c.args.bytes.now told.log c.in_ok-both.both.0.log told.level c.in_ok-both.both.1 told.volume
    c.in_ok-both.ensures.image

pub returns-clause-world : goal.returns-clause-world
returns-clause-world c =
    let told = c.in_ok-text.ensures.told in
    let volume = same_volume c.args.bytes.now told.log c.in_ok-both.both.0.log told.level c.in_ok-both.both.1
    told.volume c.in_ok-both.ensures.image in
    subst (λ p. HasWorld (state_of p)) (sym c.in_ok-both.ensures.flushed)
    (same_world c.in_ok-both.both.0.log c.args.frames volume.world)
