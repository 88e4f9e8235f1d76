use Rattle.std.proofs.Common.{subst}
use Rattle.lfs_checking.specs.Volumes.{IsVolume}
use Rattle.lfs_auditing.proofs.beginning.load.Goals as goal

pub returns : goal.returns
returns g c = record {
  loaded = record {
    bytes = c.in_ok-bytes.bytes.items;
    image = subst (λ bs. IsVolume bs c.in_ok-both.both.0.log c.in_ok-both.both.1) c.as_slice.ensures.value
        c.in_ok-both.ensures.volume;
    flushed = c.in_ok-both.ensures.flushed;
    world = c.in_ok-both.ensures.world;
  };
  whole = c.in_ok-bytes.ensures.whole;
}
