use Rattle.std.proofs.Common.{arith}
use Rattle.lfs_flatfiles.proofs.FlatFilesContent.{none_pushed}
use Rattle.lfs_flatfiles.proofs.flat_files.unused_places.Goals as goal

pub loop-index-preserved : goal.loop-index-preserved
loop-index-preserved c = record {
  none = rw c.in_ok-push.ensures.items (none_pushed c.loop-index.places.items c.unused.result c.unused.ensures
      c.loop-index.invariant.none);
  count = omega (arith, c.in_ok-push.ensures.len);
}
