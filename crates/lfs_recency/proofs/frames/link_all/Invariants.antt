use Rattle.std.proofs.Common.{◌≡◌}
use Rattle.std.specs.Vec.{vec_ptr}
use Rattle.lfs_recency.specs.Links.{frame_size, AreFilled}
use Rattle.lfs_recency.proofs.frames.link_all.Given as goal

abbrev pub invariant-loop-number : goal.invariant-loop-number
invariant-loop-number l = record {
  ends : l.number-end ≡ l.count;
  filled : AreFilled frame_size (vec_ptr l.frames) l.count l.number l.frames.items;
}
