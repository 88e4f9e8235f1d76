use Rattle.std.proofs.Common.{◌≡◌, ◌<◌, ◌≤◌}
use Rattle.std.specs.Vec.{vec_ptr, vec_capacity}
use denote.RawPtr.{InBlock}
use Rattle.lfs_recency.specs.Places.{item_place}
use Rattle.lfs_recency.specs.Links.{frame_size}
use Rattle.lfs_recency.proofs.Lone.{AreLone}
use Rattle.lfs_recency.proofs.links.lone_frames.Given as goal

abbrev pub invariant-loop-place : goal.invariant-loop-place
invariant-loop-place l = record {
  room : l.room ≤ vec_capacity l.frames;
  here : l.this ≡ item_place frame_size (vec_ptr l.frames) l.place;
  inside : 0 < l.place → InBlock (vec_ptr l.frames);
  lone : AreLone frame_size (vec_ptr l.frames) l.count l.place l.frames.items;
}
