use Rattle.std.proofs.Common.{ap}
use Rattle.std.specs.Vec.{vec_ptr}
use Rattle.lfs_recency.specs.FrameLists.{FrameLists}
use Rattle.lfs_recency.specs.Links.{frame_size}
use Rattle.lfs_recency.proofs.Filled.{kept_filled}
use Rattle.lfs_recency.proofs.frames.Frames.new.Goals as goal

pub invariant_of-result : goal.invariant_of-result
invariant_of-result c = let v = c.link_all.new.frames in
    (kept_filled frame_size (vec_ptr v) c.args.count v.items c.link_all.ensures).0

pub returns-clause-lists : goal.returns-clause-lists
returns-clause-lists c =
    let v = c.link_all.new.frames in let is =
    (kept_filled frame_size (vec_ptr v) c.args.count v.items c.link_all.ensures).1 in (
      ap (λ (s : FrameLists). s.locked) is,
      ap (λ (s : FrameLists). s.lru) is,
      ap (λ (s : FrameLists). s.age) is,
      ap (λ (s : FrameLists). s.empty) is,
    )

pub returns-clause-whole : goal.returns-clause-whole
returns-clause-whole c = let v = c.link_all.new.frames in
    (kept_filled frame_size (vec_ptr v) c.args.count v.items c.link_all.ensures).0.whole
