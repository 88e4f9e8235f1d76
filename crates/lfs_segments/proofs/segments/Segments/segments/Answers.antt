use Rattle.std.proofs.Common.{◌/◌, ap, ◌∙◌}
use Rattle.lfs_segments.specs.Memory.{SegmentMemory}
use Rattle.lfs_segments.proofs.segments.Segments.segments.Goals as goal

pub returns-clause-segments : goal.returns-clause-segments
returns-clause-segments c = ap (λ n. n / 64) c.len.ensures
    ∙ ap (λ (m : SegmentMemory). m.segments) c.self.view_is
