use Rattle.std.proofs.Common.{ap, ◌∙◌}
use Rattle.lfs_segments.specs.Memory.{SegmentMemory, block_at}
use Rattle.lfs_segments.proofs.segments.Segments.block.Goals as goal

pub returns-clause-block : goal.returns-clause-block
returns-clause-block c = c.get.ensures ∙ ap (λ (m : SegmentMemory). block_at m c.args.address) c.self.view_is
