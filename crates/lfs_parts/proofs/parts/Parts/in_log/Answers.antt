use Rattle.std.proofs.Common.{sym, ap}
use Rattle.std.specs.Prelude.{if◌then◌else◌, ◌==◌}
use Rattle.lfs_types.specs.Blocks.{zero_block}
use Rattle.lfs_segments.specs.Memory.{block_at}
use Rattle.lfs_parts.proofs.parts.Parts.in_log.Goals as goal

pub returns-then-address-eq0 : goal.returns-then-address-eq0
unfolding zero_block
returns-then-address-eq0 c =
    sym (ap (λ a. if a == 0 then zero_block else block_at c.args.self.now.log.memory a) c.if-address-eq0.true)
