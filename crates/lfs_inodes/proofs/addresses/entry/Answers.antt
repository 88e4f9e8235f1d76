use Rattle.std.proofs.Common.{◌∙◌, ap, slice_index, sym}
use Rattle.lfs_inodes.specs.Addresses.{cells}
use Rattle.lfs_inodes.proofs.Cells.{slice_index-cells}
use Rattle.lfs_inodes.proofs.ZeroedLemmas.{slice_index-cells_zero_block}
use Rattle.lfs_inodes.proofs.addresses.entry.Goals as goal

pub returns-clause-read : goal.returns-clause-read
returns-clause-read c = c.u32_at.ensures ∙ sym (slice_index-cells c.args.block.now 128 c.args.i c.requires)

pub returns-clause-none : goal.returns-clause-none
returns-clause-none c = λ zeros. returns-clause-read c ∙ ap (λ block. slice_index (cells block) c.args.i) zeros
    ∙ slice_index-cells_zero_block c.args.i
