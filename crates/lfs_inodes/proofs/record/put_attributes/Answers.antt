use Rattle.std.proofs.Common.{◌∙◌, arith}
use Rattle.lfs_inodes.proofs.Grammar.{number_at-before}
use Rattle.lfs_inodes.proofs.record.put_attributes.Goals as goal

pub returns-clause-attributes : goal.returns-clause-attributes
returns-clause-attributes c =
    let owner = c.put_u32.ensures in
    let group = c.put_u32-2.ensures in
    let mode = c.put_u16.ensures in
    let flags = c.put_u32-3.ensures in
    let size = c.put_u64.ensures in
    record {
      owner =
          number_at-before _ _ 28 8 _ 12 4 size (omega arith)
          ∙ number_at-before _ _ 24 4 _ 12 4 flags (omega arith)
          ∙ number_at-before _ _ 20 2 _ 12 4 mode (omega arith)
          ∙ number_at-before _ _ 16 4 _ 12 4 group (omega arith)
          ∙ owner.written;
      group =
          number_at-before _ _ 28 8 _ 16 4 size (omega arith)
          ∙ number_at-before _ _ 24 4 _ 16 4 flags (omega arith)
          ∙ number_at-before _ _ 20 2 _ 16 4 mode (omega arith)
          ∙ group.written;
      mode =
          number_at-before _ _ 28 8 _ 20 2 size (omega arith)
          ∙ number_at-before _ _ 24 4 _ 20 2 flags (omega arith)
          ∙ mode.written
          ∙ c.bits.ensures.value;
      unnamed = λ k low high.
          size.below k (omega arith) (omega arith)
          ∙ flags.below k (omega arith) (omega arith)
          ∙ mode.above k (omega arith) (omega arith)
          ∙ group.above k (omega arith) (omega arith)
          ∙ owner.above k (omega arith) (omega arith)
          ∙ c.requires.unwritten k low high;
      flags = number_at-before _ _ 28 8 _ 24 4 size (omega arith) ∙ flags.written ∙ c.bits-2.ensures.value;
      size = size.written;
    }
