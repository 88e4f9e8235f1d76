use Rattle.std.proofs.Common.{◌∙◌, arith}
use Rattle.lfs_fsck.proofs.ReaderLemmas.{read_begins}
use Rattle.lfs_fsck.proofs.names.name_segment.Goals as goal

pub overflow_mul-first : goal.overflow_mul-first
overflow_mul-first c = let most = c.requires.laid_out.at_most in omega arith

pub overflow_add-address-end : goal.overflow_add-address-end
overflow_add-address-end c = let most = c.requires.laid_out.at_most in omega arith

pub loop-address-init : goal.loop-address-init
loop-address-init c = record {
  so_far = c.requires.before;
  read = c.start-reader.ensures ∙ read_begins c.args.log.now.memory c.args.segment;
}
