use Rattle.std.proofs.Common.{length, refl, sym, arith}
use Rattle.std.specs.List.{slice_get}
use Rattle.std.proofs.lemmas.Option.{slice_get_read}
use Rattle.lfs_types.specs.Blocks.{zero_block}
use Rattle.lfs_log.proofs.PackingLemmas.{IsPackedBelow-none, IsPackedBelow-more, IsInodeBlock-packed, fields_in-slot}
use Rattle.lfs_log.proofs.PackingLemmas.{record_in-read}
use Rattle.lfs_log.proofs.packing.packed.Goals as goal

pub loop-k-init : goal.loop-k-init
unfolding zero_block
loop-k-init c = IsPackedBelow-none c.args.inodes.now _ refl

pub loop-k-preserved : goal.loop-k-preserved
loop-k-preserved c = IsPackedBelow-more c.loop-k.k c.args.inodes.now c.loop-k.block _ _ _ c.loop-k.invariant
    (omega arith)
    (slice_get_read c.args.inodes.now (length c.args.inodes.now) c.loop-k.k _ refl (omega arith) c.index-inodes-k.is)
    c.encode.ensures.record c.with_slot-block.ensures

pub returns-clause-block : goal.returns-clause-block
returns-clause-block c = IsInodeBlock-packed c.args.inodes.now c.loop-k.block c.loop-k.k c.requires
    (omega arith) c.loop-k.invariant

pub returns-clause-reading : goal.returns-clause-reading
returns-clause-reading c = λ k below. fields_in-slot _ _ ((returns-clause-block c).slots k below)

pub returns-clause-records : goal.returns-clause-records
returns-clause-records c = λ k below. sym
    (record_in-read c.loop-k.block k (slice_get c.args.inodes.now k) (sym (returns-clause-reading c k below)))
