use Rattle.std.proofs.Common.{length}
use Rattle.lfs_staging.proofs.PuttingLemmas.{put_codes, PutsBelow, TakesBelow}
use Rattle.lfs_staging.specs.Putting.{TakesPut}
use Rattle.lfs_parts.specs.View.{version_of}
use Rattle.lfs_staging.proofs.changing.put_blocks.Given as goal

abbrev pub invariant-loop-index : goal.invariant-loop-index
invariant-loop-index l = record {
  puts : PutsBelow l.inode l.off l.bytes l.index l.fn.parts l.parts;
  takes : TakesBelow l.inode.number (put_codes l.off (length l.bytes)) l.fn.parts l.parts;
  only : TakesPut l.inode.number (version_of l.fn.parts l.inode.number) l.off (length l.bytes) l.fn.parts.cache
      l.parts.cache;
}
