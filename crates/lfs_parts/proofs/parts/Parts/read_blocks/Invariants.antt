use Rattle.std.proofs.Common.{◌≡◌, ℕ, ◌+◌, length}
use Rattle.lfs_bmap.specs.Pieces.{Touches}
use Rattle.lfs_bmap.specs.Reading.{data_block}
use Rattle.lfs_parts.specs.Filling.{IsCached, SameButClean}
use Rattle.lfs_parts.specs.View.{tree_of}
use Rattle.lfs_parts.proofs.parts.Parts.read_blocks.Given as goal
use Rattle.lfs_parts.proofs.ReadLemmas.{IsFilledBefore}

abbrev pub invariant-loop-index : goal.invariant-loop-index
invariant-loop-index l = record {
  whole : length l.into ≡ length l.fn.into;
  filled : IsFilledBefore (data_block (tree_of l.fn.self l.inode.number)) l.off l.index l.into;
  kept : SameButClean l.fn.self l.self;
  cached : (n : ℕ) → Touches l.off (l.off + length l.fn.into) n → n + 1 ≡ l.index
      → IsCached l.inode.number l.inode.version n l.self;
}
