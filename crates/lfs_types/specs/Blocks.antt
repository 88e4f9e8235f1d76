-- Blocks as lists of bytes.
use Rattle.std.specs.Prelude.{ℕ, List, replicate}
use Rattle.lfs_types.specs.declared.block.TheConstants.{BLOCK_SIZE}

-- a block without data
unfoldable pub zero_block : List ℕ
zero_block = replicate BLOCK_SIZE 0
