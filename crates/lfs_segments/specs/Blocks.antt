-- The blocks of a volume, of which the last may not be in memory.
use Rattle.std.specs.Prelude.{ℕ, ◌-◌, List, ◌++◌, length, replicate}
use Rattle.lfs_types.specs.Blocks.{zero_block}

-- blocks, and behind them zeros, so many in all
abbrev pub filled_up : List (List ℕ) → ℕ → List (List ℕ)
filled_up blocks count = blocks ++ replicate (count - length blocks) zero_block
