use Rattle.std.proofs.Common.{◌≡◌, ◌/◌, ◌<◌, ℕ, [], get_or, length}
use Rattle.std.specs.Prelude.{All}
use Rattle.lfs_rescue.specs.Building.{IsBlockFrom}
use Rattle.lfs_rescue.proofs.building.blocks_of.Given as goal

-- those so far are told
abbrev pub invariant-loop-address : goal.invariant-loop-address
invariant-loop-address l = record {
  many : length l.blocks.items ≡ l.address;
  each : All (λ block. length block ≡ 512) l.blocks.items;
  told : (a : ℕ) → a < l.address
      → IsBlockFrom l.memory (get_or l.from (a / 64) 0) a (get_or l.blocks.items a []);
}
