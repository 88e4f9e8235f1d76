use Rattle.std.proofs.Common.{◌≡◌, ◌*◌, ◌++◌, drop, length}
use Rattle.std.specs.Prelude.{All}
use Rattle.std.specs.List.{flat_map}
use Rattle.lfs_image.proofs.loading.read_blocks.Given as goal

abbrev pub invariant-loop-k : goal.invariant-loop-k
invariant-loop-k l = record {
  many : length l.blocks.items ≡ l.k;
  each : All (λ block. length block ≡ 512) l.blocks.items;
  read : flat_map (λ block. block) l.blocks.items ++ drop (512 * l.k) l.bytes ≡ l.bytes;
}
