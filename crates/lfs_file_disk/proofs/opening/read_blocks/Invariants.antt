use Rattle.std.proofs.Common.{◌≡◌, length}
use Rattle.std.specs.Io.KnownBytes.{Consumes}
use Rattle.std.specs.List.{flat_map}
use Rattle.lfs_file_disk.proofs.opening.read_blocks.Given as goal

-- the blocks that were read so far are the bytes that the reader gave
abbrev pub invariant-loop : goal.invariant-loop
invariant-loop g l = record {
  many : length l.blocks.items ≡ l.counter;
  read : Consumes (g.R.Read.remaining l.fn.reader) (g.R.Read.remaining l.reader) (flat_map (λ block. block) l.blocks.items);
}
