use Rattle.std.proofs.Common.{◌≡◌, drop}
use Rattle.lfs_script.specs.Places.{byte_place}
use Rattle.lfs_script.proofs.place.push_byte_place.Given as goal

abbrev pub invariant-loop-byte : goal.invariant-loop-byte
invariant-loop-byte l = record {
  same : l.out.items ≡ l.fn.out.items;
  on : byte_place l.fn.column l.line ≡ byte_place l.at (drop l.byte-index l.line);
}
