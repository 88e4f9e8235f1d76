use Rattle.std.proofs.Common.{◌≡◌, ◌<◌, take}
use Rattle.lfs_known.specs.Places.{name_hash}
use Rattle.lfs_known.proofs.names.name_hash.Given as goal

abbrev pub invariant-loop-byte : goal.invariant-loop-byte
invariant-loop-byte l = (l.hash < 4096) × (l.hash ≡ name_hash (take l.byte-index l.name))
