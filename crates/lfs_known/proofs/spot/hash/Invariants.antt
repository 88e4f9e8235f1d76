use Rattle.std.proofs.Common.{◌≡◌, ◌<◌, take}
use Rattle.lfs_known.specs.Spots.{hash_of}
use Rattle.lfs_known.proofs.spot.hash.Given as goal

abbrev pub invariant-loop-byte : goal.invariant-loop-byte
invariant-loop-byte l = (l.sum < 65536) × (l.sum ≡ hash_of l.dir (take l.byte-index l.name))
