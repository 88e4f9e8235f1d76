use Rattle.std.proofs.Common.{◌≡◌, ◌++◌, length}
use Rattle.lfs_fuse_calls.specs.Pieces.{piece_count, write_pieces}
use Rattle.lfs_fuse_calls.proofs.pieces.write_pieces.Given as goal

abbrev pub invariant-loop-count : goal.invariant-loop-count
invariant-loop-count l =
    l.calls.items ++ write_pieces l.path l.append l.off l.rest l.count
    ≡ write_pieces l.path l.append l.offset l.bytes (piece_count (length l.bytes))

abbrev pub decreases-loop-count : goal.decreases-loop-count
decreases-loop-count l = l.count
