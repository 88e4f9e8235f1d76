use Rattle.std.proofs.Common.{◌≡◌, ◌++◌}
use Rattle.lfs_fuse_calls.specs.Pieces.{piece_count, read_pieces}
use Rattle.lfs_fuse_calls.proofs.pieces.read_pieces.Given as goal

abbrev pub invariant-loop-count : goal.invariant-loop-count
invariant-loop-count l =
    l.calls.items ++ read_pieces l.path l.off l.left l.count ≡ read_pieces l.path l.offset l.size (piece_count l.size)

abbrev pub decreases-loop-count : goal.decreases-loop-count
decreases-loop-count l = l.count
