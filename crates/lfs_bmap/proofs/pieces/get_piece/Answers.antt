use Rattle.std.proofs.Common.{◌≡◌, ◌+◌, ◌-◌, ◌*◌, arith}
use Rattle.lfs_bmap.proofs.PieceLemmas.{got_copied}
use Rattle.lfs_bmap.proofs.pieces.get_piece.Goals as goal

pub returns-then-from-to : goal.returns-then-from-to
returns-then-from-to c =
    let from = c.piece_of-from.result.from in
    let many = c.piece_of-from.result.to - from in
    let first = 512 * c.from.result + from - c.args.start in
    let same : first + many - first ≡ many = omega arith in
    rw (same, c.copy_from_slice.ensures.after)
    (got_copied c.args.index c.args.start from many first c.args.block.now c.args.buffer.now
    (omega arith) c.piece_of-from.ensures.from (omega arith) (omega arith) (omega arith))
