use Rattle.std.proofs.Common.{◌≡◌, length, arith}
use Rattle.lfs_fsck.proofs.ByteLemmas.{are_zeros, zeros_are}
use Rattle.lfs_fsck.proofs.bytes.is_zeros.Goals as goal

pub returns : goal.returns
returns c =
    let long : length c.args.block.now ≡ 512 = omega arith in (
      λ t. zeros_are c.args.block.now long (c.is_zero_from.ensures.0 t),
      λ e. c.is_zero_from.ensures.1 (are_zeros c.args.block.now e),
    )
