use Rattle.std.proofs.Common.{◌≡◌, length, ◌∙◌, arith}
use Rattle.std.proofs.lemmas.List.{take_all}
use Rattle.lfs_known.proofs.name_changes.whole_block.Goals as goal

pub returns : goal.returns
returns c =
    let parts = c.in_ok-block.ensures.cases in
    let size : length c.args.bytes.now ≡ 512 = omega arith in (
      parts.0 ∙ take_all 512 c.args.bytes.now (omega (arith, size)),
      size,
      omega arith,
    )
