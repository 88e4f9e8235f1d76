use Rattle.std.proofs.Common.{◌≡◌, ◌≤◌, max, arith}
use Rattle.lfs_staging.proofs.GrowthLemmas.{grown_to}
use Rattle.lfs_staging.proofs.changing.grow.Goals as goal

pub returns : goal.returns
returns c =
    let v = c.args.inode.now in
    let size = c.max-size.result in
    let is : size ≡ max v.size c.args.size = omega (arith, c.max-size.ensures) in
    let more : v.size ≤ size = omega arith in
    grown_to c.args.parts.now c.stage_record.new.parts v c.grown-grown.result size c.args.size c.requires.may
    c.stage_record.ensures
    c.grown-grown.ensures.attributes c.grown-grown.ensures.addresses more is
