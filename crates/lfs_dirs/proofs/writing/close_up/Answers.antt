use Rattle.std.proofs.Common.{◌-◌, ap, ◌∙◌}
use Rattle.std.specs.List.{copy_within}
use Rattle.lfs_dirs.proofs.Removing.{moved_up}
use Rattle.lfs_dirs.proofs.writing.close_up.Goals as goal

pub returns : goal.returns
returns c =
    let zeros = c.fill.ensures.after (λ y same. same) in
    moved_up c.args.block.now c.args.at c.args.left c.copy_within.new.self c.fill.new.self c.told-block c.requires
    (c.copy_within.ensures.after ∙ ap (λ n. copy_within c.args.block.now (512 - c.args.left) n c.args.at) c.told-block) zeros
