use Rattle.std.proofs.lemmas.Result.{err_from_is_err_and}
use Rattle.lfs_types.proofs.path.take_name.Goals as goal

pub returns-in_err-count : goal.returns-in_err-count
returns-in_err-count c =
    let exit = err_from_is_err_and c.from_residual.result c.from_residual.ensures.1 in
    rw (exit.1, exit.2) (c.in_err-count.ensures.refused c.args.component)
