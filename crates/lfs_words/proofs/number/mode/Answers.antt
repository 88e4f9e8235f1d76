use Rattle.std.proofs.lemmas.Result.{err_from_is_err_and}
use Rattle.std.proofs.Common.{sym, ◌∙◌}
use Rattle.lfs_words.proofs.Parts.{mode_there}
use Rattle.lfs_words.proofs.number.mode.Goals as goal

pub returns : goal.returns
returns c =
    c.ok_or.ensures.value
    ∙ mode_there c.args.word.now c.in_ok-value.value c.new.result (sym c.number.ensures
    ∙ c.in_ok-value.was) c.new.ensures

pub returns-in_err-value : goal.returns-in_err-value
returns-in_err-value c =
    let exit = err_from_is_err_and c.from_residual.result c.from_residual.ensures.1 in
    rw (exit.1, exit.2) (sym c.in_err-value.was ∙ c.number.ensures)
