use Rattle.std.proofs.lemmas.Result.{err_from_is_err_and}
use Rattle.std.proofs.Common.{sym, ap, ◌∙◌}
use Rattle.lfs_words.specs.Numbers.{number_of}
use Rattle.lfs_words.proofs.number.short_decimal.Goals as goal

pub returns : goal.returns
returns c = sym c.in_ok-value.was ∙ c.number.ensures ∙ ap (λ n. number_of 10 20 n c.args.word.now) c.from.ensures

pub returns-in_err-value : goal.returns-in_err-value
returns-in_err-value c =
    let exit = err_from_is_err_and c.from_residual.result c.from_residual.ensures.1 in
    rw (exit.1, exit.2) (sym c.in_err-value.was ∙ c.number.ensures
    ∙ ap (λ n. number_of 10 20 n c.args.word.now) c.from.ensures)
