use Rattle.std.proofs.Common.{ap, ◌++◌, ◌∙◌}
use Rattle.lfs_print.specs.AnswerText.{answer_line}
use Rattle.lfs_print.proofs.print.print_answer.Goals as goal

pub returns : goal.returns
returns c = c.in_ok-append_answer.ensures
    ∙ ap (λ xs. xs ++ answer_line c.args.session c.args.answer.now) c.new-line.ensures.items
