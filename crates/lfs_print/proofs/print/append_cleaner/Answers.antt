use Rattle.std.proofs.Common.{◌++◌, ap, ◌∙◌}
use Rattle.std.specs.Prelude.{decimal}
use Rattle.std.proofs.lemmas.Result.{on_ok_weaker}
use Rattle.lfs_print.proofs.PrintLemmas.{cleaner_added}
use Rattle.lfs_print.proofs.print.append_cleaner.Goals as goal

pub returns : goal.returns
returns c =
    on_ok_weaker c.end_line.result
    (cleaner_added c.args.out.now.items c.push_decimal.new.out.items c.push_word.new.out.items
    c.push_word-2.new.out.items c.push_cleaner.new.out.items c.end_line.new.out.items c.cleaner_word.result.now
    c.args.session c.args.kind c.args.answer.now
    (c.in_ok-push_decimal.ensures ∙ ap (λ n. c.args.out.now.items ++ decimal n) c.from.ensures)
    c.in_ok-push_word.ensures c.cleaner_word.ensures c.in_ok-push_word-2.ensures c.in_ok-push_cleaner.ensures)
    c.end_line.ensures
