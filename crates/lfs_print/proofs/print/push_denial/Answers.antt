use Rattle.std.proofs.lemmas.Result.{on_ok_weaker}
use Rattle.lfs_print.proofs.PrintLemmas.{denial_added}
use Rattle.lfs_print.proofs.print.push_denial.Goals as goal

pub returns : goal.returns
returns c =
    on_ok_weaker c.push_number-2.result
    (denial_added c.args.out.now.items c.push_word.new.out.items c.push_word-2.new.out.items c.push_word-3.new.out.items
    c.push_number.new.out.items c.push_number-2.new.out.items
    c.code.result.now c.error.result c.name.result.now c.from.result c.from-2.result c.args.denial
    c.in_ok-push_word.ensures c.code.ensures c.in_ok-push_word-2.ensures c.error.ensures c.name.ensures
    c.in_ok-push_word-3.ensures c.from.ensures c.in_ok-push_number.ensures c.from-2.ensures)
    c.push_number-2.ensures
