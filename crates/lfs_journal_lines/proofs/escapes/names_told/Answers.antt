use Rattle.std.proofs.Common.{Ok, ap, sym, ◌∙◌}
use Rattle.std.proofs.lemmas.Result.{err_from_is_err_and}
use Rattle.lfs_journal_lines.proofs.ReadingLemmas.{names_all, names_more, names_refused}
use Rattle.lfs_journal_lines.proofs.escapes.names_told.Goals as goal

pub loop-word-preserved : goal.loop-word-preserved
loop-word-preserved c =
    rw c.in_ok-push.ensures.items
    (names_more c.args.words.now c.loop-word.word-index _ c.loop-word.names.items c.in_ok-name.name
    c.loop-word-test.true c.in_ok-name.ensures c.loop-word.invariant)

pub returns-in_err-name : goal.returns-in_err-name
returns-in_err-name c =
    let exit = err_from_is_err_and c.from_residual.result c.from_residual.ensures.1 in
    rw (exit.1, exit.2)
    (λ other. names_refused c.args.words.now c.loop-word.word-index _ c.loop-word.names.items _ c.loop-word-test.true
    (c.in_err-name.ensures other) c.loop-word.invariant)

pub returns : goal.returns
returns c =
    names_all c.args.words.now c.loop-word.word-index c.loop-word.names.items c.loop-word-test.false
    c.loop-word.invariant ∙ ap Ok (sym c.in_ok-new.ensures)
