use Rattle.std.proofs.Common.{refl, ap, ◌∙◌}
use Rattle.std.proofs.lemmas.Bool.{eq-eqb, ne_eqb}
use Rattle.std.proofs.lemmas.Result.{err_from_is_err_and}
use Rattle.lfs_journal_lines.specs.Escapes.{before, bytes_told}
use Rattle.lfs_words.specs.Faults.{◌>>=◌}
use Rattle.lfs_journal_lines.proofs.ReadingLemmas.{escape_first, no_text, plain_first}
use Rattle.lfs_journal_lines.proofs.escapes.first_byte.Goals as goal

pub returns-in_default-clause-told : goal.returns-in_default-clause-told
returns-in_default-clause-told c = no_text c.args.text.now c.in_default.len_below

pub returns-then-first-ne37-clause-told : goal.returns-then-first-ne37-clause-told
returns-then-first-ne37-clause-told c =
    plain_first c.args.text.now _ c.in-len1-up.len_at_least (ne_eqb _ 37 c.if-first-ne37.true) refl

pub returns-in_err-found-clause-told : goal.returns-in_err-found-clause-told
returns-in_err-found-clause-told c =
    let exit = err_from_is_err_and c.from_residual.result c.from_residual.ensures.1 in
    rw (exit.1, exit.2)
    (escape_first c.args.text.now _ c.in-len1-up.len_at_least (eq-eqb _ 37 c.if-first-ne37.false) refl
    ∙ ap (λ read. read >>= (λ found. before found.0 (bytes_told found.1))) c.in_err-found.ensures.told)

pub returns-clause-told : goal.returns-clause-told
returns-clause-told c =
    escape_first c.args.text.now _ c.in-len1-up.len_at_least (eq-eqb _ 37 c.if-first-ne37.false) refl
    ∙ ap (λ read. read >>= (λ found. before found.0 (bytes_told found.1))) c.in_ok-found.ensures.told
