use Rattle.std.proofs.Common.{◌≡◌, None, Some, sym, subst, ◌∙◌}
use Rattle.std.specs.Prelude.{MatchOption}
use Rattle.std.proofs.lemmas.Bool.{eq-eqb, ne_eqb}
use Rattle.lfs_journal_lines.proofs.NumberLemmas.{marked_read, none_read, unmarked_read}
use Rattle.lfs_journal_lines.proofs.numbering.unnumbered.Goals as goal

pub returns-in_default : goal.returns-in_default
returns-in_default c = none_read c.args.number c.args.line.now c.in_default.len_below

pub returns-then-first-ne35 : goal.returns-then-first-ne35
returns-then-first-ne35 c =
    unmarked_read c.args.number c.args.line.now c.in-len1-up.len_at_least (ne_eqb _ 35 c.if-first-ne35.true)

pub returns-in_err-rest : goal.returns-in_err-rest
returns-in_err-rest c =
    rw c.from_residual.ensures
    (marked_read c.args.number c.args.line.now c.as_bytes.result.now None c.in-len1-up.len_at_least
    (eq-eqb _ 35 c.if-first-ne35.false) (c.as_bytes.ensures.value ∙ c.format.ensures.text) c.in_err-rest.ensures)

pub returns : goal.returns
returns c =
    subst (λ found. MatchOption c.behind-2.result (found ≡ None) (λ rest. found ≡ Some rest.now))
    (sym (marked_read c.args.number c.args.line.now c.as_bytes.result.now (Some c.in_ok-rest.rest.now)
    c.in-len1-up.len_at_least (eq-eqb _ 35 c.if-first-ne35.false) (c.as_bytes.ensures.value ∙ c.format.ensures.text)
    c.in_ok-rest.ensures))
    c.behind-2.ensures
