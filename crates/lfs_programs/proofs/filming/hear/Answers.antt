use Rattle.std.proofs.Common.{ap, false, is_some, refl, sym, true, ◌∙◌}
use Rattle.std.proofs.lemmas.Result.{err_from_is_err_and}
use Rattle.lfs_programs.proofs.VolumeLemmas.{still_closed, talked_alone, talked_filed, talked_so_far}
use Rattle.lfs_programs.proofs.filming.hear.Goals as goal

pub returns-in_err-ending-clause-so_far : goal.returns-in_err-ending-clause-so_far
returns-in_err-ending-clause-so_far g c =
    let exit = err_from_is_err_and c.from_residual.result c.from_residual.ensures.1 in
    rw (exit.1, exit.2)
    (λ is. talked_so_far g.F.File.Write.contents _ _ c.args.means.now.options false c.args.outset.volume _ _ c.hear_over.new.tended
    _ (g.R.Read.remaining c.hear_over.new.reader) _ _
    (sym (ap is_some c.in_default.is) ∙ c.requires.filed) c.new-tended.ensures c.requires.begun
    (c.in_err-ending.ensures.so_far is))

pub returns-in_err-ending-clause-fault : goal.returns-in_err-ending-clause-fault
returns-in_err-ending-clause-fault g c =
    let exit = err_from_is_err_and c.from_residual.result c.from_residual.ensures.1 in
    rw (exit.1, exit.2) c.in_err-ending.ensures.fault

pub returns-in_default-clause-talked : goal.returns-in_default-clause-talked
returns-in_default-clause-talked g c =
    talked_alone g.F.File.Write.contents _ _ c.args.means.now.options
    c.in_ok-ending.ending c.args.outset.volume _ _ c.hear_over.new.tended
    _ (g.R.Read.remaining c.hear_over.new.reader) _ _
    (sym c.requires.filed ∙ ap is_some c.in_default.is) c.new-tended.ensures c.requires.begun
    c.in_ok-ending.ensures.heard

pub returns-in_default-clause-silent : goal.returns-in_default-clause-silent
returns-in_default-clause-silent g c = λ kept saved.
    let closed = ap (λ h. h.is_open) c.new-tended.ensures in
    c.in_ok-ending.ensures.silent
    (still_closed _ c.hear_over.new.tended.is_open closed c.in_ok-ending.ensures.opened) saved

pub returns-in_err-ending-2-clause-so_far : goal.returns-in_err-ending-2-clause-so_far
returns-in_err-ending-2-clause-so_far g c =
    let residual = c.from_residual-in_err-ending-2 in
    let exit = err_from_is_err_and residual.result residual.ensures.1 in
    rw (exit.1, exit.2)
    (λ is. talked_so_far g.F.File.Write.contents _ _ c.args.means.now.options true c.args.outset.volume _ _ c.hear_over-2.new.tended
    _ (g.R.Read.remaining c.hear_over-2.new.reader) _ _
    (sym (ap is_some c.in-Some.is) ∙ c.requires.filed) c.new-tended-2.ensures c.requires.begun
    (c.in_err-ending-2.ensures.so_far is))

pub returns-in_err-ending-2-clause-fault : goal.returns-in_err-ending-2-clause-fault
returns-in_err-ending-2-clause-fault g c =
    let residual = c.from_residual-in_err-ending-2 in
    let exit = err_from_is_err_and residual.result residual.ensures.1 in
    rw (exit.1, exit.2) c.in_err-ending-2.ensures.fault

pub returns-clause-talked : goal.returns-clause-talked
returns-clause-talked g c =
    talked_filed g.F.File.Write.contents _ _ (λ k. k.writer) c.args.means.now.options
    c.into_witnesses-after-2.result.is_open c.in_ok-ending-2.ending c.args.outset.volume c.new.result _
    c.hear_over-2.new.tended _ (g.R.Read.remaining c.hear_over-2.new.reader) _ _
    (sym c.requires.filed ∙ ap is_some c.in-Some.is) (λ k. refl) c.new.ensures.first
    c.into_witnesses-after-2.ensures.is_open c.new-tended-2.ensures c.requires.begun
    c.in_ok-ending-2.ensures.heard
