use Rattle.std.proofs.Common.{◌++◌, ◌≤◌, ◌+◌, List, ℕ, ap, arith, length, subst}
use Rattle.std.proofs.lemmas.Result.{err_from_is_err_and}
use Rattle.lfs_script.specs.Taking.{HasTaken, most_lines}
use Rattle.lfs_audit.proofs.ReadingLemmas.{read_done, read_failed, read_fault_of_line, read_more}
use Rattle.lfs_audit.proofs.run.read_plan.Goals as goal

pub returns-in_err-advance-clause-fault : goal.returns-in_err-advance-clause-fault
returns-in_err-advance-clause-fault g c =
    let remaining = g.R.Read.remaining in
    let exit = err_from_is_err_and c.from_residual.result c.from_residual.ensures.1 in
    rw exit.1
    (read_failed (remaining c.args.reader.now) (remaining c.loop-parser.reader) (remaining c.advance.new.reader)
    c.loop-parser.pieces.total c.loop-parser.parser c.in_err-advance.field-0.0 exit.0 c.loop-parser.invariant
    c.in_err-advance.ensures.fault exit.2)

pub loop-parser-preserved : goal.loop-parser-preserved
loop-parser-preserved g c =
    let remaining = g.R.Read.remaining in
    let parser = c.loop-parser.parser in
    let next = c.advance.new.self in
    let counted : most_lines c.take.new.self ≤ most_lines parser + length next.piece =
    omega (arith, c.in_ok-take.ensures.counted, ap length c.piece.ensures) in
    read_more (remaining c.args.reader.now) (remaining c.loop-parser.reader) (remaining c.advance.new.reader)
    c.loop-parser.pieces.total parser c.take.new.self next c.loop-parser.invariant
    (rw c.if-branch.true at c.in_ok-advance.ensures.next) c.in_ok-advance.ensures.bounded
    (λ text has. subst (λ (l : List ℕ). HasTaken (text ++ l) c.take.new.self) c.piece.ensures
    (c.in_ok-take.ensures.taken text has)) counted

pub returns-in-Ok-clause-plan : goal.returns-in-Ok-clause-plan
returns-in-Ok-clause-plan g c =
    let remaining = g.R.Read.remaining in
    read_done (remaining c.args.reader.now) (remaining c.loop-parser.reader) (remaining c.advance.new.reader)
    c.loop-parser.pieces.total c.loop-parser.parser c.advance.new.self c.in-Ok.plan c.loop-parser.invariant
    (rw c.if-branch.false at c.in_ok-advance.ensures.next) c.in-Ok.ensures

pub returns-in-Err-clause-fault : goal.returns-in-Err-clause-fault
returns-in-Err-clause-fault g c =
    let remaining = g.R.Read.remaining in
    read_fault_of_line (remaining c.args.reader.now) (remaining c.loop-parser.reader) (remaining c.advance.new.reader)
    c.loop-parser.pieces.total c.loop-parser.parser c.advance.new.self c.in-Err.fault c.loop-parser.invariant
    (rw c.if-branch.false at c.in_ok-advance.ensures.next) c.in-Err.ensures
