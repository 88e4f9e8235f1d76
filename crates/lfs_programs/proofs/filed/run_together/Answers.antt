use Rattle.std.proofs.Common.{false, true, refl}
use Rattle.std.proofs.lemmas.Result.{err_from_is_err_and}
use Rattle.lfs_audit.proofs.FaultLemmas.{split_cause}
use Rattle.lfs_programs.proofs.FiledLemmas.{broken_together, filed_together, keeps_same}
use Rattle.lfs_programs.proofs.filed.run_together.Goals as goal

pub returns-in_err-sessions-clause-failed : goal.returns-in_err-sessions-clause-failed
returns-in_err-sessions-clause-failed g c =
    let exit = err_from_is_err_and c.from_residual.result c.from_residual.ensures.1 in
    let options = c.args.run.options in
    let p = options.params in
    let known = g.R.Read.remaining c.args.reader.now in
    let start = g.W.Write.contents c.args.stdout.now in
    rw (exit.1, exit.2)
    (λ some. broken_together g.F.File.Write.contents options known start start c.args.stdout.now c.args.stdout.now _
    c.requires (split_cause known p.segments p.inodes p.frames _ c.in_err-sessions.ensures.fault)
    (λ _. keeps_same start))

pub returns-in_err-file-clause-failed : goal.returns-in_err-file-clause-failed
returns-in_err-file-clause-failed g c =
    let residual = c.from_residual-in_err-file in
    let exit = err_from_is_err_and residual.result residual.ensures.1 in
    rw (exit.1, exit.2) (λ some. (some, refl))

pub returns-in_err-run_sessions-clause-failed : goal.returns-in_err-run_sessions-clause-failed
returns-in_err-run_sessions-clause-failed g c =
    let residual = c.from_residual-in_err-run_sessions in
    let exit = err_from_is_err_and residual.result residual.ensures.1 in
    let known = g.R.Read.remaining c.args.reader.now in
    let late = c.in_err-run_sessions.ensures in
    rw (exit.1, exit.2)
    (λ some. broken_together g.F.File.Write.contents c.args.run.options known (g.W.Write.contents c.args.stdout.now)
    (g.W.Write.contents c.run_sessions.new.writer) c.args.stdout.now c.run_sessions.new.writer _ c.requires
    (late.fault known c.in_ok-sessions.ensures.split) late.unwritten)

pub returns-in-None-clause-done : goal.returns-in-None-clause-done
returns-in-None-clause-done g c =
    let known = g.R.Read.remaining c.args.reader.now in
    let ran = c.in_ok-run_sessions.ensures.written in (
      filed_together g.F.File.Write.contents (λ s. s.writer) (λ s. s.next) c.args.run.options known
          (g.W.Write.contents c.args.stdout.now) (g.W.Write.contents c.run_sessions.new.writer) c.new-sink.result
          c.run_sessions.new.sink ran.0 ran.1 true c.requires (ran.2 known c.in_ok-sessions.ensures.split) ran.3
          c.new-sink.ensures.first (λ _. ran.4 c.in-None.is),
      refl,
    )

pub returns-clause-failed : goal.returns-clause-failed
returns-clause-failed g c = λ some.
    let known = g.R.Read.remaining c.args.reader.now in
    let ran = c.in_ok-run_sessions.ensures.written in (
      some,
      filed_together g.F.File.Write.contents (λ s. s.writer) (λ s. s.next) c.args.run.options known
          (g.W.Write.contents c.args.stdout.now) (g.W.Write.contents c.run_sessions.new.writer) c.new-sink.result
          c.run_sessions.new.sink ran.0 ran.1 false c.requires (ran.2 known c.in_ok-sessions.ensures.split) ran.3
          c.new-sink.ensures.first (λ is. absurd (cc)),
    )
