use Rattle.std.proofs.lemmas.Result.{err_from_is_err_and}
use Rattle.lfs_programs.proofs.VolumeLemmas.{heard_shown, so_far_shown}
use Rattle.lfs_programs.proofs.filming.hear_over.Goals as goal

pub returns-clause-heard : goal.returns-clause-heard
returns-clause-heard g c = heard_shown g.F.File.Write.contents _ _ c.args.means.now.options _ c.args.tended.now
    c.show.new.self c.talk.new.tended c.keep-is_saved.new.tended _ _ _ _ c.show.ensures c.in_ok-has_fault.ensures.written
    (λ kept. (c.keep-is_saved.ensures.saved kept, c.keep-is_saved.ensures.written kept)) c.keep-is_saved.ensures.same

pub returns-in_err-has_fault-clause-so_far : goal.returns-in_err-has_fault-clause-so_far
returns-in_err-has_fault-clause-so_far g c =
    let exit = err_from_is_err_and c.from_residual.result c.from_residual.ensures.1 in
    rw (exit.1, exit.2)
    (λ is. so_far_shown _ c.args.means.now.options.framing _ c.args.tended.now c.show.new.self c.talk.new.tended _ _ _ _
    c.show.ensures (c.in_err-has_fault.ensures.so_far is))
