use Rattle.std.proofs.Common.{refl}
use Rattle.lfs_programs.proofs.ShellLemmas.{ends_talk, ends_unmade}
use Rattle.lfs_programs.proofs.shell.talk_on.Goals as goal

pub returns-in-Ok : goal.returns-in-Ok
returns-in-Ok g c = ends_talk g.F.File.Write.contents _ c.args.means.now.options
    _ _ _ _ c.args.reader.now c.run-heard.new.reader c.args.stdout.now c.run-heard.new.stdout _ _ _
    c.run-heard.result c.finish-outcome.result
    c.run-heard.ensures.talked c.run-heard.ensures.silent c.run-heard.ensures.kept c.run-heard.ensures.saved
    c.run-heard.ensures.so_far c.run-heard.ensures.fault c.finish-outcome.ensures c.end_talk.ensures.status
    c.end_talk.ensures.silent

pub returns-in-Err : goal.returns-in-Err
returns-in-Err g c = ends_unmade g.F.File.Write.contents _ c.args.means.now.options _ _ _ 2 c.args.reader.now c.args.stdout.now
    _ _ refl c.in-Err.ensures.asked
