use Rattle.lfs_programs.proofs.ShellLemmas.{ends_unbegun}
use Rattle.lfs_programs.proofs.shell.talk_on_disk.Goals as goal

pub returns-in-Err : goal.returns-in-Err
returns-in-Err g c = ends_unbegun g.F.File.Write.contents _ c.args.means.now.options _ _ _ _ c.args.reader.now c.args.reader.now
    c.args.stdout.now c.args.stdout.now _ _ c.in-Err.fault c.in-Err.ensures.fault c.end_talk.ensures.status
