use Rattle.std.proofs.Common.{ap, is_some, sym, ◌∙◌}
use Rattle.lfs_programs.proofs.ShellLemmas.{ends_file, ends_unopened}
use Rattle.lfs_programs.proofs.shell.talk_of.Goals as goal

pub returns-in-Ok-Some : goal.returns-in-Ok-Some
returns-in-Ok-Some g c =
    let named = sym (ap is_some c.in-Ok-Some.field-0-is) ∙ c.in-Ok-Some.ensures.opened in
    ends_file g.F.File.Write.contents c.args.means.now.options _ _ _ _
    c.in-Ok-Some.lines c.talk_over.new.reader c.args.streams.now.stdin c.args.streams.now.stdout c.talk_over.new.stdout _ _
    (g.F.File.Read.remaining c.in-Ok-Some.lines) named c.talk_over.ensures

pub returns-in-Err : goal.returns-in-Err
returns-in-Err g c = ends_unopened g.F.File.Write.contents c.args.means.now.options _ _ _ c.args.streams.now.stdin
    c.args.streams.now.stdout _ _ c.in-Err.ensures.named
