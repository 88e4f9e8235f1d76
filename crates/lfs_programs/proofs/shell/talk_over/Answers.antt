use Rattle.std.proofs.Common.{ap, false, is_some, refl, true}
use Rattle.lfs_programs.proofs.ShellLemmas.{ends_asked}
use Rattle.lfs_programs.proofs.shell.talk_over.Goals as goal

pub returns-in-Some : goal.returns-in-Some
returns-in-Some g c = ends_asked g.F.File.Write.contents true c.args.means.now.options.shares
    c.args.means.now.options.serials c.args.means.now.options _ _ _ _ _ _ _ _ _ _ (ap is_some c.in-Some.is) refl refl
    c.talk_on_disk.ensures

pub returns-then-means : goal.returns-then-means
returns-then-means g c = ends_asked g.F.File.Write.contents false true c.args.means.now.options.serials
    c.args.means.now.options _ _ _ _ _ _ _ _ _ _ (ap is_some c.in_default.is) c.if-means.true refl c.talk_in.ensures

pub returns-then-means-2 : goal.returns-then-means-2
returns-then-means-2 g c = ends_asked g.F.File.Write.contents false false true c.args.means.now.options
    _ _ _ _ _ _ _ _ _ _ (ap is_some c.in_default.is) c.if-means.false c.if-means-2.true c.talk_in-then-means-2.ensures

pub returns-else-means-2 : goal.returns-else-means-2
returns-else-means-2 g c = ends_asked g.F.File.Write.contents false false false c.args.means.now.options
    _ _ _ _ _ _ _ _ _ _ (ap is_some c.in_default.is) c.if-means.false c.if-means-2.false
    c.talk_in-else-means-2.ensures
