use Rattle.std.proofs.Common.{refl}
use Rattle.std.proofs.lemmas.Result.{on_ok_weaker}
use Rattle.lfs_film.specs.declared.blocks.TheConstants.{BLOCKS}
use Rattle.lfs_film.specs.declared.checks.TheConstants.{CHECKS}
use Rattle.lfs_film.specs.declared.script.TheConstants.{SCRIPT}
use Rattle.lfs_film.proofs.FilmLemmas.{parts_written}
use Rattle.lfs_film.proofs.page.write_shown.Goals as goal

pub returns : goal.returns
returns g c =
    on_ok_weaker c.write_text-3.result
    (parts_written (g.W.Write.contents c.args.writer.now) (g.W.Write.contents c.write_text.new.writer)
    (g.W.Write.contents c.write_text-2.new.writer)
    (g.W.Write.contents c.write_text-3.new.writer) BLOCKS.now CHECKS.now CHECKS.now SCRIPT.now
    c.in_ok-write_text.ensures
    refl c.in_ok-write_text-2.ensures)
    c.write_text-3.ensures
