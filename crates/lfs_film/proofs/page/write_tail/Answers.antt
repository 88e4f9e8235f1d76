use Rattle.std.proofs.Common.{refl}
use Rattle.std.proofs.lemmas.Result.{on_ok_weaker}
use Rattle.lfs_film.specs.Films.{code_text}
use Rattle.lfs_film.specs.declared.page.TheConstants.{CODE, TAIL}
use Rattle.lfs_film.proofs.FilmLemmas.{parts_written}
use Rattle.lfs_film.proofs.page.write_tail.Goals as goal

pub returns : goal.returns
returns g c =
    on_ok_weaker c.write_text-2.result
    (parts_written (g.W.Write.contents c.args.writer.now) (g.W.Write.contents c.write_text.new.writer)
    (g.W.Write.contents c.write_code.new.writer)
    (g.W.Write.contents c.write_text-2.new.writer) CODE.now code_text code_text TAIL.now c.in_ok-write_text.ensures refl
    c.in_ok-write_code.ensures)
    c.write_text-2.ensures
