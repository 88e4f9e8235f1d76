use Rattle.std.proofs.lemmas.Result.{on_ok_weaker}
use Rattle.lfs_film.specs.Films.{seen_text, told_of}
use Rattle.lfs_film.specs.declared.page.TheConstants.{FRAMES}
use Rattle.lfs_film.proofs.FilmLemmas.{parts_written}
use Rattle.lfs_film.proofs.page.write_head.Goals as goal

pub returns : goal.returns
returns g c =
    on_ok_weaker c.write_text-2.result
    (parts_written (g.W.Write.contents c.args.writer.now) (g.W.Write.contents c.write_seen.new.writer)
    (g.W.Write.contents c.write_text.new.writer)
    (g.W.Write.contents c.write_text-2.new.writer) seen_text c.told_of.result.now
    (told_of c.args.is_full) FRAMES.now c.in_ok-write_seen.ensures c.told_of.ensures
    c.in_ok-write_text.ensures) c.write_text-2.ensures
