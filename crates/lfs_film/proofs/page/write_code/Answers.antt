use Rattle.std.proofs.KnownBytes.{Appends-trans}
use Rattle.std.proofs.lemmas.Result.{on_ok_weaker}
use Rattle.lfs_film.specs.Films.{shown_text, story_text}
use Rattle.lfs_film.proofs.page.write_code.Goals as goal

pub returns : goal.returns
returns g c =
    on_ok_weaker c.write_shown.result
    (Appends-trans (g.W.Write.contents c.args.writer.now) (g.W.Write.contents c.write_story.new.writer)
    (g.W.Write.contents c.write_shown.new.writer)
    story_text shown_text c.in_ok-write_story.ensures)
    c.write_shown.ensures
