use Rattle.std.proofs.Common.{List, ℕ, OnOk, subst}
use Rattle.std.specs.Io.KnownBytes.{Appends}
use Rattle.lfs_film.proofs.FilmLemmas.{page_bounded, page_same}
use Rattle.lfs_film.proofs.film.Film.write_page.Goals as goal

pub returns : goal.returns
returns g c = record {
  written =
      subst (λ (text : List ℕ). OnOk c.write_parts.result
      (Appends (g.W.Write.contents c.args.writer.now) (g.W.Write.contents c.write_parts.new.writer) text))
      (page_same c.args.self.now _ c.as_slice.result.now c.self.view_is c.as_slice.ensures.value) c.write_parts.ensures;
  bounded = page_bounded c.args.self.now _ c.self.view_is c.self.invariant;
}
