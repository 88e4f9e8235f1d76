use Rattle.std.proofs.Common.{OnOk, Option, subst, sym, ◌∙◌}
use Rattle.std.specs.Io.KnownBytes.{Appends}
use Rattle.lfs_terminal.specs.Painting.{painted}
use Rattle.lfs_terminal.specs.declared.painted.Colour.{Colour}
use Rattle.lfs_terminal.proofs.PaintingLemmas.{three_written}
use Rattle.lfs_terminal.proofs.painted.write_painted.Goals as goal

pub returns-in_ok-write_all-in-Some-2 : goal.returns-in_ok-write_all-in-Some-2
returns-in_ok-write_all-in-Some-2 g c =
    subst (λ (o : Option Colour). OnOk c.write_all-in-Some-2.result (Appends (g.W.Write.contents c.args.writer.now)
    (g.W.Write.contents c.write_all-in-Some-2.new.self) (painted o c.args.text.now)))
    (sym c.in-Some.is ∙ c.colour_of.ensures)
    (three_written _ _ _ _ _ _ _ _ _ c.write_all-in-Some-2.result c.escape.ensures c.reset.ensures
    c.in_ok-write_all-in-Some.ensures.bytes c.in_ok-write_all-in-Some-2.ensures.bytes
    c.write_all-in-Some-2.ensures.bytes)
