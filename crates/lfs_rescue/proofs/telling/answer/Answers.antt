use Rattle.std.proofs.Common.{List, ℕ, subst}
use Rattle.std.specs.Io.KnownBytes.{Appends}
use Rattle.std.proofs.KnownBytes.{Appends-kept}
use Rattle.lfs_rescue.specs.Ends.{IsAskedVerdict}
use Rattle.lfs_rescue.proofs.telling.answer.Goals as goal

pub returns-clause-answered : goal.returns-clause-answered
returns-clause-answered g c =
    let told = c.in_ok-finding.finding in
    let contents = g.F.File.Write.contents in
    let remaining = g.F.File.Read.remaining in
    let before = g.W.Write.contents c.args.writer.now in
    let between = g.W.Write.contents c.write_text.new.writer in
    let after = g.W.Write.contents c.flush.new.writer in
    let wrote = subst (λ bs. Appends before between bs) c.as_slice.ensures.value c.in_ok-write_text.ensures in
    record {
      bytes = c.in_ok-bytes.bytes.items;
      read = c.in_ok-bytes.ensures.whole;
      text = told.text.items;
      verdict = subst (λ (bs : List ℕ). IsAskedVerdict contents remaining c.args.options.now bs told.status told.text.items)
          c.deref.ensures.value c.in_ok-finding.ensures.told;
      written = Appends-kept before between after told.text.items wrote c.in_ok-flush.ensures;
    }
