use Rattle.std.proofs.Common.{subst}
use Rattle.std.specs.Io.KnownBytes.{Appends}
use Rattle.std.proofs.KnownBytes.{Appends-kept}
use Rattle.lfs_checking.proofs.saving.save_volume.Goals as goal

pub returns : goal.returns
returns g c =
    let before = g.W.Write.contents c.args.writer.now in
    let between = g.W.Write.contents c.write_text.new.writer in
    let after = g.W.Write.contents c.flush.new.writer in
    let wrote = subst (λ bs. Appends before between bs) c.as_slice.ensures.value c.in_ok-write_text.ensures in
    subst (λ bs. Appends before after bs) c.in_ok-image.ensures
    (Appends-kept before between after c.in_ok-image.image.items wrote c.in_ok-flush.ensures)
