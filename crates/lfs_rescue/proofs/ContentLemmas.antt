-- What is recovered is made of what recovery finds, where nothing is left over in it (`makes_it`).
use Rattle.std.proofs.Common.{◌∙◌, ℕ, ◌*◌, ◌<◌, Option, Some, subst, arith}
use Rattle.lfs_segments.specs.Memory.{SegmentMemory}
use Rattle.lfs_ifile.specs.declared.inode.InodePlace.{InodePlace}
use Rattle.lfs_ifile.specs.Tables.{place_of}
use Rattle.lfs_log.specs.Parts.{LogParts}
use Rattle.lfs_image.specs.Image.{IsLabelled}
use Rattle.lfs_durable.specs.Contents.{IsMadeOf}
use Rattle.lfs_rescue.specs.Recovering.{HasNewest, IsLeftOver, IsRecovered}

pub makes_it : (m : SegmentMemory) (l : LogParts) → IsRecovered m l → IsLabelled l
    → ((address : ℕ) → address < m.segments * 64 → IsLeftOver m l address → ⊥) → IsMadeOf m l
makes_it m l r labelled none = record {
  places = r.places;
  newest = record { each = r.newest };
  named = r.named;
  placed = λ n at s low is newest.
      let h : HasNewest (Some at) (Some s) = subst (λ (o : Option InodePlace). HasNewest o (Some s)) is
      (subst (HasNewest (place_of l.tables n)) newest (r.placed n low)) in (h.0, h.1.0);
  last = r.last;
  logged = r.logged;
  latest = r.latest;
  kept = λ address low before. (r.kept address low).same
      (λ behind. before (behind.0 ∙ r.ends.active, let end = r.ends.end in let past = behind.1 in omega arith))
      (none address low);
  labelled = labelled;
}
