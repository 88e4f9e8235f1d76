-- Bytes with a fault are the image of no volume: `no_volume`, for `check_volume`. Bytes are the image of at most one
-- log (`one_image`), so the log in which a fault was found is the one of which a volume would be; a fault of the image
-- is one that a volume's image lacks, and a fault of the tree is one of a content that shows no world. For the same
-- reason what was found of the bytes holds of the log that is loaded from them (`same_volume`).
use Rattle.std.proofs.Common.{◌≡◌, ℕ, List, length, IsSome, refl, sym, ap, subst, inl, inr, false}
use Rattle.std.proofs.lemmas.Bool.{cases_lt, false≢true}
use Rattle.std.proofs.lemmas.List.{get_or_past}
use Rattle.lfs_types.specs.declared.level.Level.{Level}
use Rattle.lfs_ifile.specs.Inode.{fresh_row}
use Rattle.lfs_ifile.specs.Tables.{row_of}
use Rattle.lfs_log.specs.Parts.{LogParts}
use Rattle.lfs_parts.specs.declared.parts.Parts.{Parts}
use Rattle.lfs_parts.specs.Files.{content_of}
use Rattle.lfs_parts.proofs.FileLemmas.{free_shown}
use Rattle.lfs_logstore.specs.States.{state_of}
use Rattle.lfs_calls.specs.Volumes.{HasWorld}
use Rattle.lfs_fsck.specs.Stored.{IsStored, flushed, stored}
use Rattle.lfs_image.specs.Image.{IsImageOf, IsLabelled}
use Rattle.lfs_trees.specs.Faults.{IsBelow}
use Rattle.lfs_trees.proofs.Refuting.{no_world}
use Rattle.lfs_image.proofs.ImageLemmas.{no_image, one_image}
use Rattle.lfs_checking.proofs.StandingLemmas.{flushed_world}
use Rattle.lfs_checking.specs.declared.fault.VolumeFault.{VolumeFault}
use Rattle.lfs_checking.specs.declared.fault.VolumeFault.TheVariants.{Image, Tree, Memory}
use Rattle.lfs_checking.specs.Volumes.{IsVolume, IsVolumeFaultOf}

pub no_volume : (bytes : List ℕ) (fault : VolumeFault) → IsVolumeFaultOf bytes fault → (fault ≡ Memory → ⊥)
    → (l : LogParts) (level : Level)
    → IsVolume bytes l level → ⊥
no_volume bytes (Image fault) (not_memory, is) other l level v =
    no_image bytes fault is not_memory l level v.stored v.labelled v.image.spelled
no_volume bytes (Tree fault) (not_memory, has) other l level v =
    let same : has.log ≡ l = (one_image bytes has.log l has.level level has.image v.image).0 in
    no_world (state_of (flushed has.log)) fault has.is not_memory
    (subst (λ m. HasWorld (state_of (flushed m))) (sym same) v.world)
no_volume bytes Memory is other l level v = other refl

-- each number in use has a row
pub below_rows : (p : Parts) → IsBelow (length p.log.tables.rows) (content_of p)
below_rows p n used =
    elim (cases_lt n (length p.log.tables.rows)) [
      | inl inside ↦ inside
      | inr past ↦
          let free : (row_of p.log.tables n).used ≡ false =
          ap (λ row. row.used) (get_or_past p.log.tables.rows n fresh_row past) in
          absurd (false≢true (subst (λ found. IsSome found) (free_shown p n free) used))
    ]

-- the number of frames makes no difference to what is shown
pub same_world : (l : LogParts) (n : ℕ) → HasWorld (state_of (flushed l)) → HasWorld (state_of (stored n l))
same_world l n world = flushed_world (flushed l) n (record { no_record = refl; no_frame = refl }) world

-- what was found of the image of one log is so of what is loaded from it
pub same_volume : (bytes : List ℕ) (l m : LogParts) (a b : Level) → IsVolume bytes l a → IsImageOf bytes m b
    → IsVolume bytes m b
same_volume bytes l m a b v image =
    let same : l ≡ m = (one_image bytes l m a b v.image image).0 in
    record {
      image = image;
      labelled = subst IsLabelled same v.labelled;
      stored = subst IsStored same v.stored;
      world = subst (λ p. HasWorld (state_of (flushed p))) same v.world;
    }
