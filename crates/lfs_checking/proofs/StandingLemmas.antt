-- The image of a store of which nothing waits is that of a volume: `flushed_now`, `flushed_volume`, `well_told` and
-- `flushed_told`, for `check_store`. If no record and no block waits, all that the store has stands in its log, so a
-- store over this log has the same content and shows the same world (`flushed_world`). A log has one image and bytes
-- are the image of one log, so a verdict on these bytes is on this log; and it can't be a fault, as that would say that
-- they are no volume.
use Rattle.std.proofs.Common.{◌≡◌, ℕ, zero, suc, ◌||◌, Bool, true, false, List, [], ◌∷◌, length, refl, sym, ap, subst}
use Rattle.std.proofs.Common.{None, ◌∙◌, arith}
use Rattle.std.specs.Prelude.{nat_lt}
use Rattle.std.proofs.lemmas.Bool.{false≢true, lt-ltb}
use Rattle.lfs_types.specs.Ranges.{least_frames}
use Rattle.lfs_types.specs.declared.level.Level.{Level}
use Rattle.lfs_parts.specs.declared.parts.Parts.{Parts}
use Rattle.lfs_parts.specs.Files.{content_of}
use Rattle.lfs_parts.specs.Store.{IsFlushed, IsStore}
use Rattle.lfs_parts.proofs.SameContentLemmas.{content_of-same}
use Rattle.lfs_logstore.specs.States.{shape_of, state_of}
use Rattle.lfs_calls.specs.Volumes.{HasWorld}
use Rattle.lfs_fsck.specs.Stored.{stored}
use Rattle.lfs_image.specs.Image.{IsImageOf, IsLabelled, image_bytes}
use Rattle.lfs_image.proofs.ImageLemmas.{one_image}
use Rattle.lfs_checking.proofs.FlushedLemmas.{flushed_files, flushed_stored}
use Rattle.lfs_checking.specs.Standing.{check_text, waits}
use Rattle.lfs_checking.specs.Volumes.{IsVerdict, IsVolume, well_text}

no_length : {A : Type 0} (xs : List A) → nat_lt 0 (length xs) ≡ false → xs ≡ []
no_length [] none = refl
no_length (x ∷ xs) none = absurd (false≢true (sym none ∙ lt-ltb 0 (length (x ∷ xs)) (omega arith)))

neither : (a b : Bool) → (a || b) ≡ false → (a ≡ false) × (b ≡ false)
neither true b none = absurd (cc)
neither false b none = (refl, none)

-- nothing waits
pub flushed_now : (p : Parts) → waits p ≡ false → IsFlushed p
flushed_now p none =
    let both = neither (nat_lt 0 (length p.cache.locked)) (nat_lt 0 (length p.waiting)) none in
    record { no_record = no_length p.waiting both.1; no_frame = no_length p.cache.locked both.0 }

-- what such a store shows, one over its log shows
pub flushed_world : (p : Parts) (frames : ℕ) → IsFlushed p → HasWorld (state_of p)
    → HasWorld (state_of (stored frames p.log))
flushed_world p frames done world =
    let same : content_of (stored frames p.log) ≡ content_of p =
    content_of-same p (stored frames p.log) refl (λ k low. flushed_files p done frames k) in
    subst (λ c. HasWorld (record {
      content = c;
      clean = p.log.clean;
      shape = shape_of (length p.log.tables.rows) p.log.memory.segments;
      base = None;
    })) (sym same) world

pub flushed_volume : (p : Parts) (level : Level) → IsFlushed p → IsStore p → HasWorld (state_of p) → IsLabelled p.log
    → IsVolume (image_bytes p.log level) p.log level
flushed_volume p level done store world labelled = record {
  image = record { parts = store.whole.parts; spelled = refl };
  labelled = labelled;
  stored = flushed_stored p done store;
  world = flushed_world p least_frames done world;
}

-- so the verdict on it is that it is well
pub well_told : (p : Parts) (level : Level) (bytes : List ℕ) (status : ℕ) (text : List ℕ)
    → bytes ≡ image_bytes p.log level → IsVolume (image_bytes p.log level) p.log level
    → IsVerdict bytes status text → text ≡ well_text p.log
well_told p level bytes zero text is volume verdict =
    let image : IsImageOf bytes p.log level = subst (λ b. IsImageOf b p.log level) (sym is) volume.image in
    let same : verdict.log ≡ p.log =
    (one_image bytes verdict.log p.log verdict.level level verdict.volume.image image).0 in
    verdict.told ∙ ap well_text same
well_told p level bytes (suc n) text is volume verdict =
    absurd (verdict.1.none p.log level (subst (λ b. IsVolume b p.log level) (sym is) volume))

pub flushed_told : (p : Parts) (text : List ℕ) → waits p ≡ false → text ≡ well_text p.log → text ≡ check_text p
flushed_told p text none is = rw none is
