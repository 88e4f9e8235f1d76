-- What is told of a volume that is found: `found_is` and `found_at` for `found`, `found_verdict` and `lost_verdict` for
-- `finding`. A store over which nothing waits is the one that its log alone tells, so what holds of the one holds of the
-- other.
use Rattle.std.proofs.Common.{◌≡◌, ℕ, List, ◌++◌, Option, None, Some, inl, inr, refl, sym, ap, subst, ◌∙◌}
use Rattle.std.specs.Prelude.{IfSome, codes}
use Rattle.lfs_types.specs.declared.level.Level.TheVariants.{HighlySecure}
use Rattle.lfs_parts.specs.declared.parts.Parts.{Parts}
use Rattle.lfs_logstore.specs.States.{state_of}
use Rattle.lfs_calls.specs.Volumes.{HasWorld}
use Rattle.lfs_view.specs.SpaceText.{space_text}
use Rattle.lfs_checking.specs.Files.{HasImage}
use Rattle.lfs_auditing.specs.declared.placing.Place.{Place}
use Rattle.lfs_rescue.specs.Blocks.{FindsAllIn, IsFindableIn, IsFound, IsLost, IsRescueVerdict}
use Rattle.lfs_rescue.specs.Placing.{IsFoundAt, IsFoundBy, IsFoundStore, IsPlacedByFile, IsRecoverBy, place_status, place_text}

module _ {F S : Type 0} (contents remaining : F → Option (List ℕ)) (save : Option S) (bytes head : List ℕ) (store : Parts)
    (is : IsFoundStore bytes store) (told : head ≡ codes "ok\n" ++ space_text store)
    (kept : IfSome save (λ _. HasImage contents store.log HighlySecure)) where
  abbrev pub found_is : IsFound contents save bytes head
  found_is = record {
    log = store.log;
    found = is.found;
    stored = is.is_stored;
    labelled = is.labelled;
    world = subst (λ (p : Parts). HasWorld (state_of p)) is.flushed is.world;
    content = subst (λ (p : Parts). FindsAllIn bytes p) is.flushed is.content;
    findable = subst (λ (p : Parts). IsFindableIn bytes p) is.flushed is.findable;
    told = told ∙ ap (λ (p : Parts). codes "ok\n" ++ space_text p) is.flushed;
    kept = kept;
  }

  pub found_at : (place : Place) (status : ℕ) (text : List ℕ) → IsPlacedByFile remaining (state_of store) place
      → (status ≡ place_status place) × (text ≡ head ++ place_text place)
      → IsFoundAt contents remaining save bytes status text
  found_at place status text placed at = record {
    head = head;
    found = found_is;
    place = place;
    placed = subst (λ (p : Parts). IsPlacedByFile remaining (state_of p) place) is.flushed placed;
    status_is = at.0;
    told = at.1;
  }

module _ {F S J : Type 0} (contents remaining : F → Option (List ℕ)) (save : Option S) (bytes : List ℕ) (status : ℕ)
    (text : List ℕ) where
  pub found_verdict : (journal : Option J) → IsFoundBy contents remaining save journal bytes status text
      → IsRecoverBy contents remaining save journal bytes status text
  found_verdict None is = subst (λ n. IsRescueVerdict contents save bytes n text) (sym is.0) is.1
  found_verdict (Some path) is = inl is

  pub lost_verdict : (journal : Option J) → status ≡ 1 → IsLost bytes text
      → IsRecoverBy contents remaining save journal bytes status text
  lost_verdict None one lost = subst (λ n. IsRescueVerdict contents save bytes n text) (sym one) (refl, lost)
  lost_verdict (Some path) one lost = inr (one, lost)
