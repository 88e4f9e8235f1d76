-- What a SetLength may be answered, and what it leaves: `can_cut` for `cut`, `cut_volume` for `set_length`. The store
-- is asked for two changes at one number, the length and a mode, and both may be asked of a file that is no directory
-- and whose new length fits. Bytes of a new length have that length (`length-resized`), so the store then shows the
-- file cut as the rules say, and all others as before (ChangeLemmas).
use Rattle.std.proofs.Common.{◌≡◌, ℕ, ◌≤◌, false, List, [], ◌∷◌, length, Some, refl, subst, arith}
use Rattle.lfs_types.specs.Caller.{Caller}
use Rattle.lfs_types.specs.Changes.{CanApply}
use Rattle.lfs_types.specs.Kinds.{is_directory_kind}
use Rattle.lfs_types.specs.Splicing.{resized}
use Rattle.lfs_types.specs.Stored.{shown_attrs}
use Rattle.lfs_types.specs.Tree.{Content}
use Rattle.lfs_types.specs.declared.attrs.Attrs.{Attrs}
use Rattle.lfs_types.specs.declared.store.Change.TheVariants.{SetAttrs, SetLength}
use Rattle.lfs_calls.specs.declared.walking.Reached.{Reached}
use Rattle.lfs_model.specs.Effects.{with_change, cut}
use Rattle.lfs_calls.specs.Writes.{ChangesBytes}
use Rattle.lfs_calls.specs.Reaches.{Reaches}
use Rattle.lfs_calls.specs.Volumes.{InWorld, IsVolume}
use Rattle.lfs_calls.proofs.StateLemmas.{same_content}
use Rattle.lfs_types.specs.StoreStates.{StoreState}
use Rattle.lfs_model.proofs.Deciding.{walked-reached}
use Rattle.std.proofs.Common.{Ok}
use Rattle.lfs_types.specs.Tree.{root}
use Rattle.lfs_calls.proofs.ChangeLemmas.{bytes_shows, bytes_tree, stored, can_set_mode, may_have}
use Rattle.lfs_types.proofs.Pieces.{length-resized}
use Rattle.lfs_types.proofs.Somewhere.{is_some_and}
use Rattle.lfs_types.specs.declared.limits.TheConstants.{FILE_BYTES}
use Rattle.lfs_calls.proofs.StepLemmas.{shown_file}

-- ---- what a store is asked

module _ (c : Content) (n : ℕ) (a : Attrs) (shown : Some a ≡ shown_attrs c n) (caller : Caller) (len : ℕ)
    (regular : is_directory_kind a.kind ≡ false) (fits : len ≤ FILE_BYTES) where
  abbrev by : List ℕ → List ℕ
  by old = resized old len

  -- a store may be asked for the length and a mode
  pub can_cut : (numbers mode : ℕ) → CanApply numbers (SetLength n len ∷ SetAttrs n (record a { mode = mode }) ∷ []) c
  can_cut numbers mode = record {
    few = omega arith;
    few_puts = omega arith;
    few_lengths = omega arith;
    few_bytes = omega arith;
    each = (
      is_some_and _ (stored c n a shown caller by) (may_have c n a shown caller by regular len fits),
      (can_set_mode c n a shown caller by mode, tt),
    );
  }

-- ---- the world after it

-- the store that has the cut file shows it
pub cut_volume : {s mid : StoreState} (new : StoreState) (caller : Caller) (path : List (List ℕ)) (same : mid ≡ s)
    (file : Reached) (leads : InWorld s (λ w. Reaches s.content w.rows caller 0 path (Ok file)))
    (len : ℕ) → is_directory_kind file.attrs.kind ≡ false → len ≤ FILE_BYTES
    → ChangesBytes mid.content new.content file.number caller (λ old. resized old len)
    → InWorld s (λ w. IsVolume new (with_change w path (cut caller len)))
cut_volume {s} {mid} new caller path same file leads len regular fits changes w v =
    let r = leads w v in
    let object = walked-reached w.rows caller 0 0 root path file.number r.0 in
    let old = (shown_file s.content file.number file.attrs r.1).file.bytes in
    let here = subst (λ (c : Content). ChangesBytes c new.content file.number caller (λ old. resized old len))
    (same_content same) changes in
    let short : length (resized old len) ≤ FILE_BYTES = rw (length-resized old len) fits in
    record {
      shows = bytes_shows s.content w v.shows path file.number file.attrs object r.1 regular new.content v.tree caller _
          here (cut caller len) refl short;
      tree = bytes_tree s.content w v.shows path file.number file.attrs object r.1 regular new.content v.tree caller _
          here (cut caller len) refl short;
    }
