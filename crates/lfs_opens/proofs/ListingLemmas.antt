-- The entries that a listing tells, one behind another: `listed_start` where it begins, `listed_more` behind an entry that
-- fits, `listed_full` before one that doesn't, and `listed_past` and `listed_end` behind the last. `told_more` and
-- `told_full` say that of an entry that `listed` adds if it fits.
use Rattle.std.proofs.Common.{◌≡◌, ℕ, ◌+◌, ◌<◌, ◌≤◌, ◌⊎◌, List, [], ◌∷◌, ◌++◌, length, refl, sym, ap, subst, suc, ◌∙◌, inl, inr, arith}
use Rattle.std.specs.Prelude.{drop, true, false, min, Some}
use Rattle.std.specs.List.{slice_get}
use Rattle.std.proofs.lemmas.Bool.{cases_order, cond-true, cond-false}
use Rattle.std.proofs.lemmas.List.{drop_all, drop_more}
use Rattle.std.proofs.lemmas.Option.{get_or_from_slice_get, slice_get_within}
use Rattle.lfs_fuse_reply.specs.Listings.{fits_in, listed}
use Rattle.lfs_opens.specs.Listing.{all_names, entry_bytes, listed_on, listing_of}

pub listed_past : (most place : ℕ) (all : List (List ℕ)) (listing : List ℕ) → length all ≤ place
    → listed_on most place (drop place all) listing ≡ listing
unfolding listed_on
listed_past most place all listing past = rw (drop_all place all past) refl

starts : (most start offset : ℕ) (all : List (List ℕ)) → start ≡ min offset (length all)
    → (offset ≡ length all) ⊎ ((offset < length all) ⊎ (length all < offset))
    → listed_on most start (drop start all) [] ≡ listed_on most offset (drop offset all) []
starts most start offset all is (inl same) =
    let e : start ≡ offset = omega (arith, is, same) in
    ap (λ k. listed_on most k (drop k all) []) e
starts most start offset all is (inr (inl low)) =
    let e : start ≡ offset = omega (arith, is, low) in
    ap (λ k. listed_on most k (drop k all) []) e
starts most start offset all is (inr (inr high)) =
    listed_past most start all [] (omega (arith, is, high)) ∙ sym (listed_past most offset all [] (omega (arith, high)))

two_more : (end : ℕ) (names : List (List ℕ)) → end ≡ length names + 2 → end ≡ length (all_names names)
two_more end names is =
    let two : length names + 2 ≡ suc (suc (length names)) = omega arith in
    is ∙ two

pub listed_start : (most start offset end : ℕ) (names : List (List ℕ)) → end ≡ length names + 2
    → start ≡ min offset end → listed_on most start (drop start (all_names names)) [] ≡ listing_of names offset most
listed_start most start offset end names size is =
    starts most start offset (all_names names) (is ∙ ap (λ n. min offset n) (two_more end names size))
    (cases_order offset (length (all_names names)))

pub listed_end : (most place end : ℕ) (names : List (List ℕ)) (listing : List ℕ) → end ≡ length names + 2
    → end ≤ place → listed_on most place (drop place (all_names names)) listing ≡ listing
listed_end most place end names listing size past =
    listed_past most place (all_names names) listing (subst (λ n. n ≤ place) (two_more end names size) past)

module _ (most place : ℕ) (all : List (List ℕ)) (name listing : List ℕ) (here : slice_get all place ≡ Some name) where
  behind : drop place all ≡ name ∷ drop (place + 1) all
  behind = drop_more all place [] (slice_get_within all place name here)
      ∙ ap (λ n. n ∷ drop (place + 1) all) (get_or_from_slice_get all place name [] here)

  pub listed_more : fits_in most listing (entry_bytes place name) ≡ true
      → listed_on most place (drop place all) listing
      ≡ listed_on most (place + 1) (drop (place + 1) all) (listing ++ entry_bytes place name)
  unfolding listed_on
  listed_more fits = ap (λ ns. listed_on most place ns listing) behind ∙ cond-true _ _ _ fits

  pub listed_full : fits_in most listing (entry_bytes place name) ≡ false
      → listed_on most place (drop place all) listing ≡ listing
  unfolding listed_on
  listed_full full = ap (λ ns. listed_on most place ns listing) behind ∙ cond-false _ _ _ full

  -- the entry, as its fields tell it, was added if it fits
  module _ (entry more whole : List ℕ) (is : entry ≡ entry_bytes place name) (added : more ≡ listed most listing entry)
      (told : listed_on most place (drop place all) listing ≡ whole) where
    pub told_more : fits_in most listing entry ≡ true
        → listed_on most (place + 1) (drop (place + 1) all) more ≡ whole
    told_more fits =
        ap (λ l. listed_on most (place + 1) (drop (place + 1) all) l)
        (added ∙ cond-true _ _ _ fits ∙ ap (λ e. listing ++ e) is)
        ∙ sym (listed_more (ap (λ e. fits_in most listing e) (sym is) ∙ fits)) ∙ told

    pub told_full : fits_in most listing entry ≡ false → more ≡ whole
    told_full full =
        added ∙ cond-false _ _ _ full ∙ sym (listed_full (ap (λ e. fits_in most listing e) (sym is) ∙ full)) ∙ told
