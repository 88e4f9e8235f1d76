-- How many entries of a journal are kept behind a call: `counted`, for `Logged::call` and `clean`. By what the store tells,
-- its base is whole, or as before, or what the store contained before the call (`by_mark`); so it shows the tree of all
-- entries, of those that were kept, or of those that there were before the call, and the call's own entry stands behind
-- them (`take_within`, `take_front`). Where the base is whole all are kept, and none has to be once they are handed out
-- (`counting_drained`, for `drain`).
use Rattle.std.proofs.Common.{◌≡◌, ℕ, zero, suc, ◌≤◌, Bool, true, false, List, [], ◌∷◌, ◌++◌, length, take}
use Rattle.std.proofs.Common.{refl, sym, ap, subst, inl, inr, ◌∙◌, arith}
use Rattle.std.proofs.lemmas.Bool.{false≢true}
use Rattle.std.proofs.lemmas.List.{length-append}
use Rattle.lfs_types.specs.StoreStates.{LeavesBase, MovesBase, Shape}
use Rattle.lfs_types.specs.Tree.{Content, World}
use Rattle.lfs_parts.specs.declared.parts.Parts.{Parts}
use Rattle.lfs_parts.specs.Files.{content_of}
use Rattle.lfs_logstore.specs.States.{state_of}
use Rattle.lfs_model.specs.declared.journal.Entry.{Entry}
use Rattle.lfs_model.specs.Steps.{world_after}
use Rattle.lfs_calls.specs.Content.{Shows}
use Rattle.lfs_calls.specs.Volumes.{IsVolume}
use Rattle.lfs_volume.specs.Journals.{Begins}
use Rattle.lfs_volume.specs.Seen.{Seen}
use Rattle.lfs_durable_store.specs.declared.mark.Mark.{Mark}
use Rattle.lfs_durable_store.specs.Keeping.{Durably, IsKept, durable_state}
use Rattle.lfs_logged.specs.Keeping.{IsCounting, KeepsCount, LoggedVolume, ShowsFirst, drained, kept_behind, kept_by}

-- ---- the first items of a list
pub take_front : {A : Type 0} (xs ys : List A) → take (length xs) (xs ++ ys) ≡ xs
take_front [] [] = refl
take_front [] (y ∷ ys) = refl
take_front (x ∷ xs) ys = ap (λ zs. x ∷ zs) (take_front xs ys)

pub take_all : {A : Type 0} (xs : List A) → take (length xs) xs ≡ xs
take_all [] = refl
take_all (x ∷ xs) = ap (λ zs. x ∷ zs) (take_all xs)

pub take_within : {A : Type 0} (n : ℕ) (xs ys : List A) → n ≤ length xs → take n (xs ++ ys) ≡ take n xs
take_within zero [] [] low = refl
take_within zero [] (y ∷ ys) low = refl
take_within zero (x ∷ xs) ys low = refl
take_within (suc n) [] ys low = absurd (omega arith)
take_within (suc n) (x ∷ xs) ys low = ap (λ zs. x ∷ zs) (take_within n xs ys (omega arith))

-- ---- a log store that contains what another does shows what that shows
pub shows_as : (p q : Parts) (w : World) → content_of p ≡ content_of q → IsVolume (state_of q) w → IsVolume (state_of p) w
shows_as p q w same v = record { shows = subst (λ (c : Content). Shows c w) (sym same) v.shows; tree = v.tree }

-- ---- a call, which entered something
module _ (old new : Seen Durably) (es : List Entry) (entered : new.journal ≡ old.journal ++ es)
    (shape : (durable_state new.store).shape ≡ (durable_state old.store).shape)
    (since : new.since ≡ old.since) (since_level : new.since_level ≡ old.since_level) where
  longer : length old.journal ≤ length new.journal
  longer = let more = ap length entered in let both = length-append old.journal es in omega arith

  shows_on : (count was : ℕ) (p q : Parts) → take count new.journal ≡ take was old.journal
      → content_of p ≡ content_of q → ShowsFirst old was q → ShowsFirst new count p
  shows_on count was p q same content shows = λ from begins.
      let at_level = subst (λ l. Begins (durable_state new.since) l from) since_level begins in
      let here = subst (λ (d : Durably). Begins (durable_state d) old.since_level from) since at_level in
      let v = shows from here in
      let numbers = ap (λ (s : Shape). s.numbers) (sym shape) in
      let world : world_after (durable_state old.store).shape.numbers (take was old.journal) from
      ≡ world_after (durable_state new.store).shape.numbers (take count new.journal) from =
      λ i. world_after (numbers i) ((sym same) i) from in
      subst (IsVolume (state_of p)) world (shows_as p q _ content v)

  module _ (kept : ℕ) (counting : IsCounting (record { volume = old; kept = kept })) (now : IsKept new.store)
      (all : ShowsFirst new (length new.journal) new.store.store) where
    -- so many are kept
    abbrev With : ℕ → Type 0
    With count = IsCounting (record { volume = new; kept = count })
        × KeepsCount (record { volume = old; kept = kept }) (record { volume = new; kept = count })

    -- the base contains what the store does
    all_kept : content_of new.store.base ≡ content_of new.store.store → With (length new.journal)
    all_kept same =
        let within = counting.within in
        let more = longer in (
          record {
            store = now;
            within = omega arith;
            base = λ from begins.
                shows_as new.store.base new.store.store _ same (all from begins);
            all = all;
          },
          record { grows = omega arith; either = inr (inr refl) },
        )

    -- the base stays
    same_kept : content_of new.store.base ≡ content_of old.store.base → With kept
    same_kept same =
        let within = counting.within in
        let more = longer in
        let first = ap (take kept) entered ∙ take_within kept old.journal es within in (
          record {
            store = now;
            within = omega arith;
            base = shows_on kept kept new.store.base old.store.base first same counting.base;
            all = all;
          },
          record { grows = omega arith; either = inl refl },
        )

    -- it is what the store contained before the call
    before_kept : content_of new.store.base ≡ content_of old.store.store → With (length old.journal)
    before_kept same =
        let within = counting.within in
        let first = ap (take (length old.journal)) entered ∙ take_front old.journal es ∙ sym (take_all old.journal) in (
          record {
            store = now;
            within = longer;
            base = shows_on (length old.journal) (length old.journal) new.store.base old.store.store first same counting.all;
            all = all;
          },
          record { grows = within; either = inr (inl refl) },
        )

    by_mark : (was_whole is_whole was is : Bool)
        → LeavesBase (content_of old.store.store) (content_of new.store.store)
        (record { content = content_of old.store.base; is_whole = was_whole; turn = was })
        (record { content = content_of new.store.base; is_whole = is_whole; turn = is })
        → (is_whole ≡ true → content_of new.store.base ≡ content_of new.store.store)
        → With (kept_by is_whole was is (length old.journal) (length new.journal) kept)
    by_mark was_whole true was is moves whole = all_kept (whole refl)
    by_mark was_whole false false false moves whole = elim moves [
      | inl stays ↦ same_kept stays.0
      | inr moved ↦ elim moved [
        | inl before ↦ absurd (false≢true before.1)
        | inr now_all ↦ absurd (false≢true now_all.1)
      ]
    ]
    by_mark was_whole false true true moves whole = elim moves [
      | inl stays ↦ same_kept stays.0
      | inr moved ↦ elim moved [
        | inl before ↦ absurd (false≢true (sym before.1))
        | inr now_all ↦ absurd (false≢true now_all.1)
      ]
    ]
    by_mark was_whole false false true moves whole = elim moves [
      | inl stays ↦ absurd (false≢true (sym stays.1))
      | inr moved ↦ elim moved [
        | inl before ↦ before_kept before.0
        | inr now_all ↦ absurd (false≢true now_all.1)
      ]
    ]
    by_mark was_whole false true false moves whole = elim moves [
      | inl stays ↦ absurd (false≢true stays.1)
      | inr moved ↦ elim moved [
        | inl before ↦ before_kept before.0
        | inr now_all ↦ absurd (false≢true now_all.1)
      ]
    ]

    pub counted : MovesBase (durable_state old.store) (durable_state new.store)
        → With (kept_behind old.store.mark new.store.mark (length old.journal) (length new.journal) kept)
    counted moves =
        by_mark old.store.mark.is_whole new.store.mark.is_whole old.store.mark.turn new.store.mark.turn moves now.whole

    -- so of what the code reckons
    pub counted_so : (result : ℕ) (m n : Mark) (before after : ℕ) → MovesBase (durable_state old.store) (durable_state new.store)
        → m ≡ old.store.mark → n ≡ new.store.mark → before ≡ length old.journal → after ≡ length new.journal
        → result ≡ kept_behind m n before after kept → With result
    counted_so result m n before after moves at_first at_last were are is =
        let reckoned : result
        ≡ kept_behind old.store.mark new.store.mark (length old.journal) (length new.journal) kept =
        is ∙ (λ i. kept_behind (at_first i) (at_last i) (were i) (are i) kept) in
        subst With (sym reckoned) (counted moves)

-- ---- what the code tells apart
pub by_whole : (whole was is : Bool) (before after kept : ℕ) → whole ≡ true → kept_by whole was is before after kept ≡ after
by_whole true was is before after kept told = refl
by_whole false was is before after kept told = absurd (false≢true told)

pub by_same : (whole was is : Bool) (before after kept : ℕ) → whole ≡ false → is ≡ was
    → kept_by whole was is before after kept ≡ kept
by_same true was is before after kept told same = absurd (false≢true (sym told))
by_same false false false before after kept told same = refl
by_same false true true before after kept told same = refl
by_same false false true before after kept told same = absurd (false≢true (sym same))
by_same false true false before after kept told same = absurd (false≢true same)

pub by_other : (whole was is : Bool) (before after kept : ℕ) → whole ≡ false → (is ≡ was → ⊥)
    → kept_by whole was is before after kept ≡ before
by_other true was is before after kept told other = absurd (false≢true (sym told))
by_other false false false before after kept told other = absurd (other refl)
by_other false true true before after kept told other = absurd (other refl)
by_other false false true before after kept told other = refl
by_other false true false before after kept told other = refl

-- where the base is whole all are kept
pub whole_kept : (result : ℕ) (m n : Mark) (before after kept : ℕ) → n.is_whole ≡ true
    → result ≡ kept_behind m n before after kept → result ≡ after
whole_kept result m n before after kept whole is =
    is ∙ by_whole n.is_whole m.turn n.turn before after kept whole

-- so of a volume that begins with such a store
pub counting_all : (v : Seen Durably) (count : ℕ) → count ≡ length v.journal → IsKept v.store
    → v.store.mark.is_whole ≡ true → ShowsFirst v (length v.journal) v.store.store
    → IsCounting (record { volume = v; kept = count })
counting_all v count is kept whole all =
    subst (λ (n : ℕ). IsCounting (record { volume = v; kept = n })) (sym is) (record {
      store = kept;
      within = omega arith;
      base = λ from begins.
          shows_as v.store.base v.store.store _ (kept.whole whole) (all from begins);
      all = all;
    })

-- ---- a volume whose entries are handed out, where the base is whole

-- a store shows what it showed as a volume's
shown_here : (s : Durably) (w : World) → IsVolume (durable_state s) w → IsVolume (state_of s.store) w
shown_here s w v = record { shows = v.shows; tree = v.tree }

pub counting_drained : (l : LoggedVolume) → IsCounting l → l.volume.store.mark.is_whole ≡ true → IsCounting (drained l)
counting_drained l counting whole =
    let s = l.volume.store in
    record {
      store = counting.store;
      within = omega arith;
      base = λ from begins.
          shows_as s.base s.store from (counting.store.whole whole) (shown_here s from begins.shown);
      all = λ from begins. shown_here s from begins.shown;
    }

-- ---- the tree of all entries
pub shown_first : (v : Seen Durably) (entries : List Entry) → entries ≡ v.journal → (from : World)
    → IsVolume (durable_state v.store) (world_after (durable_state v.store).shape.numbers entries from)
    → IsVolume (state_of v.store.store)
    (world_after (durable_state v.store).shape.numbers (take (length v.journal) v.journal) from)
shown_first v entries is from shown =
    subst (λ (es : List Entry). IsVolume (state_of v.store.store)
    (world_after (durable_state v.store).shape.numbers es from)) (is ∙ sym (take_all v.journal))
    (record { shows = shown.shows; tree = shown.tree })
