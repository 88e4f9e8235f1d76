-- A Write leaves a store that shows the world after it: `write_volume` for `write`, `can_put` for `put`;
-- `refused_outcome` is for MakeOutcomes. The bytes start where the request says, or at the end by the size that the
-- store shows, and the spliced bytes fit (`length-splice`), so ChangeLemmas gives the rest. A Write of no bytes changes
-- nothing, not even the set-id bits (`write_nothing`), and asks the store for nothing; a call that cleared these bits
-- all the same would need its own case.
use Rattle.std.proofs.Common.{◌≡◌, ℕ, ◌+◌, ◌≤◌, true, false, List, [], ◌∷◌, length, None, Some, inl, sym, ap, subst}
use Rattle.std.proofs.Common.{◌∙◌, arith, length-append, length-take, length-drop}
use Rattle.std.specs.Borrow.{Bor}
use Rattle.std.proofs.Math.ListN.{length-replicate}
use Rattle.lfs_types.specs.Caller.{Caller}
use Rattle.lfs_types.specs.Changes.{CanApply, IsLength}
use Rattle.lfs_types.specs.Kinds.{is_directory_kind}
use Rattle.lfs_types.specs.Splicing.{splice}
use Rattle.lfs_types.specs.StoreStates.{StoreState, MayRefuse}
use Rattle.lfs_types.specs.Stored.{shown_attrs}
use Rattle.lfs_types.specs.Tree.{World, Content, root}
use Rattle.lfs_types.specs.declared.attrs.Attrs.{Attrs}
use Rattle.lfs_types.specs.declared.request.Place.{Place}
use Rattle.lfs_types.specs.declared.answer.Answer.TheVariants.{Refused}
use Rattle.lfs_types.specs.declared.request.Request.{Request}
use Rattle.lfs_types.specs.declared.store.StoreRefusal.{StoreRefusal}
use Rattle.lfs_types.specs.declared.store.StoreRefusal.TheVariants.{NoSpace, NoMemory}
use Rattle.lfs_types.specs.declared.store.Change.TheVariants.{SetAttrs, Put}
use Rattle.lfs_calls.specs.declared.walking.Reached.{Reached}
use Rattle.lfs_model.specs.Rules.{decide, start_in}
use Rattle.lfs_model.specs.Effects.{mode_after, written, after_write}
use Rattle.lfs_calls.specs.Outcomes.{IsOutcome, FillsDirectory}
use Rattle.lfs_model.specs.Steps.{LacksInodes, IsChanging}
use Rattle.lfs_calls.specs.Writes.{ChangesBytes}
use Rattle.lfs_calls.specs.Calls.{resource_of}
use Rattle.lfs_calls.specs.Reaches.{Reaches}
use Rattle.lfs_calls.specs.Volumes.{InWorld, IsVolume}
use Rattle.lfs_calls.proofs.StateLemmas.{same_content}
use Rattle.lfs_model.proofs.Deciding.{walked-reached}
use Rattle.std.proofs.Common.{Ok, refl, eqb-true}
use Rattle.std.specs.Prelude.{◌==◌}
use Rattle.lfs_calls.proofs.ChangeLemmas.{size_fits, bytes_shows, bytes_tree, old_file, stored, can_set_mode, may_have}
use Rattle.lfs_calls.proofs.ChangeLemmas.{old_size}
use Rattle.lfs_types.proofs.Somewhere.{is_some_and}
use Rattle.lfs_types.specs.declared.limits.TheConstants.{FILE_BYTES}
use Rattle.lfs_calls.proofs.StepLemmas.{shown_file}

-- bytes put into a file make it no longer than its old end and theirs
pub length-splice : (old : List ℕ) (start most : ℕ) (new : List ℕ) → length old ≤ most → start + length new ≤ most
    → length (splice old start new) ≤ most
length-splice old start most [] h k = h
length-splice old start most (b ∷ bs) h k =
    simp (length-append, length-take, length-drop, length-replicate) (omega arith)

-- ---- what a store is asked

module _ (c : Content) (n : ℕ) (a : Attrs) (shown : Some a ≡ shown_attrs c n) (caller : Caller) (start : ℕ)
    (bytes : Bor (List ℕ))
    (regular : is_directory_kind a.kind ≡ false) (few : length bytes.now ≤ 4096) (size : a.size ≤ FILE_BYTES)
    (fits : start + length bytes.now ≤ FILE_BYTES) where
  abbrev by : List ℕ → List ℕ
  by old = splice old start bytes.now

  length_fits : IsLength (old_file c n a shown caller by).kind
      (length (splice (old_file c n a shown caller by).bytes start bytes.now))
  length_fits =
      let s = old_size c n a shown caller by in
      may_have c n a shown caller by regular _ (length-splice _ start FILE_BYTES bytes.now (omega arith) fits)

  -- a store may be asked for the bytes and a mode
  pub can_put : (numbers mode : ℕ) → CanApply numbers (Put n start bytes ∷ SetAttrs n (record a { mode = mode }) ∷ []) c
  can_put numbers mode = record {
    few = omega arith;
    few_puts = omega arith;
    few_lengths = omega arith;
    few_bytes = omega arith;
    each = (is_some_and _ (stored c n a shown caller by) length_fits, (can_set_mode c n a shown caller by mode, tt));
  }

-- ---- the world after it

module _ {s mid : StoreState} (new : StoreState) (caller : Caller) (path : List (List ℕ)) (place : Place) (same : mid
    ≡ s) (file : Reached) (leads : InWorld s (λ w. Reaches s.content w.rows caller 0 path (Ok file)))
    (regular : is_directory_kind file.attrs.kind ≡ false) where
  some_put : (start b : ℕ) (bs : List ℕ) → start ≡ start_in place file.attrs.size → start + length (b ∷ bs) ≤ FILE_BYTES
      → ChangesBytes mid.content new.content file.number caller (λ old. splice old start (b ∷ bs))
      → InWorld s (λ w. IsVolume new (after_write w caller path place (b ∷ bs)))
  some_put start b bs begins fits changes w v =
      let r = leads w v in
      let object = walked-reached w.rows caller 0 0 root path file.number r.0 in
      let f = shown_file s.content file.number file.attrs r.1 in
      let here = subst (λ (c : Content). ChangesBytes c new.content file.number caller
      (λ old. splice old start (b ∷ bs))) (same_content same) changes in
      let at : start_in place (length f.file.bytes) ≡ start = ap (λ (x : Attrs). start_in place x.size) (sym f.same)
      ∙ sym begins in
      let written_is : written caller place (b ∷ bs) f.file
      ≡ record f.file { mode = mode_after caller f.file.mode; bytes = splice f.file.bytes start (b ∷ bs) } =
      ap (λ n. record f.file { mode = mode_after caller f.file.mode; bytes = splice f.file.bytes n (b ∷ bs) }) at in
      let short = length-splice f.file.bytes start FILE_BYTES (b ∷ bs)
      (subst (λ (x : Attrs). x.size ≤ FILE_BYTES) f.same
      (size_fits s.content w v.shows file.number file.attrs r.1 regular)) fits in
      record {
        shows = bytes_shows s.content w v.shows path file.number file.attrs object r.1 regular new.content v.tree caller
            _ here (written caller place (b ∷ bs)) written_is short;
        tree = bytes_tree s.content w v.shows path file.number file.attrs object r.1 regular new.content v.tree caller _
            here (written caller place (b ∷ bs)) written_is short;
      }

  -- the store that has the written file shows it
  pub write_volume : (start : ℕ) (bytes : List ℕ) → (length bytes == 0) ≡ false → start ≡ start_in place file.attrs.size
      → start + length bytes ≤ FILE_BYTES
      → ChangesBytes mid.content new.content file.number caller (λ old. splice old start bytes)
      → InWorld s (λ w. IsVolume new (after_write w caller path place bytes))
  write_volume start [] some begins fits changes = absurd (cc)
  write_volume start (b ∷ bs) some begins fits changes = some_put start b bs begins fits changes

-- a Write of no bytes changes nothing
pub write_nothing : (w : World) (caller : Caller) (path : List (List ℕ)) (place : Place) (bytes : List ℕ)
    → (length bytes == 0) ≡ true → after_write w caller path place bytes ≡ w
write_nothing w caller path place [] none = refl
write_nothing w caller path place (b ∷ bs) none = let some = eqb-true (length (b ∷ bs)) 0 none in
    absurd (omega (arith, some))

-- ---- a refusal

-- what a call lacks whose changes the store refused
pub refused_outcome : (s : StoreState) (w : World) (caller : Caller) (request : Request) (refusal : StoreRefusal)
    → MayRefuse s refusal → decide w caller request ≡ None
    → (LacksInodes s.shape.numbers w request → ⊥) → IsChanging request → (FillsDirectory s.content w request → ⊥)
    → IsOutcome s w caller request (Refused (resource_of refusal))
refused_outcome s w caller request NoSpace may allowed numbered changing roomy =
    ((allowed, (numbered, changing)), roomy, may)
refused_outcome s w caller request NoMemory may allowed numbered changing roomy =
    (allowed, numbered, roomy, inl (may, changing))
