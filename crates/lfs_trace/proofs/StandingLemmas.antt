-- A checker's standing follows a trace: `behind_more` and `first_illegal` for `check_trace`, `refusal_checked` for
-- `refused`, `looked_on` and `still_stands` for calls that only look. Behind so many entries these are legal and the
-- checker stands at the world that they leave (IsBehind), so the next entry is legal in it just if the trace with it
-- is. A refusal isn't made over the store but judged from whether the rules allow the call and a number is left
-- (`either`, `none_when`); a resource that depended on more of the world would need its own question to the store.
use Rattle.std.proofs.Common.{◌≡◌, ◌<◌, ◌+◌, ℕ, suc, Bool, true, false, List, [], ◌∷◌, ◌++◌, length, get_or, take, None}
use Rattle.std.proofs.Common.{Some, Option, refl, sym, ap, subst, ◌∙◌, arith, inl, inr}
use Rattle.std.specs.Prelude.{◌↔◌, Result, Ok, Err, IsTrue, IsFalse, IsSome, if◌then◌else◌, is_some, not}
use Rattle.std.specs.FinMap as map
use Rattle.std.proofs.Math.Seq.{take-suc}
use Rattle.std.proofs.lemmas.Bool.{cases_lt}
use Rattle.lfs_flatfiles.specs.FlatFiles.{content_of, state_of}
use Rattle.lfs_flatfiles.specs.declared.flat_files.FlatFiles.{FlatFiles}
use Rattle.lfs_flatfiles.specs.declared.flat_files.place.Place.{Place}
use Rattle.lfs_flatfiles.proofs.FlatFilesContent.{get-content_of, file_in_past}
use Rattle.lfs_types.proofs.Somewhere.{none_there, there_of}
use Rattle.lfs_types.specs.Caller.{Caller}
use Rattle.lfs_types.specs.StoreStates.{MayLackSpace, StoreState}
use Rattle.lfs_types.specs.Tree.{World, opening_world}
use Rattle.lfs_types.specs.declared.answer.Answer.TheVariants.{Refused}
use Rattle.lfs_types.specs.declared.answer.Resource.{Resource}
use Rattle.lfs_types.specs.declared.level.Level.{Level}
use Rattle.lfs_types.specs.declared.request.Request.{Request}
use Rattle.lfs_types.specs.declared.request.Request.TheVariants.{Stat, Read, List as Names}
use Rattle.lfs_model.specs.declared.journal.Entry.{Entry}
use Rattle.lfs_model.specs.declared.journal.Event.{Event}
use Rattle.lfs_model.specs.declared.journal.Event.TheVariants.{User}
use Rattle.lfs_model.specs.Rules.{decide}
use Rattle.lfs_model.specs.Steps.{AllUsed, IsEvent, IsLegal, after_event, world_after}
use Rattle.lfs_model.proofs.RunLemmas.{IsLegal-append, world_after-append}
use Rattle.lfs_calls.specs.Calls.{LooksOn}
use Rattle.lfs_calls.specs.Volumes.{IsVolume}
use Rattle.lfs_trace.specs.Checking.{IsChecked, IsFirstIllegal, IsLooking, IsPlain, IsSameStanding, Standing, StandsAt}
use Rattle.lfs_trace.specs.Checking.{numbers_of, plain_state, standing}
use Rattle.lfs_trace.specs.Judging.{JudgesRefusal}
use Rattle.lfs_trace.specs.declared.fault.EntryFault.{EntryFault}
use Rattle.lfs_trace.specs.declared.fault.EntryFault.TheVariants.{Illegal}
use Rattle.lfs_trace.proofs.Uncrowded.{uncrowded}

-- ---- plain stores

-- a file's number is one of the places
pub in_places : (places : List Place) (n : ℕ) → IsSome (map.get (content_of places) n) → n < length places
in_places places n used =
    let f = there_of (map.get (content_of places) n) used in
    elim (cases_lt n (length places)) [
      | inl within ↦ within
      | inr past ↦ none_there _ f.value (get-content_of places n ∙ file_in_past places n (omega (arith, past))) f.is
    ]

-- a change of a plain store never lacks space
pub never_lacks : (numbers : ℕ) (places : List Place) → ¬ (MayLackSpace (state_of numbers places))
never_lacks numbers places (inl few) = absurd (omega (arith, few))
never_lacks numbers places (inr share) = absurd (cc)

-- ---- standing still

-- what the type of a checker keeps
abbrev pub Stands : ℕ → Standing → Type 0
Stands numbers s = (numbers ≡ numbers_of s) × (w : World) × StandsAt s w

module _ (old new : FlatFiles) (level : Level) (segments : ℕ) (same : plain_state new ≡ plain_state old) where
  forth : (w : World) → StandsAt (standing old level segments) w → StandsAt (standing new level segments) w
  forth w at = record { shown = subst (λ s. IsVolume s w) (sym same) at.shown; at_level = at.at_level }

  back : (w : World) → StandsAt (standing new level segments) w → StandsAt (standing old level segments) w
  back w at = record { shown = subst (λ s. IsVolume s w) same at.shown; at_level = at.at_level }

  same_numbers : numbers_of (standing new level segments) ≡ numbers_of (standing old level segments)
  same_numbers = ap (λ (s : StoreState). s.shape.numbers) same

  pub same_standing : IsSameStanding (standing old level segments) (standing new level segments)
  same_standing = record { worlds = forth; back = back; numbers = same_numbers; segments = refl }

  pub still_stands : (numbers : ℕ) → Stands numbers (standing old level segments)
      → Stands numbers (standing new level segments)
  still_stands numbers is = (is.0 ∙ sym same_numbers, is.1, forth is.1 is.2)

-- a checker that has said something stands somewhere
pub checked_stands : (numbers : ℕ) (old new : Standing) (caller : Caller) (event : Event)
    (result : Result (Unit {0}) EntryFault)
    → IsChecked old new caller event result → Stands numbers old → Stands numbers new
checked_stands numbers old new caller event (Ok done) is stands =
    (stands.0 ∙ sym is.numbers, after_event (numbers_of old) stands.1 caller event, is.leads stands.1 stands.2)
checked_stands numbers old new caller event (Err fault) is stands =
    (stands.0 ∙ sym is.numbers, stands.1, is.stays stands.1 stands.2)

-- a call that only looks leaves the state
pub looked_on : (request : Request) (old new : StoreState) → IsLooking request → LooksOn request old new → new ≡ old
looked_on (Stat path) old new is looks = looks
looked_on (Read path off len) old new is looks = looks
looked_on (Names path) old new is looks = looks
looked_on request old new is looks = absurd is

-- ---- refusals

-- nothing is denied where there is no denial
pub none_when : {A : Type 0} (o d : Option A) (b : Bool) → is_some o ≡ not b → o ≡ d → IsTrue b ↔ (d ≡ None)
none_when None d true is same = (λ _. sym same, λ _. refl)
none_when None d false is same = absurd (cc)
none_when (Some x) d true is same = absurd (cc)
none_when (Some x) d false is same = (λ yes. absurd (cc), λ none. let no = same ∙ none in absurd (cc))

-- one of two
pub either : (b : Bool) (P : Type 0) → (IsTrue b → ¬ P) → (IsFalse b → P) → IsTrue b ↔ ¬ P
either true P left none = (λ yes. left yes, λ _. refl)
either false P left none = (λ yes. absurd (cc), λ not. absurd (not (none refl)))

pub refusal_checked : (old new : Standing) (caller : Caller) (request : Request) (resource : Resource)
    (allowed left judged : Bool)
    → IsPlain (plain_state old.store) → IsSameStanding old new
    → ((w : World) → StandsAt old w → IsTrue allowed ↔ (decide w caller request ≡ None))
    → ((w : World) → StandsAt old w → IsTrue left ↔ ¬ (AllUsed (numbers_of old) w.rows))
    → JudgesRefusal request allowed left resource judged
    → IsChecked old new caller (User request (Refused resource)) (if judged then Ok tt else Err Illegal)
refusal_checked old new caller request resource allowed left true plain same allows leaves judges =
    let judged = λ (w : World) (at : StandsAt old w). judges (numbers_of old) w caller (allows w at) (leaves w at)
    (uncrowded (plain_state old.store) w plain at.shown request) in
    record {
      legal = λ w at. (judged w at).0 refl;
      leads = λ w at. same.worlds w at;
      illegal = λ no. absurd (cc);
      stays = tt;
      numbers = same.numbers;
      segments = same.segments;
    }
refusal_checked old new caller request resource allowed left false plain same allows leaves judges =
    let judged = λ (w : World) (at : StandsAt old w). judges (numbers_of old) w caller (allows w at) (leaves w at)
    (uncrowded (plain_state old.store) w plain at.shown request) in
    record {
      legal = tt;
      leads = tt;
      illegal = λ _ w at is. let no = (judged w at).1 is in absurd (cc);
      stays = λ w at. same.worlds w at;
      numbers = same.numbers;
      segments = same.segments;
    }

-- ---- traces

-- with the first that isn't legal, entries aren't
last_legal : (numbers segments : ℕ) (es : List Entry) (e : Entry) (w : World)
    → IsLegal numbers segments (es ++ e ∷ []) w
    → IsEvent numbers segments (world_after numbers es w) e.cred e.event
last_legal numbers segments [] e w legal = legal.0
last_legal numbers segments (x ∷ es) e w legal =
    last_legal numbers segments es e (after_event numbers w x.cred x.event) legal.1

-- what holds behind so many entries of a trace
pub record IsBehind (numbers segments : ℕ) (entries : List Entry) (at : ℕ) (checker : Standing) : Type 0 where
  pub legal : IsLegal numbers segments (take at entries) opening_world
  pub stands : StandsAt checker (world_after numbers (take at entries) opening_world)
  pub numbers_are : numbers_of checker ≡ numbers
  pub segments_are : checker.segments ≡ segments

module _ (numbers segments : ℕ) (entries : List Entry) (at : ℕ) (entry : Entry) (within : at < length entries)
    (is : entry ≡ get_or entries at entry) where
  one_more : take (at + 1) entries ≡ take at entries ++ entry ∷ []
  one_more =
      let next : at + 1 ≡ suc at = omega arith in
      ap (λ k. take k entries) next ∙ take-suc entries at entry within
      ∙ ap (λ (e : Entry). take at entries ++ e ∷ []) (sym is)

  pub behind_more : (old new : Standing) → IsBehind numbers segments entries at old
      → IsChecked old new entry.cred entry.event (Ok tt)
      → IsBehind numbers segments entries (at + 1) new
  behind_more old new behind checked =
      let here = world_after numbers (take at entries) opening_world in
      let happens = subst (λ n. IsEvent n old.segments here entry.cred entry.event) behind.numbers_are
      (checked.legal here behind.stands) in
      let leads = subst (λ n. StandsAt new (after_event n here entry.cred entry.event)) behind.numbers_are
      (checked.leads here behind.stands) in
      record {
        legal = subst (λ es. IsLegal numbers segments es opening_world) (sym one_more)
            (IsLegal-append numbers segments (take at entries) entry opening_world behind.legal
            (subst (λ n. IsEvent numbers n here entry.cred entry.event) behind.segments_are happens));
        stands = subst (λ es. StandsAt new (world_after numbers es opening_world)) (sym one_more)
            (subst (StandsAt new) (sym (world_after-append numbers (take at entries) (entry ∷ []) opening_world))
            leads);
        numbers_are = checked.numbers ∙ behind.numbers_are;
        segments_are = checked.segments ∙ behind.segments_are;
      }

  pub first_illegal : (old new : Standing) → IsBehind numbers segments entries at old
      → IsChecked old new entry.cred entry.event (Err Illegal)
      → IsFirstIllegal numbers segments entries at
  first_illegal old new behind checked =
      let here = world_after numbers (take at entries) opening_world in
      record {
        within = within;
        before = behind.legal;
        then = λ legal.
            let happens = last_legal numbers segments (take at entries) entry opening_world
            (subst (λ es. IsLegal numbers segments es opening_world) one_more legal) in
            checked.illegal refl here behind.stands
            (subst (λ n. IsEvent n old.segments here entry.cred entry.event) (sym behind.numbers_are)
            (subst (λ n. IsEvent numbers n here entry.cred entry.event) (sym behind.segments_are) happens));
      }
