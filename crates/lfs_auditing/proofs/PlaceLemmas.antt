-- The place of a tree in a journal: `begun`, `goes_on` and `placed` carry the loop of `Audit::find_place`, and `place_is`
-- says what `place_buffered` tells. With an entry more the counts so far lead where they led, as they take none of it
-- (`take-append-le`); so the greatest is the new one where the tree behind it is the one looked for, else the one before
-- (`grown`). A search takes notes alone, so that what was read stays (`kept_reading`).
use Rattle.std.proofs.Common.{◌≡◌, ◌⊎◌, ℕ, ◌+◌, ◌<◌, ◌≤◌, List, [], ◌∷◌, ◌++◌, length, take, Option, None, Some, refl, sym}
use Rattle.std.proofs.Common.{ap, subst, ◌∙◌, ⊎_elim, inl, inr, arith, length-append}
use Rattle.std.proofs.lemmas.Bool.{cases_lt}
use Rattle.std.proofs.lemmas.List.{take-append-le, take_all}
use Rattle.lfs_types.specs.StoreStates.{StoreState}
use Rattle.lfs_types.specs.Tree.{World, opening_world}
use Rattle.lfs_model.specs.declared.journal.Entry.{Entry}
use Rattle.lfs_model.specs.Steps.{world_after}
use Rattle.lfs_model.specs.World.{Rows}
use Rattle.lfs_calls.specs.Volumes.{IsVolume}
use Rattle.lfs_trace.specs.Checking.{StandsAt, numbers_of}
use Rattle.lfs_trace.specs.Errors.{IsLegalAs}
use Rattle.lfs_trace.specs.declared.errors.Denials.TheVariants.{Whole}
use Rattle.lfs_auditing.specs.Audits.{HasRead, HasReadLine, HasReadNone, HasReadOn, IsOfSame, NotesOnly, StopsBehind, status_of}
use Rattle.lfs_auditing.specs.Places.{HasLooked, HasPlaced, IsGreatest, IsPlaceAt, IsPlaced, IsToldAs, LeadsTo}
use Rattle.lfs_auditing.specs.Users.{AreCounted}
use Rattle.lfs_auditing.specs.declared.audit.Audit.{Audit}
use Rattle.lfs_auditing.specs.declared.audit.Stop.{Stop}
use Rattle.lfs_auditing.specs.declared.placing.Place.{Place}
use Rattle.lfs_auditing.specs.declared.placing.Place.TheVariants.{Behind, Nowhere, Stopped}
use Rattle.lfs_auditing.specs.declared.placing.Placed.{Placed}
use Rattle.lfs_auditing.proofs.AuditLemmas.{SoFar, none_so_far, one_more, stopped}

-- ---- the greatest number

-- whether a world's rows are these was looked at, behind so many entries
abbrev Looked : Rows → Rows → ℕ → Option ℕ → Option ℕ → Type 0
Looked here rows count old new = ((here ≡ rows) × (new ≡ Some count)) ⊎ (¬ (here ≡ rows) × (new ≡ old))

module _ (numbers : ℕ) (from : World) (rows : Rows) where
  abbrev Is : List Entry → ℕ → Type 0
  Is es = LeadsTo numbers from es rows

  first : (old new : Option ℕ) → old ≡ None → Looked from.rows rows 0 old new → IsGreatest (Is []) 0 new
  first old new none (inl at) = subst (IsGreatest (Is []) 0) (sym at.1) (
    omega arith,
    subst (λ es. (world_after numbers es from).rows ≡ rows) (sym (take_all 0 [] (omega arith))) at.0,
    λ more high low. absurd (omega (arith, high, low)),
  )
  first old new none (inr at) = subst (IsGreatest (Is []) 0) (sym (at.1 ∙ none))
      (λ count low is. at.0 (subst (λ es. (world_after numbers es from).rows ≡ rows)
      (take_all count [] (omega arith)) is))

  module _ (es : List Entry) (e : Entry) where
    abbrev all : List Entry
    all = es ++ e ∷ []

    more : length all ≡ length es + 1
    more = length-append es (e ∷ [])

    before : (count : ℕ) → count ≤ length es → take count all ≡ take count es
    before count low = take-append-le count es (e ∷ []) low

    whole : take (length es + 1) all ≡ all
    whole = take_all (length es + 1) all (let size = more in omega (arith, size))

    -- up to the entries before, and behind all
    split : (count : ℕ) → count ≤ length all → (count ≤ length es) ⊎ (count ≡ length es + 1)
    split count low =
        let size = more in
        ⊎_elim (λ h. inl (omega (arith, h))) (λ h. inr (omega (arith, h, low, size))) (cases_lt count (length es + 1))

    fails : (count : ℕ) → count ≤ length all → ¬ ((world_after numbers all from).rows ≡ rows)
        → (count ≤ length es → ¬ (Is es count)) → ¬ (Is all count)
    fails count low not earlier is = ⊎_elim
        (λ h. earlier h (subst (λ xs. (world_after numbers xs from).rows ≡ rows) (before count h) is))
        (λ at. not (subst (λ xs. (world_after numbers xs from).rows ≡ rows)
        (ap (λ n. take n all) at ∙ whole) is))
        (split count low)

    stays : ¬ ((world_after numbers all from).rows ≡ rows) → (old : Option ℕ) → IsGreatest (Is es) (length es) old
        → IsGreatest (Is all) (length all) old
    stays not None none = λ count low. fails count low not (λ h. none count h)
    stays not (Some count) is =
        let size = more in
        let within = is.0 in (
          omega (arith, within, size),
          subst (λ xs. (world_after numbers xs from).rows ≡ rows) (sym (before count within)) is.1,
          λ past high low. fails past low not (λ h. is.2 past high h),
        )

    grown : (old new : Option ℕ) → IsGreatest (Is es) (length es) old
        → Looked (world_after numbers all from).rows rows (length all) old new → IsGreatest (Is all) (length all) new
    grown old new was (inl at) = subst (IsGreatest (Is all) (length all)) (sym at.1) (
      omega arith,
      subst (λ xs. (world_after numbers xs from).rows ≡ rows) (sym (take_all (length all) all (omega arith))) at.0,
      λ past high low. absurd (omega (arith, high, low)),
    )
    grown old new was (inr at) = subst (IsGreatest (Is all) (length all)) (sym at.1) (stays at.0 old was)

-- ---- an audit

pub kept_reading : (from : World) (old new : Audit) (es : List Entry) → NotesOnly old new → HasRead from old es
    → HasRead from new es
kept_reading from old new es notes read =
    let numbers = notes.checker.numbers in
    let segments = notes.checker.segments in
    record {
      legal = subst (λ d. IsLegalAs d (numbers_of new.checker) new.checker.segments es from) (sym notes.denials)
          (subst (λ n. IsLegalAs old.denials n new.checker.segments es from) (sym numbers)
          (subst (λ s. IsLegalAs old.denials (numbers_of old.checker) s es from) (sym segments) read.legal));
      stands = subst (λ n. StandsAt new.checker (world_after n es from)) (sym numbers)
          (notes.checker.worlds (world_after (numbers_of old.checker) es from) read.stands);
      counted = notes.entries ∙ read.counted;
      users = subst (λ u. AreCounted u.counts es) (sym notes.users) read.users;
    }

-- a search looked at each tree
abbrev pub LooksAt : StoreState → Audit → Option ℕ → Option ℕ → Type 0
LooksAt s a old new = (w v : World) → StandsAt a.checker w → IsVolume s v → HasLooked w v a.entries old new

-- what a search in a journal has found so far
pub record Found (known left : Option (List ℕ)) (from : World) (s : StoreState) (a : Audit) (found : Option ℕ)
    : Type 0 where
  pub so : SoFar known left from [] a
  pub place : (v : World) → IsVolume s v
      → IsGreatest (LeadsTo (numbers_of a.checker) from so.more v.rows) (length so.more) found

pub begun : (known : Option (List ℕ)) (from : World) (s : StoreState) (old new : Audit) (none found : Option ℕ)
    → none ≡ None → HasReadNone from old → NotesOnly old new → LooksAt s old none found
    → Found known known from s new found
unfolding none_so_far
begun known from s old new none found is read notes looked = record {
  so = none_so_far known from [] new (kept_reading from old new [] notes read);
  place = λ v volume. first (numbers_of new.checker) from v.rows none found is
      (subst (λ n. Looked from.rows v.rows n none found) read.counted (looked from v read.stands volume));
}

module _ (known left rest : Option (List ℕ)) (from : World) (s : StoreState) (old mid : Audit) (was : Option ℕ)
    (so_far : Found known left from s old was) (same : IsOfSame old mid) where
  pub goes_on : (new : Audit) (found : Option ℕ) → HasReadLine left rest from so_far.so.more mid → NotesOnly mid new
      → LooksAt s mid was found → Found known rest from s new found
  unfolding one_more
  goes_on new found line notes looked =
      let so = so_far.so in
      let e = line.entry in
      let all = so.more ++ e ∷ [] in
      let n = numbers_of mid.checker in
      record {
        so = one_more known left rest from [] old new line.line e so line.whole line.taken line.told
            (kept_reading from mid new all notes line.read);
        place = λ v volume. subst (λ k. IsGreatest (LeadsTo k from all v.rows) (length all) found)
            (sym notes.checker.numbers)
            (grown n from v.rows so.more e was found
            (subst (λ k. IsGreatest (LeadsTo k from so.more v.rows) (length so.more) was) (sym same.numbers)
            (so_far.place v volume))
            (subst (λ k. Looked (world_after n all from).rows v.rows k was found) line.read.counted
            (looked (world_after n all from) v line.read.stands volume)));
      }

  pub placed : (stop : Stop) → HasRead from mid so_far.so.more → StopsBehind left rest from mid so_far.so.more stop
      → HasPlaced known rest from s mid (record { stop = stop; behind = was; of = mid.entries })
  unfolding stopped
  placed stop read stops = record {
    read = stopped known left rest from [] old mid stop so_far.so read stops;
    counted = read.counted;
    place = λ v volume. subst (λ k. IsGreatest (LeadsTo k from so_far.so.more v.rows) (length so_far.so.more) was)
        (sym same.numbers) (so_far.place v volume);
  }

-- ---- what is told

place_at : (s : StoreState) (a : Audit) (es : List Entry) (placed : Placed) (place : Place)
    → numbers_of a.checker ≡ s.shape.numbers → placed.of ≡ length es
    → ((v : World) → IsVolume s v → IsGreatest (LeadsTo (numbers_of a.checker) opening_world es v.rows) (length es)
    placed.behind)
    → IsToldAs placed.stop placed.behind placed.of place → IsPlaceAt s es placed.stop place
place_at s a es placed (Behind count of) numbers counted found told = (
  told.0,
  told.2 ∙ counted,
  λ v volume. subst (λ k. IsGreatest (LeadsTo k opening_world es v.rows) (length es) (Some count)) numbers
      (subst (IsGreatest (LeadsTo (numbers_of a.checker) opening_world es v.rows) (length es)) told.1 (found v volume)),
)
place_at s a es placed (Nowhere of) numbers counted found told = (
  told.0,
  told.2 ∙ counted,
  λ v volume. subst (λ k. IsGreatest (LeadsTo k opening_world es v.rows) (length es) None) numbers
      (subst (IsGreatest (LeadsTo (numbers_of a.checker) opening_world es v.rows) (length es)) told.1 (found v volume)),
)
place_at s a es placed (Stopped text) numbers counted found told = told

pub place_is : (known left : Option (List ℕ)) (s : StoreState) (a : Audit) (placed : Placed) (place : Place)
    → HasPlaced known left opening_world s a placed → numbers_of a.checker ≡ s.shape.numbers
    → a.checker.segments ≡ s.shape.segments → a.denials ≡ Whole
    → IsToldAs placed.stop placed.behind placed.of place → IsPlaced known s place
place_is known left s a placed place has numbers segments denials told = record {
  audit = a;
  stop = placed.stop;
  left = left;
  read = has.read;
  numbers_are = numbers;
  segments_are = segments;
  denials_are = denials;
  is = place_at s a has.read.more placed place numbers has.counted has.place told;
}
