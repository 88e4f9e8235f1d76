-- What the answer of a call over a plain store says of an entry: served as told, the entry is legal (`served_checked`),
-- and otherwise it isn't (`unserved_checked`), both for the checker's `make`. A plain store never lacks space nor room
-- for a name, so but for want of memory its answer is the rules' own (`ruled`), and these have one answer to a call in
-- a world. If the answers differ the checker must stand where it stood, which holds as a call that isn't served changes
-- nothing and one served with another answer only looked (`left_alone`); a changing call that showed something would
-- break that.
use Rattle.std.proofs.Common.{◌≡◌, ◌≢◌, ℕ, List, None, Some, refl, sym, ap, subst, ◌∙◌, ⊎_elim}
use Rattle.std.specs.Prelude.{Result, Ok, Err, Option, MatchOption}
use Rattle.lfs_types.specs.Caller.{Caller}
use Rattle.lfs_types.specs.StoreStates.{Shape, StoreState}
use Rattle.lfs_types.specs.Tree.{World}
use Rattle.lfs_types.specs.declared.answer.Answer.{Answer}
use Rattle.lfs_types.specs.declared.answer.Answer.TheVariants.{Served, Denied, Refused}
use Rattle.lfs_types.specs.declared.answer.Resource.TheVariants.{NoMemory, NoSpace, NoInodes, DirectoryFull}
use Rattle.lfs_types.specs.declared.answer.Resource.TheVariants.{JournalFull}
use Rattle.lfs_types.specs.declared.answer.Served.{Served as Shown}
use Rattle.lfs_types.specs.declared.level.Level.{Level}
use Rattle.lfs_types.specs.declared.request.Request.{Request}
use Rattle.lfs_types.specs.declared.request.Request.TheVariants.{Stat, Read, Write, List as Names, SetLength, Create}
use Rattle.lfs_types.specs.declared.request.Request.TheVariants.{Mkdir, Unlink, Rmdir, Rename, Chmod, Chown, Chflags}
use Rattle.lfs_types.specs.declared.request.Request.TheVariants.{SetLevel, Sync}
use Rattle.lfs_model.specs.Effects.{answer_of}
use Rattle.lfs_model.specs.Steps.{IsAnswer, after_answer}
use Rattle.lfs_calls.specs.Calls.{IsCall, IsCallAt, LooksOn, answered}
use Rattle.lfs_calls.specs.Content.{Shows}
use Rattle.lfs_calls.specs.Outcomes.{IsOutcome}
use Rattle.lfs_calls.specs.Volumes.{IsVolume}
use Rattle.lfs_calls.specs.declared.call_fault.CallFault.{CallFault}
use Rattle.lfs_calls.specs.declared.call_fault.CallFault.TheVariants as reasons
use Rattle.lfs_flatfiles.specs.FlatFiles.{opening_state}
use Rattle.lfs_flatfiles.specs.declared.flat_files.FlatFiles.{FlatFiles}
use Rattle.lfs_types.specs.Tree.{opening_world}
use Rattle.lfs_types.specs.declared.attrs.Attrs.{Attrs}
use Rattle.lfs_types.specs.declared.level.Level.TheVariants.{Insecure}
use Rattle.lfs_types.specs.declared.answer.Served.TheVariants as shows
use Rattle.lfs_explain.specs.declared.trail.ShownRow.{ShownRow}
use Rattle.lfs_model.specs.declared.journal.Entry.{Entry}
use Rattle.lfs_model.specs.declared.journal.Event.{Event}
use Rattle.lfs_model.specs.declared.journal.Event.TheVariants.{User, Cleaner}
use Rattle.lfs_model.specs.Rules.{decide}
use Rattle.lfs_model.proofs.RunLemmas.{opening_tree}
use Rattle.lfs_volume.proofs.OpeningLemmas.{shows_opening_state}
use Rattle.lfs_trace.specs.declared.fault.EntryFault.{EntryFault}
use Rattle.lfs_trace.specs.declared.fault.EntryFault.TheVariants.{Illegal}
use Rattle.lfs_trace.specs.Checking.{IsChecked, IsPlain, IsRowAt, MayShow, StandsAt, plain_state}
use Rattle.lfs_calls.specs.Levels.{level_left}
use Rattle.lfs_calls.proofs.LevelLemmas.{served_level}
use Rattle.lfs_trace.specs.Checking.{standing, superuser}
use Rattle.lfs_trace.specs.Judging.{IsOfRules, OneAnswer}
use Rattle.lfs_trace.proofs.Uncrowded.{uncrowded}

-- a store shows the same worlds by the same content
pub same_volume : (old new : StoreState) (w : World) → new.content ≡ old.content → IsVolume old w → IsVolume new w
same_volume old new w same v = record { shows = subst (λ c. Shows c w) (sym same) v.shows; tree = v.tree }

-- ---- a call over a plain store

-- the answer is one of the rules, where memory was not wanting
pub ruled : (s : StoreState) (w : World) (caller : Caller) (request : Request) (answer : Answer) → IsPlain s
    → IsVolume s w
    → IsOutcome s w caller request answer → answer ≢ Refused NoMemory → IsOfRules answer
    × IsAnswer s.shape.numbers w caller request answer
ruled s w caller request (Served shown) plain v o enough = (tt, o.0)
ruled s w caller request (Denied denial) plain v o enough = (tt, o)
ruled s w caller request (Refused NoMemory) plain v o enough = absurd (enough refl)
ruled s w caller request (Refused NoSpace) plain v o enough = absurd (plain.roomy o.2)
ruled s w caller request (Refused NoInodes) plain v o enough = (tt, o)
ruled s w caller request (Refused DirectoryFull) plain v o enough = absurd (uncrowded s w plain v request o.0.1.1)
ruled s w caller request (Refused JournalFull) plain v o enough = absurd o

-- so a call may be served and show this only where that is the answer
pub not_served_so : OneAnswer → (s : StoreState) (w : World) (caller : Caller) (request : Request) (made : Answer)
    (shown : Shown) → IsPlain s → IsVolume s w
    → IsOutcome s w caller request made → made ≢ Refused NoMemory → made ≢ Served shown
    → ¬ (IsAnswer s.shape.numbers w caller request (Served shown))
not_served_so one s w caller request made shown plain v o enough other is =
    let given = ruled s w caller request made plain v o enough in
    other (one s.shape.numbers w caller request made (Served shown) given.0 tt given.1 is)

-- a call whose answer isn't that it is served and shows what it may show leaves the worlds that the store shows
same_state : (old new : StoreState) (w : World) → new ≡ old → IsVolume old w → IsVolume new w
same_state old new w same v = subst (λ s. IsVolume s w) (sym same) v

unmade : (level : Level) (old new : StoreState) (caller : Caller) (request : Request) (given shown : Shown)
    → MayShow request shown → given ≢ shown
    → (w : World) → IsVolume old w → given ≡ answer_of w request → LooksOn request old new → IsVolume new w
unmade level old new caller (Stat path) given shown may other w v is looks = same_state old new w looks v
unmade level old new caller (Read path off len) given shown may other w v is looks = same_state old new w looks v
unmade level old new caller (Names path) given shown may other w v is looks = same_state old new w looks v
unmade level old new caller (Write path place bytes) given shown may other w v is looks = absurd (other (is ∙ sym may))
unmade level old new caller (SetLength path len) given shown may other w v is looks = absurd (other (is ∙ sym may))
unmade level old new caller (Create path mode) given shown may other w v is looks = absurd (other (is ∙ sym may))
unmade level old new caller (Mkdir path mode) given shown may other w v is looks = absurd (other (is ∙ sym may))
unmade level old new caller (Unlink path) given shown may other w v is looks = absurd (other (is ∙ sym may))
unmade level old new caller (Rmdir path) given shown may other w v is looks = absurd (other (is ∙ sym may))
unmade level old new caller (Rename from to) given shown may other w v is looks = absurd (other (is ∙ sym may))
unmade level old new caller (Chmod path mode) given shown may other w v is looks = absurd (other (is ∙ sym may))
unmade level old new caller (Chown path uid gid) given shown may other w v is looks = absurd (other (is ∙ sym may))
unmade level old new caller (Chflags path flags) given shown may other w v is looks = absurd (other (is ∙ sym may))
unmade level old new caller (SetLevel new_level) given shown may other w v is looks = absurd (other (is ∙ sym may))
unmade level old new caller Sync given shown may other w v is looks = absurd (other (is ∙ sym may))

pub left_alone : (level : Level) (old new : StoreState) (caller : Caller) (request : Request)
    (result : Result Shown CallFault) (shown : Shown) → MayShow request shown
    → answered result ≢ Served shown → IsCallAt level old new caller request result → (w : World) → w.level ≡ level
    → IsVolume old w → IsVolume new w
left_alone level old new caller request (Ok given) shown may other call w at v =
    unmade level old new caller request given shown may (λ same. other (ap Served same)) w v
    (call.outcome w v at).0.2 call.looks
left_alone level old new caller request (Err why) shown may other call w at v = same_volume old new w call.halted v

-- ---- what a checker says of a call that was made

pub unserved_checked : OneAnswer → (old new : FlatFiles) (level : Level) (segments : ℕ) (caller : Caller)
    (request : Request) (made : Answer) (shown : Shown)
    (fault : EntryFault) (result : Result Shown CallFault) → IsPlain (plain_state old) → MayShow request shown
    → IsCallAt level (plain_state old) (plain_state new) caller request result → made ≡ answered result
    → made ≢ Served shown
    → (fault ≡ Illegal → made ≢ Refused NoMemory)
    → IsChecked (standing old level segments) (standing new level segments) caller (User request (Served shown))
    (Err fault)
unserved_checked one old new level segments caller request made shown fault result plain may call same other enough =
    record {
      legal = tt;
      leads = tt;
      illegal = λ is w at. not_served_so one (plain_state old) w caller request made shown plain at.shown
          (subst (IsOutcome (plain_state old) w caller request) (sym same) (call.outcome w at.shown at.at_level))
          (enough (cc)) other;
      stays = λ w at. record {
        shown = left_alone level (plain_state old) (plain_state new) caller request result shown may
            (λ is. other (same ∙ is)) call w at.at_level at.shown;
        at_level = at.at_level;
      };
      numbers = ap (λ (s : Shape). s.numbers) call.follows.shape;
      segments = refl;
    }

pub served_checked : (old new : FlatFiles) (level after : Level) (segments : ℕ) (caller : Caller) (request : Request)
    (made : Answer) (shown : Shown)
    (result : Result Shown CallFault) → IsCallAt level (plain_state old) (plain_state new) caller request result → made
    ≡ answered result → made ≡ Served shown
    → after ≡ level_left level request (answered result)
    → IsChecked (standing old level segments) (standing new after segments) caller (User request (Served shown)) (Ok tt)
served_checked old new level after segments caller request made shown result call same served sets =
    let is : answered result ≡ Served shown = sym same ∙ served in
    let numbers = (plain_state old).shape.numbers in
    record {
      legal = λ w at. (subst (IsOutcome (plain_state old) w caller request) is (call.outcome w at.shown at.at_level)).0;
      leads = λ w at. record {
        shown = subst (λ a. IsVolume (plain_state new) (after_answer numbers w caller request a)) is
            (call.leaves w at.shown);
        at_level = served_level numbers w caller level request shown at.at_level
            ∙ sym (sets ∙ ap (level_left level request) is);
      };
      illegal = λ no. absurd (cc);
      stays = tt;
      numbers = ap (λ (s : Shape). s.numbers) call.follows.shape;
      segments = refl;
    }

-- ---- what an entry tells

abbrev answer_in : Event → Answer → Answer
answer_in (User request answer) other = answer
answer_in (Cleaner kind outcome) other = other

pub told_so : (entry : Entry) (request : Request) (made : Answer) (shown : Shown) → entry.event
    ≡ User request (Served shown)
    → entry ≡ record { session = entry.session; cred = entry.cred; event = User request made } → made ≡ Served shown
told_so entry request made shown told same = ap (λ e. answer_in e made) (sym (ap (λ (x : Entry). x.event) same) ∙ told)

-- ---- the opening, and rows

pub opening_stands : (store : FlatFiles) (numbers segments : ℕ) → plain_state store ≡ opening_state numbers
    → StandsAt (standing store Insecure segments) opening_world
opening_stands store numbers segments same = record {
  shown = record {
    shows = shows_opening_state (plain_state store) (opening_state numbers) same refl;
    tree = opening_tree;
  };
  at_level = refl;
}

unrow : (s : StoreState) (w : World) (caller : Caller) (path : List (List ℕ)) (result : Result Shown CallFault)
    → IsOutcome s w caller (Stat path) (answered result)
    → ((number : ℕ) (attrs : Attrs) → ¬ (result ≡ Ok (shows.Stat number attrs)))
    → ¬ (decide w caller (Stat path) ≡ None)
unrow s w caller path (Ok shown) o none allowed = none _ _ (ap Ok o.0.2)
unrow s w caller path (Err (reasons.Denied denial)) o none allowed = let no = sym allowed ∙ o in absurd (cc)
unrow s w caller path (Err (reasons.Refused NoMemory)) o none allowed = ⊎_elim (λ no. absurd no.1) (λ no. absurd no) o.3
unrow s w caller path (Err (reasons.Refused NoSpace)) o none allowed = absurd o.0.1.1
unrow s w caller path (Err (reasons.Refused NoInodes)) o none allowed = absurd o.1
unrow s w caller path (Err (reasons.Refused DirectoryFull)) o none allowed = absurd o.1
unrow s w caller path (Err (reasons.Refused JournalFull)) o none allowed = absurd o

pub row_at : (s new : StoreState) (w : World) (caller : Caller) (path : List (List ℕ)) (result : Result Shown CallFault)
    (row : Option ShownRow)
    → IsVolume s w → IsCall s new caller (Stat path) result → caller ≡ superuser
    → MatchOption row ((number : ℕ) (attrs : Attrs) → ¬ (result ≡ Ok (shows.Stat number attrs))) (λ row. result
    ≡ Ok (shows.Stat row.number row.attrs))
    → IsRowAt w path row
row_at s new w caller path result None v call is told = λ allowed.
    unrow s w caller path result ((call w.level).outcome w v refl) told
    (subst (λ c. decide w c (Stat path) ≡ None) (sym is) allowed)
row_at s new w caller path result (Some row) v call is told =
    let o = subst (λ r. IsOutcome s w caller (Stat path) (answered r)) told ((call w.level).outcome w v refl) in
    (subst (λ c. decide w c (Stat path) ≡ None) is o.0.0, o.0.2)
