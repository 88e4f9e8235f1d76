-- A step over the store keeps the journal true: `IsStep-answered` and `IsJournal-entered` for `answer_and_enter` and
-- `enter`, with `of_call` for `answer` and `beginning_journal` for the start. The journal leads from its world to the
-- one that the store shows, so an entry more is legal as the call's outcome is legal there, by the world after all
-- entries before (`world_after-append`). An answer for want of memory changes nothing and isn't entered
-- (`IsJournal-same`); a NoSpace must come with few clean segments, where those that the cleaner made since are counted
-- off (`IsShort-append`), so an event that cleans must tell how many.
use Rattle.std.proofs.Common.{◌≡◌, ℕ, ◌+◌, ◌<◌, ◌≤◌, List, [], ◌∷◌, ◌++◌, length, Some, inl, inr, true, false, refl, sym, ap}
use Rattle.std.proofs.Common.{subst, ◌∙◌, arith, length-append}
use Rattle.std.specs.Prelude.{Result, Ok, Err, OnErr, OnOk}
use Rattle.lfs_types.specs.Caller.{Caller}
use Rattle.lfs_types.specs.Shown.{IsList, ServesList}
use Rattle.lfs_types.specs.StoreStates.{Follows, MayLackSpace, Shape, StoreState}
use Rattle.lfs_types.specs.Tree.{World, opening_world}
use Rattle.lfs_types.specs.declared.answer.Answer.{Answer}
use Rattle.lfs_types.specs.declared.answer.Answer.TheVariants.{Served, Denied, Refused}
use Rattle.lfs_types.specs.declared.answer.Resource.TheVariants.{NoMemory, NoSpace, NoInodes, DirectoryFull}
use Rattle.lfs_types.specs.declared.answer.Resource.TheVariants.{JournalFull}
use Rattle.lfs_types.specs.declared.answer.Served.{Served as Shown}
use Rattle.lfs_types.specs.declared.answer.Served.TheVariants.{Done}
use Rattle.lfs_types.specs.declared.level.Level.{Level}
use Rattle.lfs_types.specs.declared.level.Level.TheVariants.{Insecure}
use Rattle.lfs_types.specs.declared.request.Request.{Request}
use Rattle.lfs_types.specs.declared.request.Request.TheVariants.{Stat, Read, Write, List as Names, SetLength, Create}
use Rattle.lfs_types.specs.declared.request.Request.TheVariants.{Mkdir, Unlink, Rmdir, Rename, Chmod, Chown, Chflags}
use Rattle.lfs_types.specs.declared.request.Request.TheVariants.{SetLevel, Sync}
use Rattle.lfs_model.specs.declared.journal.Entry.{Entry}
use Rattle.lfs_model.specs.declared.journal.Event.{Event}
use Rattle.lfs_model.specs.declared.journal.Event.TheVariants.{User, Cleaner}
use Rattle.lfs_model.specs.Runs.{IsNoSpace, IsShort, IsUnserved, cleaned, cleans, user_event}
use Rattle.lfs_model.specs.Steps.{IsAnswer, IsLegal, after_answer, world_after}
use Rattle.lfs_model.proofs.LevelLemmas.{level_after}
use Rattle.lfs_model.proofs.RunLemmas.{opening_tree, world_after-append, IsLegal-append, list_copies}
use Rattle.lfs_calls.specs.Content.{Shows}
use Rattle.lfs_calls.specs.Entries.{OnServed}
use Rattle.lfs_calls.specs.Outcomes.{IsOutcome}
use Rattle.lfs_calls.specs.Volumes.{HasWorld, InWorld, IsVolume}
use Rattle.lfs_calls.specs.Calls.{IsCallAt, answered}
use Rattle.lfs_calls.specs.declared.call_fault.CallFault.{CallFault}
use Rattle.lfs_calls.specs.declared.call_fault.CallFault.TheVariants as reasons
use Rattle.lfs_volume.specs.Copies.{is_lack_of_memory}
use Rattle.lfs_volume.specs.Journals.{Begins, HasBegun, IsAnswered, IsJournal, IsStep, Stays}
use Rattle.lfs_calls.specs.Levels.{level_left, level_set}
use Rattle.lfs_calls.proofs.LevelLemmas.{served_level}

-- a store that shows a world shows it at each level
pub begun : (s : StoreState) (level : Level) → HasWorld s → HasBegun s level
begun s level has = (
  record has.0 { level = level },
  record {
    shown = record {
      shows = record {
        files = has.1.shows.files;
        sizes = has.1.shows.sizes;
        listings = has.1.shows.listings;
      };
      tree = has.1.tree;
    };
    at_level = refl;
  },
)

-- the tree of a fresh volume is one where a journal may begin
pub opening_begins : (s : StoreState) → Shows s.content opening_world → Begins s Insecure opening_world
opening_begins s shown = record { shown = record { shows = shown; tree = opening_tree }; at_level = refl }

-- the empty journal is one of the world in which it begins
pub beginning_journal : (from : World) (s : StoreState) (level : Level) (limit : ℕ) → Begins s level from
    → IsJournal from s level [] limit
beginning_journal from s level limit begins = record {
  legal = tt;
  shown = begins.shown;
  at_level = begins.at_level;
  within = omega arith;
  space = λ none. tt;
}

-- a journal that may have so many entries
pub limited_journal : (from : World) (s : StoreState) (level : Level) (es : List Entry) (limit few : ℕ)
    → IsJournal from s level es limit → length es ≤ few → IsJournal from s level es few
limited_journal from s level es limit few j within = record {
  legal = j.legal;
  shown = j.shown;
  at_level = j.at_level;
  within = within;
  space = j.space;
}

-- where a journal leads to, the next one may begin
pub journal_begins : (from : World) (s : StoreState) (level : Level) (es : List Entry) (limit : ℕ)
    → IsJournal from s level es limit → Begins s level (world_after s.shape.numbers es from)
journal_begins from s level es limit j = record { shown = j.shown; at_level = j.at_level }

-- fewer clean segments are no more than before
IsShort-fewer : (clean fewer : ℕ) (es : List Entry) → fewer ≤ clean → IsShort clean es → IsShort fewer es
IsShort-fewer clean fewer [] h short = tt
IsShort-fewer clean fewer (e ∷ es) h short =
    ((λ no. let few = short.0 no in omega arith), IsShort-fewer clean fewer es h short.1)

-- one entry more makes as many segments clean as its event tells
cleaned-append : (es : List Entry) (e : Entry) → cleaned (es ++ e ∷ []) ≡ cleaned es + cleans e.event
cleaned-append [] e = omega arith
cleaned-append (x ∷ es) e = let more = cleaned-append es e in omega (arith, more)

-- want of space makes none clean
cleans-none : (event : Event) → IsNoSpace event → cleans event ≡ 0
cleans-none (User request answer) short = refl
cleans-none (Cleaner kind outcome) short = absurd short

-- with few clean segments, where no growth is refused past a share
few_clean : (s : StoreState) → MayLackSpace s → s.shape.has_share ≡ false → s.clean ≤ 2
few_clean s (inl few) none = few
few_clean s (inr share) none = absurd (cc)

IsShort-append : (clean : ℕ) (es : List Entry) (e : Entry) → IsShort clean es → (IsNoSpace e.event → clean ≤ 2)
    → IsShort (clean + cleans e.event) (es ++ e ∷ [])
IsShort-append clean [] e short few = (
  (λ no. let two = few no in let none = cleans-none e.event no in
      omega (arith, two, none)),
  tt,
)
IsShort-append clean (x ∷ es) e short few = (
  (λ no. let old = short.0 no in let more = cleaned-append es e in omega (arith, old, more)),
  IsShort-append clean es e short.1 few,
)

-- the journal of a store that changed nothing but the count of its clean segments
pub IsJournal-same : (from : World) (old new : StoreState) (level level_after : Level) (es : List Entry) (limit : ℕ)
    → IsJournal from old level es limit → Stays old new level level_after → Follows old new
    → IsJournal from new level_after es limit
IsJournal-same from old new level level_after es limit j stays follows = record {
  legal = subst (λ (s : Shape). IsLegal s.numbers s.segments es from) (sym follows.shape) j.legal;
  shown = subst (λ (s : Shape). IsVolume new (world_after s.numbers es from)) (sym follows.shape)
      (record {
        shows = subst (λ c. Shows c (world_after old.shape.numbers es from)) (sym stays.content) j.shown.shows;
        tree = j.shown.tree;
      });
  at_level = subst (λ (s : Shape). (world_after s.numbers es from).level ≡ level_after) (sym follows.shape) (j.at_level
      ∙ sym stays.at_level);
  within = j.within;
  space = λ none.
      let was = subst (λ (s : Shape). s.has_share ≡ false) follows.shape none in
      IsShort-fewer old.clean new.clean es (follows.clean was) (j.space was);
}

-- an answer that is entered is one that may be
entered_answer : (s : StoreState) (w : World) (caller : Caller) (request : Request) (answer : Answer)
    → IsOutcome s w caller request answer → is_lack_of_memory answer ≡ false
    → IsAnswer s.shape.numbers w caller request answer
entered_answer s w caller request (Served shown) o h = o.0
entered_answer s w caller request (Denied denial) o h = o
entered_answer s w caller request (Refused NoMemory) o h = absurd (cc)
entered_answer s w caller request (Refused NoSpace) o h = o.0
entered_answer s w caller request (Refused NoInodes) o h = o
entered_answer s w caller request (Refused DirectoryFull) o h = o.0
entered_answer s w caller request (Refused JournalFull) o h = absurd o

-- an answer that may be is entered, where memory was not wanting
pub entered_event : (s : StoreState) (w : World) (caller : Caller) (request : Request) (answer : Answer)
    → IsOutcome s w caller request answer → is_lack_of_memory answer ≡ false → user_event request answer
    ≡ Some (User request answer)
entered_event s w caller request (Served shown) o h = refl
entered_event s w caller request (Denied denial) o h = refl
entered_event s w caller request (Refused NoMemory) o h = absurd (cc)
entered_event s w caller request (Refused NoSpace) o h = refl
entered_event s w caller request (Refused NoInodes) o h = refl
entered_event s w caller request (Refused DirectoryFull) o h = refl
entered_event s w caller request (Refused JournalFull) o h = absurd o

-- NoSpace comes only where a change may lack space
entered_space : (s : StoreState) (w : World) (caller : Caller) (request : Request) (answer : Answer)
    → IsOutcome s w caller request answer → answer ≡ Refused NoSpace → MayLackSpace s
entered_space s w caller request answer o e = (subst (IsOutcome s w caller request) e o).2

-- the journal with an entry more
pub IsJournal-entered : (from : World) (old new : StoreState) (level level_after : Level) (es : List Entry)
    (limit session : ℕ) (caller : Caller) (event : Event)
    → IsJournal from old level es limit → length es < limit
    → IsStep old new level_after (world_after old.shape.numbers es from) caller event
    → IsJournal from new level_after (es ++ record { session = session; cred = caller; event = event } ∷ []) limit
IsJournal-entered from old new level level_after es limit session caller event j room step =
    let entry : Entry = record { session = session; cred = caller; event = event } in
    let numbers = old.shape.numbers in
    let leads = world_after-append numbers es (entry ∷ []) from in
    record {
      legal = subst (λ (s : Shape). IsLegal s.numbers s.segments (es ++ entry ∷ []) from) (sym step.shape)
          (IsLegal-append numbers old.shape.segments es entry from j.legal step.happens);
      shown = subst (λ (s : Shape). IsVolume new (world_after s.numbers (es ++ entry ∷ []) from)) (sym step.shape)
          (subst (IsVolume new) (sym leads) step.leaves);
      at_level = subst (λ (s : Shape). (world_after s.numbers (es ++ entry ∷ []) from).level ≡ level_after)
          (sym step.shape)
          (ap (λ (v : World). v.level) leads ∙ step.leveled);
      within = simp length-append (omega arith);
      space = λ none.
          let was = subst (λ (s : Shape). s.has_share ≡ false) step.shape none in
          IsShort-fewer (old.clean + cleans event) new.clean (es ++ entry ∷ []) (step.clean was)
          (IsShort-append old.clean es entry (j.space was) (λ no. few_clean old (step.space no) was));
    }

-- an answered call is a step, where memory was not wanting
pub IsStep-answered : (from : World) (old new : StoreState) (level level_after : Level) (es : List Entry) (limit : ℕ)
    (caller : Caller) (request : Request) (answer : Answer)
    → IsJournal from old level es limit → IsAnswered old new level level_after caller request answer
    → is_lack_of_memory answer ≡ false
    → IsStep old new level_after (world_after old.shape.numbers es from) caller (User request answer)
IsStep-answered from old new level level_after es limit caller request answer j a entered =
    let w = world_after old.shape.numbers es from in
    let o = a.outcome w j.shown j.at_level in
    record {
      happens = entered_answer old w caller request answer o entered;
      leaves = a.leaves w j.shown;
      leveled = a.leveled w j.at_level;
      space = entered_space old w caller request answer o;
      clean = λ none. let fewer = a.follows.clean none in omega (arith, fewer);
      shape = a.follows.shape;
    }

-- a call whose answer wanted memory for its copy
copy_outcome : (s : StoreState) (w : World) (caller : Caller) (request : Request) (answer : Answer)
    → IsOutcome s w caller request answer → ServesList answer → IsOutcome s w caller request (Refused NoMemory)
copy_outcome s w caller request (Served shown) o h =
    (o.0.0, o.0.1, o.1, inr (list_copies w request (subst IsList o.0.2 h)))
copy_outcome s w caller request (Denied denial) o h = absurd h
copy_outcome s w caller request (Refused resource) o h = absurd h

-- an answer that tells of the want of memory is that refusal
pub lack_is : (answer : Answer) → is_lack_of_memory answer ≡ true → answer ≡ Refused NoMemory
lack_is (Served shown) h = absurd (cc)
lack_is (Denied denial) h = absurd (cc)
lack_is (Refused NoMemory) h = refl
lack_is (Refused NoSpace) h = absurd (cc)
lack_is (Refused NoInodes) h = absurd (cc)
lack_is (Refused DirectoryFull) h = absurd (cc)
lack_is (Refused JournalFull) h = absurd (cc)

-- a call whose answer tells of the want of memory
pub IsAnswered-lack : (old new : StoreState) (level level_after : Level) (caller : Caller) (request : Request)
    (answer : Answer)
    → IsAnswered old new level level_after caller request answer → is_lack_of_memory answer ≡ true
    → IsAnswered old new level level_after caller request (Refused NoMemory)
IsAnswered-lack old new level level_after caller request answer a h =
    subst (IsAnswered old new level level_after caller request) (lack_is answer h) a

-- a call whose answer wanted memory for its copy
pub IsAnswered-copy : (old new : StoreState) (level level_after : Level) (caller : Caller) (request : Request)
    (answer : Answer)
    → IsAnswered old new level level_after caller request answer → ServesList answer
    → IsAnswered old new level level_after caller request (Refused NoMemory)
IsAnswered-copy old new level level_after caller request answer a list =
    let stays = a.listed list in
    record {
      outcome = λ w shown e. copy_outcome old w caller request answer (a.outcome w shown e) list;
      leaves = λ w shown. record { shows = subst (λ c. Shows c w) (sym stays.content) shown.shows; tree = shown.tree };
      leveled = λ w e. e ∙ sym stays.at_level;
      entries = tt;
      unserved = λ h. stays;
      listed = λ h. absurd h;
      looks = a.looks;
      unasked = tt;
      follows = a.follows;
    }

-- ---- from what a call comes to, to its answer

unserved_level : (level : Level) (request : Request) (answer : Answer) → IsUnserved answer
    → level_left level request answer ≡ level
unserved_level level request (Served shown) h = absurd h
unserved_level level request (Denied denial) h = refl
unserved_level level request (Refused resource) h = refl

-- what is served as a list sets no level
list_level : (s : StoreState) (w : World) (caller : Caller) (level : Level) (request : Request) (shown : Shown)
    → IsOutcome s w caller request (Served shown) → IsList shown → level_set level request ≡ level
list_level s w caller level (Stat path) shown o h = refl
list_level s w caller level (Read path off len) shown o h = refl
list_level s w caller level (Names path) shown o h = refl
list_level s w caller level (Write path place bytes) shown o h = refl
list_level s w caller level (SetLength path len) shown o h = refl
list_level s w caller level (Create path mode) shown o h = refl
list_level s w caller level (Mkdir path mode) shown o h = refl
list_level s w caller level (Unlink path) shown o h = refl
list_level s w caller level (Rmdir path) shown o h = refl
list_level s w caller level (Rename from to) shown o h = refl
list_level s w caller level (Chmod path mode) shown o h = refl
list_level s w caller level (Chown path uid gid) shown o h = refl
list_level s w caller level (Chflags path flags) shown o h = refl
list_level s w caller level Sync shown o h = refl
list_level s w caller level (SetLevel new) shown o h = let none = subst IsList o.0.2 h in absurd none

listed_level : (s : StoreState) (w : World) (caller : Caller) (level : Level) (request : Request) (answer : Answer)
    → IsOutcome s w caller request answer → ServesList answer → level_left level request answer ≡ level
listed_level s w caller level request (Served shown) o h = list_level s w caller level request shown o h
listed_level s w caller level request (Denied denial) o h = absurd h
listed_level s w caller level request (Refused resource) o h = absurd h

answer_level : (numbers : ℕ) (w : World) (caller : Caller) (level : Level) (request : Request) (answer : Answer)
    → w.level ≡ level
    → (after_answer numbers w caller request answer).level ≡ level_left level request answer
answer_level numbers w caller level request (Served shown) e = served_level numbers w caller level request shown e
answer_level numbers w caller level request (Denied denial) e = e
answer_level numbers w caller level request (Refused resource) e = e

unserved_content : {P : Type 0} (result : Result Shown CallFault) → OnErr result P → IsUnserved (answered result) → P
unserved_content (Ok shown) p h = absurd h
unserved_content (Err (reasons.Denied denial)) p h = p
unserved_content (Err (reasons.Refused resource)) p h = p

-- what a call comes to is its answer
pub of_call : (old new : StoreState) (level left : Level) (caller : Caller) (request : Request)
    (result : Result Shown CallFault) (answer : Answer)
    → HasWorld old → IsCallAt level old new caller request result → answer ≡ answered result → left
    ≡ level_left level request answer
    → IsAnswered old new level left caller request answer
of_call old new level left caller request result answer has call is sets =
    let here : World = record has.0 { level = level } in
    let shown : IsVolume old here = record {
      shows =
          record { files = has.1.shows.files; sizes = has.1.shows.sizes; listings = has.1.shows.listings };
      tree = has.1.tree;
    } in
    subst (IsAnswered old new level left caller request) (sym is) (record {
      outcome = call.outcome;
      leaves = call.leaves;
      leveled = λ w e. answer_level old.shape.numbers w caller level request (answered result) e
          ∙ sym (sets ∙ ap (level_left level request) is);
      entries = call.entries;
      unserved = λ h. record {
        content = unserved_content result call.halted h;
        at_level = sets
            ∙ ap (level_left level request) is ∙ unserved_level level request (answered result) h;
      };
      listed = λ h. record {
        content = call.listed h;
        at_level = sets ∙ ap (level_left level request) is
            ∙ listed_level old here caller level request (answered result) (call.outcome here shown refl) h;
      };
      looks = call.looks;
      unasked = call.unasked;
      follows = call.follows;
    })

-- what holds of the world of a journal where a call is served
pub entries_at : (P : World → Type 0) (s : StoreState) (answer : Answer) (w : World) → IsVolume s w
    → OnServed answer (InWorld s P) → OnServed answer (P w)
entries_at P s (Served shown) w v h = h w v
entries_at P s (Denied denial) w v h = tt
entries_at P s (Refused resource) w v h = tt

-- where a call came to an answer that it is done, what holds of each call that did holds
pub on_done : (result : Result Shown CallFault) (answer : Answer) (P : Type 0) → answer ≡ answered result → answer
    ≡ Served Done → OnOk result P → P
on_done (Ok shown) answer P is done p = p
on_done (Err (reasons.Denied denial)) answer P is done p = let no = sym is ∙ done in absurd (cc)
on_done (Err (reasons.Refused resource)) answer P is done p = let no = sym is ∙ done in absurd (cc)
