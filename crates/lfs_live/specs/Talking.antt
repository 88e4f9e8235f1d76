-- What lines do, one after another, and what is told of them.
use Rattle.std.specs.Prelude.{◌≡◌, ℕ, ◌+◌, ◌⊎◌, ◌&&◌, ◌||◌, not, nat_lt, Bool, true, false, List, [], ◌∷◌, ◌++◌}
use Rattle.std.specs.Prelude.{length, Option, Some}
use Rattle.std.specs.Io.KnownBytes.{Appends, Consumes, IsAtEnd}
use Rattle.std.specs.List.{flat_map}
use Rattle.lfs_types.specs.Caller.{Caller as Credential}
use Rattle.lfs_types.specs.StoreStates.{StoreState}
use Rattle.lfs_types.specs.Tree.{World}
use Rattle.lfs_types.specs.declared.request.Request.{Request}
use Rattle.lfs_model.specs.Steps.{IsLegal}
use Rattle.lfs_model.specs.declared.journal.Entry.{Entry}
use Rattle.lfs_model.specs.declared.steps.StepAnswer.{StepAnswer}
use Rattle.lfs_sinks.specs.Refusals.{run_report}
use Rattle.lfs_script.specs.declared.plan.Line.{Line}
use Rattle.lfs_script.specs.declared.plan.Act.TheVariants.{Pass}
use Rattle.lfs_script.specs.declared.plan.Line.TheVariants.{Nothing, Session, Caller, Act}
use Rattle.lfs_words.specs.Lines.{HasNoLineFeed}
use Rattle.lfs_volume.specs.Cleanings.{Cleaner}
use Rattle.lfs_volume.specs.Journals.{AtPresent, Since}
use Rattle.lfs_volume.specs.Seen.{Seen}
use Rattle.lfs_audit.specs.Runs.{TellsLine}
use Rattle.lfs_browse.specs.Looks.{TellsLook}
use Rattle.lfs_audit.specs.declared.asker.Asker.{Asker}
use Rattle.lfs_who.specs.WhoText.{IsWhoTold}
use Rattle.lfs_why.specs.WhyText.{why_text}
use Rattle.lfs_live.specs.Faulty.{have_fault, is_told}
use Rattle.lfs_live.specs.Frames.{framed, frames}
use Rattle.lfs_hearing.specs.Hearing.{heard_of}
use Rattle.lfs_live.specs.Held.{Course, Held, MovesOn, Sink, Takes, course_of}
use Rattle.lfs_live.specs.Talkers.{Talker}
use Rattle.lfs_live.specs.Pieces.{ended_line}
use Rattle.lfs_live.specs.Saving.{Saves}
use Rattle.lfs_live.specs.Telling.{cut_texts, dot_text}
use Rattle.lfs_hearing.specs.FaultLines.{fault_line}
use Rattle.lfs_live.specs.declared.framing.Framing.{Framing}
use Rattle.lfs_hearing.specs.declared.hearing.Dot.TheVariants.{Quit}
use Rattle.lfs_hearing.specs.declared.hearing.Heard.{Heard}
use Rattle.lfs_hearing.specs.declared.hearing.Heard.TheVariants as heard
use Rattle.lfs_hearing.specs.declared.hearing.Inquiry.{Inquiry}
use Rattle.lfs_hearing.specs.declared.hearing.Inquiry.TheVariants.{Why, Who}

-- the first line is of session 0, and of the superuser with group 0, who is not init
abbrev pub first_speaker : Asker
first_speaker = record { session = 0; cred = record { uid = 0; groups = 0 ∷ []; init = false } }

-- what a line of a script did on a volume, who speaks then, what is told of it, and how its calls were answered
abbrev pub Does : {F : Type 0} → Cleaner F → Seen F → Asker → Line → List ℕ → Seen F → Asker → List StepAnswer
    → Type 0
Does r old speaker Nothing told new then given = (new ≡ old) × (then ≡ speaker) × (told ≡ []) × (given ≡ [])
Does r old speaker (Session session) told new then given =
    (new ≡ old) × (then ≡ record speaker { session = session }) × (told ≡ []) × (given ≡ [])
Does r old speaker (Caller cred) told new then given =
    (new ≡ old) × (then ≡ record speaker { cred = cred }) × (told ≡ []) × (given ≡ [])
Does r old speaker (Act act) told new then given =
    (does : TellsLine r old new speaker.session speaker.cred act [] told) × (then ≡ speaker) × (given ≡ does.answers)

-- a volume was looked at: its store shows what it showed, and all else is as it was
pub record LooksOn {F : Type 0} (before after : StoreState) (old new : Seen F) : Type 0 where
  pub state : after ≡ before
  pub level : new.level ≡ old.level
  pub journal : new.journal ≡ old.journal
  pub limit : new.limit ≡ old.limit
  pub since : new.since ≡ old.since
  pub since_level : new.since_level ≡ old.since_level

-- what is told of a call that is not made, on this tree: why it would be allowed or denied, or who could make it
abbrev pub IsAnsweredBy : World → Inquiry → Credential → Request → List ℕ → Type 0
IsAnsweredBy w Why caller request told = told ≡ why_text w caller request
IsAnsweredBy w Who caller request told = IsWhoTold w request told

-- The same of each line, by its number, with the entries that were handed out and the answers that were told by then: a
-- call that is asked about is not made, a look makes its calls, whose refusals are not counted, a save makes its Sync,
-- which is not counted either, and a check, another word of the server's own and a fault change nothing.
abbrev pub Hears : {F : Type 0} → Talker F → ℕ → List Entry → List StepAnswer → Seen F → Asker → Heard → List ℕ
    → Seen F → Asker → List StepAnswer → Type 0
Hears r number handed answers old speaker (heard.Line line) told new then given =
    Does r.cleaner old speaker line told new then given
Hears r number handed answers old speaker (heard.Asks inquiry request) told new then given =
    LooksOn (r.cleaner.state old.store) (r.cleaner.state new.store) old new × (then ≡ speaker)
    × AtPresent r.cleaner.state old (λ w. IsAnsweredBy w inquiry speaker.cred request told) × (given ≡ [])
Hears r number handed answers old speaker (heard.Looks look path) told new then given =
    TellsLook r.cleaner old new speaker look path [] told × (then ≡ speaker) × (given ≡ [])
Hears r number handed answers old speaker (heard.Dot dot) told new then given =
    (new ≡ old) × (then ≡ speaker) × (dot_text r.texts dot handed answers old ≡ Some told) × (given ≡ [])
Hears r number handed answers old speaker heard.Check told new then given =
    (new ≡ old) × (then ≡ speaker) × AtPresent r.cleaner.state old (λ w. r.checked old.store told) × (given ≡ [])
Hears r number handed answers old speaker heard.Save told new then given =
    Saves r number old new told × (then ≡ speaker) × (given ≡ [])
Hears r number handed answers old speaker (heard.Fault fault place) told new then given =
    (new ≡ old) × (then ≡ speaker) × (told ≡ fault_line number fault place) × (given ≡ [])

-- a pass of the cleaner is due: passes are made unasked, and at most three segments are clean
abbrev pub is_due : {F : Type 0} → (F → StoreState) → Course F → Bool
is_due state now = now.cleans && not (nat_lt 3 (state now.volume.store).clean)

-- The cleaner made a pass, as session 255 and the superuser, of which nothing is told; and what it entered moved on.
pub record HasPassed {F : Type 0} (r : Cleaner F) (now after : Course F) : Type 0 where
  pub passed : Seen F
  pub untold : List ℕ
  pub makes : TellsLine r now.volume passed 255 first_speaker.cred Pass [] untold
  pub moves : MovesOn (record now { volume = passed }) after

-- behind a line a pass is made exactly where one is due
pub record Tidies {F : Type 0} (r : Cleaner F) (now after : Course F) : Type 0 where
  pub passes : is_due r.state now ≡ true → HasPassed r now after
  pub stays : is_due r.state now ≡ false → after ≡ now

-- The same of lines, one after another, of which the first has this number, with the text that is told of each: behind
-- each of them entries may be handed out, or the journal closed, and a pass made.
abbrev pub HearsAll : {F : Type 0} → Talker F → ℕ → Course F → Asker → List (List ℕ) → List (List ℕ) → Course F
    → Asker → Type 0
HearsAll r number old speaker [] texts new then = (new ≡ old) × (then ≡ speaker) × (texts ≡ [])
HearsAll {F} r number old speaker (line ∷ lines) texts new then =
    (told : List ℕ) × (rest : List (List ℕ)) × (middle : Seen F) × (after : Course F) × (tidied : Course F)
    × (next : Asker) × (given : List StepAnswer) × (texts ≡ told ∷ rest) × HasNoLineFeed line
    × Hears r number old.handed old.answers old.volume speaker (heard_of line) told middle next given
    × MovesOn (record old { volume = middle; answers = old.answers ++ given }) after × Tidies r.cleaner after tidied
    × HearsAll r (number + 1) tidied next lines rest new then

-- lines, each with its line feed
abbrev pub ended : List (List ℕ) → List ℕ
ended lines = flat_map ended_line lines

-- Lines were read, and what is told of them is written; and a part of a line was read, of which nothing is told.
pub record HasHeardSoFar {F : Type 0} (r : Talker F) (framing : Framing) (old new : Course F)
    (known left start out : Option (List ℕ)) : Type 0 where
  pub then : Asker
  pub lines : List (List ℕ)
  pub part : List ℕ
  pub texts : List (List ℕ)
  pub heard : HearsAll r 1 old first_speaker lines texts new then
  pub unended : HasNoLineFeed part
  pub taken : Consumes known left (ended lines ++ part)
  pub printed : Appends start out (frames framing texts)

-- what was read last, of the line with this number: one that quits, of which nothing is told, or all that is behind the
-- last line feed
abbrev pub IsLast : ℕ → List ℕ → List (List ℕ) → Option (List ℕ) → Type 0
IsLast number last texts left =
    ((line : List ℕ) × HasNoLineFeed line × (heard_of line ≡ heard.Dot Quit) × (last ≡ ended_line line)
    × (texts ≡ []))
    ⊎ (HasNoLineFeed last × IsAtEnd left × (texts ≡ cut_texts number last))

-- Lines were read up to one that quits, or to the end of the input, and what is told of each is written, in order, and
-- nothing else.
pub record HasHeardAll {F : Type 0} (r : Talker F) (framing : Framing) (old new : Course F)
    (known left start out : Option (List ℕ)) : Type 0 where
  pub then : Asker
  pub lines : List (List ℕ)
  pub last : List ℕ
  pub texts : List (List ℕ)
  pub last_texts : List (List ℕ)
  pub heard : HearsAll r 1 old first_speaker lines texts new then
  pub ends : IsLast (length lines + 1) last last_texts left
  pub taken : Consumes known left (ended lines ++ last)
  pub printed : Appends start out (frames framing (texts ++ last_texts))

-- one of the lines has a fault, or what is behind the last line feed
abbrev pub has_fault_in : {F : Type 0} {r : Talker F} {framing : Framing} {old new : Course F}
    {known left start out : Option (List ℕ)} → HasHeardAll r framing old new known left start out → Bool
has_fault_in heard = have_fault heard.lines heard.texts || is_told heard.last_texts

-- the same, and then the report of all entries, those that were handed out and those that are kept, which are legal from
-- the tree where the journal began, and of the answers that were told
pub record IsTalk {F : Type 0} (r : Talker F) (framing : Framing) (old new : Course F)
    (known left start out : Option (List ℕ)) : Type 0 where
  pub before : Option (List ℕ)
  pub heard : HasHeardAll r framing old new known left start before
  pub legal : Since (r.cleaner.state old.volume.since) old.volume.since_level (λ from.
      let shape = (r.cleaner.state old.volume.store).shape in
      IsLegal shape.numbers shape.segments (new.handed ++ new.volume.journal) from)
  pub reported : Appends before out (framed framing (run_report (new.handed ++ new.volume.journal) new.answers))

-- A talk with its sink: the entries that were handed out; a sink that takes more has the lines of all entries, in order,
-- each once; and whether a line had a fault.
pub record IsKeptTalk {F J : Type 0} (r : Talker F) (framing : Framing) (sink : Sink J) (old new : Held F J)
    (has_fault : Bool) (known left start out : Option (List ℕ)) : Type 0 where
  pub handed : List Entry
  pub answers : List StepAnswer
  pub talk : IsTalk r framing (course_of old [] []) (course_of new handed answers) known left start out
  pub faulty : has_fault ≡ has_fault_in talk.heard
  pub kept : new.is_open ≡ true → Takes sink old.sink new.sink (handed ++ new.volume.journal)

-- the same up to a read that failed
pub record HasKeptSoFar {F J : Type 0} (r : Talker F) (framing : Framing) (sink : Sink J) (old new : Held F J)
    (known left start out : Option (List ℕ)) : Type 0 where
  pub handed : List Entry
  pub answers : List StepAnswer
  pub so_far : HasHeardSoFar r framing (course_of old [] []) (course_of new handed answers) known left start out
  pub kept : new.is_open ≡ true → Takes sink old.sink new.sink (handed ++ new.volume.journal)
