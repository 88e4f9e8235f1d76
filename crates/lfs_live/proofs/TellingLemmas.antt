-- What a line is answered, a lemma for each kind, for `telling::answer`: `asks_answered`, `look_answered`,
-- `check_answered`, `save_answered`, `dot_answered` and `fault_answered`. Each puts what the code did into the case
-- that `heard_of` has for the line. Only a line of a script has answers that count; of each other kind the counts stay
-- (`none_answered`). A text is told of the tree of now, which is known from each world where the journal may have
-- begun; `if_ok_at` and `if_ok_from` bring a result's promise to such a world.
use Rattle.std.proofs.Common.{◌≡◌, ℕ, List, [], Some, Result, Ok, Err, refl, sym, ap, subst, ◌∙◌}
use Rattle.std.proofs.Common.{append-nil}
use Rattle.std.specs.Prelude.{IfOk}
use Rattle.lfs_types.specs.declared.request.Request.{Request}
use Rattle.lfs_model.specs.declared.journal.Entry.{Entry}
use Rattle.lfs_model.specs.declared.steps.StepAnswer.{StepAnswer}
use Rattle.lfs_sinks.specs.Refusals.{tally_of}
use Rattle.lfs_sinks.specs.declared.totals.Tally.{Tally}
use Rattle.lfs_volume.specs.Journals.{AtPresent}
use Rattle.lfs_volume.specs.Seen.{Seen}
use Rattle.lfs_hearing.specs.Hearing.{heard_of}
use Rattle.lfs_live.specs.Saving.{Saves}
use Rattle.lfs_live.specs.Steps.{HasAnswered}
use Rattle.lfs_live.specs.Talkers.{Talker}
use Rattle.lfs_browse.specs.Looks.{TellsLook}
use Rattle.lfs_hearing.specs.declared.look.Look.{Look}
use Rattle.lfs_live.specs.Talking.{Hears, IsAnsweredBy, LooksOn}
use Rattle.lfs_live.specs.Telling.{dot_text}
use Rattle.lfs_hearing.specs.FaultLines.{fault_line}
use Rattle.lfs_hearing.specs.declared.fault.LineFault.{LineFault}
use Rattle.lfs_hearing.specs.declared.hearing.Dot.{Dot}
use Rattle.lfs_hearing.specs.declared.hearing.Inquiry.{Inquiry}
use Rattle.lfs_hearing.specs.declared.hearing.Heard.{Heard}
use Rattle.lfs_hearing.specs.declared.hearing.Heard.TheVariants as heard
use Rattle.lfs_audit.specs.declared.asker.Asker.{Asker}

-- what holds of a result from each of some worlds, holds from each of them of a result that is Ok
pub if_ok_at : {A E W : Type 0} (result : Result A E) (P : W → Type 0) (Q : W → A → Type 0)
    → ((w : W) → P w → IfOk result (Q w))
    → IfOk result (λ a. (w : W) → P w → Q w a)
if_ok_at (Ok a) P Q holds = holds
if_ok_at (Err e) P Q holds = tt

-- what holds of a result from each world of some, holds of it from one of them
pub if_ok_from : {A E W : Type 0} (result : Result A E) (P Q R S : W → Type 0) (T : W → A → Type 0)
    → IfOk result (λ a. (w : W) → P w → Q w → R w → S w → T w a)
    → (w : W) → P w → Q w → R w → S w → IfOk result (T w)
if_ok_from (Ok a) P Q R S T holds = holds
if_ok_from (Err e) P Q R S T holds = λ w p q r s. tt

-- ---- what a line answers

-- nothing was done
pub none_answered : {F : Type 0} (r : Talker F) (number : ℕ) (old new : Seen F) (tally : Tally) (speaker
    then : Asker) (said : Heard) (told : List ℕ)
    → ((handed : List Entry) (answers : List StepAnswer) → tally ≡ tally_of handed answers
    → Hears r number handed answers old speaker said told new then [])
    → HasAnswered r number old new tally tally speaker then said told
none_answered r number old new tally speaker then said told hears = record {
  given = [];
  heard = hears;
  counted = λ handed answers is. is ∙ ap (tally_of handed) (sym (append-nil answers));
}

-- a call was asked about, which is not made
pub asks_answered : {F : Type 0} (r : Talker F) (number : ℕ) (old new : Seen F) (tally : Tally) (speaker : Asker) (line : List ℕ)
    (inquiry : Inquiry) (request : Request) (told : List ℕ) → heard_of line ≡ heard.Asks inquiry request
    → LooksOn (r.cleaner.state old.store) (r.cleaner.state new.store) old new
    → AtPresent r.cleaner.state old (λ w. IsAnsweredBy w inquiry speaker.cred request told)
    → HasAnswered r number old new tally tally speaker speaker (heard_of line) told
asks_answered {F} r number old new tally speaker line inquiry request told is looks text =
    subst (λ (h : Heard). HasAnswered r number old new tally tally speaker speaker h told) (sym is)
    (none_answered r number old new tally speaker speaker (heard.Asks inquiry request) told
    (λ handed answers counted. (looks, refl, text, refl)))

-- a path was looked at, by calls whose refusals are not counted
pub look_answered : {F : Type 0} (r : Talker F) (number : ℕ) (old new : Seen F) (tally : Tally) (speaker : Asker) (line : List ℕ)
    (look : Look) (path : List (List ℕ)) (told : List ℕ) → heard_of line ≡ heard.Looks look path
    → TellsLook r.cleaner old new speaker look path [] told
    → HasAnswered r number old new tally tally speaker speaker (heard_of line) told
look_answered {F} r number old new tally speaker line look path told is looks =
    subst (λ (h : Heard). HasAnswered r number old new tally tally speaker speaker h told) (sym is)
    (none_answered r number old new tally speaker speaker (heard.Looks look path) told
    (λ handed answers counted. (looks, refl, refl)))

-- the volume was checked
pub check_answered : {F : Type 0} (r : Talker F) (number : ℕ) (old : Seen F) (tally : Tally) (speaker : Asker)
    (line told : List ℕ) → heard_of line ≡ heard.Check
    → AtPresent r.cleaner.state old (λ w. r.checked old.store told)
    → HasAnswered r number old old tally tally speaker speaker (heard_of line) told
check_answered {F} r number old tally speaker line told is tells =
    subst (λ (h : Heard). HasAnswered r number old old tally tally speaker speaker h told) (sym is)
    (none_answered r number old old tally speaker speaker heard.Check told
    (λ handed answers counted. (refl, refl, tells, refl)))

-- it was to be saved
pub save_answered : {F : Type 0} (r : Talker F) (number : ℕ) (old new : Seen F) (tally : Tally) (speaker : Asker)
    (line told : List ℕ) → heard_of line ≡ heard.Save → Saves r number old new told
    → HasAnswered r number old new tally tally speaker speaker (heard_of line) told
save_answered {F} r number old new tally speaker line told is saves =
    subst (λ (h : Heard). HasAnswered r number old new tally tally speaker speaker h told) (sym is)
    (none_answered r number old new tally speaker speaker heard.Save told
    (λ handed answers counted. (saves, refl, refl)))

-- a fault was told
pub fault_answered : {F : Type 0} (r : Talker F) (number : ℕ) (old : Seen F) (tally : Tally) (speaker : Asker) (line : List ℕ)
    (fault : LineFault) (place told : List ℕ) → heard_of line ≡ heard.Fault fault place
    → told ≡ fault_line number fault place → HasAnswered r number old old tally tally speaker speaker (heard_of line) told
fault_answered {F} r number old tally speaker line fault place told is text =
    subst (λ (h : Heard). HasAnswered r number old old tally tally speaker speaker h told) (sym is)
    (none_answered r number old old tally speaker speaker (heard.Fault fault place) told
    (λ handed answers counted. (refl, refl, text, refl)))

-- a word of the server's own was told
pub dot_answered : {F : Type 0} (r : Talker F) (number : ℕ) (old : Seen F) (tally : Tally) (speaker : Asker)
    (line : List ℕ) (dot : Dot) (text told : List ℕ) → heard_of line ≡ heard.Dot dot
    → ((handed : List Entry) (answers : List StepAnswer) → tally ≡ tally_of handed answers
    → dot_text r.texts dot handed answers old ≡ Some text)
    → told ≡ text → HasAnswered r number old old tally tally speaker speaker (heard_of line) told
dot_answered {F} r number old tally speaker line dot text told is tells same =
    subst (λ (h : Heard). HasAnswered r number old old tally tally speaker speaker h told) (sym is)
    (none_answered r number old old tally speaker speaker (heard.Dot dot) told
    (λ handed answers counted. (refl, refl, tells handed answers counted ∙ ap Some (sym same), refl)))
