-- A talk whose lines are a script does what a run of the script does: `script_law`, for the law `writes_as_script`. No
-- verb begins with a dot, so no line of a script does, and each that is short enough is heard as the script says it
-- (`heard-said`). Then by induction on the lines: the volume became what it is by what the plan's draft asks for so far
-- (`Followed`), and the plan goes on behind it (`Goes`); without a sink and without passes unasked nothing else moves
-- it (`unmoved`). The talk ends where the script does: `.quit` is no line of a script, and a last line without a line
-- feed would be its fault (`script-ends`).
use Rattle.std.proofs.Common.{◌≡◌, ℕ, ◌+◌, ◌≤◌, ◌⊎◌, Bool, true, false, cond, List, [], ◌∷◌, ◌++◌, length, Option, None}
use Rattle.std.proofs.Common.{Some, Result, Ok, Err, inl, inr, refl, sym, ap, subst, ◌∙◌, arith, append_assoc}
use Rattle.std.proofs.Common.{append-nil}
use Rattle.std.specs.Io.KnownBytes.{Appends}
use Rattle.std.specs.List.{All, list_any, onto_first}
use Rattle.std.proofs.KnownBytes.{Appends-trans}
use Rattle.std.proofs.lemmas.Bool.{eqb-true, le-ltb}
use Rattle.std.proofs.lemmas.List.Elements.{All-head, All-tail}
use Rattle.lfs_model.specs.declared.journal.Entry.{Entry}
use Rattle.lfs_model.specs.declared.steps.Step.{Step as Made}
use Rattle.lfs_model.specs.declared.steps.StepAnswer.{StepAnswer}
use Rattle.lfs_model.specs.Runs.{kept_steps}
use Rattle.lfs_model.specs.Steps.{IsLegal}
use Rattle.lfs_sinks.specs.Refusals.{run_report}
use Rattle.lfs_words.specs.Lines.{HasNoLineFeed, IsFirstLine, is_printable}
use Rattle.lfs_words.specs.Wording.{is_bare, words_of}
use Rattle.lfs_words.specs.declared.fault.FaultKind.{FaultKind}
use Rattle.lfs_words.specs.declared.fault.FaultKind.TheVariants.{Bytes, Words}
use Rattle.lfs_script.specs.PlanTypes.{Drafted, Planned}
use Rattle.lfs_script.specs.Plans.{added, at_line, first_draft, line_said, lines_of, plan_from, plan_of, planned}
use Rattle.lfs_script.specs.Plans.{text_said, words_said}
use Rattle.lfs_script.specs.Verbs.{verb_of}
use Rattle.lfs_script.specs.declared.fault.ScriptFault.{ScriptFault}
use Rattle.lfs_script.specs.declared.plan.Line.{Line}
use Rattle.lfs_script.specs.declared.plan.Line.TheVariants as says
use Rattle.lfs_script.specs.declared.plan.Step.{Step}
use Rattle.lfs_script.proofs.PlanLemmas.{lines_first, plan_cut, plan_end, plan_step}
use Rattle.lfs_parts.specs.declared.parts.Parts.{Parts}
use Rattle.lfs_logstore.specs.States.{state_of}
use Rattle.lfs_volume.specs.Cleanings.{Cleaner}
use Rattle.lfs_volume.specs.Journals.{Begins}
use Rattle.lfs_volume.specs.Seen.{Seen}
use Rattle.lfs_audit.specs.Output.{IsOutput}
use Rattle.lfs_audit.specs.Runs.{AreAsked, Runs, lines_text}
use Rattle.lfs_audit.specs.Scripts.{log_cleaner}
use Rattle.lfs_audit.proofs.RunLemmas.{begun_answers, lines_of_runs, runs_joined, runs_none}
use Rattle.lfs_live.specs.Frames.{frames}
use Rattle.lfs_hearing.specs.Hearing.{heard_of, is_dotted}
use Rattle.lfs_live.specs.Held.{Course, IsHanded, IsShut, MovesOn}
use Rattle.lfs_live.specs.Scripts.{WritesAsScript, log_talker, never_kept}
use Rattle.lfs_live.specs.Talkers.{Talker}
use Rattle.lfs_live.specs.Talking.{Does, Hears, HearsAll, IsLast, IsTalk, Tidies, ended, first_speaker}
use Rattle.lfs_live.specs.Pieces.{ended_line}
use Rattle.lfs_hearing.specs.declared.hearing.Dot.TheVariants.{Quit}
use Rattle.lfs_hearing.specs.declared.hearing.Heard.{Heard}
use Rattle.lfs_hearing.specs.declared.hearing.Heard.TheVariants as heard
use Rattle.lfs_live.specs.declared.framing.Framing.TheVariants.{Plain}
use Rattle.lfs_audit.specs.declared.asker.Asker.{Asker}

-- ---- no line of a script begins with a dot

-- no verb begins with a dot
dot-verb : (word : List ℕ) → verb_of (46 ∷ word) ≡ None
dot-verb word = refl

dot-words : (words : List (List ℕ)) → words_said (onto_first 46 words) ≡ Err Words
dot-words [] = refl
dot-words (word ∷ words) = refl

dot-text : (bare : Bool) (said : Result Line FaultKind) → said ≡ Err Words → cond bare (Err Words) said ≡ Err Words
dot-text true said e = refl
dot-text false said e = e

not-ok : {A E : Type 0} (a : A) (e : E) → Err e ≡ Ok a → ⊥
not-ok a e eq = absurd (cc)

dot-line : (printable : Bool) (text : Result Line FaultKind) (said : Line) → text ≡ Err Words
    → cond printable text (Err Bytes) ≡ Ok said → ⊥
dot-line true text said refused ok = not-ok said Words (sym refused ∙ ok)
dot-line false text said refused ok = not-ok said Bytes ok

dotted : (line : List ℕ) (said : Line) → is_dotted line ≡ true → line_said line ≡ Ok said → ⊥
unfolding line_said
dotted [] said dot ok = absurd (cc)
dotted (c ∷ cs) said dot ok =
    let is : c ≡ 46 = eqb-true c 46 dot in
    dot-line (is_printable (46 ∷ cs)) (text_said (46 ∷ cs)) said
    (dot-text (list_any is_bare (words_of (46 ∷ cs))) (words_said (words_of (46 ∷ cs))) (dot-words (words_of cs)))
    (subst (λ (n : ℕ). line_said (n ∷ cs) ≡ Ok said) is ok)

undotted : (line : List ℕ) (said : Line) (dot : Bool) → is_dotted line ≡ dot → line_said line ≡ Ok said → is_dotted line
    ≡ false
undotted line said true e ok = absurd (dotted line said e ok)
undotted line said false e ok = e

-- what a line of a script says that is not too long
heard-said : (line : List ℕ) (said : Line) → length line ≤ 65536 → line_said line ≡ Ok said → heard_of line
    ≡ heard.Line said
unfolding heard_of
heard-said line said few ok = rw (le-ltb 65536 (length line) few, undotted line said (is_dotted line) refl ok, ok) refl

-- ---- a line follows a draft

-- a volume became this one by what the lines ask for that a draft grew by, and this is told of them, and these answers
record Followed {F : Type 0} (r : Cleaner F) (old new : Seen F) (draft after : Drafted) (then : Asker)
    (told : List ℕ) (given : List StepAnswer) : Type 0 where
  steps : List Step
  made : List Made
  answers : List StepAnswer
  given_so : given ≡ answers
  asked : AreAsked steps made answers
  ran : Runs r old new made answers
  printed : told ≡ lines_text made answers
  grown : after.steps ≡ draft.steps ++ steps
  session : after.session ≡ then.session
  cred : after.cred ≡ then.cred

asked-joined : (steps : List Step) (made : List Made) (answers : List StepAnswer) (more : List Step)
    (others : List Made) (given : List StepAnswer)
    → AreAsked steps made answers → AreAsked more others given
    → AreAsked (steps ++ more) (made ++ others) (answers ++ given)
asked-joined [] made answers more others given are then =
    subst (λ (m : List Made). AreAsked more (m ++ others) (answers ++ given)) (sym are.0)
    (subst (λ (a : List StepAnswer). AreAsked more others (a ++ given)) (sym are.1) then)
asked-joined (s ∷ steps) made answers more others given are then = (
  are.0,
  are.1 ++ others,
  are.2,
  are.3 ++ given,
  ap (λ (l : List Made). l ++ others) are.4 ∙ append_assoc are.0 are.1 others,
  ap (λ (l : List StepAnswer). l ++ given) are.5 ∙ append_assoc are.2 are.3 given,
  are.6,
  asked-joined steps are.1 are.3 more others given are.7 then,
)

followed-joined : {F : Type 0} (r : Cleaner F) (old middle new : Seen F) (draft after last : Drafted) (speaker
    then : Asker) (first rest told : List ℕ) (given others : List StepAnswer)
    → told ≡ first ++ rest → Followed r old middle draft after speaker first given → Followed r middle new after last
    then rest others → Followed r old new draft last then told (given ++ others)
followed-joined r old middle new draft after last speaker then first rest told given others whole before behind = record {
  steps = before.steps ++ behind.steps;
  made = before.made ++ behind.made;
  answers = before.answers ++ behind.answers;
  given_so = ap (λ (l : List StepAnswer). l ++ others) before.given_so
      ∙ ap (λ (l : List StepAnswer). before.answers ++ l) behind.given_so;
  asked = asked-joined before.steps before.made before.answers behind.steps behind.made behind.answers before.asked
      behind.asked;
  ran = runs_joined r old middle new before.made before.answers behind.made behind.answers before.ran behind.ran;
  printed = whole ∙ ap (λ (l : List ℕ). l ++ rest) before.printed
      ∙ ap (λ (l : List ℕ). lines_text before.made before.answers ++ l) behind.printed
      ∙ sym (lines_of_runs r old middle before.made before.answers behind.made behind.answers before.ran);
  grown = behind.grown ∙ ap (λ (l : List Step). l ++ behind.steps) before.grown
      ∙ append_assoc draft.steps before.steps behind.steps;
  session = behind.session;
  cred = behind.cred;
}

-- nothing is asked for
followed-none : {F : Type 0} (r : Cleaner F) (old new : Seen F) (draft after : Drafted) (then : Asker) (told : List ℕ)
    (given : List StepAnswer) → new ≡ old → after.steps ≡ draft.steps → after.session ≡ then.session
    → after.cred ≡ then.cred → told ≡ [] → given ≡ [] → Followed r old new draft after then told given
followed-none {F} r old new draft after then told given same steps session cred nothing none = record {
  steps = [];
  made = [];
  answers = [];
  given_so = none;
  asked = (refl, refl);
  ran = subst (λ (v : Seen F). Runs r old v [] []) (sym same) (runs_none r old);
  printed = nothing;
  grown = steps ∙ sym (append-nil draft.steps);
  session = session;
  cred = cred;
}

followed-line : {F : Type 0} (r : Cleaner F) (old new : Seen F) (draft : Drafted) (speaker
    then : Asker) (said : Line) (told : List ℕ) (given : List StepAnswer)
    → draft.session ≡ speaker.session → draft.cred ≡ speaker.cred → Does r old speaker said told new
    then given → Followed r old new draft (added draft said) then told given
followed-line r old new draft speaker then says.Nothing told given session cred does =
    followed-none r old new draft draft then told given does.0 refl
    (session ∙ ap (λ (s : Asker). s.session) (sym does.1)) (cred ∙ ap (λ (s : Asker). s.cred) (sym does.1)) does.2
    does.3
followed-line r old new draft speaker then (says.Session number) told given session cred does =
    followed-none r old new draft (added draft (says.Session number))
    then told given does.0 refl (ap (λ (s : Asker). s.session) (sym does.1)) (cred
    ∙ ap (λ (s : Asker). s.cred) (sym does.1)) does.2 does.3
followed-line r old new draft speaker then (says.Caller caller) told given session cred does =
    followed-none r old new draft (added draft (says.Caller caller))
    then told given does.0 refl (session ∙ ap (λ (s : Asker). s.session) (sym does.1))
    (ap (λ (s : Asker). s.cred) (sym does.1)) does.2 does.3
followed-line r old new draft speaker then (says.Act act) told given session cred does =
    let tells = does.0 in
    record {
      steps = record { session = draft.session; cred = draft.cred; act = act } ∷ [];
      made = tells.made;
      answers = tells.answers;
      given_so = does.2;
      asked = (
        tells.made,
        [],
        tells.answers,
        [],
        sym (append-nil tells.made),
        sym (append-nil tells.answers),
        rw (session, cred) tells.asked,
        (refl, refl),
      );
      ran = tells.ran;
      printed = tells.printed;
      grown = refl;
      session = session ∙ ap (λ (s : Asker). s.session) (sym does.1);
      cred = cred ∙ ap (λ (s : Asker). s.cred) (sym does.1);
    }

-- ---- the lines of a script

-- what a line says that is no fault
said-there : (n : ℕ) (result : Result Line FaultKind) (next : Line → Result Planned ScriptFault) (plan : Planned)
    → at_line n result next ≡ Ok plan
    → (said : Line) × (result ≡ Ok said) × (next said ≡ Ok plan)
said-there n (Ok said) next plan ok = (said, refl, ok)
said-there n (Err kind) next plan ok = absurd (cc)

first-of : (line : List ℕ) (lines : List (List ℕ)) (rest : List ℕ) → HasNoLineFeed line
    → IsFirstLine (ended (line ∷ lines) ++ rest) line (ended lines ++ rest)
first-of line lines rest unended = record {
  whole = append_assoc (ended_line line) (ended lines) rest ∙ append_assoc line (10 ∷ []) (ended lines ++ rest);
  first = unended;
}

abbrev IsShort : List ℕ → Type 0
IsShort line = length line ≤ 65536

-- the plan of a script goes on behind the lines that were heard
record Goes {F : Type 0} (r : Cleaner F) (old new : Seen F) (draft : Drafted) (then : Asker) (told rest : List ℕ)
    (given : List StepAnswer) (plan : Planned) : Type 0 where
  number : ℕ
  after : Drafted
  followed : Followed r old new draft after then told given
  short : All IsShort (lines_of rest)
  goes_on : plan_from number after (lines_of rest) ≡ Ok plan

true-is-false : (b : Bool) → b ≡ true → b ≡ false → ⊥
true-is-false b holds fails = absurd (cc)

unmoved-left : {F : Type 0} (now after : Course F) → now.is_open ≡ false
    → (after ≡ now) ⊎ (IsHanded now after ⊎ IsShut now after) → after ≡ now
unmoved-left now after closed (inl stays) = stays
unmoved-left now after closed (inr (inl out)) = absurd (true-is-false now.is_open out.opened closed)
unmoved-left now after closed (inr (inr shut)) = absurd (true-is-false now.is_open shut.opened closed)

-- a line moves nothing on of a talk without a sink and without passes unasked
unmoved : {F : Type 0} (r : Cleaner F) (now after tidied : Course F) → now.is_open ≡ false → now.cleans ≡ false
    → MovesOn now after → Tidies r after tidied → tidied ≡ now
unmoved {F} r now after tidied closed idle moves tidies =
    let still = unmoved-left now after closed moves.left in
    tidies.stays (rw (still, idle) refl) ∙ still

script-heard : {F : Type 0} (t : Talker F) (old new : Course F) (speaker
    then : Asker) (lines texts : List (List ℕ)) (rest : List ℕ) (n : ℕ) (draft : Drafted) (plan : Planned)
    → HearsAll t n old speaker lines texts new then → old.is_open ≡ false → old.cleans ≡ false
    → draft.session ≡ speaker.session → draft.cred ≡ speaker.cred
    → All IsShort (lines_of (ended lines ++ rest)) → plan_from n draft (lines_of (ended lines ++ rest)) ≡ Ok plan
    → (given : List StepAnswer) × Goes t.cleaner old.volume new.volume draft then (frames Plain texts) rest given plan
    × (new.handed ≡ old.handed) × (new.answers ≡ old.answers ++ given)
script-heard {F} t old new speaker then [] texts rest n draft plan hears closed idle session cred short ok = (
  [],
  record {
    number = n;
    after = draft;
    followed = followed-none t.cleaner old.volume new.volume draft draft
        then (frames Plain texts) [] (ap (λ (c : Course F). c.volume) hears.0) refl (session
        ∙ ap (λ (s : Asker). s.session) (sym hears.1)) (cred ∙ ap (λ (s : Asker). s.cred) (sym hears.1))
        (ap (frames Plain) hears.2) refl;
    short = short;
    goes_on = ok;
  },
  ap (λ (c : Course F). c.handed) hears.0,
  ap (λ (c : Course F). c.answers) hears.0 ∙ sym (append-nil old.answers),
)
script-heard {F} t old new speaker then (line ∷ lines) texts rest n draft plan hears closed idle session cred short ok =
    let text = ended (line ∷ lines) ++ rest in
    let behind = ended lines ++ rest in
    let cut = first-of line lines rest hears.8 in
    let shorts : All IsShort (line ∷ lines_of behind) = subst (All IsShort) (lines_first text line behind cut) short in
    let read = said-there n (line_said line) (λ (s : Line). plan_from (n + 1) (added draft s) (lines_of behind)) plan
    (sym (plan_step n draft text line behind cut) ∙ ok) in
    let says : heard_of line ≡ heard.Line read.0 =
    heard-said line read.0 (All-head IsShort line (lines_of behind) shorts) read.1 in
    let middle = hears.2 in
    let after = hears.4 in
    let next = hears.5 in
    let given = hears.6 in
    let does : Does t.cleaner old.volume speaker read.0 hears.0 middle next given =
    subst (λ (h : Heard). Hears t n old.handed old.answers old.volume speaker h hears.0 middle next given) says
    hears.9 in
    let still = unmoved t.cleaner (record old { volume = middle; answers = old.answers ++ given }) hears.3 after closed
    idle hears.10 hears.11 in
    let followed = followed-line t.cleaner old.volume middle draft speaker next read.0 hears.0 given session cred
    does in
    let more = script-heard t after new next
    then lines hears.1 rest (n + 1) (added draft read.0) plan hears.12
    (ap (λ (c : Course F). c.is_open) still ∙ closed) (ap (λ (c : Course F). c.cleans) still ∙ idle)
    followed.session followed.cred
    (All-tail IsShort line (lines_of behind) shorts) read.2 in
    let goes = subst (λ (v : Seen F). Goes t.cleaner v new.volume (added draft read.0)
    then (frames Plain hears.1) rest more.0 plan) (ap (λ (c : Course F). c.volume) still) more.1 in (
      given ++ more.0,
      record {
        number = goes.number;
        after = goes.after;
        followed = followed-joined t.cleaner old.volume middle new.volume draft (added draft read.0) goes.after next
            then hears.0 (frames Plain hears.1) (frames Plain texts) given more.0 (ap (frames Plain) hears.7) followed
            goes.followed;
        short = goes.short;
        goes_on = goes.goes_on;
      },
      more.2 ∙ ap (λ (c : Course F). c.handed) still,
      more.3 ∙ ap (λ (c : Course F). c.answers ++ more.0) still ∙ append_assoc old.answers given more.0,
    )

-- ---- the end of a script

line-is-quit : (said : Line) (P : Type 0) → heard.Line said ≡ heard.Dot Quit → P
line-is-quit said P e = absurd (cc)

ok-same : (after : Drafted) (plan : Planned) (result : Result Planned ScriptFault) → result ≡ Ok (planned after)
    → result ≡ Ok plan → planned after ≡ plan
ok-same after plan result first then = cc

-- of a script's last bytes nothing is told, and its plan ends there
script-ends : (number count : ℕ) (after : Drafted) (plan : Planned) (last : List ℕ) (texts : List (List ℕ))
    (behind : List ℕ) → IsLast count last texts (Some behind) → All IsShort (lines_of (last ++ behind))
    → plan_from number after (lines_of (last ++ behind)) ≡ Ok plan → (texts ≡ []) × (planned after ≡ plan)
script-ends number count after plan last texts behind (inl quits) short ok =
    let line = quits.0 in
    let text = last ++ behind in
    let cut : IsFirstLine text line behind = record {
      whole = ap (λ (l : List ℕ). l ++ behind) quits.3 ∙ append_assoc line (10 ∷ []) behind;
      first = quits.1;
    } in
    let shorts : All IsShort (line ∷ lines_of behind) = subst (All IsShort) (lines_first text line behind cut) short in
    let read = said-there number (line_said line)
    (λ (s : Line). plan_from (number + 1) (added after s) (lines_of behind)) plan
    (sym (plan_step number after text line behind cut) ∙ ok) in
    line-is-quit read.0 _ (sym (heard-said line read.0 (All-head IsShort line (lines_of behind) shorts) read.1)
    ∙ quits.2)
script-ends number count after plan [] texts behind (inr ends) short ok = (
  ends.2,
  ok-same after plan (plan_from number after (lines_of [])) (plan_end number after)
      (subst (λ (l : List ℕ). plan_from number after (lines_of l) ≡ Ok plan) ends.1 ok),
)
script-ends number count after plan (c ∷ cs) texts behind (inr ends) short ok =
    let whole : (c ∷ cs) ++ behind ≡ c ∷ cs = ap (λ (l : List ℕ). (c ∷ cs) ++ l) ends.1 ∙ append-nil (c ∷ cs) in
    absurd (not-ok plan _ (sym (plan_cut number after (c ∷ cs) ends.0 (omega arith))
    ∙ subst (λ (l : List ℕ). plan_from number after (lines_of l) ≡ Ok plan) whole ok))

-- ---- the whole

-- nothing is told of the last bytes
told-whole : (texts last : List (List ℕ)) (lines report all : List ℕ) → last ≡ [] → frames Plain texts ≡ lines
    → report ≡ all → frames Plain (texts ++ last) ++ report ≡ lines ++ all
told-whole texts last lines report all none is same =
    ap (λ (l : List (List ℕ)). frames Plain (texts ++ l) ++ report) none
    ∙ ap (λ (l : List (List ℕ)). frames Plain l ++ report) (append-nil texts)
    ∙ ap (λ (l : List ℕ). l ++ report) is ∙ ap (λ (l : List ℕ). lines ++ l) same

script-written : (old new : Course Parts) (script behind : List ℕ) (start out : Option (List ℕ)) (plan : Planned)
    → old.volume.journal ≡ [] → old.handed ≡ [] → old.answers ≡ [] → old.is_open ≡ false → old.cleans ≡ false
    → plan_of script ≡ Ok plan
    → All IsShort (lines_of script)
    → IsTalk (log_talker never_kept) Plain old new (Some script) (Some behind) start out
    → (text : List ℕ) × IsOutput log_cleaner
    (Begins (state_of old.volume.since) old.volume.since_level) script old.volume.limit old.volume.store text
    × Appends start out text
script-written old new script behind start out plan empty unhanded untold closed idle parsed short talk =
    let all = talk.heard in
    let rest = all.last ++ behind in
    let whole : script ≡ ended all.lines ++ rest = all.taken ∙ append_assoc (ended all.lines) all.last behind in
    let went = script-heard (log_talker never_kept) old new first_speaker all.then all.lines all.texts rest 1 first_draft plan
    all.heard closed idle refl refl
    (subst (λ (s : List ℕ). All IsShort (lines_of s)) whole short)
    (subst (λ (s : List ℕ). plan_from 1 first_draft (lines_of s) ≡ Ok plan) whole parsed) in
    let goes = went.1 in
    let none : new.handed ≡ [] = went.2 ∙ unhanded in
    let fin = script-ends goes.number _ goes.after plan all.last all.last_texts behind all.ends goes.short goes.goes_on in
    let ran = goes.followed.ran in
    let made = goes.followed.made in
    let answers = goes.followed.answers in
    let steps : goes.followed.steps ≡ plan.steps = sym goes.followed.grown ∙ ap (λ (p : Planned). p.steps) fin.1 in
    let entries : new.volume.journal ≡ kept_steps made answers = ran.entered
    ∙ ap (λ (j : List Entry). j ++ kept_steps made answers) empty in
    let all_kept : new.handed ++ new.volume.journal
    ≡ kept_steps made answers = ap (λ (l : List Entry). l ++ new.volume.journal) none ∙ entries in
    let told : new.answers ≡ answers =
    went.3 ∙ ap (λ (l : List StepAnswer). l ++ went.0) untold ∙ goes.followed.given_so in
    let text = lines_text made answers ++ run_report (kept_steps made answers) answers in
    let report = run_report (new.handed ++ new.volume.journal) new.answers in
    let lines = frames Plain (all.texts ++ all.last_texts) in
    let written : Appends start out (lines ++ report) =
    Appends-trans start talk.before out lines report all.printed talk.reported in (
      text,
      record {
        plan = plan;
        parsed = parsed;
        run = record {
          made = made;
          answers = answers;
          after = new.volume.store;
          asked = subst (λ (s : List Step). AreAsked s made answers) steps goes.followed.asked;
          answered = begun_answers log_cleaner old.volume new.volume made answers empty ran;
          legal = λ from begins. subst (λ (l : List Entry). IsLegal (state_of old.volume.store).shape.numbers
              (state_of old.volume.store).shape.segments l from) all_kept (talk.legal from begins);
          printed = refl;
        };
      },
      subst (λ (l : List ℕ). Appends start out l)
          (told-whole all.texts all.last_texts (lines_text made answers) report
          (run_report (kept_steps made answers) answers) fin.0 goes.followed.printed
          (ap (λ (l : List Entry). run_report l new.answers) all_kept
          ∙ ap (run_report (kept_steps made answers)) told))
          written,
    )

-- the lines of a script that is all that a reader has
pub script_law : WritesAsScript
script_law old new script None start out plan empty unhanded untold closed idle parsed short talk =
    absurd talk.heard.taken
script_law old new script (Some behind) start out plan empty unhanded untold closed idle parsed short talk =
    script-written old new script behind start out plan empty unhanded untold closed idle parsed short talk
