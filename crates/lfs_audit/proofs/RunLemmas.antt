-- Runs of steps grow by further steps (`runs_one`, `runs_joined`), passes by further calls (`pass_goes_on`), and texts
-- by their lines (`writes_more`): for `passing::call`, `passing::pass`, `print_steps` and `run_plan`. Each step is
-- answered behind the journal that those before it left, so two runs are one where the second begins at what the first
-- entered (`steps-joined`); where the journal began stays, so both are told from the same world (`still-begins`).
-- Answers are as many as steps (`count`), else neither the entries nor the lines of the whole could be parted
-- (`kept-joined`, `lines-joined`). That a pass makes at most 105 calls is its calls so far and `calls_left`, which
-- falls by each.
use Rattle.std.proofs.Common.{◌≡◌, ℕ, ◌+◌, ◌<◌, List, [], ◌∷◌, ◌++◌, length, Option, None, Some, Result, Ok, Err}
use Rattle.std.proofs.Common.{OnOk, refl, sym, ap, subst, ◌∙◌, arith, append_assoc, append-nil, length-append}
use Rattle.std.specs.Io.KnownBytes.{Appends, Keeps, append_known}
use Rattle.std.proofs.KnownBytes.{Appends-kept, Appends-nil, Appends-trans}
use Rattle.std.specs.Prelude.{◌≤◌}
use Rattle.lfs_types.specs.Caller.{Caller}
use Rattle.lfs_types.specs.StoreStates.{Shape, StoreState}
use Rattle.lfs_types.specs.Tree.{World}
use Rattle.lfs_types.specs.declared.answer.Answer.{Answer}
use Rattle.lfs_types.specs.declared.cleaner.CleanerCall.{CleanerCall}
use Rattle.lfs_types.specs.declared.request.Request.{Request}
use Rattle.lfs_model.specs.declared.journal.CleanerAnswer.{CleanerAnswer}
use Rattle.lfs_model.specs.declared.journal.Entry.{Entry}
use Rattle.lfs_model.specs.declared.steps.Step.{Step as Made}
use Rattle.lfs_model.specs.declared.steps.StepAnswer.{StepAnswer}
use Rattle.lfs_model.specs.declared.steps.StepAnswer.TheVariants as told
use Rattle.lfs_model.specs.Cleaning.{kind_of}
use Rattle.lfs_model.specs.Runs.{act_of, kept_step, kept_steps}
use Rattle.lfs_model.specs.Steps.{IsLegal}
use Rattle.lfs_calls.specs.Volumes.{IsVolume}
use Rattle.lfs_cleaner.specs.Passing.{Steps, calls_left}
use Rattle.lfs_cleaner.specs.declared.pass.Pass.{Pass}
use Rattle.lfs_print.specs.AnswerText.{answer_line}
use Rattle.lfs_print.specs.CleanerText.{cleaner_line}
use Rattle.lfs_print.specs.ReportText.{report_text}
use Rattle.lfs_sinks.specs.Refusals.{AddsUp, refusals_of, refusals_text, run_report}
use Rattle.lfs_sinks.specs.declared.refusals.Refusals.{Refusals}
use Rattle.lfs_sinks.proofs.RefusalLemmas.{adds_joined, adds_none}
use Rattle.lfs_script.specs.declared.plan.Act.TheVariants as plan
use Rattle.lfs_script.specs.declared.plan.Step.{Step}
use Rattle.lfs_types.specs.declared.level.Level.{Level}
use Rattle.lfs_volume.specs.Cleanings.{Cleaner}
use Rattle.lfs_volume.specs.Journals.{AtPresent, Begins, Since}
use Rattle.lfs_volume.specs.Seen.{Seen}
use Rattle.lfs_volume.specs.StepRuns.{AreSteps, IsActMade}
use Rattle.lfs_audit.specs.Output.{IsRun}
use Rattle.lfs_audit.specs.Runs.{AreAsked, CountsLine, TellsCleaning, IsAsked, Passes, Runs, WritesLines, call_line}
use Rattle.lfs_audit.specs.Runs.{call_step, cleaning_step, first_pass, lines_text}

-- a volume became this one by the steps of a pass so far, which stands there, told this answer; the answers were
-- counted, and the lines added to a text
pub record IsPassing {F : Type 0} (r : Cleaner F) (old new : Seen F) (counts then : Refusals) (session : ℕ)
    (caller : Caller) (pass : Pass) (last : Option CleanerAnswer) (before after : List ℕ) : Type 0 where
  pub made : List Made
  pub answers : List StepAnswer
  pub makes : Passes session caller first_pass None made answers pass last
  pub ran : Runs r old new made answers
  pub counted : AddsUp counts then answers
  pub printed : after ≡ before ++ lines_text made answers
  pub few : length made + calls_left pass ≤ 105

-- ---- steps

-- what further steps keep
pub kept-joined : (made : List Made) (answers : List StepAnswer) (more : List Made) (others : List StepAnswer)
    → length answers ≡ length made
    → kept_steps (made ++ more) (answers ++ others) ≡ kept_steps made answers ++ kept_steps more others
kept-joined [] [] more others h = refl
kept-joined [] (a ∷ answers) more others h = absurd (omega (arith, h))
kept-joined (s ∷ made) [] more others h = absurd (omega (arith, h))
kept-joined (s ∷ made) (a ∷ answers) more others h =
    ap (λ l. kept_step s a ++ l) (kept-joined made answers more others (omega (arith, h)))
    ∙ sym (append_assoc (kept_step s a) (kept_steps made answers) (kept_steps more others))

-- the lines of further answers
pub lines-joined : (made : List Made) (answers : List StepAnswer) (more : List Made) (others : List StepAnswer)
    → length answers ≡ length made
    → lines_text (made ++ more) (answers ++ others) ≡ lines_text made answers ++ lines_text more others
lines-joined [] [] more others h = refl
lines-joined [] (a ∷ answers) more others h = absurd (omega (arith, h))
lines-joined (s ∷ made) [] more others h = absurd (omega (arith, h))
lines-joined (s ∷ made) (a ∷ answers) more others h =
    ap (λ (l : List ℕ). call_line s.session s.act a ++ l) (lines-joined made answers more others (omega (arith, h)))
    ∙ sym (append_assoc (call_line s.session s.act a) (lines_text made answers) (lines_text more others))

-- further steps were answered
pub steps-joined : {F : Type 0} (r : Cleaner F) (limit : ℕ) (from : World) (journal : List Entry) (first middle last : F)
    (made : List Made) (answers : List StepAnswer)
    (more : List Made) (others : List StepAnswer) → AreSteps r limit from journal first made answers middle
    → AreSteps r limit from (journal ++ kept_steps made answers) middle more others last
    → AreSteps r limit from journal first (made ++ more) (answers ++ others) last
steps-joined {F} r limit from journal first middle last [] [] more others are then =
    subst (λ (s : F). AreSteps r limit from journal s more others last) are
    (subst (λ (j : List Entry). AreSteps r limit from j middle more others last) (append-nil journal) then)
steps-joined r limit from journal first middle last [] (a ∷ answers) more others are then = absurd are
steps-joined r limit from journal first middle last (s ∷ made) [] more others are then = absurd are
steps-joined r limit from journal first middle last (s ∷ made) (a ∷ answers) more others are then = (
  are.0,
  are.1,
  are.2,
  steps-joined r limit from (journal ++ kept_step s a) are.0 middle last made answers more others are.3
      (subst (λ (j : List Entry). AreSteps r limit from j middle more others last)
      (sym (append_assoc journal (kept_step s a) (kept_steps made answers))) then),
)

-- ---- a volume

-- a volume as it was
pub runs_none : {F : Type 0} (r : Cleaner F) (v : Seen F) → Runs r v v [] []
runs_none r v = record {
  count = refl;
  answered = λ from begins. refl;
  entered = sym (append-nil v.journal);
  limit = refl;
  shape = refl;
  since = refl;
  since_level = refl;
}

-- a volume by one step
pub runs_one : {F : Type 0} (r : Cleaner F) (old new : Seen F) (step : Made) (answer : StepAnswer)
    → AtPresent r.state old (IsVolume (r.state old.store))
    → Since (r.state old.since) old.since_level
    (λ from. IsActMade r old.limit from old.journal old.store step.cred step.act answer new.store)
    → new.journal ≡ old.journal ++ kept_step step answer → new.limit ≡ old.limit
    → (r.state new.store).shape ≡ (r.state old.store).shape → new.since ≡ old.since → new.since_level ≡ old.since_level
    → Runs r old new (step ∷ []) (answer ∷ [])
runs_one r old new step answer shown made entered limit shape since since_level = record {
  count = refl;
  answered = λ from begins. (new.store, shown from begins, made from begins, refl);
  entered = entered ∙ ap (λ (l : List Entry). old.journal ++ l) (sym (append-nil (kept_step step answer)));
  limit = limit;
  shape = shape;
  since = since;
  since_level = since_level;
}

-- where a journal began is where it began before what did not move that
pub still-begins : {F : Type 0} (state : F → StoreState) (from : World) (since then : F) (level after : Level) → then
    ≡ since → after ≡ level
    → Begins (state since) level from → Begins (state then) after from
still-begins state from since then level after same same_level begins =
    subst (λ (l : Level). Begins (state then) l from) (sym same_level)
    (subst (λ s. Begins (state s) level from) (sym same) begins)

-- a volume by further steps
pub runs_joined : {F : Type 0} (r : Cleaner F) (old middle new : Seen F) (made : List Made) (answers : List StepAnswer)
    (more : List Made) (others : List StepAnswer)
    → Runs r old middle made answers → Runs r middle new more others → Runs r old new (made ++ more) (answers ++ others)
runs_joined r old middle new made answers more others before then =
    let count = before.count in
    record {
      count = length-append answers others ∙ ap (λ (n : ℕ). n + length others) count
          ∙ ap (λ (n : ℕ). length made + n) then.count ∙ sym (length-append made more);
      answered = λ from begins. steps-joined r old.limit from old.journal old.store middle.store new.store made answers
          more others (before.answered from begins)
          (subst (λ (n : ℕ). AreSteps r n from (old.journal
          ++ kept_steps made answers) middle.store more others new.store) before.limit
          (subst (λ (j : List Entry). AreSteps r middle.limit from j middle.store more others new.store) before.entered
          (then.answered from (still-begins r.state from old.since middle.since old.since_level middle.since_level
          before.since before.since_level begins))));
      entered = then.entered
          ∙ ap (λ (j : List Entry). j ++ kept_steps more others) before.entered
          ∙ append_assoc old.journal (kept_steps made answers) (kept_steps more others)
          ∙ ap (λ (l : List Entry). old.journal ++ l) (sym (kept-joined made answers more others count));
      limit = then.limit ∙ before.limit;
      shape = then.shape ∙ before.shape;
      since = then.since ∙ before.since;
      since_level = then.since_level ∙ before.since_level;
    }

-- the lines of what was done and of what was done then
pub lines_of_runs : {F : Type 0} (r : Cleaner F) (old middle : Seen F) (made : List Made) (answers : List StepAnswer)
    (more : List Made) (others : List StepAnswer)
    → Runs r old middle made answers → lines_text (made ++ more) (answers ++ others) ≡ lines_text made answers
    ++ lines_text more others
lines_of_runs r old middle made answers more others before =
    lines-joined made answers more others before.count

-- a text with lines at its end, and with further ones
text-joined : (before middle after lines more all : List ℕ) → middle ≡ before ++ lines → after ≡ middle ++ more → all
    ≡ lines ++ more → after ≡ before ++ all
text-joined before middle after lines more all first then joined =
    then ∙ ap (λ (l : List ℕ). l ++ more) first ∙ append_assoc before lines more
    ∙ ap (λ (l : List ℕ). before ++ l) (sym joined)

-- ---- a line of a plan

-- a user's call was made
pub call_tells : {F : Type 0} (r : Cleaner F) (old new : Seen F) (counts then : Refusals) (session : ℕ)
    (caller : Caller) (request : Request) (answer : Answer) (before after : List ℕ)
    → Runs r old new (call_step session caller request ∷ []) (told.User answer ∷ [])
    → AddsUp counts then (told.User answer ∷ []) → after ≡ before ++ answer_line session answer
    → CountsLine r old new counts then session caller (plan.User request) before after
call_tells r old new counts then session caller request answer before after ran counted printed = record {
  tells = record {
    made = call_step session caller request ∷ [];
    answers = told.User answer ∷ [];
    asked = (told.User answer, refl, refl);
    ran = ran;
    printed = printed ∙ ap (λ (l : List ℕ). before ++ l) (sym (append-nil (answer_line session answer)));
  };
  counted = counted;
}

-- a call of the cleaner was made
pub cleaning_tells : {F : Type 0} (r : Cleaner F) (old new : Seen F) (counts then : Refusals) (session : ℕ)
    (caller : Caller) (call : CleanerCall) (answer : CleanerAnswer) (before after : List ℕ)
    → TellsCleaning r old new counts then session caller call answer before after
    → CountsLine r old new counts then session caller (plan.Cleaner call) before after
cleaning_tells r old new counts then session caller call answer before after cleans = record {
  tells = record {
    made = cleaning_step session caller call ∷ [];
    answers = told.Cleaner answer ∷ [];
    asked = (told.Cleaner answer, refl, refl);
    ran = cleans.ran;
    printed = cleans.printed ∙ ap (λ (l : List ℕ). before ++ l)
        (sym (append-nil (cleaner_line session (kind_of (act_of call)) answer)));
  };
  counted = cleans.counted;
}

-- ---- a pass

-- a pass makes one more call
passes-more : (session : ℕ) (caller : Caller) (pass : Pass) (last : Option CleanerAnswer) (made : List Made)
    (answers : List StepAnswer) (then : Pass) (latest : Option CleanerAnswer)
    (call : CleanerCall) (given : CleanerAnswer) (next : Pass) → Passes session caller pass last made answers
    then latest → Steps then latest (Some call) next
    → Passes session caller pass last (made ++ cleaning_step session caller call ∷ []) (answers ++ told.Cleaner given
    ∷ []) next (Some given)
passes-more session caller pass last [] [] then latest call given next makes steps = (
  call,
  given,
  next,
  refl,
  refl,
  subst (λ (p : Pass). Steps p last (Some call) next) makes.0
      (subst (λ (l : Option CleanerAnswer). Steps then l (Some call) next) makes.1 steps),
  (refl, refl),
)
passes-more session caller pass last [] (a ∷ answers) then latest call given next makes steps = absurd makes
passes-more session caller pass last (s ∷ made) [] then latest call given next makes steps = absurd makes
passes-more session caller pass last (s ∷ made) (a ∷ answers) then latest call given next makes steps = (
  makes.0,
  makes.1,
  makes.2,
  makes.3,
  makes.4,
  makes.5,
  passes-more session caller makes.2 (Some makes.1) made answers then latest call given next makes.6 steps,
)

-- a pass begins
pub pass_begins : {F : Type 0} (r : Cleaner F) (v : Seen F) (counts : Refusals) (session : ℕ) (caller : Caller)
    (pass : Pass) (last : Option CleanerAnswer) (text : List ℕ) → pass ≡ first_pass → last ≡ None
    → calls_left pass ≡ 105 → IsPassing r v v counts counts session caller pass last text text
pass_begins r v counts session caller pass last text ready none left = record {
  made = [];
  answers = [];
  makes = (ready, none);
  ran = runs_none r v;
  counted = adds_none counts;
  printed = sym (append-nil text);
  few = omega (arith, left);
}

-- a pass goes on by one call
pub pass_goes_on : {F : Type 0} (r : Cleaner F) (old middle new : Seen F) (counts between then : Refusals)
    (session : ℕ) (caller : Caller) (pass : Pass) (last : Option CleanerAnswer)
    (call : CleanerCall) (answer : CleanerAnswer) (next : Pass) (before text after : List ℕ)
    → IsPassing r old middle counts between session caller pass last before text → Steps pass last (Some call) next
    → calls_left next < calls_left pass
    → TellsCleaning r middle new between then session caller call answer text after
    → IsPassing r old new counts then session caller next (Some answer) before after
unfolding cleaning_tells
pass_goes_on r old middle new counts between then session caller pass last call answer next before text after passing
    steps fewer cleans =
    let one = cleaning_step session caller call ∷ [] in
    let given = told.Cleaner answer ∷ [] in
    let line = (cleaning_tells r middle new between then session caller call answer text after cleans).tells in
    record {
      made = passing.made ++ one;
      answers = passing.answers ++ given;
      makes = passes-more session caller first_pass None passing.made passing.answers pass last call answer next
          passing.makes steps;
      ran = runs_joined r old middle new passing.made passing.answers one given passing.ran cleans.ran;
      counted = adds_joined counts between then passing.answers given passing.counted cleans.counted;
      printed = text-joined before text after (lines_text passing.made passing.answers) (lines_text one given)
          (lines_text (passing.made ++ one) (passing.answers ++ given)) passing.printed line.printed
          (lines_of_runs r old middle passing.made passing.answers one given passing.ran);
      few = let count : length (passing.made ++ one) ≡ length passing.made
          + 1 = length-append passing.made one in omega (arith, count, passing.few, fewer);
    }

-- a pass makes no further call
pub pass_ends : {F : Type 0} (r : Cleaner F) (old new : Seen F) (counts then : Refusals) (session : ℕ)
    (caller : Caller) (pass : Pass) (last : Option CleanerAnswer) (after : Pass) (before text : List ℕ)
    → IsPassing r old new counts then session caller pass last before text → Steps pass last None after
    → CountsLine r old new counts then session caller plan.Pass before text
pass_ends r old new counts then session caller pass last after before text passing steps = record {
  tells = record {
    made = passing.made;
    answers = passing.answers;
    asked = record {
      pass = pass;
      last = last;
      after = after;
      makes = passing.makes;
      ends = steps;
      few = let few = passing.few in omega (arith, few);
    };
    ran = passing.ran;
    printed = passing.printed;
  };
  counted = passing.counted;
}

-- ---- the lines of a plan

-- a further line was asked for
pub asked-more : (steps : List Step) (made : List Made) (answers : List StepAnswer) (step : Step) (more : List Made)
    (others : List StepAnswer)
    → AreAsked steps made answers → IsAsked step.session step.cred step.act more others
    → AreAsked (steps ++ step ∷ []) (made ++ more) (answers ++ others)
asked-more [] made answers step more others are is = (
  more,
  [],
  others,
  [],
  ap (λ (l : List Made). l ++ more) are.0 ∙ sym (append-nil more),
  ap (λ (l : List StepAnswer). l ++ others) are.1 ∙ sym (append-nil others),
  is,
  (refl, refl),
)
asked-more (s ∷ steps) made answers step more others are is = (
  are.0,
  are.1 ++ more,
  are.2,
  are.3 ++ others,
  ap (λ (l : List Made). l ++ more) are.4 ∙ append_assoc are.0 are.1 more,
  ap (λ (l : List StepAnswer). l ++ others) are.5 ∙ append_assoc are.2 are.3 others,
  are.6,
  asked-more steps are.1 are.3 step more others are.7 is,
)

-- what is known to be written and what is collected grow by what is collected further
pub collected : (start known : Option (List ℕ)) (old new lines line : List ℕ)
    → Appends start (append_known known old) lines → new ≡ old ++ line
    → Appends start (append_known known new) (lines ++ line)
collected None known old new lines line p grown = tt
collected (Some x) None old new lines line p grown = absurd p
collected (Some x) (Some y) old new lines line p grown =
    rw grown (sym (append_assoc y old line) ∙ ap (λ (xs : List ℕ). xs ++ line) p ∙ append_assoc x lines line)

-- no line was done
pub writes_none : {F : Type 0} (r : Cleaner F) (v : Seen F) (counts : Refusals) (start : Option (List ℕ))
    → WritesLines r v v counts counts [] start start
writes_none r v counts start = record {
  made = [];
  answers = [];
  asked = (refl, refl);
  ran = runs_none r v;
  counted = adds_none counts;
  printed = Appends-nil start;
}

-- no line is left
pub all_written : {F : Type 0} (r : Cleaner F) (old new : Seen F) (counts then : Refusals)
    (steps done left : List Step) (start known : Option (List ℕ)) → steps ≡ done ++ left → left ≡ []
    → WritesLines r old new counts then done start known → WritesLines r old new counts then steps start known
all_written r old new counts then steps done left start known whole none writes =
    rw (whole, none, append-nil done) writes

-- a further line was done, its answers' lines were collected, and perhaps a piece was written
pub writes_more : {F : Type 0} (r : Cleaner F) (old middle new : Seen F) (counts between then : Refusals)
    (steps : List Step) (step : Step) (start known left : Option (List ℕ)) (text after : List ℕ)
    → WritesLines r old middle counts between steps start (append_known known text)
    → CountsLine r middle new between then step.session step.cred step.act text after
    → Keeps (append_known known after) left → WritesLines r old new counts then (steps ++ step ∷ []) start left
writes_more r old middle new counts between then steps step start known left text after writes line keeps =
    let tells = line.tells in
    let lines = lines_text writes.made writes.answers in
    let more = lines_text tells.made tells.answers in
    let grown : Appends start (append_known known after) (lines ++ more) =
    collected start known text after lines more writes.printed tells.printed in
    let joined = lines_of_runs r old middle writes.made writes.answers tells.made tells.answers writes.ran in
    record {
      made = writes.made ++ tells.made;
      answers = writes.answers ++ tells.answers;
      asked = asked-more steps writes.made writes.answers step tells.made tells.answers writes.asked tells.asked;
      ran = runs_joined r old middle new writes.made writes.answers tells.made tells.answers writes.ran tells.ran;
      counted = adds_joined counts between then writes.answers tells.answers writes.counted line.counted;
      printed = subst (λ (l : List ℕ). Appends start left l) (sym joined)
          (Appends-kept start (append_known known after) left (lines ++ more) grown keeps);
    }

-- ---- results

-- what follows a result that is Ok
pub on_ok : {A E X Y : Type 0} (result : Result A E) → OnOk result X → (X → Y) → OnOk result Y
on_ok (Ok a) x next = next x
on_ok (Err e) x next = tt

-- what is known to be written grows by what was collected and by the report
pub report_written : (report : List ℕ) (start written left : Option (List ℕ)) (text whole out : List ℕ)
    → whole ≡ text ++ report → out ≡ whole → Appends start written out → Keeps written left
    → Appends (append_known start text) left report
report_written report None written left text whole out grown is w k = tt
report_written report (Some x) None left text whole out grown is w k = absurd w
report_written report (Some x) (Some y) None text whole out grown is w k = absurd k
report_written report (Some x) (Some y) (Some v) text whole out grown is w k =
    k ∙ w ∙ ap (λ (xs : List ℕ). x ++ xs) (is ∙ grown) ∙ sym (append_assoc x text report)

-- a text with two further parts at its end
pub report_joined : (text middle whole first then : List ℕ) → middle ≡ text ++ first → whole ≡ middle ++ then
    → whole ≡ text ++ (first ++ then)
report_joined text middle whole first then is grown =
    grown ∙ ap (λ (l : List ℕ). l ++ then) is ∙ append_assoc text first then

-- nothing is collected first
pub from_start : (start left : Option (List ℕ)) (text : List ℕ) → Appends (append_known start []) left text
    → Appends start left text
from_start None left text p = tt
from_start (Some x) None text p = absurd p
from_start (Some x) (Some v) text p = p ∙ ap (λ (xs : List ℕ). xs ++ text) (append-nil x)

-- steps on a volume without entries were answered so, from wherever its journal began
pub begun_answers : {F : Type 0} (r : Cleaner F) (old new : Seen F) (made : List Made) (answers : List StepAnswer)
    → old.journal ≡ [] → Runs r old new made answers
    → Since (r.state old.since) old.since_level (λ from. AreSteps r old.limit from [] old.store made answers new.store)
begun_answers r old new made answers none ran = λ from begins.
    subst (λ (j : List Entry). AreSteps r old.limit from j old.store made answers new.store) none
    (ran.answered from begins)

-- and what was entered is legal from there
pub begun_legal : {F : Type 0} (r : Cleaner F) (old new : Seen F) (made : List Made) (answers : List StepAnswer)
    → old.journal ≡ [] → Runs r old new made answers
    → Since (r.state new.since) new.since_level
    (λ from. IsLegal (r.state new.store).shape.numbers (r.state new.store).shape.segments new.journal from)
    → Since (r.state old.since) old.since_level
    (λ from. IsLegal (r.state old.store).shape.numbers (r.state old.store).shape.segments
    (kept_steps made answers) from)
begun_legal r old new made answers none ran lawful = λ from begins.
    let entries : new.journal ≡ kept_steps made answers = ran.entered
    ∙ ap (λ (j : List Entry). j ++ kept_steps made answers) none in
    let shape = (r.state old.store).shape in
    subst (λ (j : List Entry). IsLegal shape.numbers shape.segments j from) entries
    (subst (λ (s : Shape). IsLegal s.numbers s.segments new.journal from) ran.shape
    (lawful from (still-begins r.state from old.since new.since old.since_level new.since_level ran.since
    ran.since_level begins)))

-- a run that began in one of these worlds began in one of those
pub run_begun : {F : Type 0} (r : Cleaner F) (these those : World → Type 0) (limit : ℕ) (store : F) (steps : List Step)
    (text : List ℕ)
    → ((from : World) → those from → these from) → IsRun r these limit store steps text
    → IsRun r those limit store steps text
run_begun r these those limit store steps text within run = record {
  made = run.made;
  answers = run.answers;
  after = run.after;
  asked = run.asked;
  answered = λ from begins. run.answered from (within from begins);
  legal = λ from begins. run.legal from (within from begins);
  printed = run.printed;
}

-- the lines of a plan were done on a volume without entries, and all is written
pub whole_run : {F : Type 0} (r : Cleaner F) (old new : Seen F) (counts then : Refusals) (steps : List Step)
    (empty text : List ℕ) (start known left : Option (List ℕ))
    → old.journal ≡ [] → counts ≡ refusals_of []
    → WritesLines r old new counts then steps (append_known start empty) (append_known known text) → empty ≡ []
    → Since (r.state new.since) new.since_level
    (λ from. IsLegal (r.state new.store).shape.numbers (r.state new.store).shape.segments new.journal from)
    × Appends (append_known known text) left (report_text new.journal ++ refusals_text then)
    → (all : List ℕ) × IsRun r (Begins (r.state old.since) old.since_level) old.limit old.store steps all
    × Appends start left all
whole_run {F} r old new counts then steps empty text start known left none fresh writes nothing (lawful, reported) =
    let made = writes.made in
    let answers = writes.answers in
    let lines = lines_text made answers in
    let entries : new.journal ≡ kept_steps made answers = writes.ran.entered
    ∙ ap (λ (j : List Entry). j ++ kept_steps made answers) none in
    let from_empty : Appends (append_known start []) (append_known known text) lines =
    subst (λ (e : List ℕ). Appends (append_known start e) (append_known known text) lines) nothing writes.printed in
    let all = run_report (kept_steps made answers) answers in
    let report : Appends (append_known known text) left all =
    subst (λ (j : List Entry). Appends (append_known known text) left (run_report j answers)) entries
    (subst (λ (c : Refusals). Appends (append_known known text) left (report_text new.journal ++ refusals_text c))
    (writes.counted [] fresh) reported) in (
      lines ++ all,
      record {
        made = made;
        answers = answers;
        after = new.store;
        asked = writes.asked;
        answered = begun_answers r old new made answers none writes.ran;
        legal = begun_legal r old new made answers none writes.ran lawful;
        printed = refl;
      },
      from_start start left (lines ++ all)
          (Appends-trans (append_known start []) (append_known known text) left lines all from_empty report),
    )
