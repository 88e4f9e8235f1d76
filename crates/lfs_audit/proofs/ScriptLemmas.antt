-- Runs of scripts on fresh volumes over the log store: `log_run` for `run_script`, `filed_output` for lfs_programs,
-- where the entries go to a file. A run is told from each world where its journal may have begun; the opening tree is
-- one of them, so it is told from there (`run_begun`, `filed_begun`), and the steps are those of the script that was
-- read. Where the file took all entries no line stands behind those that it took, so the run is one without a file for
-- any journal that has room (`unfiled_run`).
use Rattle.std.proofs.Common.{◌≡◌, ℕ, ◌<◌, Bool, true, List, [], ◌++◌, length, Option, None, Some, Result, Ok, Err, IfErr}
use Rattle.std.proofs.Common.{IfSome, sym, ap, subst, ◌∙◌, append-nil}
use Rattle.std.specs.Io.KnownBytes.{Appends}
use Rattle.lfs_types.specs.StoreStates.{StoreState}
use Rattle.lfs_types.specs.Tree.{World, opening_world}
use Rattle.lfs_types.specs.declared.level.Level.{Level}
use Rattle.lfs_model.specs.Steps.{IsLegal}
use Rattle.lfs_model.specs.declared.journal.Entry.{Entry}
use Rattle.lfs_model.specs.declared.steps.Step.{Step as Made}
use Rattle.lfs_model.specs.declared.steps.StepAnswer.{StepAnswer}
use Rattle.lfs_sinks.specs.Refusals.{run_report}
use Rattle.lfs_parts.specs.declared.parts.Parts.{Parts}
use Rattle.lfs_script.specs.PlanTypes.{Planned}
use Rattle.lfs_script.specs.declared.plan.Step.{Step}
use Rattle.lfs_audit.specs.Faults.{IsRead, MayHaveWritten}
use Rattle.lfs_audit.specs.FiledRuns.{IsFiledOutput, IsFiledRun}
use Rattle.lfs_audit.specs.Output.{IsRun}
use Rattle.lfs_audit.specs.Runs.{AreAsked, lines_text}
use Rattle.lfs_audit.specs.Scripts.{IsLogOutput, log_cleaner}
use Rattle.lfs_audit.specs.declared.fault.RunFault.{RunFault}
use Rattle.lfs_audit.proofs.RunLemmas.{run_begun}
use Rattle.lfs_server.specs.Fresh.{IsFreshLog}
use Rattle.lfs_volume.specs.Cleanings.{Cleaner}
use Rattle.lfs_volume.specs.Journals.{Begins}

-- what a run of the steps of a plan printed, a run of its script prints
pub log_run : (script : Option (List ℕ)) (plan : Planned) (steps : List Step) (since : StoreState) (level : Level)
    (most : ℕ) (store : Parts)
    (segments inodes frames limit : ℕ) (old new : Option (List ℕ)) → Begins since level opening_world
    → IfSome script (λ s. IsRead s plan) → steps ≡ plan.steps → most ≡ limit → IsFreshLog segments inodes frames store
    → (text : List ℕ) × IsRun log_cleaner (Begins since level) most store steps text × Appends old new text
    → IfSome script (λ s. (text : List ℕ) × IsLogOutput s segments inodes frames limit text × Appends old new text)
log_run None plan steps since level most store segments inodes frames limit old new begins read asked limits fresh run =
    tt
log_run (Some s) plan steps since level most store segments inodes frames limit old new begins read asked limits fresh
    (text, run, written) =
    let opens : World → Type 0 = λ from. from ≡ opening_world in
    let begun : IsRun log_cleaner opens most store steps text =
    run_begun log_cleaner (Begins since level) opens most store steps text
    (λ from is. subst (Begins since level) (sym is) begins) run in
    let of_plan : IsRun log_cleaner opens most store plan.steps text =
    subst (λ (asks : List Step). IsRun log_cleaner opens most store asks text) asked begun in
    let limited : IsRun log_cleaner opens limit store plan.steps text =
    subst (λ (l : ℕ). IsRun log_cleaner opens l store plan.steps text) limits of_plan in (
      text,
      record { store = store; fresh = fresh; output = record { plan = plan; parsed = read.parsed; run = limited } },
      written,
    )

-- a fault once something may have been written says nothing of what was
pub late_silence : {A : Type 0} (X : Type 0) (result : Result A RunFault) → IfErr result MayHaveWritten
    → IfErr result (λ fault. (MayHaveWritten fault → ⊥) → X)
late_silence X (Ok a) p = tt
late_silence X (Err fault) p = λ not. absurd (not p)

-- ---- runs with a file

-- a run whose file took all is one without a file, with any journal that has room
unfiled_run : {F : Type 0} (r : Cleaner F) (begins : World → Type 0) (store : F) (steps : List Step) (is_whole : Bool)
    (entries : List Entry) (text : List ℕ) (limit : ℕ) → is_whole ≡ true → length entries < limit
    → IsFiledRun r begins store steps is_whole entries text → IsRun r begins limit store steps text
unfiled_run {F} r begins store steps is_whole entries text limit whole less run =
    let none = run.whole whole in
    let lines = lines_text run.made run.answers in
    let calls : (run.refused ≡ []) × (run.refusals ≡ []) =
    subst (λ (l : List Step). AreAsked l run.refused run.refusals) none run.asked_then in
    let only : run.first ≡ steps =
    sym (run.parted ∙ ap (λ (l : List Step). run.first ++ l) none ∙ append-nil run.first) in
    record {
      made = run.made;
      answers = run.answers;
      after = run.middle;
      asked = subst (λ (l : List Step). AreAsked l run.made run.answers) only run.asked;
      answered = λ from begun. run.answered limit less from begun;
      legal = λ from begun. subst (λ (l : List Entry). IsLegal (r.state store).shape.numbers
          (r.state store).shape.segments l from) run.entered (run.legal from begun);
      printed = run.printed
          ∙ ap (λ (m : List Made). (lines ++ lines_text m run.refusals)
          ++ run_report entries (run.answers ++ run.refusals)) calls.0
          ∙ ap (λ (l : List ℕ). l ++ run_report entries (run.answers ++ run.refusals)) (append-nil lines)
          ∙ ap (λ (a : List StepAnswer). lines ++ run_report entries (run.answers ++ a)) calls.1
          ∙ ap (λ (a : List StepAnswer). lines ++ run_report entries a) (append-nil run.answers)
          ∙ ap (λ (l : List Entry). lines ++ run_report l run.answers) run.entered;
    }

-- a run that began in one of these worlds began in one of those
filed_begun : {F : Type 0} (r : Cleaner F) (these those : World → Type 0) (store : F) (steps : List Step)
    (is_whole : Bool) (entries : List Entry) (text : List ℕ) → ((from : World) → those from → these from)
    → IsFiledRun r these store steps is_whole entries text → IsFiledRun r those store steps is_whole entries text
filed_begun r these those store steps is_whole entries text within run = record {
  first = run.first;
  rest = run.rest;
  parted = run.parted;
  whole = run.whole;
  made = run.made;
  answers = run.answers;
  refused = run.refused;
  refusals = run.refusals;
  middle = run.middle;
  after = run.after;
  asked = run.asked;
  asked_then = run.asked_then;
  answered = λ limit less from begins. run.answered limit less from (within from begins);
  full = λ from begins. run.full from (within from begins);
  entered = run.entered;
  legal = λ from begins. run.legal from (within from begins);
  printed = run.printed;
}

-- what a run of the steps of a plan printed and entered, a run of its script does
pub filed_output : (script : Option (List ℕ)) (plan : Planned) (steps : List Step) (since : StoreState) (level : Level)
    (store : Parts) (segments inodes frames : ℕ) (is_whole : Bool) (entries : List Entry) (text : List ℕ)
    → Begins since level opening_world → IfSome script (λ s. IsRead s plan) → steps ≡ plan.steps
    → IsFreshLog segments inodes frames store
    → IsFiledRun log_cleaner (Begins since level) store steps is_whole entries text
    → IfSome script (λ s. IsFiledOutput s segments inodes frames is_whole entries text)
filed_output None plan steps since level store segments inodes frames is_whole entries text begins read asked fresh run =
    tt
filed_output (Some s) plan steps since level store segments inodes frames is_whole entries text begins read asked fresh
    run =
    let opens : World → Type 0 = λ from. from ≡ opening_world in
    let begun : IsFiledRun log_cleaner opens store steps is_whole entries text =
    filed_begun log_cleaner (Begins since level) opens store steps is_whole entries text
    (λ from is. subst (Begins since level) (sym is) begins) run in
    let of_plan : IsFiledRun log_cleaner opens store plan.steps is_whole entries text =
    subst (λ (asks : List Step). IsFiledRun log_cleaner opens store asks is_whole entries text) asked begun in
    record {
      store = store;
      fresh = fresh;
      plan = plan;
      read = read;
      run = of_plan;
      unfiled = λ whole limit less. record {
        store = store;
        fresh = fresh;
        output = record {
          plan = plan;
          parsed = read.parsed;
          run = unfiled_run log_cleaner opens store plan.steps is_whole entries text limit whole less of_plan;
        };
      };
    }
