-- Runs of steps with one more, and what they are without the cleaner's: `AreSteps-append`, `kept_steps-append` and
-- `AreLegalAlone-behind`, for `Volume::run_steps`. Each step is answered behind the journal that those before it left,
-- so one more is answered behind all their entries, by induction on them. The entries behind a journal are legal from
-- the world to which it leads (`IsLegal-later`), and the cleaner's leave the tree, so the users' alone lead to the
-- same.
use Rattle.std.proofs.Common.{◌≡◌, ℕ, List, [], ◌∷◌, ◌++◌, length, refl, sym, ap, subst, ◌∙◌, arith, append_assoc}
use Rattle.std.proofs.Common.{append-nil}
use Rattle.lfs_types.specs.StoreStates.{Shape}
use Rattle.lfs_types.specs.Tree.{World}
use Rattle.lfs_model.specs.declared.journal.Entry.{Entry}
use Rattle.lfs_model.specs.declared.steps.Step.{Step}
use Rattle.lfs_model.specs.declared.steps.StepAnswer.{StepAnswer}
use Rattle.lfs_model.specs.Runs.{kept_step, kept_steps}
use Rattle.lfs_model.specs.Steps.{IsLegal, after_event, world_after}
use Rattle.lfs_model.proofs.EntryLemmas.{users_alone_law}
use Rattle.lfs_model.proofs.RunLemmas.{world_after-append}
use Rattle.lfs_calls.specs.Volumes.{IsVolume}
use Rattle.lfs_volume.specs.Cleanings.{Cleaner}
use Rattle.lfs_volume.specs.StepRuns.{AreLegalAlone, AreSteps, IsActMade}

-- what a step more keeps
pub kept_steps-append : (steps : List Step) (answers : List StepAnswer) (step : Step) (answer : StepAnswer)
    → length answers ≡ length steps
    → kept_steps (steps ++ step ∷ []) (answers ++ answer ∷ []) ≡ kept_steps steps answers ++ kept_step step answer
kept_steps-append [] [] step answer h = append-nil (kept_step step answer)
kept_steps-append [] (a ∷ answers) step answer h = absurd (omega (arith, h))
kept_steps-append (s ∷ steps) [] step answer h = absurd (omega (arith, h))
kept_steps-append (s ∷ steps) (a ∷ answers) step answer h =
    ap (λ l. kept_step s a ++ l) (kept_steps-append steps answers step answer (omega (arith, h)))
    ∙ sym (append_assoc (kept_step s a) (kept_steps steps answers) (kept_step step answer))

-- one more step was answered
pub AreSteps-append : {F : Type 0} (r : Cleaner F) (limit : ℕ) (from : World) (journal : List Entry)
    (first last next : F) (steps : List Step)
    (answers : List StepAnswer) (step : Step) (answer : StepAnswer)
    → AreSteps r limit from journal first steps answers last
    → IsVolume (r.state last) (world_after (r.state last).shape.numbers (journal ++ kept_steps steps answers) from)
    → IsActMade r limit from (journal ++ kept_steps steps answers) last step.cred step.act answer next
    → AreSteps r limit from journal first (steps ++ step ∷ []) (answers ++ answer ∷ []) next
AreSteps-append {F} r limit from journal first last next [] [] step answer are shown made =
    let same : journal ++ [] ≡ journal = append-nil journal in (
      next,
      subst (λ (s : F). IsVolume (r.state s) (world_after (r.state s).shape.numbers journal from)) are
          (subst (λ j. IsVolume (r.state last) (world_after (r.state last).shape.numbers j from)) same shown),
      subst (λ (s : F). IsActMade r limit from journal s step.cred step.act answer next) are
          (subst (λ j. IsActMade r limit from j last step.cred step.act answer next) same made),
      refl,
    )
AreSteps-append r limit from journal first last next [] (a ∷ answers) step answer are shown made = absurd are
AreSteps-append r limit from journal first last next (s ∷ steps) [] step answer are shown made = absurd are
AreSteps-append r limit from journal first last next (s ∷ steps) (a ∷ answers) step answer are shown made =
    let behind = sym (append_assoc journal (kept_step s a) (kept_steps steps answers)) in (
      are.0,
      are.1,
      are.2,
      AreSteps-append r limit from (journal ++ kept_step s a) are.0 last next steps answers step answer are.3
          (subst (λ j. IsVolume (r.state last) (world_after (r.state last).shape.numbers j from)) behind shown)
          (subst (λ j. IsActMade r limit from j last step.cred step.act answer next) behind made),
    )

-- the later entries of a legal list are legal from the world that the earlier ones leave
IsLegal-later : (numbers segments : ℕ) (es fs : List Entry) (w : World) → IsLegal numbers segments (es ++ fs) w
    → IsLegal numbers segments fs (world_after numbers es w)
IsLegal-later numbers segments [] fs w legal = legal
IsLegal-later numbers segments (e ∷ es) fs w legal =
    IsLegal-later numbers segments es fs (after_event numbers w e.cred e.event) legal.1

-- the entries behind a journal are legal, with the cleaner's and without them
pub AreLegalAlone-behind : (from : World) (shape : Shape) (es fs : List Entry)
    → IsLegal shape.numbers shape.segments (es ++ fs) from
    → AreLegalAlone shape fs (world_after shape.numbers es from) (world_after shape.numbers (es ++ fs) from)
AreLegalAlone-behind from shape es fs legal =
    let later = IsLegal-later shape.numbers shape.segments es fs from legal in
    let leads = sym (world_after-append shape.numbers es fs from) in
    let alone = users_alone_law shape.numbers shape.segments fs (world_after shape.numbers es from) later in
    record {
      legal = later;
      leads = leads;
      legal_alone = alone.0;
      leads_alone = alone.1 ∙ leads;
    }
