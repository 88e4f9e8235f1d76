use Rattle.std.proofs.Common.{rules, ◌≡◌, ◌∷◌, [], ◌++◌, sym, ap, subst, ◌∙◌, arith, length-append, append_assoc}
use Rattle.std.proofs.Common.{append-nil}
use Rattle.std.proofs.lemmas.Grind.{common_steps}
use Rattle.std.proofs.lemmas.List.{nil_from_length}
use Rattle.lfs_types.specs.StoreStates.{Shape}
use Rattle.lfs_calls.specs.Volumes.{IsVolume}
use Rattle.lfs_model.specs.Runs.{kept_step, kept_steps}
use Rattle.lfs_model.specs.Steps.{IsLegal, world_after}
use Rattle.lfs_volume.specs.Cleanings.{cleaner_of}
use Rattle.lfs_volume.specs.Journals.{Begins, Since}
use Rattle.lfs_volume.specs.StepRuns.{AreLegalAlone, AreSteps, IsActMade}
use Rattle.lfs_volume.proofs.StepLemmas.{AreLegalAlone-behind, AreSteps-append, kept_steps-append}
use Rattle.lfs_volume.proofs.volume.Volume.run_steps.Goals as goal

pub loop-step-preserved : goal.loop-step-preserved
loop-step-preserved g c =
    let i = c.loop-step.invariant in
    let r = cleaner_of g.F.FileStore.state g.F.FileStore.is_flushed g.F.FileStore.made g.F.CleanedStore.cleaner in
    let answer = c.make-answered.result in
    let made = c.make-answered.ensures in
    let step = c.in-Some.step in
    let before = c.loop-step.self in
    let next = c.make-answered.new.self.store in
    let opening = c.args.self.now in
    let kept = kept_steps c.loop-step.yielded c.loop-step.answers.items in
    let pushed : c.push_within.new.items.items ≡ c.loop-step.answers.items ++ answer
    ∷ [] = c.push_within.ensures.pushed in
    let still : Since (r.state opening.since) opening.since_level (Begins (r.state before.since) before.since_level) =
    λ from begins. subst (λ l. Begins (r.state before.since) l from) (sym i.since_level)
    (subst (λ s. Begins (r.state s) opening.since_level from) (sym i.since) begins) in
    let stepped : c.loop-step.step-iterator.rest.items ≡ step
    ∷ c.next.new.self.rest.items = c.in-Some.ensures.steps.0 in
    record {
      each = λ from begins. let here = still from begins in
          subst (λ answers. AreSteps r opening.limit from opening.journal opening.store (c.loop-step.yielded ++ step
          ∷ []) answers next) (sym pushed)
          (AreSteps-append r opening.limit from opening.journal opening.store before.store next c.loop-step.yielded
          c.loop-step.answers.items step answer (i.each from begins)
          (subst (λ j. IsVolume (r.state before.store) (world_after (r.state before.store).shape.numbers j from))
          i.entered (i.legal from here).shown)
          (subst (λ n. IsActMade r n from (opening.journal ++ kept) before.store step.cred step.act answer next) i.limit
          (subst (λ j. IsActMade r before.limit from j before.store step.cred step.act answer next) i.entered
          (made.made from here))));
      entered = made.entered
          ∙ ap (λ j. j ++ kept_step step answer) i.entered
          ∙ append_assoc opening.journal kept (kept_step step answer)
          ∙ ap (λ l. opening.journal ++ l)
          (sym (kept_steps-append c.loop-step.yielded c.loop-step.answers.items step answer i.count)
          ∙ ap (kept_steps (c.loop-step.yielded ++ step ∷ [])) (sym pushed));
      legal = made.legal;
      all = append_assoc c.loop-step.yielded (step ∷ []) c.next.new.self.rest.items
          ∙ ap (λ l. c.loop-step.yielded ++ l) (sym stepped) ∙ i.all;
      count = simp (pushed, length-append) (omega (arith, i.count));
      room = omega (arith, i.room, c.push_within.ensures.room);
      since = made.since ∙ i.since;
      since_level = made.since_level ∙ i.since_level;
      limit = made.limit ∙ i.limit;
      shape = made.shape ∙ i.shape;
    }

pub returns-clause-users_alone : goal.returns-clause-users_alone
returns-clause-users_alone g c =
    let i = c.loop-step.invariant in
    let opening = c.args.self.now in
    let shape = (g.F.FileStore.state opening.store).shape in
    let none : c.loop-step.step-iterator.rest.items ≡ [] =
    nil_from_length _ (omega (arith, c.in-None.ensures.steps.0, c.loop-step.step-iterator.rest.ok)) in
    let all : c.loop-step.yielded ≡ c.args.steps.items =
    sym (append-nil c.loop-step.yielded) ∙ ap (λ l. c.loop-step.yielded ++ l) (sym none) ∙ i.all in
    let kept = kept_steps c.args.steps.items c.loop-step.answers.items in
    let entered : c.loop-step.self.journal ≡ opening.journal ++ kept =
    i.entered ∙ ap (λ l. opening.journal ++ kept_steps l c.loop-step.answers.items) all in
    let state = g.F.FileStore.state in
    let now = c.loop-step.self in
    λ from begins.
    let here : Begins (state now.since) now.since_level from =
    subst (λ l. Begins (state now.since) l from) (sym i.since_level)
    (subst (λ s. Begins (state s) opening.since_level from) (sym i.since) begins) in
    let legal : IsLegal shape.numbers shape.segments (opening.journal ++ kept) from =
    subst (λ j. IsLegal shape.numbers shape.segments j from) entered
    (subst (λ (s : Shape). IsLegal s.numbers s.segments now.journal from) i.shape (i.legal from here).legal) in
    subst (λ j. AreLegalAlone shape kept (world_after shape.numbers opening.journal from)
    (world_after shape.numbers j from)) (sym entered)
    (AreLegalAlone-behind from shape opening.journal kept legal)

pub returns-in-Err-clause-legal : goal.returns-in-Err-clause-legal
returns-in-Err-clause-legal g c = search rules

pub returns-in-Err-clause-refused : goal.returns-in-Err-clause-refused
returns-in-Err-clause-refused g c = search rules

pub returns-in-Err-clause-limit : goal.returns-in-Err-clause-limit
returns-in-Err-clause-limit g c = search rules

pub push_within-requires : goal.push_within-requires
push_within-requires g c = grind (arith, common_steps)

pub returns-clause-each : goal.returns-clause-each
returns-clause-each g c = grind (arith, common_steps)

pub returns-clause-entered : goal.returns-clause-entered
returns-clause-entered g c = grind (arith, common_steps)
