-- Steps behind a journal are steps behind a longer one that leads to the same world: `steps_shifted`, for FiledLemmas,
-- where the longer one has the entries that were handed out before. A call depends on a journal in two ways: on the
-- world that it leads to, which is the same, and on whether it is full. `Agree` says that both are full together, as
-- their limits differ by the entries before, or that neither gets full in these steps, as each enters at most one
-- (`journaled_few`). `none_entered`: behind a full journal each call is refused, so that it stays full.
use Rattle.std.proofs.Common.{◌≡◌, ℕ, suc, ◌+◌, ◌<◌, ◌≤◌, ◌⊎◌, inl, inr, List, [], ◌∷◌, ◌++◌, length, Option, None, Some}
use Rattle.std.proofs.Common.{refl, sym, ap, subst, ◌∙◌, arith, append_assoc, append-nil, length-append}
use Rattle.lfs_types.specs.Caller.{Caller}
use Rattle.lfs_types.specs.StoreStates.{Shape}
use Rattle.lfs_types.specs.Tree.{World}
use Rattle.lfs_model.specs.declared.journal.Entry.{Entry}
use Rattle.lfs_model.specs.declared.journal.Event.{Event}
use Rattle.lfs_model.specs.declared.steps.Act.{Act}
use Rattle.lfs_model.specs.declared.steps.Act.TheVariants as acts
use Rattle.lfs_model.specs.declared.steps.Step.{Step as Made}
use Rattle.lfs_model.specs.declared.steps.StepAnswer.{StepAnswer}
use Rattle.lfs_model.specs.declared.steps.StepAnswer.TheVariants as told
use Rattle.lfs_model.specs.Runs.{cleaner_event, journaled, kept_step, kept_steps, step_event, user_event}
use Rattle.lfs_model.specs.Steps.{world_after}
use Rattle.lfs_model.proofs.RunLemmas.{world_after-append}
use Rattle.lfs_calls.specs.Entries.{LeavesEntries, OnServed}
use Rattle.lfs_calls.specs.Outcomes.{IsOutcome}
use Rattle.lfs_calls.specs.Volumes.{IsVolume}
use Rattle.lfs_volume.specs.Cleanings.{Cleaner}
use Rattle.lfs_volume.specs.StepRuns.{AreSteps, IsActMade}
use Rattle.lfs_volume.proofs.CleaningLemmas.{shape_stays}

-- ---- how long journals are

-- A journal of so many entries, with its limit, has room as one that is longer by so many has with its own: both limits
-- differ by as many; or there is room for so many steps behind the first, and for the entries that they make behind the
-- second.
abbrev pub Agree : ℕ → ℕ → ℕ → ℕ → ℕ → ℕ → Type 0
Agree limit most before entries steps more =
    (most ≡ before + limit) ⊎ ((entries + steps ≤ limit) × (before + (entries + more) < most))

agree_full : (limit most before entries steps more : ℕ) → Agree limit most before entries (suc steps) more
    → entries ≡ limit → before + entries ≡ most
agree_full limit most before entries steps more (inl apart) is = omega (arith, apart, is)
agree_full limit most before entries steps more (inr few) is = absurd (omega (arith, few.0, is))

agree_limit : (limit most before entries steps more : ℕ) → Agree limit most before entries (suc steps) more
    → before + entries ≡ most → entries ≡ limit
agree_limit limit most before entries steps more (inl apart) is = omega (arith, apart, is)
agree_limit limit most before entries steps more (inr few) is = absurd (omega (arith, few.1, is))

agree_room : (limit most before entries steps more : ℕ) → Agree limit most before entries (suc steps) more
    → before + entries < most → entries < limit
agree_room limit most before entries steps more (inl apart) less = omega (arith, apart, less)
agree_room limit most before entries steps more (inr few) less = omega (arith, few.0)

agree_next : (limit most before entries steps more one all then : ℕ) → all ≡ one + more → then ≡ entries + one
    → one ≤ 1 → Agree limit most before entries (suc steps) all → Agree limit most before then steps more
agree_next limit most before entries steps more one all then whole here few (inl apart) = inl apart
agree_next limit most before entries steps more one all then whole here few (inr less) =
    inr (omega (arith, less.0, here, few), omega (arith, less.1, whole, here))

pub journaled_few : (session : ℕ) (caller : Caller) (event : Option Event) → length (journaled session caller event) ≤ 1
journaled_few session caller None = omega arith
journaled_few session caller (Some event) = omega arith

-- ---- one step

act_shifted : {F : Type 0} (r : Cleaner F) (limit most : ℕ) (here from : World) (journal longer : List Entry)
    (old new : F) (caller : Caller) (act : Act) (answer : StepAnswer)
    → world_after (r.state old).shape.numbers longer from ≡ world_after (r.state old).shape.numbers journal here
    → (length journal ≡ limit → length longer ≡ most) → (length longer ≡ most → length journal ≡ limit)
    → (length longer < most → length journal < limit)
    → IsActMade r limit here journal old caller act answer new
    → IsActMade r most from longer old caller act answer new
act_shifted r limit most here from journal longer old new caller (acts.User request) (told.User answer) same full back
    room made = record {
      made = let alone = made.made in
          record {
            full = (λ is. full (alone.full.0 is), λ is. alone.full.1 (back is));
            at_limit = λ is. alone.at_limit (back is);
            shown = subst (λ (w : World). IsVolume (r.state old) w) (sym same) alone.shown;
            outcome = λ less. subst (λ (w : World). IsOutcome (r.state old) w caller request answer) (sym same)
                (alone.outcome (room less));
            entries = subst (λ (w : World). OnServed answer (LeavesEntries request (r.state old).content
                (r.state new).content w.rows)) (sym same) alone.entries;
            unserved = alone.unserved;
            looks = alone.looks;
            unasked = alone.unasked;
            synced = alone.synced;
            follows = alone.follows;
            base = alone.base;
          };
      asked = made.asked;
    }
act_shifted r limit most here from journal longer old new caller (acts.User request) (told.Cleaner answer) same full
    back room made = absurd made
act_shifted r limit most here from journal longer old new caller (acts.Cleaner call) (told.User answer) same full back
    room made = absurd made
act_shifted r limit most here from journal longer old new caller (acts.Cleaner call) (told.Cleaner answer) same full
    back room made = (
      (λ is. full (made.0.0 is), λ is. made.0.1 (back is)),
      λ is. made.1 (back is),
      λ less. made.2 (room less),
      made.3,
    )

act_shape : {F : Type 0} (r : Cleaner F) (limit : ℕ) (from : World) (journal : List Entry) (old new : F)
    (caller : Caller) (act : Act) (answer : StepAnswer) → IsActMade r limit from journal old caller act answer new
    → (r.state new).shape ≡ (r.state old).shape
act_shape r limit from journal old new caller (acts.User request) (told.User answer) made = made.made.follows.shape
act_shape r limit from journal old new caller (acts.User request) (told.Cleaner answer) made = absurd made
act_shape r limit from journal old new caller (acts.Cleaner call) (told.User answer) made = absurd made
act_shape r limit from journal old new caller (acts.Cleaner call) (told.Cleaner answer) made =
    shape_stays answer (r.state old) (r.state new) made.3

-- ---- steps

-- steps behind a journal that begins where these entries lead to are steps behind both
pub steps_shifted : {F : Type 0} (r : Cleaner F) (limit most : ℕ) (from : World) (handed journal : List Entry)
    (first last : F) (made : List Made) (answers : List StepAnswer) (shape : Shape)
    → (r.state first).shape ≡ shape
    → Agree limit most (length handed) (length journal) (length made) (length (kept_steps made answers))
    → AreSteps r limit (world_after shape.numbers handed from) journal first made answers last
    → AreSteps r most from (handed ++ journal) first made answers last
steps_shifted r limit most from handed journal first last [] [] shape same agree are = are
steps_shifted r limit most from handed journal first last [] (a ∷ answers) shape same agree are = absurd are
steps_shifted r limit most from handed journal first last (s ∷ made) [] shape same agree are = absurd are
steps_shifted {F} r limit most from handed journal first last (s ∷ made) (a ∷ answers) shape same agree are =
    let here = world_after shape.numbers handed from in
    let numbers = (r.state first).shape.numbers in
    let entry = kept_step s a in
    let leads : world_after numbers (handed ++ journal) from ≡ world_after numbers journal here =
    world_after-append numbers handed journal from
    ∙ ap (λ (t : Shape). world_after numbers journal (world_after t.numbers handed from)) same in
    let long : length (handed ++ journal) ≡ length handed + length journal = length-append handed journal in (
      are.0,
      subst (λ (w : World). IsVolume (r.state first) w) (sym leads) are.1,
      act_shifted r limit most here from journal (handed ++ journal) first are.0 s.cred s.act a leads
          (λ is. long ∙ agree_full limit most (length handed) (length journal) (length made) _ agree is)
          (λ is. agree_limit limit most (length handed) (length journal) (length made) _ agree (sym long ∙ is))
          (λ less. agree_room limit most (length handed) (length journal) (length made) _ agree
          (subst (λ (n : ℕ). n < most) long less)) are.2,
      subst (λ (j : List Entry). AreSteps r most from j are.0 made answers last)
          (sym (append_assoc handed journal entry))
          (steps_shifted r limit most from handed (journal ++ entry) are.0 last made answers shape
          (act_shape r limit here journal first are.0 s.cred s.act a are.2 ∙ same)
          (agree_next limit most (length handed) (length journal) (length made) (length (kept_steps made answers))
          (length entry) _ _ (length-append entry (kept_steps made answers)) (length-append journal entry)
          (journaled_few s.session s.cred (step_event s.act a)) agree) are.3),
    )

-- ---- a journal that is full

act_refused : {F : Type 0} (r : Cleaner F) (limit : ℕ) (from : World) (journal : List Entry) (old new : F)
    (caller : Caller) (act : Act) (answer : StepAnswer) → length journal ≡ limit
    → IsActMade r limit from journal old caller act answer new → step_event act answer ≡ None
act_refused r limit from journal old new caller (acts.User request) (told.User answer) full made =
    ap (user_event request) (made.made.full.1 full)
act_refused r limit from journal old new caller (acts.User request) (told.Cleaner answer) full made = absurd made
act_refused r limit from journal old new caller (acts.Cleaner call) (told.User answer) full made = absurd made
act_refused r limit from journal old new caller (acts.Cleaner call) (told.Cleaner answer) full made =
    ap (cleaner_event call) (made.0.1 full)

-- behind a journal that has its limit nothing is entered
pub none_entered : {F : Type 0} (r : Cleaner F) (limit : ℕ) (from : World) (journal : List Entry) (first last : F)
    (made : List Made) (answers : List StepAnswer) → length journal ≡ limit
    → AreSteps r limit from journal first made answers last → kept_steps made answers ≡ []
none_entered r limit from journal first last [] [] full are = refl
none_entered r limit from journal first last [] (a ∷ answers) full are = absurd are
none_entered r limit from journal first last (s ∷ made) [] full are = absurd are
none_entered r limit from journal first last (s ∷ made) (a ∷ answers) full are =
    let none : kept_step s a ≡ [] = ap (journaled s.session s.cred)
    (act_refused r limit from journal first are.0 s.cred s.act a full are.2) in
    let still : length (journal ++ kept_step s a) ≡ limit =
    ap length (ap (λ (l : List Entry). journal ++ l) none ∙ append-nil journal) ∙ full in
    ap (λ (l : List Entry). l ++ kept_steps made answers) none
    ∙ none_entered r limit from (journal ++ kept_step s a) are.0 last made answers still are.3
