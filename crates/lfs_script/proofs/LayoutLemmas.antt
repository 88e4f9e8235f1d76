-- The steps that acts and askers make: a table that grows leaves them (`steps_kept`, `draft_kept`), and one more act is
-- one more step, of the present asker (`draft_more`, `drafted_more`). Where a step is of the cleaner, its act is
-- (`cleaner_in`).
use Rattle.std.proofs.Common.{◌≡◌, ℕ, suc, ◌<◌, ◌≤◌, Bool, ◌||◌, List, [], ◌∷◌, ◌++◌, length, get_or, refl, sym, ap}
use Rattle.std.proofs.Common.{subst, ◌∙◌, arith}
use Rattle.std.proofs.lemmas.List.{get_or_append_left, length-append, map-append}
use Rattle.std.proofs.lemmas.List.Elements.{All-append, All-cons}
use Rattle.std.proofs.lemmas.List.Folds.{list_any-append}
use Rattle.std.specs.Global.{Vec}
use Rattle.std.specs.List.{list_any}
use Rattle.lfs_script.specs.Layout.{AreAsked, IsDraft, Known, asker_at, drafted, items_in, step_of, steps_of}
use Rattle.lfs_script.specs.Plans.{added}
use Rattle.lfs_script.specs.Splitting.{is_cleaner_act, is_of_cleaner}
use Rattle.lfs_script.specs.declared.askers.Asker.{Asker}
use Rattle.lfs_script.specs.declared.plan.AskedAct.{AskedAct}
use Rattle.lfs_script.specs.declared.plan.Line.TheVariants as says
use Rattle.lfs_script.specs.declared.plan.Step.{Step}

-- whether a step is of the cleaner, its act says
cleaner_of : (askers : List Asker) (acts : List AskedAct) → list_any is_of_cleaner (steps_of askers acts)
    ≡ list_any (λ asked. is_cleaner_act asked.act) acts
cleaner_of askers [] = refl
cleaner_of askers (asked ∷ acts) =
    ap (λ later. is_cleaner_act asked.act || later) (cleaner_of askers acts)

in_chunks : {X : Type 0} (test : X → Bool) (chunks : List (Vec X))
    → list_any (λ chunk. list_any test chunk.items) chunks ≡ list_any test (items_in chunks)
in_chunks test [] = refl
in_chunks test (chunk ∷ chunks) =
    ap (λ later. list_any test chunk.items || later) (in_chunks test chunks)
    ∙ sym (list_any-append test chunk.items (items_in chunks))

pub cleaner_in : (askers : List Asker) (chunks : List (Vec AskedAct))
    → list_any (λ acts. list_any (λ asked. is_cleaner_act asked.act) acts.items) chunks
    ≡ list_any is_of_cleaner (steps_of askers (items_in chunks))
cleaner_in askers chunks =
    in_chunks (λ (asked : AskedAct). is_cleaner_act asked.act) chunks ∙ sym (cleaner_of askers (items_in chunks))

behind : (askers : List Asker) (asked : AskedAct) (acts : List AskedAct) → AreAsked askers (asked ∷ acts)
    → AreAsked askers acts
behind askers asked acts known = λ k d lt. known (suc k) d (omega (arith, lt))

-- the others are asked too
pub asked_behind : (askers : List Asker) (acts rest : List AskedAct) (asked : AskedAct) → acts ≡ asked ∷ rest
    → AreAsked askers acts → AreAsked askers rest
asked_behind askers acts rest asked split = rw split (behind askers asked rest)

-- a table that grows leaves the steps
steps_kept : (askers more : List Asker) (acts : List AskedAct) → AreAsked askers acts
    → steps_of (askers ++ more) acts ≡ steps_of askers acts
steps_kept askers more [] known = refl
steps_kept askers more (asked ∷ acts) known =
    let here : asker_at (askers ++ more) asked.asker ≡ asker_at askers asked.asker =
    get_or_append_left askers more _ asked.asker (known 0 asked (omega arith)) in
    rw (here, steps_kept askers more acts (behind askers asked acts known)) refl

asked_kept : (askers more : List Asker) (acts : List AskedAct) → AreAsked askers acts → AreAsked (askers ++ more) acts
asked_kept askers more acts known =
    λ k d lt. let below : (get_or acts k d).asker < length askers = known k d lt in
    omega (arith, below, length-append askers more)

kept_here : (old : Known) (more : List Asker) (acts : List AskedAct) (sessions : ℕ) → IsDraft old acts sessions
    → IsDraft (record old { table = old.table ++ more }) acts sessions
kept_here old more acts sessions draft = (
  asked_kept old.table more acts draft.0,
  rw (steps_kept old.table more acts draft.0) draft.1,
  draft.2,
)

pub draft_kept : (old new : Known) (acts : List AskedAct) (sessions : ℕ) → (more : List Asker)
    × (new ≡ record old { table = old.table ++ more }) → IsDraft old acts sessions → IsDraft new acts sessions
draft_kept old new acts sessions grown draft = rw grown.1 (kept_here old grown.0 acts sessions draft)

-- one more act
pub draft_more : (known : Known) (acts next : List AskedAct) (asked : AskedAct) (sessions : ℕ) → next
    ≡ acts ++ asked ∷ [] → asked.asker < length known.table → asker_at known.table asked.asker ≡ known.present
    → IsDraft known acts sessions → IsDraft known next sessions
draft_more known acts next asked sessions grown below is draft =
    let Below : AskedAct → Type 0 = λ asked. asked.asker < length known.table in
    let Within : Step → Type 0 = λ step. step.session ≤ sessions in
    let step : Within (step_of known.table asked) = rw is draft.2 in
    rw grown (
      All-append Below acts (asked ∷ []) draft.0 (All-cons Below asked [] below (λ k d lt. absurd (omega (arith, lt)))),
      rw (map-append (step_of known.table) acts (asked ∷ []))
          (All-append Within (steps_of known.table acts) (step_of known.table asked ∷ []) draft.1
          (All-cons Within (step_of known.table asked) [] step (λ k d lt. absurd (omega (arith, lt))))),
      draft.2,
    )

more_here : (old : Known) (more : List Asker) (acts : List AskedAct) (asked : AskedAct) (sessions : ℕ)
    → AreAsked old.table acts → asker_at (old.table ++ more) asked.asker ≡ old.present
    → drafted (record old { table = old.table ++ more }) (acts ++ asked ∷ []) sessions
    ≡ added (drafted old acts sessions) (says.Act asked.act)
more_here old more acts asked sessions known is =
    rw (map-append (step_of (old.table ++ more)) acts (asked ∷ []), steps_kept old.table more acts known, is) refl

-- and one more step
pub drafted_more : (old new : Known) (acts next : List AskedAct) (asked : AskedAct) (sessions : ℕ)
    → (more : List Asker) × (new ≡ record old { table = old.table ++ more }) → AreAsked old.table acts → next
    ≡ acts ++ asked ∷ [] → asker_at new.table asked.asker ≡ old.present
    → drafted new next sessions ≡ added (drafted old acts sessions) (says.Act asked.act)
drafted_more old new acts next asked sessions grown known more is =
    let at : asker_at (old.table ++ grown.0) asked.asker ≡ old.present =
    subst (λ (known : Known). asker_at known.table asked.asker ≡ old.present) grown.1 is in
    rw (grown.1, more) (more_here old grown.0 acts asked sessions known at)
