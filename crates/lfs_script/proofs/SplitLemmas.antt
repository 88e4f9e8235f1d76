-- Calls are sorted by session one by one: `sorted_push` and `sorted_skip` for `calls_by_session`, `with_call-push` for
-- `push_call`, `empty_more` and `script_more` for the lists before and after. The invariant is that each session's list
-- has its calls among the steps so far, in order; a step more adds its call to its own session's list and leaves the
-- others (`here`, `elsewhere`). Steps of the cleaner ask for no user's call and leave all lists (`calls_of-other`); a
-- step with two calls would need `here` twice.
use Rattle.std.proofs.Common.{◌≡◌, ◌≢◌, ℕ, ◌+◌, ◌<◌, ◌==◌, true, false, cond, List, [], ◌∷◌, ◌++◌, length, get_or}
use Rattle.std.proofs.Common.{Option, None, Some, refl, sym, ap, map, subst, ◌∙◌, inl, inr, arith, length-set}
use Rattle.std.proofs.Math.ListN.{set}
use Rattle.std.proofs.Common.{get_or-set_same, get_or-set_other}
use Rattle.std.proofs.lemmas.Bool.{cases_Bool, cases_lt, eqb-true, eqb-false, lt-ltb, le-ltb, ne_eqb}
use Rattle.std.proofs.lemmas.List.{append-nil, append_assoc, get_or-map, length-map, map-append, map-set, replicate_more}
use Rattle.std.specs.Global.{Vec}
use Rattle.std.specs.Prelude.{replicate}
use Rattle.std.proofs.lemmas.List.Elements.{filter_map-append}
use Rattle.lfs_types.specs.Caller.{Caller}
use Rattle.lfs_types.specs.declared.request.Request.{Request}
use Rattle.lfs_script.specs.declared.plan.Step.{Step}
use Rattle.lfs_script.specs.Splitting.{Sorts, act_call, calls_of, with_call}

abbrev call_in : ℕ → Step → Option (Caller × Request)
call_in session step = cond (step.session == session) (act_call step.cred step.act) None

here : (session : ℕ) (steps : List Step) (step : Step) (call : Caller × Request) → (step.session == session) ≡ true
    → act_call step.cred step.act ≡ Some call → calls_of session (steps ++ step ∷ []) ≡ calls_of session steps ++ call
    ∷ []
here session steps step call same asks =
    filter_map-append (call_in session) steps (step ∷ []) ∙ rw (same, asks) refl

elsewhere : (session : ℕ) (steps : List Step) (step : Step) → (step.session == session) ≡ false
    → calls_of session (steps ++ step ∷ []) ≡ calls_of session steps
elsewhere session steps step other =
    filter_map-append (call_in session) steps (step ∷ []) ∙ rw other (append-nil (calls_of session steps))

-- a step that asks for no user's call leaves all sessions
pub calls_of-other : (session : ℕ) (steps : List Step) (step : Step) → act_call step.cred step.act ≡ None
    → calls_of session (steps ++ step ∷ []) ≡ calls_of session steps
calls_of-other session steps step none =
    elim (cases_Bool (step.session == session)) [
      | inl same ↦ filter_map-append (call_in session) steps (step ∷ [])
          ∙ rw (same, none) (append-nil (calls_of session steps))
      | inr other ↦ elsewhere session steps step other
    ]

placed : (lists : List (List (Caller × Request))) (steps : List Step) (step : Step) (call : Caller × Request)
    (session : ℕ) → step.session < length lists → act_call step.cred step.act ≡ Some call → get_or lists session []
    ≡ calls_of session steps → get_or (set lists step.session (get_or lists step.session [] ++ call ∷ [])) session []
    ≡ calls_of session (steps ++ step ∷ [])
placed lists steps step call session within asks so_far =
    elim (cases_Bool (step.session == session)) [
      | inl same ↦
          let at : step.session ≡ session = eqb-true step.session session same in
          subst (λ n. get_or (set lists step.session (get_or lists step.session [] ++ call ∷ [])) n []
          ≡ calls_of session (steps ++ step ∷ [])) at
          (get_or-set_same lists step.session _ [] within
          ∙ ap (λ (xs : List (Caller × Request)). xs ++ call ∷ []) (ap (λ (n : ℕ). get_or lists n []) at ∙ so_far)
          ∙ sym (here session steps step call same asks))
      | inr other ↦
          let apart : session ≢ step.session = λ e. eqb-false step.session session other (sym e) in
          get_or-set_other lists step.session session _ [] apart ∙ so_far ∙ sym (elsewhere session steps step other)
    ]

-- one more call is sorted
pub sorted_more : (lists : List (List (Caller × Request))) (steps : List Step) (step : Step) (call : Caller × Request)
    (count : ℕ) → length lists ≡ count → act_call step.cred step.act ≡ Some call → Sorts steps count lists
    → Sorts (steps ++ step ∷ []) count (with_call lists step.session call)
sorted_more lists steps step call count long asks sorted =
    λ session lt.
    elim (cases_lt step.session (length lists)) [
      | inl within ↦ rw (lt-ltb step.session (length lists) within)
          (placed lists steps step call session within asks (sorted session lt))
      | inr beyond ↦
          let other : (step.session == session) ≡ false = ne_eqb step.session session (λ e. omega arith) in
          rw (le-ltb step.session (length lists) beyond) (sorted session lt ∙ sym (elsewhere session steps step other))
    ]

-- and so are those of a step that asks for none
pub sorted_other : (lists : List (List (Caller × Request))) (steps : List Step) (step : Step) (count : ℕ)
    → act_call step.cred step.act ≡ None → Sorts steps count lists → Sorts (steps ++ step ∷ []) count lists
sorted_other lists steps step count none sorted =
    λ session lt. sorted session lt ∙ sym (calls_of-other session steps step none)

pub length-with_call : (lists : List (List (Caller × Request))) (session : ℕ) (call : Caller × Request)
    → length (with_call lists session call) ≡ length lists
length-with_call lists session call =
    elim (cases_lt session (length lists)) [
      | inl within ↦ rw (lt-ltb session (length lists) within) (length-set lists session _)
      | inr beyond ↦ rw (le-ltb session (length lists) beyond) refl
    ]

-- a call that is pushed onto the list of its session
pub with_call-push : (lists : List (Vec (Caller × Request))) (session : ℕ) (list new : Vec (Caller × Request))
    (call : Caller × Request) → session < length lists → list ≡ get_or lists session list → new.items ≡ list.items
    ++ call ∷ [] → map (λ v. v.items) (set lists session new) ≡ with_call (map (λ v. v.items) lists) session call
with_call-push lists session list new call lt at pushed =
    let within : session < length (map (λ (v : Vec (Caller × Request)). v.items) lists) = rw length-map lt in
    let old : get_or (map (λ (v : Vec (Caller × Request)). v.items) lists) session [] ≡ list.items =
    get_or-map (λ (v : Vec (Caller × Request)). v.items) lists session list [] lt
    ∙ ap (λ (v : Vec (Caller × Request)). v.items) (sym at) in
    map-set (λ (v : Vec (Caller × Request)). v.items) lists session new
    ∙ rw (lt-ltb session (length (map (λ (v : Vec (Caller × Request)). v.items) lists)) within, old, pushed) refl

-- a step that asks for a user's call
pub sorted_push : (lists next : List (List (Caller × Request))) (steps : List Step) (step : Step) (session : ℕ)
    (found : Option (Caller × Request)) (call : Caller × Request) (count : ℕ) → session ≡ step.session → found
    ≡ act_call step.cred step.act → found ≡ Some call → length lists ≡ count → next ≡ with_call lists session call
    → Sorts steps count lists → Sorts (steps ++ step ∷ []) count next
sorted_push lists next steps step session found call count at asked is long grown sorted =
    let all : Sorts (steps ++ step ∷ []) count (with_call lists step.session call) =
    sorted_more lists steps step call count long (sym asked ∙ is) sorted in
    let same : next ≡ with_call lists step.session call =
    grown ∙ ap (λ (n : ℕ). with_call lists n call) at in
    subst (λ (xs : List (List (Caller × Request))). Sorts (steps ++ step ∷ []) count xs) (sym same) all

none_found : (found : Option (Caller × Request)) → ((call : Caller × Request) → found ≡ Some call → ⊥) → found ≡ None
none_found None other = refl
none_found (Some call) other = absurd (other call refl)

-- a step that asks for none
pub sorted_skip : (lists : List (List (Caller × Request))) (steps : List Step) (step : Step)
    (found : Option (Caller × Request)) (count : ℕ) → found ≡ act_call step.cred step.act
    → ((call : Caller × Request) → found ≡ Some call → ⊥) → Sorts steps count lists
    → Sorts (steps ++ step ∷ []) count lists
sorted_skip lists steps step found count asked other sorted =
    sorted_other lists steps step count (sym asked ∙ none_found found other) sorted

-- a step that is taken from those that are left
pub one_more : (steps done left rest : List Step) (step : Step) → steps ≡ done ++ left → left ≡ step ∷ rest
    → steps ≡ (done ++ step ∷ []) ++ rest
one_more steps done left rest step whole taken = rw (whole, taken) (sym (append_assoc done (step ∷ []) rest))

-- and where none is left, all are sorted
pub all_sorted : (steps done left : List Step) (count : ℕ) (lists : List (List (Caller × Request))) → steps
    ≡ done ++ left → left ≡ [] → Sorts done count lists → Sorts steps count lists
all_sorted steps done left count lists whole none sorted = rw (whole, none, append-nil done) sorted

-- one more list without calls
pub empty_more : (lists new : List (Vec (Caller × Request))) (list : Vec (Caller × Request)) (n : ℕ) → new ≡ lists
    ++ list ∷ [] → list.items ≡ []
    → map (λ v. v.items) lists ≡ replicate n [] → map (λ v. v.items) new ≡ replicate (n + 1) []
empty_more lists new list n grown none so_far = rw (grown, map-append, so_far, none) (replicate_more n [])

-- one more script
pub script_more : (lists : List (Vec (Caller × Request))) (done new : List (List (Caller × Request)))
    (list : Vec (Caller × Request)) (script : List (Caller × Request))
    → script ≡ list.items → done ≡ map (λ v. v.items) lists → new ≡ done ++ script ∷ [] → new
    ≡ map (λ v. v.items) (lists ++ list ∷ [])
script_more lists done new list script is so_far grown = rw (grown, so_far, map-append, is) refl
