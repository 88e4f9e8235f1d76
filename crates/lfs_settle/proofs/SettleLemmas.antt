-- A journal is compared with scripts and transcripts session by session: `session_agrees`, `lone_script`,
-- `lone_transcript` and `agreed_more` for `differing_session`, `begun_whole` for `behind_setup`. The loop takes both
-- lists apart from the front, and what is left of them stands at the places from the session on (`left_head`,
-- `left_more`), so each step decides the next session alone. Behind both lists no session has a script or a transcript
-- (`all_agree`); a session with one and not the other is told as differing.
use Rattle.std.proofs.Common.{◌≡◌, ◌↔◌, ℕ, ◌+◌, ◌-◌, ◌<◌, ◌≤◌, suc, Bool, List, [], ◌∷◌, length, Option, None, Some}
use Rattle.std.proofs.Common.{refl, sym, ap, subst, ◌∙◌, inl, inr, arith}
use Rattle.std.proofs.lemmas.Bool.{cases_lt}
use Rattle.std.specs.List.{slice_get}
use Rattle.lfs_types.specs.Caller.{Caller}
use Rattle.lfs_types.specs.declared.answer.Answer.{Answer}
use Rattle.lfs_types.specs.declared.request.Request.{Request}
use Rattle.lfs_model.specs.declared.journal.Entry.{Entry}
use Rattle.lfs_settle.specs.Interleaving.{Agrees, AgreesAt, IsEntered, MadeItsCalls}

-- ---- the setup

-- what is left when all calls have had their entries are the later ones
pub begun_whole : (full : Bool) (rest : List Entry) (calls : List (Caller × Request)) (given : List Answer)
    → length calls ≡ 0 → length given ≡ 0 → IsEntered full rest calls given rest
begun_whole full rest [] [] h g = (tt, refl)
begun_whole full rest (call ∷ calls) given h g = absurd (omega (arith, h))
begun_whole full rest [] (answer ∷ given) h g = absurd (omega (arith, g))

-- ---- lists by session

-- the head of what is left is the element at the place that was reached
pub left_head : {X : Type 0} (left all more : List X) (x : X) (d : ℕ) → left ≡ x ∷ more
    → ((i : ℕ) → slice_get left i ≡ slice_get all (d + i)) → slice_get all d ≡ Some x
left_head {X} left all more x d is at =
    let zero_more : d + 0 ≡ d = omega arith in
    sym (ap (λ (n : ℕ). slice_get all n) zero_more) ∙ sym (at 0) ∙ ap (λ (l : List X). slice_get l 0) is

pub left_more : {X : Type 0} (left all more : List X) (x : X) (d : ℕ) → left ≡ x ∷ more
    → ((i : ℕ) → slice_get left i ≡ slice_get all (d + i)) → (i : ℕ) → slice_get more i ≡ slice_get all (d + 1 + i)
left_more {X} left all more x d is at i =
    let same : d + suc i ≡ d + 1 + i = omega arith in
    sym (ap (λ (l : List X). slice_get l (suc i)) is) ∙ at (suc i) ∙ ap (λ (n : ℕ). slice_get all n) same

pub left_none : {X : Type 0} (left all : List X) (d k : ℕ) → left ≡ []
    → ((i : ℕ) → slice_get left i ≡ slice_get all (d + i)) → d ≤ k → slice_get all k ≡ None
left_none {X} left all d k is at le =
    let same : d + (k - d) ≡ k = omega (arith, le) in
    sym (ap (λ (n : ℕ). slice_get all n) same) ∙ sym (at (k - d)) ∙ ap (λ (l : List X). slice_get l (k - d)) is

-- the lists in a session's place
pub agrees_at : (full : Bool) (entries : List Entry) (scripts : List (List (Caller × Request)))
    (transcripts : List (List Answer)) (d session : ℕ) (a : Option (List (Caller × Request))) (b : Option (List Answer))
    → session ≡ d + 1 → slice_get scripts d ≡ a → slice_get transcripts d ≡ b
    → Agrees full entries session a b ↔ AgreesAt full entries scripts transcripts session
agrees_at full entries scripts transcripts d session a b at script transcript =
    let same : session - 1 ≡ d = omega (arith, at) in
    let s : slice_get scripts (session - 1) ≡ a = ap (λ (n : ℕ). slice_get scripts n) same ∙ script in
    let t : slice_get transcripts (session - 1) ≡ b = ap (λ (n : ℕ). slice_get transcripts n) same ∙ transcript in (
      λ h. subst (λ (x : Option (List (Caller × Request))). Agrees full entries session x
          (slice_get transcripts (session - 1))) (sym s)
          (subst (λ (y : Option (List Answer)). Agrees full entries session a y) (sym t) h),
      λ h. subst (λ (y : Option (List Answer)). Agrees full entries session a y) t
          (subst (λ (x : Option (List (Caller × Request))). Agrees full entries session x
          (slice_get transcripts (session - 1))) s h),
    )

-- a script without its transcript
pub lone_script : (full : Bool) (entries : List Entry) (scripts asked more : List (List (Caller × Request)))
    (transcripts answered : List (List Answer)) (script : List (Caller × Request)) (d : ℕ) → asked ≡ script ∷ more
    → answered ≡ []
    → ((i : ℕ) → slice_get asked i ≡ slice_get scripts (d + i))
    → ((i : ℕ) → slice_get answered i ≡ slice_get transcripts (d + i))
    → AgreesAt full entries scripts transcripts (d + 1) → ⊥
lone_script full entries scripts asked more transcripts answered script d is none s t h =
    (agrees_at full entries scripts transcripts d (d + 1) (Some script) None refl
    (left_head asked scripts more script d is s) (left_none answered transcripts d d none t (omega arith))).1 h

-- a transcript without its script
pub lone_transcript : (full : Bool) (entries : List Entry) (scripts asked : List (List (Caller × Request)))
    (transcripts answered : List (List Answer)) (d : ℕ) → asked ≡ [] → (length answered ≡ 0 → ⊥)
    → ((i : ℕ) → slice_get asked i ≡ slice_get scripts (d + i))
    → ((i : ℕ) → slice_get answered i ≡ slice_get transcripts (d + i))
    → AgreesAt full entries scripts transcripts (d + 1) → ⊥
lone_transcript full entries scripts asked transcripts [] d none some s t h = absurd (some refl)
lone_transcript full entries scripts asked transcripts (answers ∷ more) d none some s t h =
    (agrees_at full entries scripts transcripts d (d + 1) None (Some answers) refl
    (left_none asked scripts d d none s (omega arith))
    (left_head (answers ∷ more) transcripts more answers d refl t)).1 h

-- a session's two lists decide whether it agrees
pub session_agrees : (full : Bool) (entries : List Entry) (scripts asked more_asked : List (List (Caller × Request)))
    (transcripts answered more_answered : List (List Answer)) (script : List (Caller × Request)) (answers : List Answer)
    (d : ℕ) → asked ≡ script ∷ more_asked → answered ≡ answers ∷ more_answered
    → ((i : ℕ) → slice_get asked i ≡ slice_get scripts (d + i))
    → ((i : ℕ) → slice_get answered i ≡ slice_get transcripts (d + i))
    → MadeItsCalls full entries (d + 1) script answers ↔ AgreesAt full entries scripts transcripts (d + 1)
session_agrees full entries scripts asked more_asked transcripts answered more_answered script answers d is has s t =
    agrees_at full entries scripts transcripts d (d + 1) (Some script) (Some answers) refl
    (left_head asked scripts more_asked script d is s)
    (left_head answered transcripts more_answered answers d has t)

-- a session more agrees
pub agreed_more : (P : ℕ → Type 0) (d : ℕ) → ((session : ℕ) → 1 ≤ session → session < d + 1 → P session) → P (d + 1)
    → (session : ℕ) → 1 ≤ session → session < d + 1 + 1 → P session
agreed_more P d before last session low high =
    elim (cases_lt session (d + 1)) [
      | inl below ↦ before session low below
      | inr above ↦
          let same : d + 1 ≡ session = omega arith in
          subst P same last
    ]

-- behind the last lists all sessions agree
pub all_agree : (full : Bool) (entries : List Entry) (scripts asked : List (List (Caller × Request)))
    (transcripts answered : List (List Answer)) (d : ℕ) → asked ≡ [] → answered ≡ []
    → ((i : ℕ) → slice_get asked i ≡ slice_get scripts (d + i))
    → ((i : ℕ) → slice_get answered i ≡ slice_get transcripts (d + i))
    → ((session : ℕ) → 1 ≤ session → session < d + 1 → AgreesAt full entries scripts transcripts session)
    → (session : ℕ) → 1 ≤ session → AgreesAt full entries scripts transcripts session
all_agree full entries scripts asked transcripts answered d none empty s t before session low =
    elim (cases_lt session (d + 1)) [
      | inl below ↦ before session low below
      | inr above ↦
          (agrees_at full entries scripts transcripts (session - 1) session None None (omega arith)
          (left_none asked scripts d (session - 1) none s (omega arith))
          (left_none answered transcripts d (session - 1) empty t (omega arith))).0 tt
    ]
