-- Callers told apart by groups: `goes_on`, `ends_here` and `allowed` for `lines_of`, `all_denied`, `outside_denied` and
-- `inside_denied` for `deny_all`, `deny_outside` and `deny_inside`. Those who are left are in each group of one list
-- and in none of another; what the lines so far tell a caller, and what the further questions decide of him if he is
-- left, is what all questions decide. A question about one more group parts those who are left: some get a line, and
-- the group joins one list or the other for the rest. That each caller is in just one of both is a case for each of his
-- three memberships (`apart`, `apart_not`). A group that is in either list already parts nobody (`in_inside`,
-- `not_in_outside`).
use Rattle.std.proofs.Common.{◌≡◌, ℕ, ◌==◌, ◌&&◌, ◌||◌, not, Bool, true, false, cond, List, [], ◌∷◌, ◌++◌, Option, Some}
use Rattle.std.proofs.Common.{None, ◌+◌, ◌<◌, ◌≤◌, length, drop, get_or, refl, sym, ap, subst, ◌∙◌, append_assoc}
use Rattle.std.proofs.Common.{append-nil}
use Rattle.std.specs.List.{All, list_all, list_any}
use Rattle.std.proofs.lemmas.Bool.{eqb-true}
use Rattle.std.proofs.lemmas.List.{drop_all}
use Rattle.std.proofs.lemmas.List.Folds.{list_all-append, list_any-append}
use Rattle.lfs_types.specs.Caller.{Caller}
use Rattle.lfs_types.specs.declared.rule.Denial.{Denial}
use Rattle.lfs_rules.specs.Owners.{is_in_group}
use Rattle.lfs_model.specs.Rules.{first_failing}
use Rattle.lfs_explain.proofs.StepsTold.{left_from}
use Rattle.lfs_who.specs.Conditions.{IsUser, all_posed, holds, is_met}
use Rattle.lfs_who.specs.Lines.{IsSplit, Told, fits, left, told_to}
use Rattle.lfs_who.specs.declared.condition.Outcome.{Outcome}
use Rattle.lfs_who.specs.declared.condition.Question.{Question}

-- ---- what is known of a group

and_first : (x y : Bool) → (x && y) ≡ true → x ≡ true
and_first true y e = refl
and_first false y e = e

and_second : (x y : Bool) → (x && y) ≡ true → y ≡ true
and_second true y e = e
and_second false y e = absurd (cc)

not_second : (x y : Bool) → (x && not y) ≡ true → y ≡ false
not_second true true e = absurd (cc)
not_second true false e = refl
not_second false y e = absurd (cc)

or_first : (x y : Bool) → (x || y) ≡ false → x ≡ false
or_first true y e = e
or_first false y e = refl

or_second : (x y : Bool) → (x || y) ≡ false → y ≡ false
or_second true y e = absurd (cc)
or_second false y e = e

module _ (test : ℕ → Bool) (g : ℕ) where
  all_step : (b : Bool) (h : ℕ) (hs : List ℕ) → (b ≡ true → h ≡ g) → (b || list_any (λ x. x == g) hs) ≡ true
      → (test h && list_all test hs) ≡ true
      → (list_any (λ x. x == g) hs ≡ true → list_all test hs ≡ true → test g ≡ true) → test g ≡ true
  all_step true h hs same has all on = ap test (sym (same refl)) ∙ and_first (test h) (list_all test hs) all
  all_step false h hs same has all on = on has (and_second (test h) (list_all test hs) all)

  -- what holds of all holds of one of them
  pub of_all : (hs : List ℕ) → list_any (λ x. x == g) hs ≡ true → list_all test hs ≡ true → test g ≡ true
  of_all [] has all = absurd (cc)
  of_all (h ∷ hs) has all = all_step (h == g) h hs (eqb-true h g) has all (of_all hs)

  none_step : (b : Bool) (h : ℕ) (hs : List ℕ) → (b ≡ true → h ≡ g) → (b || list_any (λ x. x == g) hs) ≡ true
      → (test h || list_any test hs) ≡ false
      → (list_any (λ x. x == g) hs ≡ true → list_any test hs ≡ false → test g ≡ false) → test g ≡ false
  none_step true h hs same has none on = ap test (sym (same refl)) ∙ or_first (test h) (list_any test hs) none
  none_step false h hs same has none on = on has (or_second (test h) (list_any test hs) none)

  -- what holds of none doesn't hold of one of them
  pub of_none : (hs : List ℕ) → list_any (λ x. x == g) hs ≡ true → list_any test hs ≡ false → test g ≡ false
  of_none [] has none = absurd (cc)
  of_none (h ∷ hs) has none = none_step (h == g) h hs (eqb-true h g) has none (of_none hs)

module _ (c : Caller) (inside outside : List ℕ) where
  pub in_inside : (g : ℕ) → list_any (λ x. x == g) inside ≡ true → fits c inside outside ≡ true → is_in_group c g ≡ true
  in_inside g has fit = of_all (λ x. is_in_group c x) g inside has (and_first _ _ fit)

  pub not_in_outside : (g : ℕ) → list_any (λ x. x == g) outside ≡ true → fits c inside outside ≡ true → is_in_group c g
      ≡ false
  not_in_outside g has fit = of_none (λ x. is_in_group c x) g outside has (not_second _ _ fit)

-- ---- lines

told_step : (b : Bool) (d : Option Denial) (all front back : List (Option Denial)) → all ≡ front ++ back
    → cond b (d ∷ all) all ≡ cond b (d ∷ front) front ++ back
told_step true d all front back same = ap (λ l. d ∷ l) same
told_step false d all front back same = same

pub told_append : (c : Caller) (xs ys : List Told) → told_to c (xs ++ ys) ≡ told_to c xs ++ told_to c ys
told_append c [] ys = refl
told_append c (x ∷ xs) ys = told_step (fits c x.inside x.outside) x.denial (told_to c (xs ++ ys)) (told_to c xs)
    (told_to c ys) (told_append c xs ys)

-- where the same is met, the same is left
left_step : (fit b d : Bool) (met unmet : Option Denial) → (fit ≡ true → b ≡ d) → cond fit (cond b met unmet ∷ []) []
    ≡ cond fit (cond d met unmet ∷ []) []
left_step true b d met unmet same = ap (λ e. cond e met unmet ∷ []) (same refl)
left_step false b d met unmet same = refl

pub left_same : (c : Caller) (inside outside : List ℕ) (b d : Bool) (met unmet : Option Denial)
    → (fits c inside outside ≡ true → b ≡ d) → left c inside outside (cond b met unmet)
    ≡ left c inside outside (cond d met unmet)
left_same c inside outside b d met unmet same = left_step (fits c inside outside) b d met unmet same

-- one by one: those outside a group are denied, those in it are left
apart : (a b m : Bool) (rest denied : Option Denial)
    → cond (a && not b) (cond m rest denied ∷ []) [] ≡ cond (a && not (b || (m || false))) (denied ∷ []) []
    ++ cond ((a && (m && true)) && not b) (rest ∷ []) []
apart true true true rest denied = refl
apart true true false rest denied = refl
apart true false true rest denied = refl
apart true false false rest denied = refl
apart false true true rest denied = refl
apart false true false rest denied = refl
apart false false true rest denied = refl
apart false false false rest denied = refl

-- those in a group are denied, those outside are left
apart_not : (a b m : Bool) (rest denied : Option Denial)
    → cond (a && not b) (cond (not m) rest denied ∷ []) [] ≡ cond ((a && (m && true)) && not b) (denied ∷ []) []
    ++ cond (a && not (b || (m || false))) (rest ∷ []) []
apart_not true true true rest denied = refl
apart_not true true false rest denied = refl
apart_not true false true rest denied = refl
apart_not true false false rest denied = refl
apart_not false true true rest denied = refl
apart_not false true false rest denied = refl
apart_not false false true rest denied = refl
apart_not false false false rest denied = refl

module _ (c : Caller) (inside outside : List ℕ) (g : ℕ) (lines : List Told) (denied rest : Option Denial) where
  abbrev test : ℕ → Bool
  test = λ x. is_in_group c x

  abbrev line : List ℕ → List ℕ → Told
  line i o = record { inside = i; outside = o; denial = denied }

  pub all_denied : told_to c lines ++ left c inside outside denied ≡ told_to c (lines ++ line inside outside ∷ []) ++ []
  all_denied = sym (told_append c lines (line inside outside ∷ []))
      ∙ sym (append-nil (told_to c (lines ++ line inside outside ∷ [])))

  pub outside_denied : told_to c lines ++ left c inside outside (cond (is_in_group c g) rest denied)
      ≡ told_to c (lines ++ line inside (outside ++ g ∷ []) ∷ []) ++ left c (inside ++ g ∷ []) outside rest
  outside_denied =
      ap (λ t. told_to c lines ++ t) (apart (list_all test inside) (list_any test outside) (test g) rest denied)
      ∙ ap (λ b. told_to c lines ++ (cond (list_all test inside && not b) (denied ∷ []) []
      ++ cond ((list_all test inside && (test g && true)) && not (list_any test outside)) (rest ∷ []) []))
      (sym (list_any-append test outside (g ∷ [])))
      ∙ ap (λ b. told_to c lines ++ (cond (list_all test inside && not (list_any test (outside ++ g ∷ []))) (denied
      ∷ []) [] ++ cond (b && not (list_any test outside)) (rest ∷ []) []))
      (sym (list_all-append test inside (g ∷ [])))
      ∙ sym (append_assoc (told_to c lines) (told_to c (line inside (outside ++ g ∷ []) ∷ []))
      (left c (inside ++ g ∷ []) outside rest))
      ∙ ap (λ t. t ++ left c (inside ++ g ∷ []) outside rest)
      (sym (told_append c lines (line inside (outside ++ g ∷ []) ∷ [])))

  pub inside_denied : told_to c lines ++ left c inside outside (cond (not (is_in_group c g)) rest denied)
      ≡ told_to c (lines ++ line (inside ++ g ∷ []) outside ∷ []) ++ left c inside (outside ++ g ∷ []) rest
  inside_denied =
      ap (λ t. told_to c lines ++ t) (apart_not (list_all test inside) (list_any test outside) (test g) rest denied)
      ∙ ap (λ b. told_to c lines ++ (cond (b && not (list_any test outside)) (denied ∷ []) []
      ++ cond (list_all test inside && not (list_any test outside || (test g || false))) (rest ∷ []) []))
      (sym (list_all-append test inside (g ∷ [])))
      ∙ ap (λ b. told_to c lines ++ (cond (list_all test (inside ++ g ∷ []) && not (list_any test outside)) (denied
      ∷ []) [] ++ cond (list_all test inside && not b) (rest ∷ []) []))
      (sym (list_any-append test outside (g ∷ [])))
      ∙ sym (append_assoc (told_to c lines) (told_to c (line (inside ++ g ∷ []) outside ∷ []))
      (left c inside (outside ++ g ∷ []) rest))
      ∙ ap (λ t. t ++ left c inside (outside ++ g ∷ []) rest)
      (sym (told_append c lines (line (inside ++ g ∷ []) outside ∷ [])))

-- the rest of what is asked, one by one
pub failing_from : (c : Caller) (questions : List Question) (at : ℕ) (question : Question) → at < length questions
    → question ≡ get_or questions at question
    → first_failing (all_posed c (drop at questions))
    ≡ cond (holds c question.condition) (first_failing (all_posed c (drop (at + 1) questions)))
    (Some question.denial)
failing_from c questions at question long is =
    ap (λ (qs : List Question). first_failing (all_posed c qs)) (left_from questions at question long is)

pub failing_none : (c : Caller) (questions : List Question) (at : ℕ) → length questions ≤ at
    → first_failing (all_posed c (drop at questions)) ≡ None
failing_none c questions at over = ap (λ (qs : List Question). first_failing (all_posed c qs))
    (drop_all at questions over)

-- ---- a question asked of those who are left

module _ (c : Caller) (user : Option ℕ) (questions : List Question) (at : ℕ) (question : Question)
    (lines now : List Told) (inside outside within without : List ℕ)
    (outcome known : Outcome) (ends : Bool) (decided : List (Option Denial)) (long : at < length questions)
    (is : question ≡ get_or questions at question)
    (mine : All (λ (q : Question). IsUser user c q.condition) questions)
    (out : IsUser user c question.condition → holds c question.condition ≡ is_met c outcome)
    (kept : fits c inside outside ≡ true → is_met c known ≡ is_met c outcome)
    (split : IsSplit known question.denial lines inside outside now within without ends)
    (so : told_to c lines ++ left c inside outside (first_failing (all_posed c (drop at questions))) ≡ decided) where
  abbrev rest : Option Denial
  rest = first_failing (all_posed c (drop (at + 1) questions))

  own : IsUser user c question.condition
  own = subst (λ (q : Question). IsUser user c q.condition) (sym is) (mine at question long)

  asked_on : told_to c now ++ cond ends [] (left c within without rest) ≡ decided
  asked_on =
      sym (split c rest)
      ∙ ap (λ t. told_to c lines ++ t) (left_same c inside outside (is_met c known) (holds c question.condition) rest
      (Some question.denial) (λ fit. kept fit ∙ sym (out own)))
      ∙ ap (λ d. told_to c lines ++ left c inside outside d) (sym (failing_from c questions at question long is))
      ∙ so

  pub goes_on : ends ≡ false → told_to c now ++ left c within without rest ≡ decided
  goes_on on = ap (λ b. told_to c now ++ cond b [] (left c within without rest)) (sym on) ∙ asked_on

  pub ends_here : ends ≡ true → told_to c now ≡ decided
  ends_here end = sym (append-nil (told_to c now))
      ∙ ap (λ b. told_to c now ++ cond b [] (left c within without rest)) (sym end) ∙ asked_on

-- behind the last question, those who are left are allowed
pub allowed : (c : Caller) (questions : List Question) (at : ℕ) (lines now : List Told) (inside outside : List ℕ)
    (decided : List (Option Denial)) → length questions ≤ at
    → now ≡ lines ++ record { inside = inside; outside = outside; denial = None } ∷ []
    → told_to c lines ++ left c inside outside (first_failing (all_posed c (drop at questions))) ≡ decided
    → told_to c now ≡ decided
allowed c questions at lines now inside outside decided over pushed so =
    ap (λ ls. told_to c ls) pushed
    ∙ told_append c lines (record { inside = inside; outside = outside; denial = None } ∷ [])
    ∙ ap (λ d. told_to c lines ++ left c inside outside d) (sym (failing_none c questions at over))
    ∙ so
