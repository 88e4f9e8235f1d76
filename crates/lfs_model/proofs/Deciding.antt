-- The first failing test of a walk and others is the walk's denial, or that of the others where it ends at a row
-- (`failing_walk`, `walk_denied`, `walk_passed`); and lists of tests are taken apart at a seam (`failing-front`,
-- `failing-behind`, `passes-append`): for Allowed and each judge of `lfs_checks` and `lfs_calls`. By induction on names
-- and on tests; a step asks three tests, of which the one that fails is the denial. The order of the tests is the order
-- of blame: where it changes, the code that asks them has to change with it.
use Rattle.std.proofs.Common.{◌≡◌, ℕ, ◌+◌, Bool, true, false, cond, List, [], ◌∷◌, ◌++◌, Option, None, Some, Result, Ok}
use Rattle.std.proofs.Common.{Err, refl, sym, ap, ◌∙◌}
use Rattle.std.specs.Prelude.{is_some, unwrap_or}
use Rattle.std.specs.FinMap as map
use Rattle.lfs_types.specs.Caller.{Caller}
use Rattle.lfs_types.specs.Tree.{root}
use Rattle.lfs_types.specs.declared.attrs.Bit.TheVariants as bits
use Rattle.lfs_types.specs.declared.rule.Denial.{Denial}
use Rattle.lfs_model.specs.World.{Rows, child}
use Rattle.lfs_model.specs.Rules.{Check, first_failing, judged, is_directory_row, row_grants, next, reached, walk}
use Rattle.lfs_model.specs.Walks.{found, and_then, walked}

-- the first failing test, where a walk comes before others
abbrev pub after_walk : Result ℕ Denial → Option Denial → Option Denial
after_walk (Ok n) rest = rest
after_walk (Err denial) rest = Some denial

module _ (path k : ℕ) (kind search name : Denial) (rest tail : Option Denial) (on : ℕ → Result ℕ Denial) where
  goes_on : (d s : Bool) (o : Option ℕ) (stop : Result ℕ Denial) → (o ≡ None → stop ≡ Err name)
      → ((n : ℕ) → o ≡ Some n → stop ≡ Ok n) → tail ≡ after_walk (on (unwrap_or o 0)) rest
      → cond d (cond s (cond (is_some o) tail (Some name)) (Some search)) (Some kind)
      ≡ after_walk (and_then (cond d (cond s stop (Err search)) (Err kind)) on) rest
  goes_on true true None stop none some h = sym (ap (λ r. after_walk (and_then r on) rest) (none refl))
  goes_on true true (Some n) stop none some h = h ∙ sym (ap (λ r. after_walk (and_then r on) rest) (some n refl))
  goes_on true false o stop none some h = refl
  goes_on false s o stop none some h = refl

-- the first failing test of a walk and others is its denial, or that of the others
pub failing_walk : (rows : Rows) (caller : Caller) (path k at : ℕ) (names : List (List ℕ)) (rest : List Check)
    → first_failing (walk rows caller path k at names ++ rest)
    ≡ after_walk (walked rows caller path k at names) (first_failing rest)
unfolding walked
failing_walk rows caller path k at [] rest = refl
failing_walk rows caller path k at (name ∷ names) rest =
    goes_on path k _ _ _ (first_failing rest) _ (λ n. walked rows caller path (k + 1) n names)
    (is_directory_row (map.get rows at)) (row_grants caller bits.Search (map.get rows at)) (child rows at name)
    (found path (k + 1) (child rows at name))
    (λ e. ap (found path (k + 1)) e) (λ n e. ap (found path (k + 1)) e)
    (failing_walk rows caller path (k + 1) (next rows at name) names rest)

-- where a walk is denied, the call is
pub walk_denied : (rows : Rows) (caller : Caller) (path : ℕ) (names : List (List ℕ)) (rest : List Check)
    (denial : Denial)
    → walked rows caller path 0 root names ≡ Err denial → first_failing (walk rows caller path 0 root names ++ rest)
    ≡ Some denial
walk_denied rows caller path names rest denial h = failing_walk rows caller path 0 root names rest
    ∙ ap (λ r. after_walk r (first_failing rest)) h

-- where a walk ends at a row, the other tests decide
pub walk_passed : (rows : Rows) (caller : Caller) (path : ℕ) (names : List (List ℕ)) (rest : List Check) (n : ℕ)
    → walked rows caller path 0 root names ≡ Ok n → first_failing (walk rows caller path 0 root names ++ rest)
    ≡ first_failing rest
walk_passed rows caller path names rest n h = failing_walk rows caller path 0 root names rest
    ∙ ap (λ r. after_walk r (first_failing rest)) h

-- a step that was taken
pub record Taken (d : Bool) (o : Option ℕ) (on : ℕ → Result ℕ Denial) (n : ℕ) : Type 0 where
  pub to : ℕ
  pub directory : d ≡ true
  pub child : o ≡ Some to
  pub rest : on to ≡ Ok n

taken : (path k : ℕ) (search kind : Denial) (on : ℕ → Result ℕ Denial) (n : ℕ) (d s : Bool) (o : Option ℕ)
    → and_then (cond d (cond s (found path k o) (Err search)) (Err kind)) on ≡ Ok n → Taken d o on n
taken path k search kind on n true true None h = absurd (cc)
taken path k search kind on n true true (Some m) h = record { to = m; directory = refl; child = refl; rest = h }
taken path k search kind on n true false o h = absurd (cc)
taken path k search kind on n false s o h = absurd (cc)

-- a walk along some names takes a step, and goes on
pub walked_taken : (rows : Rows) (caller : Caller) (path k at : ℕ) (name : List ℕ) (names : List (List ℕ)) (n : ℕ)
    → walked rows caller path k at (name ∷ names) ≡ Ok n
    → Taken (is_directory_row (map.get rows at)) (child rows at name) (λ m. walked rows caller path (k + 1) m names) n
unfolding walked
walked_taken rows caller path k at name names n h =
    taken path (k + 1) _ _ (λ m. walked rows caller path (k + 1) m names) n (is_directory_row (map.get rows at))
    (row_grants caller bits.Search (map.get rows at)) (child rows at name) h

-- a walk ends where the names lead
pub walked-reached : (rows : Rows) (caller : Caller) (path k at : ℕ) (names : List (List ℕ)) (n : ℕ)
    → walked rows caller path k at names ≡ Ok n → reached rows at names ≡ n
unfolding walked
walked-reached rows caller path k at [] n h = cc
walked-reached rows caller path k at (name ∷ names) n h =
    let t = walked_taken rows caller path k at name names n h in
    ap (λ o. reached rows (unwrap_or o 0) names) t.child ∙ walked-reached rows caller path (k + 1) t.to names n t.rest

-- ---- tests and others behind them

same_denied : (b : Bool) (first : Denial) (xs ys : Option Denial) (denial : Denial)
    → (xs ≡ Some denial → ys ≡ Some denial) → cond b xs (Some first) ≡ Some denial → cond b ys (Some first)
    ≡ Some denial
same_denied true first xs ys denial on h = on h
same_denied false first xs ys denial on h = h

same_met : (b : Bool) (first : Denial) (xs ys rest : Option Denial) → (xs ≡ None → ys ≡ rest) → cond b xs (Some first)
    ≡ None → cond b ys (Some first) ≡ rest
same_met true first xs ys rest on h = on h
same_met false first xs ys rest on h = absurd (cc)

-- where one of the first tests fails, it is the first of all that fails
pub failing-front : (xs ys : List Check) (denial : Denial) → first_failing xs ≡ Some denial → first_failing (xs ++ ys)
    ≡ Some denial
failing-front [] ys denial h = absurd (cc)
failing-front (x ∷ xs) ys denial h = same_denied x.met x.denial (first_failing xs) (first_failing (xs ++ ys)) denial
    (λ e. failing-front xs ys denial e) h

-- where they are met, the others decide
pub failing-behind : (xs ys : List Check) → first_failing xs ≡ None → first_failing (xs ++ ys) ≡ first_failing ys
failing-behind [] ys h = refl
failing-behind (x ∷ xs) ys h = same_met x.met x.denial (first_failing xs) (first_failing (xs ++ ys)) (first_failing ys)
    (λ e. failing-behind xs ys e) h

-- where no test of a list fails, the first is met, and no other fails
pub met_first : (met : Bool) (denial : Denial) (rest : Option Denial) → cond met rest (Some denial) ≡ None
    → (met ≡ true) × (rest ≡ None)
met_first true denial rest h = (refl, h)
met_first false denial rest h = absurd (cc)

append_met : (met : Bool) (denial : Denial) (all front back : Option Denial)
    → (all ≡ None → (front ≡ None) × (back ≡ None)) → cond met all (Some denial) ≡ None
    → (cond met front (Some denial) ≡ None) × (back ≡ None)
append_met true denial all front back on h = on h
append_met false denial all front back on h = absurd (cc)

-- where no test of two lists fails, none of either does
pub passes-append : (xs ys : List Check) → first_failing (xs ++ ys) ≡ None → (first_failing xs ≡ None)
    × (first_failing ys ≡ None)
passes-append [] ys h = (refl, h)
passes-append (x ∷ xs) ys h = append_met x.met x.denial (first_failing (xs ++ ys)) (first_failing xs) (first_failing ys)
    (passes-append xs ys) h

-- ---- tests that were asked

met_all : (met : Bool) (denial : Denial) (rest : Result (Unit {0}) Denial) (others : Option Denial)
    → (rest ≡ Ok tt → others ≡ None) → cond met rest (Err denial) ≡ Ok tt → cond met others (Some denial) ≡ None
met_all true denial rest others on h = on h
met_all false denial rest others on h = absurd (cc)

-- where each test was met, none fails
pub judged_all : (checks : List Check) → judged checks ≡ Ok tt → first_failing checks ≡ None
judged_all [] h = refl
judged_all (check ∷ checks) h = met_all check.met check.denial (judged checks) (first_failing checks)
    (judged_all checks) h

unmet_first : (met : Bool) (denial : Denial) (rest : Result (Unit {0}) Denial) (others : Option Denial) (last : Denial)
    → (rest ≡ Err last → others ≡ Some last) → cond met rest (Err denial) ≡ Err last → cond met others (Some denial)
    ≡ Some last
unmet_first true denial rest others last on h = on h
unmet_first false denial rest others last on h = cc

-- where one wasn't, it is the first that fails
pub judged_none : (checks : List Check) (denial : Denial) → judged checks ≡ Err denial → first_failing checks
    ≡ Some denial
judged_none [] denial h = absurd (cc)
judged_none (check ∷ checks) denial h = unmet_first check.met check.denial (judged checks) (first_failing checks) denial
    (judged_none checks denial) h

-- a test that was met
pub ask_met : (met : Bool) (denial : Denial) (u : Unit {0}) → Ok u ≡ judged (record { met = met; denial = denial } ∷ [])
    → met ≡ true
ask_met true denial u h = refl
ask_met false denial u h = absurd (cc)

-- and one that wasn't
pub ask_unmet : (met : Bool) (denial said : Denial) → Err said ≡ judged (record { met = met; denial = denial } ∷ [])
    → (met ≡ false) × (said ≡ denial)
ask_unmet true denial said h = absurd (cc)
ask_unmet false denial said h = (refl, cc)

unmet_front : (met : Bool) (denial : Denial) (rest more : Result (Unit {0}) Denial) (said : Denial)
    → (rest ≡ Err said → more ≡ Err said) → cond met rest (Err denial) ≡ Err said → cond met more (Err denial)
    ≡ Err said
unmet_front true denial rest more said on h = on h
unmet_front false denial rest more said on h = h

-- where one of the first tests wasn't met, the others aren't asked
pub judged_front : (xs ys : List Check) (denial : Denial) → judged xs ≡ Err denial → judged (xs ++ ys) ≡ Err denial
judged_front [] ys denial h = absurd (cc)
judged_front (x ∷ xs) ys denial h = unmet_front x.met x.denial (judged xs) (judged (xs ++ ys)) denial
    (judged_front xs ys denial) h

met_front : (met : Bool) (denial : Denial) (rest more others : Result (Unit {0}) Denial)
    → (rest ≡ Ok tt → more ≡ others) → cond met rest (Err denial) ≡ Ok tt → cond met more (Err denial) ≡ others
met_front true denial rest more others on h = on h
met_front false denial rest more others on h = absurd (cc)

-- where they were met, the others decide
pub judged_behind : (xs ys : List Check) → judged xs ≡ Ok tt → judged (xs ++ ys) ≡ judged ys
judged_behind [] ys h = refl
judged_behind (x ∷ xs) ys h = met_front x.met x.denial (judged xs) (judged (xs ++ ys)) (judged ys)
    (judged_behind xs ys) h
