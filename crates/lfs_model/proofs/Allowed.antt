-- What a call that the rules allow has passed, as a record of facts: `may_change`, `may_make`, `may_remove`,
-- `may_arrive`, `may_go`, for EffectTree and for nearly all of `lfs_laws` and `lfs_calls` that asks what a served call
-- could do. No test of the list fails, so the first is met and no other fails (`met_first`, again and again); a walk
-- whose tests are met ends at a row that is there (`walk_there`, by induction on the names). A test put into
-- `rule_table`, or moved in it, moves the steps here by one: this is the file that such a change breaks first.
use Rattle.std.proofs.Common.{◌≡◌, ℕ, ◌+◌, ◌==◌, ◌||◌, not, Bool, true, false, cond, List, [], ◌∷◌, ◌++◌, length}
use Rattle.std.proofs.Common.{Option, None, Some, Result, Ok, Err, refl, sym, ap, subst, ◌∙◌, arith, append-nil, ne_eqb}
use Rattle.std.proofs.lemmas.Bool.{cond-true, not-true}
use Rattle.std.specs.Prelude.{is_some, unwrap_or}
use Rattle.std.specs.List.{list_any}
use Rattle.std.specs.FinMap as map
use Rattle.lfs_types.specs.Caller.{Caller}
use Rattle.lfs_types.specs.Kinds.{is_directory_kind}
use Rattle.lfs_types.specs.Tree.{Row, root, attrs_of}
use Rattle.lfs_types.specs.declared.attrs.Attrs.{Attrs}
use Rattle.lfs_types.specs.declared.attrs.Bit.{Bit}
use Rattle.lfs_types.specs.declared.attrs.Bit.TheVariants as bits
use Rattle.lfs_types.specs.declared.rule.Denial.{Denial}
use Rattle.lfs_rules.specs.Grants.{grants_of}
use Rattle.lfs_rules.specs.Locks.{is_immutable, is_append_only}
use Rattle.lfs_rules.specs.Sticky.{is_barred}
use Rattle.lfs_model.specs.World.{Rows, child, children, file_at, IsChild, IsTree}
use Rattle.lfs_model.specs.Rules.{first_failing, is_directory_row, row_grants, attrs_at, next, reached, front, last}
use Rattle.lfs_model.specs.Rules.{Check, walk, making, removing, reaching, change_tests, arriving, visited, is_there}
use Rattle.lfs_model.specs.Rules.{placing_tests, last_tests, moving_tests}
use Rattle.lfs_model.specs.Walks.{walked}
use Rattle.lfs_model.proofs.Children.{child-is}
use Rattle.lfs_model.proofs.Deciding.{after_walk, failing_walk, walked-reached, met_first, passes-append}
use Rattle.lfs_types.proofs.Somewhere.{There, not_some, some_and}

-- ---- ways

walk_ends : (rows : Rows) (caller : Caller) (path k at : ℕ) (names : List (List ℕ)) (r : Result ℕ Denial)
    → walked rows caller path k at names ≡ r → after_walk r None ≡ None → walked rows caller path k at names
    ≡ Ok (reached rows at names)
walk_ends rows caller path k at names (Ok n) e h = e ∙ ap Ok (sym (walked-reached rows caller path k at names n e))
walk_ends rows caller path k at names (Err denial) e h = absurd (cc)

-- a walk whose tests are met ends where its names lead
pub walked_there : (rows : Rows) (caller : Caller) (path k at : ℕ) (names : List (List ℕ))
    → first_failing (walk rows caller path k at names) ≡ None → walked rows caller path k at names
    ≡ Ok (reached rows at names)
walked_there rows caller path k at names h =
    let fails = failing_walk rows caller path k at names [] in
    walk_ends rows caller path k at names _ refl (sym fails
    ∙ ap first_failing (append-nil (walk rows caller path k at names)) ∙ h)

-- the last name leads on from where those before it lead
pub reached_last : (rows : Rows) (at : ℕ) (names : List (List ℕ)) → (length names == 0) ≡ false → reached rows at names
    ≡ next rows (reached rows at (front names)) (last names)
reached_last rows at [] h = absurd (cc)
reached_last rows at (name ∷ []) h = refl
reached_last rows at (name ∷ second ∷ names) h =
    reached_last rows (next rows at name) (second ∷ names) (ne_eqb (length (second ∷ names)) 0 (omega arith))

-- the names before the last, and the last
pub split_last : (names : List (List ℕ)) → (length names == 0) ≡ false → front names ++ last names ∷ [] ≡ names
split_last [] h = absurd (cc)
split_last (name ∷ []) h = refl
split_last (name ∷ second ∷ names) h = ap (λ l. name ∷ l)
    (split_last (second ∷ names) (ne_eqb (length (second ∷ names)) 0 (omega arith)))

-- a name that is there leads to its row
pub child_there : (o : Option ℕ) (n : ℕ) → is_some o ≡ true → n ≡ unwrap_or o 0 → o ≡ Some n
child_there None n h e = absurd (cc)
child_there (Some m) n h e = ap Some (sym e)

-- a walk whose tests are met ends at a row that is there
pub walk_there : (rows : Rows) (caller : Caller) (path k at : ℕ) (names : List (List ℕ)) → There (map.get rows at)
    → first_failing (walk rows caller path k at names) ≡ None
    → There (map.get rows (reached rows at names))
walk_there rows caller path k at [] there h = there
walk_there rows caller path k at (name ∷ names) there h =
    let c = met_first _ _ _ (met_first _ _ _ (met_first _ _ _ h).1).1 in
    let hangs = child-is rows at name (next rows at name) (child_there _ _ c.0 refl) in
    walk_there rows caller path (k + 1) (next rows at name) names (record { value = hangs.row; is = hangs.there }) c.1

-- so one from the root
pub path_there : (rows : Rows) → IsTree rows → (caller : Caller) (path : ℕ) (names : List (List ℕ))
    → first_failing (walk rows caller path 0 root names) ≡ None
    → There (map.get rows (reached rows root names))
path_there rows tree caller path names h =
    let top = some_and (map.get rows root) _ tree.rooted in
    walk_there rows caller path 0 root names (record { value = top.value; is = top.is }) h

-- a walk whose tests are met goes to the last name from a directory that the caller may search
pub record LastStep (rows : Rows) (caller : Caller) (path k at : ℕ) (names : List (List ℕ)) : Type 0 where
  pub walks : first_failing (walk rows caller path k at (front names)) ≡ None
  pub directory : is_directory_row (map.get rows (reached rows at (front names))) ≡ true
  pub searches : row_grants caller bits.Search (map.get rows (reached rows at (front names))) ≡ true
  pub leads : is_some (child rows (reached rows at (front names)) (last names)) ≡ true

pub last_step : (rows : Rows) (caller : Caller) (path k at : ℕ) (names : List (List ℕ)) → (length names == 0) ≡ false
    → first_failing (walk rows caller path k at names) ≡ None
    → LastStep rows caller path k at names
last_step rows caller path k at [] some h = absurd (cc)
last_step rows caller path k at (name ∷ []) some h =
    let a = met_first _ _ _ h in
    let b = met_first _ _ _ a.1 in
    let c = met_first _ _ _ b.1 in
    record { walks = refl; directory = a.0; searches = b.0; leads = c.0 }
last_step rows caller path k at (name ∷ second ∷ names) some h =
    let a = met_first (is_directory_row (map.get rows at)) _ _ h in
    let b = met_first (row_grants caller bits.Search (map.get rows at)) _ _ a.1 in
    let c = met_first (is_some (child rows at name)) _ _ b.1 in
    let rest = last_step rows caller path (k + 1) (next rows at name) (second ∷ names)
    (ne_eqb (length (second ∷ names)) 0 (λ e. absurd (omega arith))) c.1 in
    record {
      walks = cond-true _ _ _ a.0 ∙ cond-true _ _ _ b.0 ∙ cond-true _ _ _ c.0 ∙ rest.walks;
      directory = rest.directory;
      searches = rest.searches;
      leads = rest.leads;
    }

-- ---- rows and their attributes

-- a row that is there is a directory's where its attributes are
pub directory_attrs : (o : Option Row) → There o → is_directory_row o ≡ is_directory_kind (attrs_of (file_at o)).kind
directory_attrs o t = ap is_directory_row t.is ∙ sym (ap (λ p. is_directory_kind (attrs_of (file_at p)).kind) t.is)

-- and it grants what they do
pub grants_attrs : (caller : Caller) (bit : Bit) (o : Option Row) → There o → row_grants caller bit o
    ≡ grants_of caller (attrs_of (file_at o)) bit
grants_attrs caller bit o t = ap (row_grants caller bit) t.is
    ∙ sym (ap (λ p. grants_of caller (attrs_of (file_at p)) bit) t.is)

-- what has no directory's attributes is no directory's row
pub regular_row : (o : Option Row) → is_directory_kind (attrs_of (file_at o)).kind ≡ false → is_directory_row o ≡ false
regular_row None h = absurd (cc)
regular_row (Some r) h = h

-- a directory's row is there
pub directory_row_there : (o : Option Row) → is_directory_row o ≡ true → There o
directory_row_there None h = absurd (cc)
directory_row_there (Some r) h = record { value = r; is = refl }

-- ---- what the tests of a call say

-- a call may change a file's bytes
pub record MayChange (rows : Rows) (caller : Caller) (path : List (List ℕ)) (appends : Bool) : Type 0 where
  pub walks : first_failing (walk rows caller 0 0 root path) ≡ None
  pub regular : is_directory_kind (attrs_at rows (reached rows root path)).kind ≡ false
  pub mutable : is_immutable (attrs_at rows (reached rows root path)) ≡ false
  pub granted : grants_of caller (attrs_at rows (reached rows root path)) bits.Write ≡ true
  pub keeps : (appends || not (is_append_only (attrs_at rows (reached rows root path)))) ≡ true

-- what the tests of such a change say, where none fails, nor of others behind them
pub may_change : (rows : Rows) (caller : Caller) (path : List (List ℕ)) (appends : Bool) (more : Attrs → ℕ → List Check)
    → first_failing (reaching rows caller path (λ attrs k. change_tests caller appends attrs k ++ more attrs k)) ≡ None
    → MayChange rows caller path appends
may_change rows caller path appends more h =
    let walks = passes-append (walk rows caller 0 0 root path) _ h in
    let a = met_first _ _ _ walks.1 in
    let b = met_first _ _ _ a.1 in
    let c = met_first _ _ _ b.1 in
    let d = met_first _ _ _ c.1 in
    record { walks = walks.0; regular = not-true _ a.0; mutable = not-true _ b.0; granted = c.0; keeps = d.0 }

-- a call may make a row
pub record MayMake (rows : Rows) (caller : Caller) (names : List (List ℕ)) : Type 0 where
  pub filled : (length names == 0) ≡ false
  pub walks : first_failing (walk rows caller 0 0 root (front names)) ≡ None
  pub way : walked rows caller 0 0 root (front names) ≡ Ok (reached rows root (front names))
  pub directory : is_directory_row (map.get rows (reached rows root (front names))) ≡ true
  pub searches : row_grants caller bits.Search (map.get rows (reached rows root (front names))) ≡ true
  pub mutable : is_immutable (attrs_at rows (reached rows root (front names))) ≡ false
  pub free : child rows (reached rows root (front names)) (last names) ≡ None
  pub granted : row_grants caller bits.Write (map.get rows (reached rows root (front names))) ≡ true

-- what the tests of a new name say, where none fails
pub may_make : (rows : Rows) → IsTree rows → (caller : Caller) (names : List (List ℕ))
    → first_failing (making rows caller names) ≡ None → MayMake rows caller names
may_make rows tree caller names h =
    let some = met_first _ _ _ h in
    let walks = passes-append (walk rows caller 0 0 root (front names)) _ some.1 in
    let a = met_first _ _ _ walks.1 in
    let b = met_first _ _ _ a.1 in
    let c = met_first _ _ _ b.1 in
    let d = met_first _ _ _ c.1 in
    let e = met_first _ _ _ d.1 in
    let there = path_there rows tree caller 0 (front names) walks.0 in
    record {
      filled = not-true _ some.0;
      walks = walks.0;
      way = walked_there rows caller 0 0 root (front names) walks.0;
      directory = directory_attrs _ there ∙ a.0;
      searches = grants_attrs caller bits.Search _ there ∙ b.0;
      mutable = not-true _ d.0;
      free = not_some _ (not-true _ c.0);
      granted = grants_attrs caller bits.Write _ there ∙ e.0;
    }

-- a call may take away a name
pub record MayRemove (rows : Rows) (caller : Caller) (names : List (List ℕ)) : Type 0 where
  pub walks : first_failing (walk rows caller 0 0 root (front names)) ≡ None
  pub searches : row_grants caller bits.Search (map.get rows (reached rows root (front names))) ≡ true
  pub dir_mutable : is_immutable (attrs_at rows (reached rows root (front names))) ≡ false
  pub dir_rewritable : is_append_only (attrs_at rows (reached rows root (front names))) ≡ false
  pub hangs : IsChild rows (reached rows root (front names)) (last names) (reached rows root names)
  pub granted : row_grants caller bits.Write (map.get rows (reached rows root (front names))) ≡ true
  pub unbarred : is_barred caller (attrs_at rows (reached rows root (front names)))
      (attrs_at rows (reached rows root names)) ≡ false
  pub mutable : is_immutable (attrs_at rows (reached rows root names)) ≡ false
  pub rewritable : is_append_only (attrs_at rows (reached rows root names)) ≡ false

-- what the tests of a removal say, where none fails
pub may_remove : (rows : Rows) (caller : Caller) (names : List (List ℕ)) → first_failing (removing rows caller names)
    ≡ None → MayRemove rows caller names
may_remove rows caller names h =
    let some = met_first _ _ _ h in
    let filled = not-true _ some.0 in
    let walks = passes-append (walk rows caller 0 0 root names) _ some.1 in
    let step = last_step rows caller 0 0 root names filled walks.0 in
    let d = met_first _ _ _ walks.1 in
    let e = met_first _ _ _ d.1 in
    let f = met_first _ _ _ e.1 in
    let g = met_first _ _ _ f.1 in
    let m = met_first _ _ _ g.1 in
    let n = met_first _ _ _ m.1 in
    record {
      walks = step.walks;
      searches = step.searches;
      dir_mutable = not-true _ d.0;
      dir_rewritable = not-true _ f.0;
      hangs = child-is rows _ (last names) (reached rows root names)
          (child_there _ _ step.leads (reached_last rows root names filled));
      granted = grants_attrs caller bits.Write _ (directory_row_there _ step.directory) ∙ e.0;
      unbarred = not-true _ g.0;
      mutable = not-true _ m.0;
      rewritable = not-true _ n.0;
    }

-- ---- a row that gets another place

-- a path leads to a directory in which its last name may be looked for
pub record MayArrive (rows : Rows) (caller : Caller) (names : List (List ℕ)) : Type 0 where
  pub filled : (length names == 0) ≡ false
  pub walks : first_failing (walk rows caller 1 0 root (front names)) ≡ None
  pub way : walked rows caller 1 0 root (front names) ≡ Ok (reached rows root (front names))
  pub directory : is_directory_row (map.get rows (reached rows root (front names))) ≡ true
  pub searches : row_grants caller bits.Search (map.get rows (reached rows root (front names))) ≡ true

pub may_arrive : (rows : Rows) → IsTree rows → (caller : Caller) (names : List (List ℕ))
    → first_failing (arriving rows caller names) ≡ None → MayArrive rows caller names
may_arrive rows tree caller names h =
    let some = met_first _ _ _ h in
    let walks = passes-append (walk rows caller 1 0 root (front names)) _ some.1 in
    let a = met_first _ _ _ walks.1 in
    let b = met_first _ _ _ a.1 in
    let there = path_there rows tree caller 1 (front names) walks.0 in
    record {
      filled = not-true _ some.0;
      walks = walks.0;
      way = walked_there rows caller 1 0 root (front names) walks.0;
      directory = directory_attrs _ there ∙ a.0;
      searches = grants_attrs caller bits.Search _ there ∙ b.0;
    }

-- a directory may get a name
pub record MayGetName (rows : Rows) (caller : Caller) (dir : ℕ) : Type 0 where
  pub mutable : is_immutable (attrs_at rows dir) ≡ false
  pub granted : grants_of caller (attrs_at rows dir) bits.Write ≡ true

-- a row may be replaced by a moved one
pub record MayGiveWay (rows : Rows) (caller : Caller) (moved dir m : ℕ) : Type 0 where
  pub dir_rewritable : is_append_only (attrs_at rows dir) ≡ false
  pub unbarred : is_barred caller (attrs_at rows dir) (attrs_at rows m) ≡ false
  pub mutable : is_immutable (attrs_at rows m) ≡ false
  pub rewritable : is_append_only (attrs_at rows m) ≡ false
  pub files : (not (is_directory_kind (attrs_at rows m).kind) || is_directory_kind (attrs_at rows moved).kind) ≡ true
  pub directories : (is_directory_kind (attrs_at rows m).kind || not (is_directory_kind (attrs_at rows moved).kind))
      ≡ true
  pub empty : (length (children rows m) == 0) ≡ true

-- what the tests say of a row that gets another place, where none fails
pub record MayGo (rows : Rows) (caller : Caller) (from to : List (List ℕ)) (there : Option ℕ) : Type 0 where
  pub enters : MayGetName rows caller (reached rows root (front to))
  pub gives : (m : ℕ) → there ≡ Some m → MayGiveWay rows caller (reached rows root from)
      (reached rows root (front to)) m
  pub apart : list_any (λ n. n == reached rows root from) (visited rows root (front to)) ≡ false
  pub leaves : (not (is_directory_kind (attrs_at rows (reached rows root from)).kind)
      || (reached rows root (front from) == reached rows root (front to))
      || grants_of caller (attrs_at rows (reached rows root from)) bits.Write) ≡ true

may_go_last : (rows : Rows) (caller : Caller) (from to : List (List ℕ)) (there : Option ℕ)
    → first_failing (last_tests rows caller from to) ≡ None
    → MayGetName rows caller (reached rows root (front to))
    → ((m : ℕ) → there ≡ Some m → MayGiveWay rows caller (reached rows root from) (reached rows root (front to)) m)
    → MayGo rows caller from to there
may_go_last rows caller from to there h enters gives =
    let a = met_first _ _ _ h in
    let b = met_first _ _ _ a.1 in
    record { enters = enters; gives = gives; apart = not-true _ a.0; leaves = b.0 }

may_go_placed : (rows : Rows) (caller : Caller) (from to : List (List ℕ)) (there : Option ℕ)
    → first_failing (placing_tests rows caller (reached rows root from) (reached rows root (front to)) there
    (length (front to)) ++ last_tests rows caller from to) ≡ None
    → MayGo rows caller from to there
may_go_placed rows caller from to None h =
    let a = met_first _ _ _ h in
    let b = met_first _ _ _ a.1 in
    may_go_last rows caller from to None b.1 (record { mutable = not-true _ a.0; granted = b.0 }) (λ m e. absurd (cc))
may_go_placed rows caller from to (Some n) h =
    let a = met_first _ _ _ h in
    let b = met_first _ _ _ a.1 in
    let c = met_first _ _ _ b.1 in
    let d = met_first _ _ _ c.1 in
    let e = met_first _ _ _ d.1 in
    let f = met_first _ _ _ e.1 in
    let g = met_first _ _ _ f.1 in
    let i = met_first _ _ _ g.1 in
    let j = met_first _ _ _ i.1 in
    let way : MayGiveWay rows caller (reached rows root from) (reached rows root (front to)) n = record {
      dir_rewritable = not-true _ c.0;
      unbarred = not-true _ d.0;
      mutable = not-true _ e.0;
      rewritable = not-true _ f.0;
      files = g.0;
      directories = i.0;
      empty = j.0;
    } in
    may_go_last rows caller from to (Some n) j.1 (record { mutable = not-true _ a.0; granted = b.0 })
    (λ m same. let one : n ≡ m = cc in subst
    (MayGiveWay rows caller (reached rows root from) (reached rows root (front to))) one way)

may_go_unless : (rows : Rows) (caller : Caller) (from to : List (List ℕ)) (there : Option ℕ) (b : Bool) → b ≡ false
    → first_failing (cond b [] (placing_tests rows caller (reached rows root from) (reached rows root (front to)) there
    (length (front to)) ++ last_tests rows caller from to)) ≡ None
    → MayGo rows caller from to there
may_go_unless rows caller from to there true e h = absurd (cc)
may_go_unless rows caller from to there false e h = may_go_placed rows caller from to there h

-- a row that doesn't have the place already may get it
pub may_go : (rows : Rows) (caller : Caller) (from to : List (List ℕ)) (there : Option ℕ)
    → is_there (reached rows root from) there ≡ false
    → first_failing (moving_tests rows caller from to there) ≡ None → MayGo rows caller from to there
may_go rows caller from to there other h =
    may_go_unless rows caller from to there (is_there (reached rows root from) there) other h
