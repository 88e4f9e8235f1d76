-- What the judge of a Rename finds is what the rules say: `move_barred`, `move_beneath`, `move_not_granted` and
-- `move_granted` for `judge_target`, `way_judged` and `file_apart` for `judge_apart`. The tests of a move are those of
-- the place, then whether the row is on the way there, then whether it may leave (`to_tests`), each reached only where
-- those before are met. The judge walks the way only for a directory, since a file is on no way (`file_apart`), while
-- the rules always ask; another order of the tests in `moving_tests` changes which denial comes first.
use Rattle.std.proofs.Common.{◌≡◌, ℕ, ◌==◌, ◌+◌, ◌<◌, true, false, cond, nat_eq, List, [], ◌∷◌, ◌++◌, length, Option}
use Rattle.std.proofs.Common.{None, Some, Ok, Err, refl, sym, ap, ◌∙◌, arith, eq-eqb, ne_eqb, length-append}
use Rattle.std.specs.Prelude.{not, Result, OnOk, IfErr, IfSome}
use Rattle.std.specs.Option.{option_eq}
use Rattle.std.proofs.lemmas.Bool.{cond-true, cond-false}
use Rattle.lfs_types.specs.Caller.{Caller}
use Rattle.lfs_types.specs.Kinds.{is_directory_kind}
use Rattle.lfs_types.specs.Stored.{shown_attrs}
use Rattle.lfs_types.specs.Tree.{World, Content, root}
use Rattle.lfs_types.specs.declared.attrs.Attrs.{Attrs}
use Rattle.lfs_types.specs.declared.rule.Denial.{Denial}
use Rattle.lfs_types.specs.declared.rule.Rule.TheVariants.{IsNotBeneathItself}
use Rattle.lfs_types.specs.StoreStates.{StoreState}
use Rattle.lfs_calls.specs.declared.arriving.Arrival.{Arrival}
use Rattle.lfs_calls.specs.declared.removing.Removal.{Removal}
use Rattle.lfs_calls.specs.declared.walking.Reached.{Reached}
use Rattle.lfs_calls.specs.declared.renaming.Target.TheVariants.{Free, Taken}
use Rattle.lfs_model.specs.World.{child, IsTree}
use Rattle.lfs_model.specs.Rules.{Check, apart_test, arriving, attrs_at, first_failing, front, is_there, judged, last}
use Rattle.lfs_model.specs.Rules.{last_tests, leaves_test, moving_tests, placing_tests, position, reached, visited}
use Rattle.lfs_model.specs.Walks.{is_on_way}
use Rattle.lfs_model.proofs.Allowed.{may_arrive, split_last}
use Rattle.lfs_model.proofs.Children.{child-is}
use Rattle.lfs_model.proofs.Deciding.{failing-front, failing-behind, judged_all, judged_none}
use Rattle.lfs_model.proofs.MovedWay.{no_file_on_way}
use Rattle.lfs_calls.specs.Arrivals.{IsArrival, IsThere}
use Rattle.lfs_calls.specs.Content.{Shows}
use Rattle.lfs_calls.specs.Removes.{IsRemoval}
use Rattle.lfs_calls.specs.Renames.{IsTarget, target_number}
use Rattle.lfs_calls.specs.Volumes.{InWorld}
use Rattle.lfs_calls.proofs.StepLemmas.{attrs_reads, directory_reads}
use Rattle.lfs_types.proofs.Somewhere.{present}

there_other : (n : ℕ) (o : Option ℕ) → (o ≡ Some n → ⊥) → is_there n o ≡ false
there_other n None apart = refl
there_other n (Some m) apart = ne_eqb m n (λ e. apart (ap Some e))

-- what differs from a number isn't it
pub not_there : (n : ℕ) (o : Option ℕ) → option_eq nat_eq o (Some n) ≡ false → o ≡ Some n → ⊥
not_there n o h e = let same : option_eq nat_eq o (Some n) ≡ true = ap (λ x. option_eq nat_eq x (Some n)) e
    ∙ eq-eqb n n refl in absurd (cc)

-- the names before the last are fewer by one
pub front_count : (names : List (List ℕ)) → 0 < length names → length (front names) + 1 ≡ length names
front_count names some =
    let halves = split_last names (ne_eqb (length names) 0 (λ z. absurd (omega (arith, some)))) in
    let long = ap (λ (l : List (List ℕ)). length l) halves in
    let more = length-append (front names) (last names ∷ []) in
    omega (arith, long, more)

-- a number that a name leads to has a row
pub there_in : (s : StoreState) (dir : ℕ) (name : List ℕ) (o : Option ℕ) → InWorld s (λ w. child w.rows dir name ≡ o)
    → IfSome o (λ n. InWorld s (λ w. IsThere w.rows n))
there_in s dir name None h = tt
there_in s dir name (Some n) h = λ w v. present (child-is w.rows dir name n (h w v)).there

-- what has the name, where nothing does
pub target_free : (c : Content) (n : ℕ) (o : Option ℕ) → o ≡ None → (target_number n Free ≡ o) × IsTarget c n Free
target_free c n o e = (sym e, tt)

-- and where another row does
pub target_taken : (c : Content) (n : ℕ) (o : Option ℕ) (row : Reached) → (o ≡ Some n → ⊥) → Some row.number ≡ o
    → Some row.attrs ≡ shown_attrs c row.number
    → (target_number n (Taken row) ≡ o) × IsTarget c n (Taken row)
target_taken c n o row apart is shown = (is, ((λ e. apart (sym is ∙ ap Some e)), shown))

module _ (c : Content) (w : World) (shows : Shows c w) (caller : Caller) (from to : List (List ℕ)) (removal : Removal)
    (arrival : Arrival)
    (removes : IsRemoval c w.rows from removal) (arrives : IsArrival c w.rows to arrival) where
  abbrev file : Reached
  file = removal.file

  -- the tests of the place, of what the judges gave back
  abbrev placing : ℕ → List Check
  placing k = placing_tests w.rows caller file.number arrival.dir.number arrival.there k

  -- and the last
  abbrev lasting : ℕ → List Check
  lasting at = apart_test w.rows file.number to
      ∷ leaves_test caller (removal.dir.number == arrival.dir.number) file.attrs at ∷ []

  module _ (elsewhere : arrival.there ≡ Some file.number → ⊥) (k : ℕ) (seat : k ≡ length (front to)) (at : ℕ) (same : at
      ≡ length from) where
    to_tests : first_failing (moving_tests w.rows caller from to arrival.there)
        ≡ first_failing (placing k ++ lasting at)
    to_tests =
        ap (λ b. first_failing (cond b [] (placing_tests w.rows caller (reached w.rows root from)
        (reached w.rows root (front to)) arrival.there (length (front to)) ++ last_tests w.rows caller from to)))
        (ap (λ n. is_there n arrival.there) removes.row ∙ there_other file.number arrival.there elsewhere)
        ∙ (λ i. first_failing (placing_tests w.rows caller (removes.row i) (arrives.object i) arrival.there (sym seat i)
        ++ (apart_test w.rows (removes.row i) to
        ∷ leaves_test caller (removes.object i == arrives.object i) (attrs_at w.rows (removes.row i)) (sym same i)
        ∷ [])))
        ∙ ap (λ a. first_failing (placing k ++ (apart_test w.rows file.number to
        ∷ leaves_test caller (removal.dir.number == arrival.dir.number) a at ∷ [])))
        (attrs_reads c w shows file.number file.attrs removes.shown_file)

    -- one that may not have the place is denied
    pub move_barred : (denial : Denial) → first_failing (placing k) ≡ Some denial
        → first_failing (moving_tests w.rows caller from to arrival.there) ≡ Some denial
    move_barred denial h = to_tests ∙ failing-front (placing k) (lasting at) denial h

    module _ (placed : first_failing (placing k) ≡ None) where
      to_last : first_failing (moving_tests w.rows caller from to arrival.there) ≡ first_failing (lasting at)
      to_last = to_tests ∙ failing-behind (placing k) (lasting at) placed

      -- so is a row on the way to its new place
      pub move_beneath : (denial : Denial) → Err denial ≡ judged (apart_test w.rows file.number to ∷ [])
          → first_failing (moving_tests w.rows caller from to arrival.there) ≡ Some denial
      move_beneath denial h = to_last
          ∙ failing-front (apart_test w.rows file.number to ∷ [])
          (leaves_test caller (removal.dir.number == arrival.dir.number) file.attrs at ∷ []) denial
          (judged_none (apart_test w.rows file.number to ∷ []) denial (sym h))

      module _ (apart : Ok tt ≡ judged (apart_test w.rows file.number to ∷ [])) where
        to_leaves : first_failing (moving_tests w.rows caller from to arrival.there)
            ≡ first_failing (leaves_test caller (removal.dir.number == arrival.dir.number) file.attrs at ∷ [])
        to_leaves = to_last ∙ failing-behind (apart_test w.rows file.number to ∷ [])
            (leaves_test caller (removal.dir.number == arrival.dir.number) file.attrs at ∷ [])
            (judged_all (apart_test w.rows file.number to ∷ []) (sym apart))

        -- and one that the caller may not move
        pub move_not_granted : (denial : Denial) → Err denial
            ≡ judged (leaves_test caller (removal.dir.number == arrival.dir.number) file.attrs at ∷ [])
            → first_failing (moving_tests w.rows caller from to arrival.there) ≡ Some denial
        move_not_granted denial h = to_leaves ∙ judged_none
            (leaves_test caller (removal.dir.number == arrival.dir.number) file.attrs at ∷ []) denial (sym h)

        -- another may be moved
        pub move_granted : Ok tt ≡ judged (leaves_test caller (removal.dir.number == arrival.dir.number) file.attrs at
            ∷ [])
            → first_failing (moving_tests w.rows caller from to arrival.there) ≡ None
        move_granted h = to_leaves ∙ judged_all (leaves_test caller
            (removal.dir.number == arrival.dir.number) file.attrs at ∷ []) (sym h)

-- ---- the way to a new place

-- a row that isn't on the way to it
pub apart_met : (w : World) (moved : ℕ) (to : List (List ℕ)) → is_on_way w.rows (front to) moved ≡ false → Ok tt
    ≡ judged (apart_test w.rows moved to ∷ [])
apart_met w moved to h = sym (cond-true _ _ _ (ap not h))

-- and one that is
pub apart_unmet : (w : World) (moved : ℕ) (to : List (List ℕ)) → is_on_way w.rows (front to) moved ≡ true
    → Err (apart_test w.rows moved to).denial ≡ judged (apart_test w.rows moved to ∷ [])
apart_unmet w moved to h = sym (cond-false _ _ _ (ap not h))

-- a file is on no way
pub file_apart : (c : Content) (w : World) → Shows c w → IsTree w.rows → (caller : Caller) (to : List (List ℕ))
    → first_failing (arriving w.rows caller to) ≡ None
    → (n : ℕ) (a : Attrs) → Some a ≡ shown_attrs c n → is_directory_kind a.kind ≡ false → is_on_way w.rows (front to) n
    ≡ false
file_apart c w shows tree caller to into n a shown regular =
    let may = may_arrive w.rows tree caller to into in
    no_file_on_way w.rows caller 1 0 root n (reached w.rows root (front to)) (front to) may.way
    (directory_reads c w shows n a shown ∙ regular) may.directory

-- what the walk along the names before the last found
pub way_judged : {s : StoreState} (moved : ℕ) (to names : List (List ℕ)) → names ≡ front to
    → (result : Result (Unit {0}) Denial)
    → OnOk result (InWorld s (λ w. is_on_way w.rows names moved ≡ false))
    → IfErr result (λ denial. InWorld s (λ w. (is_on_way w.rows names moved ≡ true)
    × (denial ≡ record { rule = IsNotBeneathItself; path = 1; at = position moved (visited w.rows root names) })))
    → InWorld s (λ w. result ≡ judged (apart_test w.rows moved to ∷ []))
way_judged moved to names e (Ok tt) ok err w v =
    apart_met w moved to (ap (λ ns. is_on_way w.rows ns moved) (sym e) ∙ ok w v)
way_judged moved to names e (Err denial) ok err w v =
    let found = err w v in
    ap Err (found.1 ∙ ap (λ ns. record {
      rule = IsNotBeneathItself;
      path = 1;
      at = position moved (visited w.rows root ns);
    }) e)
    ∙ apart_unmet w moved to (ap (λ ns. is_on_way w.rows ns moved) (sym e) ∙ found.0)
