-- What the judge of a row's new place finds on the way to it: `arrive_denied`, `arrive_decided` and `arrival_is`, for
-- `judge_arrival`. The rules ask first that the path has a name, which holds, then the walk to the directory, then two
-- tests of it (`to_walk`). So a denied walk denies the call, and behind a walk that passes the tests of the directory
-- decide, with the attributes that the store has at its number, which are those of the row.
use Rattle.std.proofs.Common.{◌≡◌, ℕ, ◌+◌, ◌==◌, true, false, List, [], ◌∷◌, ◌++◌, length, Option, Some, Err, sym}
use Rattle.std.proofs.Common.{ap, ◌∙◌, arith}
use Rattle.std.specs.Prelude.{not}
use Rattle.std.proofs.lemmas.Bool.{cond-true, ne_eqb}
use Rattle.lfs_types.specs.Caller.{Caller}
use Rattle.lfs_types.specs.Kinds.{is_directory_kind}
use Rattle.lfs_types.specs.Tree.{World, Content, root}
use Rattle.lfs_types.specs.declared.attrs.Attrs.{Attrs}
use Rattle.lfs_types.specs.declared.rule.Denial.{Denial}
use Rattle.lfs_model.specs.World.{Rows, child}
use Rattle.lfs_model.specs.Rules.{Check, arriving, attrs_at, first_failing, front, reached, searching_tests, walk}
use Rattle.lfs_model.specs.Walks.{walked}
use Rattle.lfs_model.proofs.Deciding.{walk_denied, walk_passed, walked-reached}
use Rattle.lfs_calls.specs.Arrivals.{IsArrival}
use Rattle.lfs_calls.proofs.MakeLemmas.{Way, front-last, last_is, make_object}
use Rattle.lfs_calls.proofs.StepLemmas.{attrs_reads}

-- the tests of the directory, by the names that lead to it
abbrev in_directory : Rows → Caller → List (List ℕ) → List Check
in_directory rows caller parents = searching_tests caller 1 (attrs_at rows (reached rows root parents)) (length parents)

module _ (rows : Rows) (caller : Caller) (names parents : List (List ℕ)) (name : List ℕ) (e : names ≡ parents ++ name
    ∷ []) (count : length parents + 1 ≡ length names) where
  -- the tests are those of the walk to the directory, and those behind it
  to_walk : first_failing (arriving rows caller names)
      ≡ first_failing (walk rows caller 1 0 root parents ++ in_directory rows caller parents)
  to_walk =
      let some : (length names == 0) ≡ false = ne_eqb (length names) 0 (λ z. absurd (omega arith)) in
      cond-true _ _ _ (ap not some)
      ∙ ap (λ ps. first_failing (walk rows caller 1 0 root ps ++ in_directory rows caller ps)) (ap front e
      ∙ front-last parents name)

  -- where the walk is denied, the call is
  pub arrive_denied : (denial : Denial) → walked rows caller 1 0 root parents ≡ Err denial
      → first_failing (arriving rows caller names) ≡ Some denial
  arrive_denied denial h = to_walk ∙ walk_denied rows caller 1 parents _ denial h

module _ {c : Content} {w : World} {caller : Caller} {names parents : List (List ℕ)} {name : List ℕ} {n : ℕ} {a : Attrs}
    (way : Way c w caller 1 names parents name n a) where
  -- the tests of the directory decide
  pub arrive_decided : (at : ℕ) → at ≡ length parents → first_failing (arriving w.rows caller names)
      ≡ first_failing (searching_tests caller 1 a at)
  arrive_decided at same =
      to_walk w.rows caller names parents name way.names_are way.count
      ∙ walk_passed w.rows caller 1 parents _ n way.leads
      ∙ ap (λ m. first_failing (searching_tests caller 1 (attrs_at w.rows m) (length parents)))
      (walked-reached w.rows caller 1 0 root parents n way.leads)
      ∙ ap (λ x. first_failing (searching_tests caller 1 x (length parents))) (attrs_reads c w way.shows n a way.shown)
      ∙ ap (λ k. first_failing (searching_tests caller 1 a k)) (sym same)

  -- where they are met, the row may be looked for there
  pub arrival_is : is_directory_kind a.kind ≡ true → (there : Option ℕ) → there ≡ child w.rows n name
      → IsArrival c w.rows names (record { dir = record { number = n; attrs = a }; there = there })
  arrival_is directory there found = record {
    some = let count = way.count in omega (arith, count);
    object = make_object way;
    shown = way.shown;
    directory = directory;
    there = ap (child w.rows n) (last_is way) ∙ sym found;
  }
