-- What has a row's new name is judged as the rules do: `there_kept`, `there_unlike`, `full_is` and `gives_is`, all for
-- `judge_there`. The tests are those of the directory, then of kinds, then of emptiness, each reached only where those
-- before were met (`to_kinds`, `to_empty`), and the store's attributes are those tested. Whether a directory is empty
-- is asked only where it's needed, as a file has no children anyhow (`file_empty`); another order of `replaced_tests`
-- changes which denial is told.
use Rattle.std.proofs.Common.{◌≡◌, ℕ, ◌+◌, ◌==◌, Bool, true, false, List, [], ◌∷◌, ◌++◌, length, None, Some, Ok, Err}
use Rattle.std.proofs.Common.{sym, ap, ◌∙◌}
use Rattle.lfs_types.specs.Caller.{Caller}
use Rattle.lfs_types.specs.Kinds.{is_directory_kind}
use Rattle.lfs_types.specs.Stored.{shown_attrs}
use Rattle.lfs_types.specs.Tree.{World, Content}
use Rattle.lfs_types.specs.declared.attrs.Attrs.{Attrs}
use Rattle.lfs_types.specs.declared.rule.Denial.{Denial}
use Rattle.lfs_types.specs.declared.rule.Rule.TheVariants.{IsEmpty}
use Rattle.lfs_model.specs.World.{children, IsTree}
use Rattle.lfs_model.specs.Rules.{Check, asks, attrs_at, entering_tests, first_failing, judged, placing_tests}
use Rattle.lfs_model.specs.Rules.{removing_tests, replaced_tests}
use Rattle.lfs_model.proofs.Deciding.{failing-front, failing-behind, judged_all, judged_none}
use Rattle.lfs_model.proofs.Members.{children-none}
use Rattle.lfs_model.proofs.Trees.{no_parent}
use Rattle.lfs_checks.specs.Parts.{kind_tests}
use Rattle.lfs_calls.specs.Content.{Shows}
use Rattle.lfs_calls.proofs.StepLemmas.{attrs_reads, directory_reads}

module _ (c : Content) (w : World) (shows : Shows c w) (tree : IsTree w.rows) (caller : Caller) (moved dir : ℕ)
    (a d : Attrs)
    (shown_moved : Some a ≡ shown_attrs c moved) (shown_dir : Some d ≡ shown_attrs c dir) (at : ℕ) where
  -- where nothing has the name, the tests of the directory decide
  pub free_tests : first_failing (placing_tests w.rows caller moved dir None at)
      ≡ first_failing (entering_tests caller 1 d at)
  free_tests = ap (λ x. first_failing (entering_tests caller 1 x at)) (attrs_reads c w shows dir d shown_dir)

  module _ (m : ℕ) (b : Attrs) (shown : Some b ≡ shown_attrs c m) where
    abbrev own : List Check
    own = removing_tests caller 1 d b at

    abbrev kinds : List Check
    kinds = kind_tests a b (at + 1)

    abbrev emptiness : List Check
    emptiness = asks (length (children w.rows m) == 0) IsEmpty 1 (at + 1) ∷ []

    -- else those of the directory and of the row there
    taken_tests : first_failing (placing_tests w.rows caller moved dir (Some m) at)
        ≡ first_failing (own ++ (kinds ++ emptiness))
    taken_tests =
        ap (λ x. first_failing (removing_tests caller 1 x (attrs_at w.rows m) at
        ++ replaced_tests (length (children w.rows m) == 0) (attrs_at w.rows moved) (attrs_at w.rows m) (at + 1)))
        (attrs_reads c w shows dir d shown_dir)
        ∙ ap (λ x. first_failing (removing_tests caller 1 d x at
        ++ replaced_tests (length (children w.rows m) == 0) (attrs_at w.rows moved) x (at + 1)))
        (attrs_reads c w shows m b shown)
        ∙ ap (λ x. first_failing (own ++ replaced_tests (length (children w.rows m) == 0) x b (at + 1)))
        (attrs_reads c w shows moved a shown_moved)

    -- one that may not be taken away denies the call
    pub there_kept : (denial : Denial) → Err denial ≡ judged own
        → first_failing (placing_tests w.rows caller moved dir (Some m) at) ≡ Some denial
    there_kept denial h = taken_tests ∙ failing-front own (kinds ++ emptiness) denial (judged_none own denial (sym h))

    module _ (taken : Ok tt ≡ judged own) where
      to_kinds : first_failing (placing_tests w.rows caller moved dir (Some m) at) ≡ first_failing (kinds ++ emptiness)
      to_kinds = taken_tests ∙ failing-behind own (kinds ++ emptiness) (judged_all own (sym taken))

      -- so does one of another kind
      pub there_unlike : (denial : Denial) → Err denial ≡ judged kinds
          → first_failing (placing_tests w.rows caller moved dir (Some m) at) ≡ Some denial
      there_unlike denial h = to_kinds ∙ failing-front kinds emptiness denial (judged_none kinds denial (sym h))

      module _ (alike : Ok tt ≡ judged kinds) where
        to_empty : first_failing (placing_tests w.rows caller moved dir (Some m) at) ≡ first_failing emptiness
        to_empty = to_kinds ∙ failing-behind kinds emptiness (judged_all kinds (sym alike))

        there_full : (denial : Denial) → Err denial ≡ judged emptiness
            → first_failing (placing_tests w.rows caller moved dir (Some m) at) ≡ Some denial
        there_full denial h = to_empty ∙ judged_none emptiness denial (sym h)

        there_gives : Ok tt ≡ judged emptiness → first_failing (placing_tests w.rows caller moved dir (Some m) at)
            ≡ None
        there_gives h = to_empty ∙ judged_all emptiness (sym h)

        module _ (empty : Bool) (is : empty ≡ (length (children w.rows m) == 0)) where
          -- and a directory that isn't empty
          pub full_is : (denial : Denial) → Err denial ≡ judged (asks empty IsEmpty 1 (at + 1) ∷ [])
              → first_failing (placing_tests w.rows caller moved dir (Some m) at) ≡ Some denial
          full_is denial h = there_full denial (h ∙ ap (λ b. judged (asks b IsEmpty 1 (at + 1) ∷ [])) is)

          -- another may be replaced
          pub gives_is : Ok tt ≡ judged (asks empty IsEmpty 1 (at + 1) ∷ [])
              → first_failing (placing_tests w.rows caller moved dir (Some m) at) ≡ None
          gives_is h = there_gives (h ∙ ap (λ b. judged (asks b IsEmpty 1 (at + 1) ∷ [])) is)

    -- a file has no children
    pub file_empty : is_directory_kind b.kind ≡ false → (length (children w.rows m) == 0) ≡ true
    file_empty regular = children-none w.rows m
        (no_parent w.rows tree m (directory_reads c w shows m b shown ∙ regular))
