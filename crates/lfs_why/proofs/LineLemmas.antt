-- The lines of checks, one by one; what stands at a place of a list: `line_next` and `lines_all` for
-- `tell_explanation`, `got` and `not_got` for `push_name_at`, `why_told` for lfs_live. The text so far, with the lines
-- of the checks that are left, is the whole text, and the next check's line goes from the second to the first. An
-- explanation's rows are those that the paths lead through in the world, and its checks those that are asked there, so
-- its text is why the rules decide so.
use Rattle.std.proofs.Common.{◌≡◌, ℕ, zero, suc, ◌+◌, ◌<◌, ◌≤◌, List, [], ◌∷◌, length, drop, get_or, None, Some, refl}
use Rattle.std.proofs.Common.{sym, ap, ◌∙◌, arith}
use Rattle.std.specs.Prelude.{slice_get}
use Rattle.std.proofs.lemmas.List.{drop_all}
use Rattle.lfs_types.specs.Caller.{Caller}
use Rattle.lfs_types.specs.Tree.{World}
use Rattle.lfs_types.specs.declared.request.Request.{Request}
use Rattle.lfs_model.specs.Rules.{Check, rule_table}
use Rattle.lfs_explain.specs.Asked.{asked}
use Rattle.lfs_explain.specs.Trails.{IsTrail, first_names, second_names}
use Rattle.lfs_why.specs.WhyText.{Paths, paths_in, paths_of, told_text, why_text, with_check, with_checks}
use Rattle.lfs_explain.specs.declared.explain.Explanation.{Explanation}
use Rattle.lfs_explain.proofs.StepsTold.{left_from}

pub got : {A : Type 0} (xs : List A) (k : ℕ) (x : A) → k < length xs → x ≡ get_or xs k x → slice_get xs k ≡ Some x
got [] k x long is = absurd (omega (arith, long))
got (y ∷ xs) zero x long is = ap Some (sym is)
got (y ∷ xs) (suc k) x long is = got xs k x (omega (arith, long)) is

pub not_got : {A : Type 0} (xs : List A) (k : ℕ) → length xs ≤ k → slice_get xs k ≡ None
not_got [] k over = refl
not_got (y ∷ xs) zero over = absurd (omega (arith, over))
not_got (y ∷ xs) (suc k) over = not_got xs k (omega (arith, over))

module _ (caller : Caller) (paths : Paths) where
  pub line_next : (out : List ℕ) (checks : List Check) (at : ℕ) (check : Check) → at < length checks → check
      ≡ get_or checks at check
      → with_checks out caller paths (drop at checks)
      ≡ with_checks (with_check out caller paths check) caller paths (drop (at + 1) checks)
  line_next out checks at check long is = ap (with_checks out caller paths) (left_from checks at check long is)

  pub lines_all : (out : List ℕ) (checks : List Check) (at : ℕ) → length checks ≤ at
      → with_checks out caller paths (drop at checks) ≡ out
  lines_all out checks at over = ap (with_checks out caller paths) (drop_all at checks over)

-- the text of an explanation of a call in a world is why the call would be allowed or denied there
pub why_told : (w : World) (caller : Caller) (request : Request) (e : Explanation) → e.checks.items
    ≡ asked (rule_table w caller request)
    → IsTrail w.rows (first_names request) e.first → IsTrail w.rows (second_names request) e.second
    → told_text caller (paths_of request e) e.checks.items ≡ why_text w caller request
unfolding why_text
why_told w caller request e checks first second =
    let same : paths_of request e ≡ paths_in w.rows request =
    λ i. record {
      names = first_names request;
      rows = first.rows_are i;
      second_names = second_names request;
      second_rows = second.rows_are i;
    } in
    ap (λ (p : Paths). told_text caller p e.checks.items) same ∙ ap (told_text caller (paths_in w.rows request)) checks
