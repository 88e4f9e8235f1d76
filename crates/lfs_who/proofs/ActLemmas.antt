-- What is told of a path decides as the rules do: `call_decided` for `push_along`, `search_decided` for `who_searches`,
-- `move_decided` for `who_moves`, `calls_are` for `who_could`. The rows of a path that are known are those that its
-- names lead through, so the tests that are asked of them are those of the rules, and the first that fails is the same
-- (`same_failing`, by `told` of lfs_explain). `all_told`, for `who_of`: a caller who has a part in some question is
-- among the users, and their lines tell of him; one who has a part in none is told by the lines of everybody else.
use Rattle.std.proofs.Common.{◌≡◌, ℕ, ◌<◌, ◌≤◌, ◌||◌, zero, suc, Bool, true, false, List, [], ◌∷◌, length, take, refl}
use Rattle.std.proofs.Common.{sym, ap, subst, ◌∙◌, arith}
use Rattle.std.specs.Prelude.{Err, Ok, OnOk, Result, slice_index_or}
use Rattle.std.specs.List.{list_any}
use Rattle.lfs_types.specs.Caller.{Caller}
use Rattle.lfs_types.specs.Tree.{World}
use Rattle.lfs_types.specs.declared.level.Level.{Level}
use Rattle.lfs_types.specs.declared.request.Request.{Request}
use Rattle.lfs_model.specs.World.{IsTree}
use Rattle.lfs_model.specs.Rules.{Check, decide, first_failing, leaves_test, reaching, rule_table, searching_tests}
use Rattle.lfs_explain.specs.Asked.{asked}
use Rattle.lfs_explain.specs.Tables.{Path, known_path, reaching_by, table_by}
use Rattle.lfs_explain.specs.Trails.{IsTrail, first_names, second_names}
use Rattle.lfs_explain.specs.declared.trail.ShownRow.{ShownRow}
use Rattle.lfs_explain.specs.declared.trail.Trail.{Trail}
use Rattle.lfs_explain.proofs.Askings.{failing_asked}
use Rattle.lfs_explain.proofs.ExplainLemmas.{root_there, told}
use Rattle.lfs_explain.proofs.TableLemmas.{end_is, path_to, reaching_told, removing_told}
use Rattle.lfs_who.specs.Acts.{act_denial, act_table, leaving_by, request_of}
use Rattle.lfs_who.specs.Lines.{Told}
use Rattle.lfs_who.specs.Who.{AreNamed, IsToldTo, IsWho, IsWhoCalls, has_part_in, is_among, lines_for}
use Rattle.lfs_who.specs.Conditions.{has_part}
use Rattle.lfs_who.specs.declared.act.Act.{Act}
use Rattle.lfs_who.specs.declared.act.Act.TheVariants.{Stat, Search, Read, Write, Append, List as Names, Create, Unlink}
use Rattle.lfs_who.specs.declared.act.Act.TheVariants.{Rmdir, Move, Chmod, Chown, Chflags}
use Rattle.lfs_who.specs.declared.condition.Question.{Question}
use Rattle.lfs_who.specs.declared.who.Named.{Named}
use Rattle.lfs_who.specs.declared.who.Who.{Who}

-- tests of which the same are asked have the same first that fails
same_failing : (xs ys : List Check) → asked xs ≡ asked ys → first_failing xs ≡ first_failing ys
same_failing xs ys same = sym (failing_asked xs) ∙ ap first_failing same ∙ failing_asked ys

module _ (w : World) (tree : IsTree w.rows) (c : Caller) where
  -- what is asked of a call decides as its rules do
  pub call_decided : (level : Level) → w.level ≡ level → (first second : Trail) (request : Request)
      → IsTrail w.rows (first_names request) first → IsTrail w.rows (second_names request) second
      → first_failing (table_by level c request (known_path first) (known_path second)) ≡ decide w c request
  call_decided level at first second request t s =
      same_failing (table_by level c request (known_path first) (known_path second)) (rule_table w c request)
      (told w tree level at c first second request t s)

  module _ (first : Trail) (path : List (List ℕ)) (t : IsTrail w.rows path first) where
    path_is : known_path first ≡ path_to w.rows path first.is_childless
    path_is = λ i. record { rows = t.rows_are i; names = t.counted i; is_childless = first.is_childless }

    -- of going through a directory
    pub search_decided : first_failing (reaching_by c (searching_tests c 0) (known_path first))
        ≡ act_denial w c Search path
    search_decided =
        same_failing (reaching_by c (searching_tests c 0) (known_path first))
        (reaching w.rows c path (searching_tests c 0))
        (ap (λ (p : Path). asked (reaching_by c (searching_tests c 0) p)) path_is
        ∙ reaching_told w.rows c (root_there w.rows tree) path first.is_childless (searching_tests c 0))

    -- of taking a name away to another directory
    left_told : asked (leaving_by c (path_to w.rows path first.is_childless)) ≡ asked (act_table w c Move path)
    left_told = sym (removing_told w.rows c (root_there w.rows tree) path first.is_childless _ _
        (λ some long. ap (λ (s : ShownRow). asked (leaves_test c false s.attrs (length path) ∷ []))
        (sym (end_is w.rows path long))))

    pub move_decided : first_failing (leaving_by c (known_path first)) ≡ act_denial w c Move path
    move_decided =
        same_failing (leaving_by c (known_path first)) (act_table w c Move path)
        (ap (λ (p : Path). asked (leaving_by c p)) path_is ∙ left_told)

-- who could make an act's call is who could do it, where a call does it
pub calls_are : (w : World) (path : List (List ℕ)) (who : Who) (act : Act) → (act ≡ Search → ⊥) → (act ≡ Move → ⊥)
    → IsWhoCalls w (request_of act path) who → IsWho w act path who
calls_are w path who Stat ns nm is c = is c (λ s. absurd s)
calls_are w path who Search ns nm is c = absurd (ns refl)
calls_are w path who Read ns nm is c = is c (λ s. absurd s)
calls_are w path who Write ns nm is c = is c (λ s. absurd s)
calls_are w path who Append ns nm is c = is c (λ s. absurd s)
calls_are w path who Names ns nm is c = is c (λ s. absurd s)
calls_are w path who Create ns nm is c = is c (λ s. absurd s)
calls_are w path who Unlink ns nm is c = is c (λ s. absurd s)
calls_are w path who Rmdir ns nm is c = is c (λ s. absurd s)
calls_are w path who Move ns nm is c = absurd (nm refl)
calls_are w path who Chmod ns nm is c = is c (λ s. absurd s)
calls_are w path who Chown ns nm is c = is c (λ s. absurd s)
calls_are w path who Chflags ns nm is c = is c (λ s. absurd s)

-- ---- all users

pub none_has : (test : Question → Bool) (qs : List Question) → list_any test qs ≡ false → (k : ℕ) (d : Question)
    → k < length qs → test (slice_index_or qs k d) ≡ false
none_has test [] none k d long = absurd (omega (arith, long))
none_has test (q ∷ qs) none zero d long = first_of (test q) (list_any test qs) none where
  first_of : (x y : Bool) → (x || y) ≡ false → x ≡ false
  first_of true y e = e
  first_of false y e = refl
none_has test (q ∷ qs) none (suc k) d long =
    none_has test qs (second_of (test q) (list_any test qs) none) k d (omega (arith, long)) where
      second_of : (x y : Bool) → (x || y) ≡ false → y ≡ false
      second_of true y e = absurd (cc)
      second_of false y e = e

module _ (questions : List Question) (named : List Named) (others : List Told) (users : List ℕ)
    (so : AreNamed questions named others users)
    (whole : (u : ℕ) → is_among u users ≡ has_part_in u questions)
    (rest : (c : Caller) → ((k : ℕ) (d : Question) → k < length questions
    → has_part c.uid ((slice_index_or questions k d).condition) ≡ false) → IsToldTo questions c others) where
  case : (c : Caller) (b : Bool) → is_among c.uid users ≡ b → IsToldTo questions c (lines_for named others c.uid)
  case c true among = so.told c among
  case c false among =
      subst (λ ls. IsToldTo questions c ls) (sym (so.free c.uid among others))
      (rest c (none_has (λ (q : Question). has_part c.uid q.condition) questions (sym (whole c.uid) ∙ among)))

  pub all_told : (c : Caller) → IsToldTo questions c (lines_for named others c.uid)
  all_told c = case c (is_among c.uid users) refl

-- ---- lists taken whole

pub take_whole : {A : Type 0} (xs : List A) (n : ℕ) → length xs ≤ n → take n xs ≡ xs
take_whole [] zero over = refl
take_whole [] (suc n) over = refl
take_whole (x ∷ xs) zero over = absurd (omega (arith, over))
take_whole (x ∷ xs) (suc n) over = ap (λ l. x ∷ l) (take_whole xs n (omega (arith, over)))

-- ---- what holds where nothing failed

pub on_ok : {A E P Q : Type 0} (r : Result A E) → (P → Q) → OnOk r P → OnOk r Q
on_ok (Ok x) so p = so p
on_ok (Err e) so p = p
