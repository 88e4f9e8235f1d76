-- A call on what a path leads to is decided by the walk, and then by tests of the attributes that the store shows:
-- `serves`, `barred` and `not_reached` for eight calls, each with its IsPathCall (`stat_path` to `chflags_path`). The
-- table of tests is the walk's with those of the row behind, and the store shows the row's attributes but for a
-- directory's size, which counts for nothing in them (`sizeless`). A test that asked for the size of a directory would
-- break `sizeless`; a new call on one path needs just its IsPathCall.
use Rattle.std.proofs.Common.{◌≡◌, ℕ, true, List, length, None, Ok, Err, refl, sym, ap, ◌∙◌, ⊎_elim}
use Rattle.std.specs.Prelude.{not}
use Rattle.std.proofs.lemmas.Bool.{cases_Bool, cond-false}
use Rattle.lfs_types.specs.Caller.{Caller}
use Rattle.lfs_types.specs.Kinds.{is_directory_kind}
use Rattle.lfs_types.specs.StoreStates.{StoreState}
use Rattle.lfs_types.specs.Tree.{File, World, root}
use Rattle.lfs_types.specs.declared.attrs.Attrs.{Attrs}
use Rattle.lfs_types.specs.declared.level.Level.{Level}
use Rattle.lfs_types.specs.declared.request.Place.{Place}
use Rattle.lfs_types.specs.declared.request.Request.{Request}
use Rattle.lfs_types.specs.declared.request.Request.TheVariants.{Stat, Read, Write, List as Names, SetLength, Chmod}
use Rattle.lfs_types.specs.declared.request.Request.TheVariants.{Chown, Chflags}
use Rattle.lfs_types.specs.declared.rule.Denial.{Denial}
use Rattle.lfs_model.specs.Rules.{Check, first_failing, judged, attrs_at, reached, reaching, stat_tests, read_tests}
use Rattle.lfs_model.specs.Rules.{list_tests, write_tests, length_tests, chmod_tests, chown_tests, chflags_tests}
use Rattle.lfs_model.specs.Rules.{rule_table, decide}
use Rattle.lfs_model.proofs.Deciding.{walk_denied, judged_all, judged_none}
use Rattle.lfs_calls.specs.declared.call_fault.CallFault.TheVariants.{Denied}
use Rattle.lfs_calls.specs.declared.walking.Reached.{Reached}
use Rattle.lfs_calls.specs.Calls.{IsCallAt}
use Rattle.lfs_calls.specs.Content.{visible}
use Rattle.lfs_calls.specs.Reaches.{Reaches}
use Rattle.lfs_calls.specs.Volumes.{InWorld, IsVolume}
use Rattle.lfs_model.specs.Steps.{LacksInodes}
use Rattle.lfs_calls.specs.Outcomes.{FillsDirectory}
use Rattle.lfs_calls.proofs.CallLemmas.{IsToServe, denied}
use Rattle.lfs_calls.proofs.ReadLemmas.{passed, attrs_is}
use Rattle.lfs_calls.proofs.StepLemmas.{shown_file, stored_regular}
use Rattle.lfs_calls.proofs.Visible.{visible-regular}

-- the tests of a call are those of a walk and of attributes, and a directory's size counts for nothing in them
pub record IsPathCall (level : Level) (caller : Caller) (path : List (List ℕ)) (tests : Attrs → ℕ → List Check)
    (request : Request) : Type 0 where
  pub table : (w : World) → w.level ≡ level → rule_table w caller request ≡ reaching w.rows caller path tests
  pub sizeless : (a : Attrs) (size k : ℕ) → is_directory_kind a.kind ≡ true
      → first_failing (tests (record a { size = size }) k) ≡ first_failing (tests a k)

module _ {level : Level} {s : StoreState} {caller : Caller} {path : List (List ℕ)} {tests : Attrs → ℕ
    → List Check} {request : Request} (is : IsPathCall level caller path tests request) where
  -- what the attributes that a store shows decide
  module _ (file : Reached) (leads : InWorld s (λ w. Reaches s.content w.rows caller 0 path (Ok file))) where
    tested : (w : World) (v : IsVolume s w) → first_failing (reaching w.rows caller path tests)
        ≡ first_failing (tests file.attrs (length path))
    tested w v =
        let r = leads w v in
        let f = shown_file s.content file.number file.attrs r.1 in
        passed s.content w v.shows caller path file.number file.attrs r.0 r.1
        (tests (attrs_at w.rows (reached w.rows root path)) (length path))
        ∙ ap (λ a. first_failing (tests a (length path)))
        (attrs_is s.content w v.shows caller path file.number file.attrs r.0 r.1)
        ∙ ⊎_elim
        (λ dir. is.sizeless file.attrs (length (visible f.file).bytes) (length path) dir)
        (λ regular.
        let seen = visible-regular f.file (stored_regular s.content file.number file.attrs r.1 regular) in
        ap (λ n. first_failing (tests (record file.attrs { size = n }) (length path)))
        (ap (λ (x : File). length x.bytes) seen ∙ ap (λ (x : Attrs). x.size) (sym f.same)))
        (cases_Bool (is_directory_kind file.attrs.kind))

    -- all are met, so the call is allowed
    pub allowed : (k : ℕ) → k ≡ length path → Ok tt ≡ judged (tests file.attrs k)
        → InWorld s (λ w. w.level ≡ level → decide w caller request ≡ None)
    allowed k at met w v same =
        ap first_failing (is.table w same) ∙ tested w v ∙ ap (λ n. first_failing (tests file.attrs n)) (sym at)
        ∙ judged_all (tests file.attrs k) (sym met)

    -- and is to be served where it lacks nothing
    pub serves : (k : ℕ) → k ≡ length path → Ok tt ≡ judged (tests file.attrs k)
        → ((w : World) → LacksInodes s.shape.numbers w request → ⊥)
        → ((w : World) → FillsDirectory s.content w request → ⊥)
        → InWorld s (λ w. w.level ≡ level → IsToServe s caller request w)
    serves k at met numbered roomy w v same =
        record { allowed = allowed k at met w v same; numbered = numbered w; roomy = roomy w }

    -- one is not, so the call is denied
    pub barred : {new : StoreState} → new ≡ s → (k : ℕ) → k ≡ length path → (denial : Denial) → Err denial
        ≡ judged (tests file.attrs k) → IsCallAt level s new caller request (Err (Denied denial))
    barred same k at denial unmet = denied level same denial (λ w v level_is.
        ap first_failing (is.table w level_is) ∙ tested w v ∙ ap (λ n. first_failing (tests file.attrs n)) (sym at)
        ∙ judged_none (tests file.attrs k) denial (sym unmet))

  -- the walk is denied, and so is the call
  pub not_reached : {new : StoreState} → new ≡ s → (denial : Denial)
      → InWorld s (λ w. Reaches s.content w.rows caller 0 path (Err denial))
      → IsCallAt level s new caller request (Err (Denied denial))
  not_reached same denial stops = denied level same denial (λ w v level_is.
      ap first_failing (is.table w level_is) ∙ walk_denied w.rows caller 0 path _ denial (stops w v))

-- ---- the calls

module _ (level : Level) (caller : Caller) (path : List (List ℕ)) where
  pub stat_path : IsPathCall level caller path stat_tests (Stat path)
  stat_path = record { table = λ w at. refl; sizeless = λ a size k dir. refl }

  pub read_path : (off len : ℕ) → IsPathCall level caller path (read_tests caller) (Read path off len)
  read_path off len = record { table = λ w at. refl; sizeless = λ a size k dir. refl }

  pub list_path : IsPathCall level caller path (list_tests caller) (Names path)
  list_path = record { table = λ w at. refl; sizeless = λ a size k dir. refl }

  -- a directory has no bytes to write, whatever its size
  pub write_path : (place : Place) (bytes : List ℕ)
      → IsPathCall level caller path (write_tests caller place (length bytes)) (Write path place bytes)
  write_path place bytes = record {
    table = λ w at. refl;
    sizeless = λ a size k dir. cond-false _ _ _ (ap not dir) ∙ sym (cond-false _ _ _ (ap not dir));
  }

  pub length_path : (len : ℕ) → IsPathCall level caller path (length_tests caller len) (SetLength path len)
  length_path len = record { table = λ w at. refl; sizeless = λ a size k dir. refl }

  pub chmod_path : (mode : ℕ) → IsPathCall level caller path (chmod_tests caller) (Chmod path mode)
  chmod_path mode = record { table = λ w at. refl; sizeless = λ a size k dir. refl }

  pub chown_path : (uid gid : ℕ) → IsPathCall level caller path (chown_tests caller uid gid) (Chown path uid gid)
  chown_path uid gid = record { table = λ w at. refl; sizeless = λ a size k dir. refl }

  pub chflags_path : (flags : ℕ) → IsPathCall level caller path (chflags_tests caller level flags) (Chflags path flags)
  chflags_path flags = record {
    table = λ w at. ap (λ l. reaching w.rows caller path (chflags_tests caller l flags)) at;
    sizeless = λ a size k dir. refl;
  }
