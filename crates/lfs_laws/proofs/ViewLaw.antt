-- A caller who sees the same along a call's paths in two worlds gets the same decision: `view`, for the law
-- `same_view`, HiddenLemmas and HiddenCalls. Call by call, the tests come to the same in their order, each only where
-- those before it were met (`alike_cons`, `alike_behind`), since a row behind a closed directory isn't seen at all.
-- Whether a directory is empty is the one thing asked that isn't seen (`TellsEmpty`); any other test of a fact that
-- `sights` doesn't hold ends the proof.
use Rattle.std.proofs.Common.{◌≡◌, ◌⊎◌, ℕ, ◌+◌, ◌==◌, ◌||◌, not, Bool, true, false, cond, List, [], ◌∷◌, ◌++◌, length}
use Rattle.std.proofs.Common.{Option, None, Some, inl, inr, refl, sym, ap, subst, ◌∙◌, arith, append-nil, length-append}
use Rattle.std.proofs.lemmas.Bool.{not-true}
use Rattle.std.specs.Prelude.{is_none, min, unwrap_or}
use Rattle.std.specs.List.{list_any}
use Rattle.std.specs.FinMap as map
use Rattle.lfs_types.specs.Caller.{Caller}
use Rattle.lfs_types.specs.Kinds.{is_directory_kind}
use Rattle.lfs_types.specs.Stored.{slice_of}
use Rattle.lfs_types.specs.Tree.{World, root}
use Rattle.lfs_types.specs.declared.answer.Answer.TheVariants.{Served}
use Rattle.lfs_types.specs.declared.answer.Served.TheVariants as served
use Rattle.lfs_types.specs.declared.attrs.Attrs.{Attrs}
use Rattle.lfs_types.specs.declared.attrs.Bit.TheVariants as bits
use Rattle.lfs_types.specs.declared.request.Request.{Request}
use Rattle.lfs_types.specs.declared.request.Request.TheVariants.{Stat, Read, Write, List as Names, SetLength, Create}
use Rattle.lfs_types.specs.declared.request.Request.TheVariants.{Mkdir, Unlink, Rmdir, Rename, Chmod, Chown, Chflags}
use Rattle.lfs_types.specs.declared.request.Request.TheVariants.{SetLevel, Sync}
use Rattle.lfs_types.specs.declared.rule.Denial.{Denial}
use Rattle.lfs_types.specs.declared.rule.Rule.TheVariants.{NameFree, IsMutable, GrantsWrite, IsEmpty}
use Rattle.lfs_types.specs.declared.rule.Rule.TheVariants.{IsNotBeneathItself}
use Rattle.lfs_rules.specs.Grants.{grants_of}
use Rattle.lfs_rules.specs.Locks.{is_immutable, is_append_only}
use Rattle.lfs_rules.specs.Sticky.{is_barred}
use Rattle.lfs_model.specs.World.{Rows, child, children, file_at, IsTree}
use Rattle.lfs_model.specs.Rules.{Check, asks, attrs_at, chflags_tests, chmod_tests, chown_tests, decide, first_failing}
use Rattle.lfs_model.specs.Rules.{front, last, length_tests, level_tests, list_tests, making, making_tests, arriving}
use Rattle.lfs_model.specs.Rules.{searching_tests, entering_tests, replaced_tests, moving_tests, last_tests, visited}
use Rattle.lfs_model.specs.Rules.{leaves_test, position, reached, reaching, read_tests, removing, removing_tests}
use Rattle.lfs_model.specs.Rules.{rmdir_tests, stat_tests, unlink_tests, walk, write_tests}
use Rattle.lfs_model.specs.Effects.{answer_of, in_byte_order, names_in, read_max}
use Rattle.lfs_laws.specs.LawView.{HasSameView, MayFollow, MayRead, TellsEmpty, View, is_empty_at}
use Rattle.lfs_model.proofs.Allowed.{directory_attrs, grants_attrs, last_step, may_arrive, path_there, reached_last}
use Rattle.lfs_model.proofs.Allowed.{split_last}
use Rattle.lfs_laws.proofs.CallLaws.{shown_law}
use Rattle.lfs_model.proofs.Deciding.{met_first, passes-append}
use Rattle.lfs_laws.proofs.NameLists.{names_alike}
use Rattle.lfs_laws.proofs.ViewLemmas.{Ends, Sees, alike_behind, alike_cons, attrs_alike, first_same, second_same}
use Rattle.lfs_laws.proofs.ViewLemmas.{sees_first, sees_step, walk_alike, walk_ends}
use Rattle.lfs_types.proofs.Somewhere.{There}

abbrev Same : Option Denial → Option Denial → Type 0
Same x y = x ≡ y

module _ (rows others : Rows) (caller : Caller) (tree : IsTree rows) where
  abbrev Way : List (List ℕ) → Type 0
  Way path = Sees rows others caller (Some root) path

  -- ---- where a path leads

  -- what a path leads to is the same, as far as it is seen
  record End (path : List (List ℕ)) : Type 0 where
    same : reached rows root path ≡ reached others root path
    attrs : attrs_at rows (reached rows root path) ≡ attrs_at others (reached others root path)

  whole : (path : List (List ℕ)) → Way path → Way (path ++ [])
  whole path e = subst Way (sym (append-nil path)) e

  parted : (path : List (List ℕ)) → (length path == 0) ≡ false → Way path → Way (front path ++ last path ∷ [])
  parted path filled e = subst Way (sym (split_last path filled)) e

  end_of : (names more : List (List ℕ)) → Ends rows others caller names more root → End names
  end_of names more e = record {
    same = e.same;
    attrs = attrs_alike rows others (reached rows root names)
        (sees_first rows others caller (reached rows root names) more e.sees) ∙ ap (attrs_at others) e.same;
  }

  path_end : (path : List (List ℕ)) → Way path → first_failing (walk rows caller 0 0 root path) ≡ None → End path
  path_end path e walks = end_of path [] (walk_ends rows others caller path [] 0 0 root (whole path e) walks)

  -- tests of what a path leads to
  reaching_alike : (path : List (List ℕ)) (tests : Attrs → ℕ → List Check) → Way path
      → first_failing (reaching rows caller path tests) ≡ first_failing (reaching others caller path tests)
  reaching_alike path tests e =
      alike_behind Same (λ d. refl) (walk rows caller 0 0 root path) (walk others caller 0 0 root path) _ _
      (walk_alike rows others caller path [] 0 0 root (whole path e))
      (λ walks. ap (λ attrs. first_failing (tests attrs (length path))) (path_end path e walks).attrs)

  -- ---- names that are made

  making_tail : (k dir : ℕ) (name : List ℕ) → There (map.get rows dir) → Sees rows others caller (Some dir) (name ∷ [])
      → first_failing (making_tests caller (is_none (child rows dir name)) (attrs_at rows dir) k)
      ≡ first_failing (making_tests caller (is_none (child others dir name)) (attrs_at others dir) k)
  making_tail k dir name there e =
      let attrs = attrs_alike rows others dir (sees_first rows others caller dir (name ∷ []) e) in
      alike_cons _ _ _ _ _ (ap (λ (a : Attrs). is_directory_kind a.kind) attrs) (λ d.
      alike_cons _ _ _ _ _ (ap (λ (a : Attrs). grants_of caller a bits.Search) attrs) (λ s.
      let step = sees_step rows others caller dir name [] e (directory_attrs _ there ∙ d)
      (grants_attrs caller bits.Search _ there ∙ s) in
      λ i. first_failing (
      asks (is_none (step.leads i)) NameFree 0 (k + 1)
      ∷ asks (not (is_immutable (attrs i))) IsMutable 0 k
      ∷ asks (grants_of caller (attrs i) bits.Write) GrantsWrite 0 k
      ∷ [])))

  made_end : (index : ℕ) (path : List (List ℕ)) → (length path == 0) ≡ false → Way path
      → first_failing (walk rows caller index 0 root (front path)) ≡ None
      → Ends rows others caller (front path) (last path ∷ []) root
  made_end index path filled e walks = walk_ends rows others caller (front path) (last path ∷ []) index 0 root
      (parted path filled e) walks

  making_alike : (path : List (List ℕ)) → Way path → first_failing (making rows caller path)
      ≡ first_failing (making others caller path)
  making_alike path e = alike_cons _ _ _ _ _ refl (λ some.
      let filled = not-true _ some in
      alike_behind Same (λ d. refl) (walk rows caller 0 0 root (front path))
      (walk others caller 0 0 root (front path)) _ _
      (walk_alike rows others caller (front path) (last path ∷ []) 0 0 root (parted path filled e))
      (λ walks. let end = made_end 0 path filled e walks in
      making_tail (length (front path)) (reached rows root (front path)) (last path)
      (path_there rows tree caller 0 (front path) walks) end.sees
      ∙ ap (λ n. first_failing (making_tests caller (is_none (child others n (last path))) (attrs_at others n)
      (length (front path)))) end.same))

  -- ---- names that are taken away

  -- where a name hangs that is taken away, and what hangs there
  record Taken (path : List (List ℕ)) : Type 0 where
    dir : End (front path)
    file : End path

  taken : (path : List (List ℕ)) → (length path == 0) ≡ false → Way path
      → first_failing (walk rows caller 0 0 root path) ≡ None → Taken path
  taken path filled e walks = record {
    dir = end_of (front path) (last path ∷ [])
        (made_end 0 path filled e (last_step rows caller 0 0 root path filled walks).walks);
    file = path_end path e walks;
  }

  removing_alike : (path : List (List ℕ)) → Way path → first_failing (removing rows caller path)
      ≡ first_failing (removing others caller path)
  removing_alike path e = alike_cons _ _ _ _ _ refl (λ some.
      alike_behind Same (λ d. refl) (walk rows caller 0 0 root path) (walk others caller 0 0 root path) _ _
      (walk_alike rows others caller path [] 0 0 root (whole path e))
      (λ walks. let ends = taken path (not-true _ some) e walks in
      λ i. first_failing (removing_tests caller 0 (ends.dir.attrs i) (ends.file.attrs i) (length (front path)))))

  removed : (path : List (List ℕ)) → Way path → first_failing (removing rows caller path) ≡ None → Taken path
  removed path e h =
      let some = met_first _ _ _ h in
      taken path (not-true _ some.0) e (passes-append (walk rows caller 0 0 root path) _ some.1).0

  -- ---- the way to another place

  arriving_alike : (path : List (List ℕ)) → Way path → first_failing (arriving rows caller path)
      ≡ first_failing (arriving others caller path)
  arriving_alike path e = alike_cons _ _ _ _ _ refl (λ some.
      let filled = not-true _ some in
      alike_behind Same (λ d. refl) (walk rows caller 1 0 root (front path))
      (walk others caller 1 0 root (front path)) _ _
      (walk_alike rows others caller (front path) (last path ∷ []) 1 0 root (parted path filled e))
      (λ walks. let end = end_of (front path) (last path ∷ []) (made_end 1 path filled e walks) in
      λ i. first_failing (searching_tests caller 1 (end.attrs i) (length (front path)))))

  -- the new directory, and what has the name there
  record Arrived (path : List (List ℕ)) : Type 0 where
    dir : End (front path)
    way : visited rows root (front path) ≡ visited others root (front path)
    there : child rows (reached rows root (front path)) (last path)
        ≡ child others (reached others root (front path)) (last path)
    attrs : (m : ℕ) → child rows (reached rows root (front path)) (last path) ≡ Some m → attrs_at rows m
        ≡ attrs_at others m

  arrived : (path : List (List ℕ)) → Way path → first_failing (arriving rows caller path) ≡ None → Arrived path
  arrived path e h =
      let into = may_arrive rows tree caller path h in
      let end = made_end 1 path into.filled e into.walks in
      let step = sees_step rows others caller (reached rows root (front path))
      (last path) [] end.sees into.directory into.searches in
      record {
        dir = end_of (front path) (last path ∷ []) end;
        way = end.way;
        there = step.leads ∙ ap (λ n. child others n (last path)) end.same;
        attrs = λ m is. attrs_alike rows others m
            (sees_first rows others caller m [] (subst (λ o. Sees rows others caller o []) is step.sees));
      }

-- ---- what may be told of an empty directory

module _ (w v : World) (path : List (List ℕ)) where
  abbrev OrEmpty : Option Denial → Option Denial → Type 0
  OrEmpty x y = (x ≡ y) ⊎ TellsEmpty w v (Rmdir path) x y

  last_alike : (d b c : Bool) (kind empty : Denial) → is_empty_at w path ≡ b → is_empty_at v path ≡ c → empty.rule
      ≡ IsEmpty → OrEmpty (cond d (cond b None (Some empty)) (Some kind))
      (cond d (cond c None (Some empty)) (Some kind))
  last_alike true true true kind empty p q e = inl refl
  last_alike true true false kind empty p q e = inr (e, (p, q))
  last_alike true false true kind empty p q e = inr (e, (q, p))
  last_alike true false false kind empty p q e = inl refl
  last_alike false b c kind empty p q e = inl refl

-- how long a path is that isn't the root's
long_of : (path : List (List ℕ)) → (length path == 0) ≡ false → length path ≡ length (front path) + 1
long_of path filled =
    let halves = ap (λ (l : List (List ℕ)). length l) (split_last path filled) in
    let long = length-append (front path) (last path ∷ []) in
    omega (arith, halves, long)

-- a Rename's last tests, behind whether the row there is empty
module _ (w v : World) (from to : List (List ℕ)) where
  abbrev OrFull : Option Denial → Option Denial → Type 0
  OrFull x y = (x ≡ y) ⊎ TellsEmpty w v (Rename from to) x y

  empty_alike : (b c : Bool) (k : ℕ) (x y : Option Denial) → is_empty_at w to ≡ b → is_empty_at v to ≡ c → k ≡ length to
      → x ≡ y → MayFollow x
      → OrFull (cond b x (Some (record { rule = IsEmpty; path = 1; at = k })))
      (cond c y (Some (record { rule = IsEmpty; path = 1; at = k })))
  empty_alike true true k x y p q at e follows = inl e
  empty_alike true false k x y p q at e follows =
      inr (inl (follows, ap (λ n. Some (record { rule = IsEmpty; path = 1; at = n })) at, (p, q)))
  empty_alike false true k x y p q at e follows =
      inr (inr (subst MayFollow e follows, ap (λ n. Some (record { rule = IsEmpty; path = 1; at = n })) at, (q, p)))
  empty_alike false false k x y p q at e follows = inl refl

  -- what the tests behind say
  leaves_follow : (b : Bool) (k : ℕ) → MayFollow (cond b None (Some (record { rule = GrantsWrite; path = 0; at = k })))
  leaves_follow true k = tt
  leaves_follow false k = inr (refl, refl)

  apart_follow : (b c : Bool) (j k : ℕ) → MayFollow
      (cond b (cond c None (Some (record { rule = GrantsWrite; path = 0; at = k })))
      (Some (record { rule = IsNotBeneathItself; path = 1; at = j })))
  apart_follow true c j k = leaves_follow c k
  apart_follow false c j k = inl (refl, refl)

  first_alike : (b c : Bool) (d : Denial) (x y : Option Denial) → b ≡ c → (b ≡ true → OrFull x y)
      → OrFull (cond b x (Some d)) (cond c y (Some d))
  first_alike true true d x y e on = on refl
  first_alike true false d x y e on = absurd (cc)
  first_alike false true d x y e on = absurd (cc)
  first_alike false false d x y e on = inl refl

  unless_alike : (b : Bool) (xs ys : List Check) → OrFull (first_failing xs) (first_failing ys)
      → OrFull (first_failing (cond b [] xs)) (first_failing (cond b [] ys))
  unless_alike true xs ys on = inl refl
  unless_alike false xs ys on = on

-- ---- each call

module _ (w v : World) (caller : Caller) (tree : IsTree w.rows) (other : IsTree v.rows) where
  abbrev Decided : Request → Type 0
  Decided request = (decide w caller request ≡ decide v caller request)
      ⊎ TellsEmpty w v request (decide w caller request) (decide v caller request)

  abbrev Way_of : List (List ℕ) → Type 0
  Way_of path = Way w.rows v.rows caller tree path

  rmdir_alike : (path : List (List ℕ)) → Way_of path
      → OrEmpty w v path (decide w caller (Rmdir path)) (decide v caller (Rmdir path))
  rmdir_alike path e =
      let n = reached w.rows root path in
      let m = reached v.rows root path in
      alike_behind (OrEmpty w v path) (λ d. inl refl) (removing w.rows caller path) (removing v.rows caller path)
      (rmdir_tests (length (children w.rows n) == 0) (attrs_at w.rows n) (length path))
      (rmdir_tests (length (children v.rows m) == 0) (attrs_at v.rows m) (length path))
      (removing_alike w.rows v.rows caller tree path e)
      (λ out. subst (λ a. OrEmpty w v path
      (first_failing (rmdir_tests (length (children w.rows n) == 0) (attrs_at w.rows n) (length path)))
      (first_failing (rmdir_tests (length (children v.rows m) == 0) a (length path))))
      (removed w.rows v.rows caller tree path e out).file.attrs
      (last_alike w v path (is_directory_kind (attrs_at w.rows n).kind) (length (children w.rows n) == 0)
      (length (children v.rows m) == 0) _ _ refl refl refl))

  -- the last tests of a Rename
  last_tests_alike : (from to : List (List ℕ)) → Taken w.rows v.rows caller tree from
      → Arrived w.rows v.rows caller tree to
      → first_failing (last_tests w.rows caller from to) ≡ first_failing (last_tests v.rows caller from to)
  last_tests_alike from to a b = λ i. first_failing
      (asks (not (list_any (λ n. n == a.file.same i) (b.way i))) IsNotBeneathItself 1
      (position (a.file.same i) (b.way i))
      ∷ leaves_test caller (a.dir.same i == b.dir.same i) (a.file.attrs i) (length from)
      ∷ [])

  over_alike : (from to : List (List ℕ)) (m k : ℕ) → length to ≡ k + 1 → Taken w.rows v.rows caller tree from
      → Arrived w.rows v.rows caller tree to → attrs_at w.rows m ≡ attrs_at v.rows m
      → reached w.rows root to ≡ m → reached v.rows root to ≡ m
      → OrFull w v from to
      (first_failing ((removing_tests caller 1 (attrs_at w.rows (reached w.rows root (front to))) (attrs_at w.rows m) k
      ++ replaced_tests (length (children w.rows m) == 0) (attrs_at w.rows (reached w.rows root from))
      (attrs_at w.rows m) (k + 1)) ++ last_tests w.rows caller from to))
      (first_failing ((removing_tests caller 1 (attrs_at v.rows (reached v.rows root (front to))) (attrs_at v.rows m) k
      ++ replaced_tests (length (children v.rows m) == 0) (attrs_at v.rows (reached v.rows root from))
      (attrs_at v.rows m) (k + 1)) ++ last_tests v.rows caller from to))
  over_alike from to m k long a b same one other =
      let P = OrFull w v from to in
      first_alike w v from to _ _ _ _ _ (ap (λ x. not (is_immutable x)) b.dir.attrs) (λ h1.
      first_alike w v from to _ _ _ _ _ (ap (λ x. grants_of caller x bits.Write) b.dir.attrs) (λ h2.
      first_alike w v from to _ _ _ _ _ (ap (λ x. not (is_append_only x)) b.dir.attrs) (λ h3.
      first_alike w v from to _ _ _ _ _ (λ i. not (is_barred caller (b.dir.attrs i) (same i))) (λ h4.
      first_alike w v from to _ _ _ _ _ (ap (λ x. not (is_immutable x)) same) (λ h5.
      first_alike w v from to _ _ _ _ _ (ap (λ x. not (is_append_only x)) same) (λ h6.
      first_alike w v from to _ _ _ _ _ (λ i. not (is_directory_kind (same i).kind) || is_directory_kind
      (a.file.attrs i).kind) (λ h7.
      first_alike w v from to _ _ _ _ _ (λ i. is_directory_kind (same i).kind || not
      (is_directory_kind (a.file.attrs i).kind)) (λ h8.
      empty_alike w v from to (length (children w.rows m) == 0) (length (children v.rows m) == 0) (k + 1) _ _
      (ap (λ n. length (children w.rows n) == 0) one) (ap (λ n. length (children v.rows n) == 0) other) (sym long)
      (last_tests_alike from to a b)
      (apart_follow w v from to _ _ _ _)))))))))

  moving_alike : (from to : List (List ℕ)) → (length to == 0) ≡ false → length to ≡ length (front to) + 1
      → Taken w.rows v.rows caller tree from → Arrived w.rows v.rows caller tree to
      → (o : Option ℕ) → child w.rows (reached w.rows root (front to)) (last to) ≡ o
      → OrFull w v from to (first_failing (moving_tests w.rows caller from to o))
      (first_failing (moving_tests v.rows caller from to o))
  moving_alike from to filled long a b None is = inl (
      (λ i. first_failing (entering_tests caller 1 (b.dir.attrs i) (length (front to))
      ++ last_tests w.rows caller from to))
      ∙ alike_behind (λ x y. x ≡ y) (λ d. refl)
      (entering_tests caller 1 (attrs_at v.rows (reached v.rows root (front to))) (length (front to)))
      (entering_tests caller 1 (attrs_at v.rows (reached v.rows root (front to))) (length (front to)))
      (last_tests w.rows caller from to) (last_tests v.rows caller from to) refl (λ h. last_tests_alike from to a b))
  moving_alike from to filled long a b (Some m) is =
      let k = length (front to) in
      let moved = reached w.rows root from in
      let tests = λ (rows : Rows) (n dir : ℕ).
      (removing_tests caller 1 (attrs_at rows dir) (attrs_at rows m) k
      ++ replaced_tests (length (children rows m) == 0) (attrs_at rows n) (attrs_at rows m) (k + 1))
      ++ last_tests rows caller from to in
      subst (λ n. OrFull w v from to (first_failing (moving_tests w.rows caller from to (Some m)))
      (first_failing (cond (m == n) [] (tests v.rows (reached v.rows root from) (reached v.rows root (front to))))))
      a.file.same
      (unless_alike w v from to (m == moved) _ _
      (over_alike from to m k long a b (b.attrs m is)
      (reached_last w.rows root to filled ∙ ap (λ o. unwrap_or o 0) is)
      (reached_last v.rows root to filled ∙ ap (λ o. unwrap_or o 0) (sym b.there ∙ is))))

  rename_alike : (from to : List (List ℕ)) → Way_of from → Way_of to
      → OrFull w v from to (decide w caller (Rename from to)) (decide v caller (Rename from to))
  rename_alike from to e f =
      alike_behind (OrFull w v from to) (λ d. inl refl) (removing w.rows caller from) (removing v.rows caller from) _ _
      (removing_alike w.rows v.rows caller tree from e)
      (λ out. alike_behind (OrFull w v from to) (λ d. inl refl) (arriving w.rows caller to)
      (arriving v.rows caller to) _ _ (arriving_alike w.rows v.rows caller tree to f)
      (λ into. let a = removed w.rows v.rows caller tree from e out in
      let b = arrived w.rows v.rows caller tree to f into in
      subst (λ o. OrFull w v from to (first_failing
      (moving_tests w.rows caller from to (child w.rows (reached w.rows root (front to)) (last to))))
      (first_failing (moving_tests v.rows caller from to o)))
      b.there
      (let filled = (may_arrive w.rows tree caller to into).filled in
      moving_alike from to filled (long_of to filled) a b _ refl)))

  reach : (path : List (List ℕ)) (tests : Attrs → ℕ → List Check) → Way_of path
      → first_failing (reaching w.rows caller path tests) ≡ first_failing (reaching v.rows caller path tests)
  reach path tests e = reaching_alike w.rows v.rows caller tree path tests e

  decided : (request : Request) → HasSameView w v caller request → Decided request
  decided (Stat path) h = inl (reach path stat_tests (first_same _ _ _ _ h.rows))
  decided (Read path off len) h = inl (reach path (read_tests caller) (first_same _ _ _ _ h.rows))
  decided (Names path) h = inl (reach path (list_tests caller) (first_same _ _ _ _ h.rows))
  decided (Write path place bytes) h = inl
      (reach path (write_tests caller place (length bytes)) (first_same _ _ _ _ h.rows))
  decided (SetLength path len) h = inl (reach path (length_tests caller len) (first_same _ _ _ _ h.rows))
  decided (Create path mode) h = inl (making_alike w.rows v.rows caller tree path (first_same _ _ _ _ h.rows))
  decided (Mkdir path mode) h = inl (making_alike w.rows v.rows caller tree path (first_same _ _ _ _ h.rows))
  decided (Unlink path) h = inl (let e = first_same _ _ _ _ h.rows in
      alike_behind Same (λ d. refl) (removing w.rows caller path) (removing v.rows caller path) _ _
      (removing_alike w.rows v.rows caller tree path e)
      (λ out. ap (λ attrs. first_failing (unlink_tests attrs (length path)))
      (removed w.rows v.rows caller tree path e out).file.attrs))
  decided (Rmdir path) h = rmdir_alike path (first_same _ _ _ _ h.rows)
  decided (Rename from to) h = rename_alike from to (first_same _ _ _ _ h.rows) (second_same _ _ _ _ h.rows)
  decided (Chmod path mode) h = inl (reach path (chmod_tests caller) (first_same _ _ _ _ h.rows))
  decided (Chown path uid gid) h = inl (reach path (chown_tests caller uid gid) (first_same _ _ _ _ h.rows))
  decided (Chflags path flags) h = inl (
      reach path (chflags_tests caller w.level flags) (first_same _ _ _ _ h.rows)
      ∙ ap (λ level. first_failing (reaching v.rows caller path (chflags_tests caller level flags))) h.level
      )
  decided (SetLevel level) h = inl (ap (λ old. first_failing (level_tests caller old level)) h.level)
  decided Sync h = inl refl

  -- ---- the answers

  read_end : (path : List (List ℕ)) (tests : Attrs → ℕ → List Check) → Way_of path
      → first_failing (reaching w.rows caller path tests) ≡ None → End w.rows v.rows caller tree path
  read_end path tests e h = path_end w.rows v.rows caller tree path e
      (passes-append (walk w.rows caller 0 0 root path) _ h).0

  answered : (request : Request) → HasSameView w v caller request → decide w caller request ≡ None → answer_of w request
      ≡ answer_of v request
  answered (Stat path) h allowed =
      let end = read_end path stat_tests (first_same _ _ _ _ h.rows) allowed in
      λ i. served.Stat (end.same i) (end.attrs i)
  answered (Read path off len) h allowed =
      let end = read_end path (read_tests caller) (first_same _ _ _ _ h.rows) allowed in
      let s = shown_law 0 w caller (Read path off len) (Served (answer_of w (Read path off len))) tree (
        allowed,
        (λ x. x),
        refl,
      ) in
      let may : MayRead w caller path = record {
        number = s.number;
        row = s.row;
        there = s.there;
        named = s.named;
        reaches = s.reaches;
        holds = s.holds.1;
      } in
      let bytes = h.contents may in
      s.holds.2 ∙ ap (λ l. served.Bytes (slice_of l off (min len read_max))) (bytes
      ∙ ap (λ n. (file_at (map.get v.rows n)).bytes) (sym s.named ∙ end.same))
  answered (Names path) h allowed =
      let end = read_end path (list_tests caller) (first_same _ _ _ _ h.rows) allowed in
      let s = shown_law 0 w caller (Names path) (Served (answer_of w (Names path))) tree (allowed, (λ x. x), refl) in
      let may : MayRead w caller path = record {
        number = s.number;
        row = s.row;
        there = s.there;
        named = s.named;
        reaches = s.reaches;
        holds = s.holds.1;
      } in
      ap (λ n. served.Names (in_byte_order (names_in w.rows n))) s.named
      ∙ ap served.Names (names_alike w.rows v.rows tree other s.number (h.contents may)
      ∙ ap (λ n. in_byte_order (names_in v.rows n)) (sym s.named ∙ end.same))
  answered (Write path place bytes) h allowed = refl
  answered (SetLength path len) h allowed = refl
  answered (Create path mode) h allowed = refl
  answered (Mkdir path mode) h allowed = refl
  answered (Unlink path) h allowed = refl
  answered (Rmdir path) h allowed = refl
  answered (Rename from to) h allowed = refl
  answered (Chmod path mode) h allowed = refl
  answered (Chown path uid gid) h allowed = refl
  answered (Chflags path flags) h allowed = refl
  answered (SetLevel level) h allowed = refl
  answered Sync h allowed = refl

pub view : View
view w v caller request tree other h = (
  decided w v caller tree other request h,
  answered w v caller tree other request h,
)
