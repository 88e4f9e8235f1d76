-- Each call that the rules allow leaves a tree: `effect_tree`, for the Rename of `lfs_calls` and for LegalTrees and
-- LeadOnLemmas of `lfs_laws`. Call by call: a changed file keeps its kind, a new row's number is unused and its name
-- free, what is removed has no children, and all these are facts of Allowed. Rename is the hard one: a row moved
-- beneath itself would hang in no way to the root, which the test of the rows on the new way rules out (`no_ancestor`);
-- without `apart_test` the tree is lost.
use Rattle.std.proofs.Common.{◌≡◌, ◌≢◌, ℕ, ◌+◌, ◌==◌, Bool, true, false, cond, List, [], ◌∷◌, length, Option, None}
use Rattle.std.proofs.Common.{Some, refl, sym, ◌∙◌, arith, eqb-true}
use Rattle.std.proofs.lemmas.Bool.{eqb-false, not-true}
use Rattle.std.specs.FinMap as map
use Rattle.lfs_types.specs.Caller.{Caller}
use Rattle.lfs_types.specs.Tree.{File, Row, World, root}
use Rattle.lfs_types.specs.declared.attrs.Kind.{Kind}
use Rattle.lfs_types.specs.declared.attrs.Kind.TheVariants.{File as Regular, Directory}
use Rattle.lfs_types.specs.declared.request.Request.{Request}
use Rattle.lfs_types.specs.declared.request.Request.TheVariants.{Stat, Read, Write, List as Names, SetLength, Create}
use Rattle.lfs_types.specs.declared.request.Request.TheVariants.{Mkdir, Unlink, Rmdir, Rename, Chmod, Chown, Chflags}
use Rattle.lfs_types.specs.declared.request.Request.TheVariants.{SetLevel, Sync}
use Rattle.lfs_types.specs.declared.rule.Rule.TheVariants.{FitsFile}
use Rattle.std.specs.Prelude.{nat_le}
use Rattle.lfs_model.specs.World.{Rows, child, children, ancestor, IsChild, IsTree}
use Rattle.lfs_model.specs.Rules.{decide, first_failing, is_directory_row, reached, front, last, asks, start_in}
use Rattle.lfs_model.specs.Rules.{file_max, is_end, removing, arriving, moving_tests}
use Rattle.lfs_model.specs.Effects.{effect, after_rename, least_unused, with_file, with_place, without_row, new_file}
use Rattle.lfs_model.specs.Effects.{written, cut, given}
use Rattle.lfs_model.specs.Steps.{LacksInodes, AllUsed}
use Rattle.lfs_model.proofs.Changed.{IsTree-changed}
use Rattle.lfs_model.proofs.Grown.{IsTree-grown}
use Rattle.lfs_model.proofs.Allowed.{MayArrive, MayChange, MayGo, MayMake, MayRemove, may_arrive, may_change, may_go}
use Rattle.lfs_model.proofs.Allowed.{may_make, may_remove, regular_row}
use Rattle.lfs_model.proofs.Children.{child-is}
use Rattle.lfs_model.proofs.Deciding.{met_first, passes-append}
use Rattle.lfs_model.proofs.NewNumbers.{new_unused, new_below, no_less}
use Rattle.lfs_model.proofs.Members.{children-has}
use Rattle.lfs_model.proofs.Moved.{IsTree-moved}
use Rattle.lfs_model.proofs.MovedWay.{no_ancestor}
use Rattle.lfs_model.proofs.Shrunk.{IsTree-shrunk, ancestors_left, child-removed}
use Rattle.lfs_model.proofs.WalkLemmas.{directory_kind}
use Rattle.lfs_model.proofs.Trees.{no_directory, no_parent, not_in_itself}
use Rattle.lfs_types.proofs.Maps.{get-remove_other}

-- ---- directories

-- a directory that is there
record DirectoryThere (o : Option Row) : Type 0 where
  row : Row
  there : o ≡ Some row
  directory : row.file.kind ≡ Directory

directory_there : (o : Option Row) → is_directory_row o ≡ true → DirectoryThere o
directory_there None h = absurd (cc)
directory_there (Some r) h = record { row = r; there = refl; directory = directory_kind r.file.kind h }

-- nothing hangs in an empty directory
pub childless : (rows : Rows) (n : ℕ) → (length (children rows n) == 0) ≡ true → (name : List ℕ) (m : ℕ)
    → IsChild rows n name m → ⊥
childless rows n h name m c =
    let one = children-has rows n name m c in
    let none : length (children rows n) ≡ 0 = eqb-true _ _ h in
    let inside = one.1 in
    omega (arith, none, inside)

-- ---- each call

-- a change of a file that keeps its kind and puts no bytes into a directory
file_tree : (w : World) → IsTree w.rows → (m : ℕ) (change : File → File) (o : Option Row) → map.get w.rows m ≡ o
    → ((r : Row) → o ≡ Some r → (change r.file).kind ≡ r.file.kind)
    → ((r : Row) → o ≡ Some r → (change r.file).kind ≡ Directory → (change r.file).bytes ≡ [])
    → IsTree (with_file o m change w).rows
file_tree w tree m change None e kind empty = tree
file_tree w tree m change (Some r) e kind empty =
    IsTree-changed w.rows tree m r e (change r.file) (kind r refl) (empty r refl)

place_tree : (w : World) → IsTree w.rows → (n : ℕ) → (n ≡ root → ⊥) → (parent : ℕ) (name : List ℕ) (dir : Row)
    → map.get w.rows parent ≡ Some dir → dir.file.kind ≡ Directory
    → child w.rows parent name ≡ None → ((k : ℕ) → ancestor w.rows k parent ≢ n) → (o : Option Row) → map.get w.rows n
    ≡ o → IsTree (with_place o n parent name w).rows
place_tree w tree n below parent name dir there directory free apart None e = tree
place_tree w tree n below parent name dir there directory free apart (Some r) e =
    IsTree-moved w.rows tree n r e below parent name dir there directory free apart

new_tree : (numbers : ℕ) (w : World) → IsTree w.rows
    → (caller : Caller) (path : List (List ℕ)) (kind : Kind) (gid mode : ℕ) → MayMake w.rows caller path
    → (AllUsed numbers w.rows → ⊥)
    → IsTree (map.insert w.rows (least_unused w.rows numbers 4)
    (record { parent = reached w.rows root (front path); name = last path; file = new_file caller kind gid mode }))
new_tree numbers w tree caller path kind gid mode may room =
    let dir = directory_there _ may.directory in
    IsTree-grown w.rows tree (least_unused w.rows numbers 4) _ dir.row (new_unused numbers w.rows room)
    (new_below numbers w.rows) may.free dir.there dir.directory refl (no_less w.rows numbers 4 4 (omega arith))

module _ (numbers : ℕ) (w : World) (caller : Caller) (tree : IsTree w.rows) where
  changed_tree : (path : List (List ℕ)) (appends : Bool) (change : File → File) → MayChange w.rows caller path appends
      → ((f : File) → (change f).kind ≡ f.kind)
      → IsTree (with_file (map.get w.rows (reached w.rows root path)) (reached w.rows root path) change w).rows
  changed_tree path appends change may kind =
      file_tree w tree (reached w.rows root path) change _ refl (λ r e. kind r.file)
      (λ r e k. absurd (no_directory (map.get w.rows (reached w.rows root path)) r (regular_row _ may.regular) e
      (sym (kind r.file) ∙ k)))

  -- a change of a file's attributes alone
  titled_tree : (path : List (List ℕ)) (change : File → File) → ((f : File) → (change f).kind ≡ f.kind)
      → ((f : File) → (change f).bytes ≡ f.bytes)
      → IsTree (with_file (map.get w.rows (reached w.rows root path)) (reached w.rows root path) change w).rows
  titled_tree path change kind bytes =
      file_tree w tree (reached w.rows root path) change _ refl (λ r e. kind r.file)
      (λ r e k. bytes r.file ∙ tree.empty (reached w.rows root path) r e (sym (kind r.file) ∙ k))

  -- a row that got a place that is free, or that of a row that is taken away
  moved_tree : (from to : List (List ℕ)) → MayRemove w.rows caller from → MayArrive w.rows caller to
      → MayGo w.rows caller from to None
      → child w.rows (reached w.rows root (front to)) (last to) ≡ None
      → IsTree (with_place (map.get w.rows (reached w.rows root from)) (reached w.rows root from)
      (reached w.rows root (front to)) (last to) w).rows
  moved_tree from to out into goes free =
      let dir = directory_there _ into.directory in
      place_tree w tree (reached w.rows root from) out.hangs.below (reached w.rows root (front to))
      (last to) dir.row dir.there dir.directory free
      (no_ancestor w.rows tree caller 1 (reached w.rows root from) _ (front to) into.way out.hangs.below goes.apart)
      (map.get w.rows (reached w.rows root from)) refl

  swapped_tree : (from to : List (List ℕ)) (m : ℕ) → MayRemove w.rows caller from → MayArrive w.rows caller to
      → MayGo w.rows caller from to (Some m)
      → child w.rows (reached w.rows root (front to)) (last to) ≡ Some m → m ≢ reached w.rows root from
      → IsTree (with_place (map.get w.rows (reached w.rows root from)) (reached w.rows root from)
      (reached w.rows root (front to)) (last to) (without_row m w)).rows
  swapped_tree from to m out into goes is other =
      let moved = reached w.rows root from in
      let dir = directory_there _ into.directory in
      let hangs = child-is w.rows (reached w.rows root (front to)) (last to) m is in
      let empty = childless w.rows m (goes.gives m refl).empty in
      let apart = not_in_itself w.rows tree (reached w.rows root (front to)) (last to) m hangs in
      let shrunk = IsTree-shrunk w.rows tree m hangs.below empty in
      place_tree (without_row m w) shrunk moved out.hangs.below (reached w.rows root (front to)) (last to) dir.row
      (get-remove_other w.rows m _ apart ∙ dir.there) dir.directory
      (child-removed w.rows m tree.unique (reached w.rows root (front to)) (last to) hangs)
      (λ k e. no_ancestor w.rows tree caller 1 moved _ (front to) into.way out.hangs.below goes.apart k
      (sym (ancestors_left w.rows tree m hangs.below empty k _ dir.row apart dir.there) ∙ e))
      (map.get w.rows moved) (get-remove_other w.rows m moved (λ e. other (sym e)))

  over_tree : (from to : List (List ℕ)) (m : ℕ) (b : Bool) → (m == reached w.rows root from) ≡ b
      → MayRemove w.rows caller from → MayArrive w.rows caller to
      → child w.rows (reached w.rows root (front to)) (last to) ≡ Some m
      → (b ≡ false → MayGo w.rows caller from to (Some m))
      → IsTree (cond b w (with_place (map.get w.rows (reached w.rows root from)) (reached w.rows root from)
      (reached w.rows root (front to)) (last to) (without_row m w))).rows
  over_tree from to m true e out into is goes = tree
  over_tree from to m false e out into is goes =
      swapped_tree from to m out into (goes refl) is (eqb-false m (reached w.rows root from) e)

  placed_tree : (from to : List (List ℕ)) → MayRemove w.rows caller from → MayArrive w.rows caller to → (o : Option ℕ)
      → child w.rows (reached w.rows root (front to)) (last to) ≡ o
      → first_failing (moving_tests w.rows caller from to o) ≡ None
      → IsTree (after_rename w (reached w.rows root from) o (reached w.rows root (front to)) (last to)).rows
  placed_tree from to out into None e h = moved_tree from to out into (may_go w.rows caller from to None refl h) e
  placed_tree from to out into (Some m) e h =
      over_tree from to m (m == reached w.rows root from) refl out into e
      (λ other. may_go w.rows caller from to (Some m) other h)

  renamed_tree : (from to : List (List ℕ)) → decide w caller (Rename from to) ≡ None
      → IsTree (effect numbers w caller (Rename from to)).rows
  renamed_tree from to allowed =
      let one = passes-append (removing w.rows caller from) _ allowed in
      let two = passes-append (arriving w.rows caller to) _ one.1 in
      placed_tree from to (may_remove w.rows caller from one.0) (may_arrive w.rows tree caller to two.0) _ refl two.1

  -- what an allowed call leaves is a tree
  pub effect_tree : (request : Request) → decide w caller request ≡ None → (LacksInodes numbers w request → ⊥)
      → IsTree (effect numbers w caller request).rows
  effect_tree (Stat path) allowed room = tree
  effect_tree (Read path off len) allowed room = tree
  effect_tree (Names path) allowed room = tree
  effect_tree (Write path place []) allowed room = tree
  effect_tree (Write path place (b ∷ bs)) allowed room =
      changed_tree path (is_end place) (written caller place (b ∷ bs))
      (may_change w.rows caller path (is_end place)
      (λ attrs k. asks (nat_le (start_in place attrs.size + length (b ∷ bs)) file_max) FitsFile 0 k ∷ []) allowed)
      (λ f. refl)
  effect_tree (SetLength path len) allowed room =
      changed_tree path false (cut caller len)
      (may_change w.rows caller path false (λ attrs k. asks (nat_le len file_max) FitsFile 0 k ∷ []) allowed)
      (λ f. refl)
  effect_tree (Create path mode) allowed room =
      new_tree numbers w tree caller path Regular _ mode (may_make w.rows tree caller path allowed) room
  effect_tree (Mkdir path mode) allowed room =
      new_tree numbers w tree caller path Directory _ mode (may_make w.rows tree caller path allowed) room
  effect_tree (Unlink path) allowed room =
      let two = passes-append (removing w.rows caller path) _ allowed in
      let may = may_remove w.rows caller path two.0 in
      IsTree-shrunk w.rows tree (reached w.rows root path) may.hangs.below
      (no_parent w.rows tree (reached w.rows root path) (regular_row _ (not-true _ (met_first _ _ _ two.1).0)))
  effect_tree (Rmdir path) allowed room =
      let two = passes-append (removing w.rows caller path) _ allowed in
      let may = may_remove w.rows caller path two.0 in
      IsTree-shrunk w.rows tree (reached w.rows root path) may.hangs.below
      (childless w.rows (reached w.rows root path) (met_first _ _ _ (met_first _ _ _ two.1).1).0)
  effect_tree (Rename from to) allowed room = renamed_tree from to allowed
  effect_tree (Chmod path mode) allowed room = titled_tree path (λ f. record f { mode = mode }) (λ f. refl) (λ f. refl)
  effect_tree (Chown path uid gid) allowed room = titled_tree path (given caller uid gid) (λ f. refl) (λ f. refl)
  effect_tree (Chflags path flags) allowed room =
      titled_tree path (λ f. record f { flags = flags }) (λ f. refl) (λ f. refl)
  effect_tree (SetLevel level) allowed room = tree
  effect_tree Sync allowed room = tree
