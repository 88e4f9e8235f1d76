-- The laws of one call on new rows, on the level, on the tree and on what is shown: `new_law`, `relevelled_law`,
-- `leaves_tree` and `shown_law`, for the laws of these names, BetweenLemmas and others. A row is at an unused number
-- only after Create or Mkdir, since all other calls change or remove rows that are there (the `absent` lemmas), and the
-- number is the least free one as the search found each below it in use (`used_below`). What is shown is that of the
-- row at the path's end, which the passed walk says is there; another way to choose numbers breaks `least_number`.
use Rattle.std.proofs.Common.{◌≡◌, ◌≢◌, ℕ, ◌==◌, Bool, true, false, cond, List, [], ◌∷◌, Option, None, Some, refl, sym}
use Rattle.std.proofs.Common.{ap, subst, ◌∙◌, ⊎_elim, arith, eqb-true, ◌≤◌, ◌<◌, zero, suc, ◌+◌}
use Rattle.std.proofs.lemmas.Bool.{eqb-false, not-true, cases_eq, cases_lt}
use Rattle.std.specs.Prelude.{min, is_some, IsSome}
use Rattle.std.specs.FinMap as map
use Rattle.lfs_types.specs.Caller.{Caller}
use Rattle.lfs_types.specs.Kinds.{is_directory_kind}
use Rattle.lfs_types.specs.Stored.{slice_of}
use Rattle.lfs_types.specs.Tree.{File, Row, World, root, attrs_of}
use Rattle.lfs_types.specs.declared.answer.Answer.{Answer}
use Rattle.lfs_types.specs.declared.answer.Answer.TheVariants.{Served, Denied, Refused}
use Rattle.lfs_types.specs.declared.answer.Served.TheVariants as served
use Rattle.lfs_types.specs.declared.attrs.Attrs.{Attrs}
use Rattle.lfs_types.specs.declared.attrs.Bit.TheVariants as bits
use Rattle.lfs_types.specs.declared.attrs.Kind.{Kind}
use Rattle.lfs_types.specs.declared.attrs.Kind.TheVariants.{File as Regular, Directory}
use Rattle.lfs_types.specs.declared.level.Level.{Level}
use Rattle.lfs_types.specs.declared.request.Request.{Request}
use Rattle.lfs_types.specs.declared.request.Request.TheVariants.{Stat, Read, Write, List as Names, SetLength, Create}
use Rattle.lfs_types.specs.declared.request.Request.TheVariants.{Mkdir, Unlink, Rmdir, Rename, Chmod, Chown, Chflags}
use Rattle.lfs_types.specs.declared.request.Request.TheVariants.{SetLevel, Sync}
use Rattle.lfs_rules.specs.Grants.{grants_of}
use Rattle.lfs_rules.specs.Securelevel.{is_lower}
use Rattle.lfs_model.specs.World.{Rows, child, file_at, IsTree}
use Rattle.lfs_model.specs.Rules.{decide, first_failing, reached, front, last, walk, attrs_at}
use Rattle.lfs_model.specs.Effects.{effect, after_rename, least_unused, with_file, with_place, without_row, new_file}
use Rattle.lfs_model.specs.Effects.{written, cut, given, in_byte_order, names_in, read_max}
use Rattle.lfs_laws.specs.LawNew.{Makes, IsLeastUnused, MayMake, New}
use Rattle.lfs_laws.specs.LawLevel.{MayRelevel, Relevelled}
use Rattle.lfs_laws.specs.LawTrees.{LeavesTree}
use Rattle.lfs_laws.specs.LawShown.{IsSeen, MayShow, Shown}
use Rattle.lfs_laws.specs.Rights.{EachCall, LeadsTo, MayPlace}
use Rattle.lfs_model.specs.Steps.{IsAnswer, LacksInodes, AllUsed, after_answer}
use Rattle.lfs_model.proofs.Allowed.{may_make, walk_there}
use Rattle.lfs_model.proofs.Deciding.{met_first, passes-append}
use Rattle.lfs_laws.proofs.Fates.{leads_last, placed}
use Rattle.lfs_laws.proofs.LawFlags.{LevelFate, level_fate, by_init}
use Rattle.lfs_laws.proofs.LawFlags.LevelFate.{Same, Set}
use Rattle.lfs_laws.proofs.LegalTrees.{answer_tree}
use Rattle.lfs_model.proofs.NewNumbers.{new_unused, no_less}
use Rattle.lfs_laws.proofs.NameLists.{are_names}
use Rattle.lfs_model.proofs.WalkLemmas.{directory_kind, regular_kind}
use Rattle.lfs_laws.proofs.Ways.{reaches_root, walk_reaches}
use Rattle.lfs_types.proofs.Maps.{get-insert_same, get-insert_other, get-remove_same, get-remove_other}
use Rattle.lfs_types.proofs.Somewhere.{There, some_and, none_there}

-- ---- new rows

file_absent : (o : Option Row) (w : World) (n m : ℕ) (change : File → File) → map.get w.rows m ≡ o → map.get w.rows n
    ≡ None → map.get (with_file o m change w).rows n ≡ None
file_absent None w n m change e none = none
file_absent (Some x) w n m change e none = ⊎_elim
    (λ same. none_there (map.get w.rows m) x (ap (map.get w.rows) (sym same) ∙ none) e)
    (λ other. get-insert_other w.rows m (record x { file = change x.file }) n other ∙ none)
    (cases_eq n m)

place_absent : (o : Option Row) (w : World) (n m parent : ℕ) (name : List ℕ) → map.get w.rows m ≡ o → map.get w.rows n
    ≡ None → map.get (with_place o m parent name w).rows n ≡ None
place_absent None w n m parent name e none = none
place_absent (Some x) w n m parent name e none = ⊎_elim
    (λ same. none_there (map.get w.rows m) x (ap (map.get w.rows) (sym same) ∙ none) e)
    (λ other. get-insert_other w.rows m (record x { parent = parent; name = name }) n other ∙ none)
    (cases_eq n m)

removed_absent : (rows : Rows) (n m : ℕ) → map.get rows n ≡ None → map.get (map.remove rows m) n ≡ None
removed_absent rows n m none = ⊎_elim
    (λ same. ap (map.get (map.remove rows m)) same ∙ get-remove_same rows m)
    (λ other. get-remove_other rows m n other ∙ none)
    (cases_eq n m)

over_absent : (w : World) (n moved parent m : ℕ) (name : List ℕ) → map.get w.rows n ≡ None → (b : Bool) → (m == moved)
    ≡ b
    → map.get (cond b w (with_place (map.get w.rows moved) moved parent name (without_row m w))).rows n ≡ None
over_absent w n moved parent m name none true e = none
over_absent w n moved parent m name none false e =
    place_absent (map.get w.rows moved) (without_row m w) n moved parent name
    (get-remove_other w.rows m moved (λ same. eqb-false m moved e (sym same))) (removed_absent w.rows n m none)

rename_absent : (w : World) (n moved parent : ℕ) (name : List ℕ) → map.get w.rows n ≡ None → (o : Option ℕ)
    → map.get (after_rename w moved o parent name).rows n ≡ None
rename_absent w n moved parent name none None = place_absent _ w n moved parent name refl none
rename_absent w n moved parent name none (Some m) = over_absent w n moved parent m name none (m == moved) refl

used_step : (rows : Rows) (n k m : ℕ) (o : Option Row) → map.get rows n ≡ o → n ≤ k → k < cond (is_some o) m n
    → (n + 1 ≤ k → k < m → IsSome (map.get rows k)) → IsSome (map.get rows k)
used_step rows n k m None e low under on = absurd (omega (arith, low, under))
used_step rows n k m (Some x) e low under on = ⊎_elim
    (λ same. subst (λ j. IsSome (map.get rows j)) (sym same) (subst IsSome (sym e) refl))
    (λ other. on (omega (arith, low, other)) under)
    (cases_eq k n)

-- below the number that was found each number is used
pub used_below : (rows : Rows) (count n k : ℕ) → n ≤ k → k < least_unused rows count n → IsSome (map.get rows k)
unfolding least_unused
used_below rows zero n k low under = absurd (omega (arith, low, under))
used_below rows (suc count) n k low under =
    used_step rows n k (least_unused rows count (n + 1)) (map.get rows n) refl low under
    (used_below rows count (n + 1) k)

-- the number of a new row is the least that is unused
pub least_number : (numbers : ℕ) (rows : Rows) → (AllUsed numbers rows → ⊥)
    → IsLeastUnused numbers rows (least_unused rows numbers 4)
least_number numbers rows room =
    let below = used_below rows numbers 4 in
    record {
      first = no_less rows numbers 4 4 (omega arith);
      within = ⊎_elim (λ low. low) (λ high. absurd (room (λ k low under. below k low (omega (arith, under, high)))))
          (cases_lt (least_unused rows numbers 4) numbers);
      unused = new_unused numbers rows room;
      least = below;
    }

module _ (numbers : ℕ) (w : World) (caller : Caller) (tree : IsTree w.rows) (n : ℕ) (s : Row) (none : map.get w.rows n
    ≡ None) where
  made_row : (request : Request) (path : List (List ℕ)) (kind : Kind) (mode : ℕ) → (AllUsed numbers w.rows → ⊥)
      → MayPlace w.rows caller (reached w.rows root (front path)) (last path)
      → ((row : Row) → row ≡ record {
        parent = reached w.rows root (front path);
        name = last path;
        file = new_file caller kind (attrs_at w.rows (reached w.rows root (front path))).gid mode;
      }
      → Makes w row request)
      → map.get (map.insert w.rows (least_unused w.rows numbers 4)
      (record {
        parent = reached w.rows root (front path);
        name = last path;
        file = new_file caller kind (attrs_at w.rows (reached w.rows root (front path))).gid mode;
      })) n ≡ Some s
      → MayMake numbers w caller request n s
  made_row request path kind mode room place asked is = ⊎_elim
      (λ same.
      let row : Row = record {
        parent = reached w.rows root (front path);
        name = last path;
        file = new_file caller kind (attrs_at w.rows (reached w.rows root (front path))).gid mode;
      } in
      let new : map.get (map.insert w.rows (least_unused w.rows numbers 4) row) n
      ≡ Some row = ap (map.get (map.insert w.rows (least_unused w.rows numbers 4) row)) same
      ∙ get-insert_same w.rows (least_unused w.rows numbers 4) row in
      let made : row ≡ s = cc in
      subst (λ (y : Row). MayMake numbers w caller request n y) made (record {
        placed = place;
        number = subst (IsLeastUnused numbers w.rows) (sym same) (least_number numbers w.rows room);
        owner = refl;
        group = refl;
        flags = refl;
        bytes = refl;
        asked = asked row refl;
      }))
      (λ other. none_there _ s none (sym (get-insert_other w.rows _ _ n other) ∙ is))
      (cases_eq n (least_unused w.rows numbers 4))

  made_by : (request : Request) → decide w caller request ≡ None → (LacksInodes numbers w request → ⊥)
      → map.get (effect numbers w caller request).rows n ≡ Some s → MayMake numbers w caller request n s
  made_by (Stat path) allowed room is = none_there _ s none is
  made_by (Read path off len) allowed room is = none_there _ s none is
  made_by (Names path) allowed room is = none_there _ s none is
  made_by (Write path place []) allowed room is = none_there _ s none is
  made_by (Write path place (b ∷ bs)) allowed room is =
      none_there _ s (file_absent _ w n _ (written caller place (b ∷ bs)) refl none) is
  made_by (SetLength path len) allowed room is = none_there _ s (file_absent _ w n _ (cut caller len) refl none) is
  made_by (Create path mode) allowed room is =
      made_row (Create path mode) path Regular mode room
      (placed w caller tree path (may_make w.rows tree caller path allowed))
      (λ row e. (
        ap (λ (y : Row). y.file.kind) e,
        ap (λ (y : Row). y.file.mode) (sym e),
        subst (λ (y : Row). LeadsTo w.rows path y.parent y.name) (sym e)
            (leads_last w caller path (may_make w.rows tree caller path allowed)),
      )) is
  made_by (Mkdir path mode) allowed room is =
      made_row (Mkdir path mode) path Directory mode room
      (placed w caller tree path (may_make w.rows tree caller path allowed))
      (λ row e. (
        ap (λ (y : Row). y.file.kind) e,
        ap (λ (y : Row). y.file.mode) (sym e),
        subst (λ (y : Row). LeadsTo w.rows path y.parent y.name) (sym e)
            (leads_last w caller path (may_make w.rows tree caller path allowed)),
      )) is
  made_by (Unlink path) allowed room is = none_there _ s (removed_absent w.rows n (reached w.rows root path) none) is
  made_by (Rmdir path) allowed room is = none_there _ s (removed_absent w.rows n (reached w.rows root path) none) is
  made_by (Rename from to) allowed room is =
      none_there _ s (rename_absent w n (reached w.rows root from) (reached w.rows root (front to)) (last to) none
      (child w.rows (reached w.rows root (front to)) (last to))) is
  made_by (Chmod path mode) allowed room is =
      none_there _ s (file_absent _ w n _ (λ f. record f { mode = mode }) refl none) is
  made_by (Chown path uid gid) allowed room is =
      none_there _ s (file_absent _ w n _ (given caller uid gid) refl none) is
  made_by (Chflags path flags) allowed room is =
      none_there _ s (file_absent _ w n _ (λ f. record f { flags = flags }) refl none) is
  made_by (SetLevel level) allowed room is = none_there _ s none is
  made_by Sync allowed room is = none_there _ s none is

  new_by : (request : Request) (answer : Answer) → IsAnswer numbers w caller request answer
      → map.get (after_answer numbers w caller request answer).rows n ≡ Some s → MayMake numbers w caller request n s
  new_by request (Served shown) is after = made_by request is.0 is.1 after
  new_by request (Denied denial) is after = none_there _ s none after
  new_by request (Refused resource) is after = none_there _ s none after

pub new_law : EachCall New
new_law numbers w caller request answer tree is n s none after =
    new_by numbers w caller tree n s none request answer is after

-- ---- the level

relevelled_by : (w : World) (caller : Caller) (request : Request) (after : Level) → LevelFate w caller request after
    → after ≢ w.level → MayRelevel caller request w.level after
relevelled_by w caller request after (Same e) differs = absurd (differs e)
relevelled_by w caller request after (Set is super may) differs = record {
  superuser = eqb-true caller.uid 0 super;
  init = by_init (is_lower after w.level) caller.init may;
  asked = is;
}

pub relevelled_law : EachCall Relevelled
relevelled_law numbers w caller request (Served shown) tree is differs =
    relevelled_by w caller request _ (level_fate numbers w caller request is.0) differs
relevelled_law numbers w caller request (Denied denial) tree is differs = absurd (differs refl)
relevelled_law numbers w caller request (Refused resource) tree is differs = absurd (differs refl)

-- ---- the tree

pub leaves_tree : EachCall LeavesTree
leaves_tree numbers w caller request answer tree is = answer_tree numbers w caller request answer tree is

-- ---- what is shown

module _ (w : World) (caller : Caller) (tree : IsTree w.rows) (path : List (List ℕ))
    (walks : first_failing (walk w.rows caller 0 0 root path) ≡ None) where
  -- the row at the end of a path
  end_there : There (map.get w.rows (reached w.rows root path))
  end_there = let top = some_and (map.get w.rows root) _ tree.rooted in
      walk_there w.rows caller 0 0 root path (record { value = top.value; is = top.is }) walks

  seen : (P : ℕ → Row → Type 0) → ((r : Row) → map.get w.rows (reached w.rows root path) ≡ Some r
      → P (reached w.rows root path) r) → IsSeen w caller path P
  seen P holds = record {
    number = reached w.rows root path;
    row = end_there.value;
    there = end_there.is;
    named = refl;
    reaches = walk_reaches w.rows caller 0 0 root path (reaches_root w.rows caller tree) walks;
    holds = holds end_there.value end_there.is;
  }

-- the attributes at a number are those of its row
row_attrs : (rows : Rows) (n : ℕ) (r : Row) → map.get rows n ≡ Some r → attrs_at rows n ≡ attrs_of r.file
row_attrs rows n r is = ap (λ o. attrs_of (file_at o)) is

shown_by : (numbers : ℕ) (w : World) (caller : Caller) (request : Request) (answer : Answer) → IsTree w.rows
    → IsAnswer numbers w caller request answer → MayShow w caller request answer
shown_by numbers w caller (Stat path) (Served shown) tree is =
    let walks = passes-append (walk w.rows caller 0 0 root path) _ is.0 in
    seen w caller tree path walks.0 _ (λ r at. is.2
    ∙ ap (λ a. served.Stat (reached w.rows root path) a) (row_attrs w.rows _ r at))
shown_by numbers w caller (Read path off len) (Served shown) tree is =
    let walks = passes-append (walk w.rows caller 0 0 root path) _ is.0 in
    let a = met_first _ _ _ walks.1 in
    let b = met_first _ _ _ a.1 in
    seen w caller tree path walks.0 _ (λ r at. let e = row_attrs w.rows _ r at in (
      regular_kind r.file.kind (ap (λ (x : Attrs). is_directory_kind x.kind) (sym e) ∙ not-true _ a.0),
      ap (λ x. grants_of caller x bits.Read) (sym e) ∙ b.0,
      is.2 ∙ ap (λ o. served.Bytes (slice_of (file_at o).bytes off (min len read_max))) at,
    ))
shown_by numbers w caller (Names path) (Served shown) tree is =
    let walks = passes-append (walk w.rows caller 0 0 root path) _ is.0 in
    let a = met_first _ _ _ walks.1 in
    let b = met_first _ _ _ a.1 in
    seen w caller tree path walks.0 _ (λ r at. let e = row_attrs w.rows _ r at in (
      directory_kind r.file.kind (ap (λ (x : Attrs). is_directory_kind x.kind) (sym e) ∙ a.0),
      ap (λ x. grants_of caller x bits.Read) (sym e) ∙ b.0,
      (
        in_byte_order (names_in w.rows (reached w.rows root path)),
        is.2,
        are_names w.rows tree (reached w.rows root path),
      ),
    ))
shown_by numbers w caller (Write path place bytes) (Served shown) tree is = is.2
shown_by numbers w caller (SetLength path len) (Served shown) tree is = is.2
shown_by numbers w caller (Create path mode) (Served shown) tree is = is.2
shown_by numbers w caller (Mkdir path mode) (Served shown) tree is = is.2
shown_by numbers w caller (Unlink path) (Served shown) tree is = is.2
shown_by numbers w caller (Rmdir path) (Served shown) tree is = is.2
shown_by numbers w caller (Rename from to) (Served shown) tree is = is.2
shown_by numbers w caller (Chmod path mode) (Served shown) tree is = is.2
shown_by numbers w caller (Chown path uid gid) (Served shown) tree is = is.2
shown_by numbers w caller (Chflags path flags) (Served shown) tree is = is.2
shown_by numbers w caller (SetLevel level) (Served shown) tree is = is.2
shown_by numbers w caller Sync (Served shown) tree is = is.2
shown_by numbers w caller request answer tree is = tt

pub shown_law : EachCall Shown
shown_law numbers w caller request answer tree is = shown_by numbers w caller request answer tree is
