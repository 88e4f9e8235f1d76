-- What a call can do to a row that is there, and by what right, in seven cases: `fate`, on which RowLaws,
-- OneThingLemmas, PathLemmas, DoorLemmas, KeptLemmas, LockedLemmas and StrangerLemmas stand. Call by call: the row is
-- the one that the path leads to, or another, which stays; and the right is made of the tests that were met (Allowed of
-- `lfs_model`). Rename is the hard one, with three rows: the moved one, one that gives way and all others; another
-- effect of a call is a case of `Fate` more, and one in each of those files.
use Rattle.std.proofs.Common.{◌≡◌, ◌≢◌, ◌⊎◌, ◌≤◌, ℕ, ◌+◌, ◌-◌, ◌==◌, ◌&&◌, ◌||◌, not, Bool, true, false, cond, List, []}
use Rattle.std.proofs.Common.{◌∷◌, length, get_or, max, Option, None, Some, inl, inr, refl, sym, ap, subst, ◌∙◌, ⊎_elim}
use Rattle.std.proofs.Common.{arith, eqb-true, ne_eqb, ◌++◌}
use Rattle.std.proofs.lemmas.Bool.{eqb-false, not-true, cases_eq, cases_lt, or_from}
use Rattle.std.specs.FinMap as map
use Rattle.lfs_types.specs.Caller.{Caller}
use Rattle.lfs_types.specs.Kinds.{is_directory_kind}
use Rattle.lfs_types.specs.Splicing.{splice, resized}
use Rattle.lfs_types.specs.Tree.{File, Row, World, root, attrs_of}
use Rattle.lfs_types.specs.declared.answer.Answer.{Answer}
use Rattle.lfs_types.specs.declared.answer.Answer.TheVariants.{Served, Denied, Refused}
use Rattle.lfs_types.specs.declared.attrs.Attrs.{Attrs}
use Rattle.lfs_types.specs.declared.attrs.Bit.TheVariants as bits
use Rattle.lfs_types.specs.declared.attrs.Kind.{Kind}
use Rattle.lfs_types.specs.declared.attrs.Kind.TheVariants.{File as Regular, Directory}
use Rattle.lfs_types.specs.declared.request.Place.{Place}
use Rattle.lfs_types.specs.declared.request.Request.{Request}
use Rattle.lfs_types.specs.declared.request.Request.TheVariants.{Stat, Read, Write, List as Names, SetLength, Create}
use Rattle.lfs_types.specs.declared.request.Request.TheVariants.{Mkdir, Unlink, Rmdir, Rename, Chmod, Chown, Chflags}
use Rattle.lfs_types.specs.declared.request.Request.TheVariants.{SetLevel, Sync}
use Rattle.lfs_types.specs.declared.rule.Rule.TheVariants.{FitsFile}
use Rattle.std.specs.Prelude.{nat_le}
use Rattle.lfs_rules.specs.Bits.{has_bit}
use Rattle.lfs_rules.specs.Grants.{grants_of}
use Rattle.lfs_rules.specs.Locks.{is_immutable, is_append_only, may_set_flags, keeps_system_locks, changes_system_flags}
use Rattle.lfs_rules.specs.Locks.{clears_system_lock, has_system_lock}
use Rattle.lfs_rules.specs.Owners.{is_the_superuser, is_the_owner, is_in_group, is_owner_or_superuser, may_set_owner}
use Rattle.lfs_rules.specs.Securelevel.{is_above_zero}
use Rattle.lfs_rules.specs.Sticky.{is_barred}
use Rattle.lfs_model.specs.World.{child, file_at, IsChild, IsTree, Rows}
use Rattle.lfs_model.specs.Rules.{decide, first_failing, reached, front, last, row_grants, is_directory_row, attrs_at}
use Rattle.lfs_model.specs.Rules.{asks, start_in, file_max, is_end, walk, removing, arriving, moving_tests, Check}
use Rattle.lfs_model.specs.Rules.{change_tests, reaching}
use Rattle.lfs_model.specs.Effects.{effect, after_rename, with_file, with_place, without_row, mode_after, written, cut}
use Rattle.lfs_model.specs.Effects.{given}
use Rattle.lfs_laws.specs.LawGone as gone
use Rattle.lfs_laws.specs.LawMoved.{MayMove}
use Rattle.lfs_laws.specs.LawRewritten.{Appends, MayRewrite}
use Rattle.lfs_laws.specs.LawMode.{SetsMode}
use Rattle.lfs_laws.specs.LawOwner.{SetsOwner}
use Rattle.lfs_laws.specs.LawFlagged.{MayReflag}
use Rattle.lfs_laws.specs.Rights.{LeadsTo, MayRetitle, Reaches, MayWrite, Owns, MayTakeAway, MayPlace, MayReplace}
use Rattle.lfs_laws.specs.Rights.{is_fixed}
use Rattle.lfs_model.specs.Steps.{IsAnswer, LacksInodes, after_answer}
use Rattle.lfs_model.proofs.Allowed.{MayArrive, MayChange, MayGo, MayMake, MayRemove, directory_row_there, grants_attrs}
use Rattle.lfs_model.proofs.Allowed.{may_arrive, may_change, may_go, may_remove, regular_row, split_last}
use Rattle.lfs_laws.proofs.Replaced.{may_be_replaced, same_kinds}
use Rattle.lfs_model.proofs.Children.{child-is, child-none}
use Rattle.lfs_model.proofs.Deciding.{met_first, passes-append}
use Rattle.lfs_laws.proofs.LawBytes.{resized-keeps, splice-before, splice-inside, splice-behind, length-spliced}
use Rattle.lfs_laws.proofs.LawFates.{old_not_new, file_changed, file_unchanged, place_unchanged, splice_end, at_end}
use Rattle.lfs_laws.proofs.LawFates.{owner_first}
use Rattle.lfs_model.proofs.EffectTree.{childless}
use Rattle.lfs_model.proofs.Trees.{no_parent}
use Rattle.lfs_laws.proofs.Ways.{reaches_root, reaches_below, walk_reaches}
use Rattle.lfs_model.proofs.WalkLemmas.{regular_kind}
use Rattle.lfs_types.proofs.Maps.{get-insert_same, get-insert_other, get-remove_same, get-remove_other}
use Rattle.lfs_types.proofs.Pieces.{length-resized}
use Rattle.lfs_types.proofs.Somewhere.{is_some_and}

-- behind the tests of a file that may be written none of a call's own fails
pub fits_last : (rows : Rows) (caller : Caller) (path : List (List ℕ)) (appends : Bool) (more : Attrs → ℕ → List Check)
    → first_failing (reaching rows caller path (λ attrs k. change_tests caller appends attrs k ++ more attrs k)) ≡ None
    → first_failing (more (attrs_at rows (reached rows root path)) (length path)) ≡ None
fits_last rows caller path appends more h =
    let behind = (passes-append (walk rows caller 0 0 root path) _ h).1 in
    let attrs = attrs_at rows (reached rows root path) in
    (passes-append (change_tests caller appends attrs (length path)) (more attrs (length path)) behind).1

-- a mode was set, of a row whose mode the caller may change
pub record MayRemode (w : World) (caller : Caller) (request : Request) (n mode : ℕ) : Type 0 where
  pub allowed : MayRetitle w.rows caller n
  pub asked : SetsMode w n mode request

-- a caller may give a row this owner and this group, or those that it has
pub record MayGiveOrKeep (w : World) (caller : Caller) (request : Request) (n : ℕ) (r : Row)
    (uid gid : ℕ) : Type 0 where
  pub allowed : MayRetitle w.rows caller n
  pub giving : (caller.uid ≡ 0) ⊎ ((uid ≡ r.file.uid) × ((gid ≡ r.file.gid) ⊎ (is_in_group caller gid ≡ true)))
  pub asked : SetsOwner w n uid gid request

-- what came of a row, and by what right
pub data Fate (w : World) (caller : Caller) (request : Request) (v : World) (n : ℕ) (r : Row) : Type 0 where
  Stays : map.get v.rows n ≡ Some r → Fate w caller request v n r
  Goes : map.get v.rows n ≡ None → gone.MayRemove w caller request n r → gone.TakesOver w v request r
      → Fate w caller request v n r
  Moves : (parent : ℕ) (name : List ℕ) → map.get v.rows n ≡ Some (record r { parent = parent; name = name })
      → MayMove w caller request n r parent name → Fate w caller request v n r
  Changes : (bytes : List ℕ) → map.get v.rows n
      ≡ Some (record r { file = record r.file { mode = mode_after caller r.file.mode; bytes = bytes } })
      → MayRewrite w caller request n r bytes → Fate w caller request v n r
  Remodes : (mode : ℕ) → map.get v.rows n ≡ Some (record r { file = record r.file { mode = mode } })
      → MayRemode w caller request n mode → Fate w caller request v n r
  Gives : (uid gid : ℕ) → map.get v.rows n ≡ Some (record r { file = given caller uid gid r.file })
      → MayGiveOrKeep w caller request n r uid gid → Fate w caller request v n r
  Reflags : (flags : ℕ) → map.get v.rows n ≡ Some (record r { file = record r.file { flags = flags } })
      → MayReflag w caller request n r flags → Fate w caller request v n r

-- ---- tests

pub giving : (s o u g m : Bool) → (s || ((o && u) && (g || m))) ≡ true → (s ≡ true)
    ⊎ ((u ≡ true) × ((g ≡ true) ⊎ (m ≡ true)))
giving true o u g m h = inl refl
giving false true true true m h = inr (refl, inl refl)
giving false true true false true h = inr (refl, inr refl)
giving false true true false false h = absurd (cc)
giving false true false g m h = absurd (cc)
giving false false u g m h = absurd (cc)

-- whoever may set such flags is the superuser
pub only_super : (s system : Bool) → (s || not system) ≡ true → system ≡ true → s ≡ true
only_super true system h e = refl
only_super false true h e = absurd (cc)
only_super false false h e = absurd (cc)

pub not_cleared : (above clears : Bool) → not (above && clears) ≡ true → above ≡ true → clears ≡ false
not_cleared true true h e = absurd (cc)
not_cleared true false h e = refl
not_cleared false clears h e = absurd (cc)

pub moved_grants : (d stays granted : Bool) → (not d || stays || granted) ≡ true → d ≡ true → stays ≡ false → granted
    ≡ true
moved_grants true true granted h e f = absurd (cc)
moved_grants true false granted h e f = h
moved_grants false stays granted h e f = absurd (cc)

pub le-true : (a b : ℕ) → nat_le a b ≡ true → a ≤ b
le-true a b h = grind (arith)

pub most : (size end : ℕ) → end + (size - end) ≡ max size end
most size end = omega arith

-- an unbarred caller is one of three, where the directory is sticky
unbarred_one : (sticky s o d : Bool) → (sticky && not ((s || o) || d)) ≡ false → sticky ≡ true → s ≡ false → o ≡ false
    → d ≡ false → ⊥
unbarred_one true true o d h e a b c = absurd (cc)
unbarred_one true false true d h e a b c = absurd (cc)
unbarred_one true false false true h e a b c = absurd (cc)
unbarred_one true false false false h e a b c = absurd (cc)
unbarred_one false s o d h e a b c = absurd (cc)

-- ---- rows in the changed map

pub place_changed : (o : Option Row) (w : World) (n : ℕ) (r : Row) (parent : ℕ) (name : List ℕ) → o ≡ Some r
    → map.get (with_place o n parent name w).rows n ≡ Some (record r { parent = parent; name = name })
place_changed None w n r parent name e = absurd (cc)
place_changed (Some x) w n r parent name e =
    let same : x ≡ r = cc in
    get-insert_same w.rows n (record x { parent = parent; name = name })
    ∙ ap (λ (y : Row). Some (record y { parent = parent; name = name })) same

-- ---- a row at the end of a path

module _ (w : World) (caller : Caller) (tree : IsTree w.rows) (n : ℕ) (r : Row) (there : map.get w.rows n
    ≡ Some r) where
  pub attrs_there : attrs_at w.rows n ≡ attrs_of r.file
  attrs_there = ap (λ o. attrs_of (file_at o)) there

  -- what is known of the attributes at the end of a path is known of this row's
  pub known : (P : Attrs → Type 0) (m : ℕ) → n ≡ m → P (attrs_at w.rows m) → P (attrs_of r.file)
  known P m same h = subst P (ap (attrs_at w.rows) (sym same) ∙ attrs_there) h

  pub known_at : (P : Attrs → Type 0) (m : ℕ) → n ≡ m → P (attrs_at w.rows m) → P (attrs_at w.rows n)
  known_at P m same h = subst P (ap (attrs_at w.rows) (sym same)) h

  reaches_end : (path : List (List ℕ)) → n ≡ reached w.rows root path
      → (first_failing (walk w.rows caller 0 0 root path) ≡ None) → Reaches w.rows caller n
  reaches_end path same h = subst (Reaches w.rows caller) (sym same)
      (walk_reaches w.rows caller 0 0 root path (reaches_root w.rows caller tree) h)

  pub may_write : (path : List (List ℕ)) (appends : Bool) → n ≡ reached w.rows root path
      → MayChange w.rows caller path appends → MayWrite w.rows caller n
  may_write path appends same may = record {
    reaches = reaches_end path same may.walks;
    granted = ap (row_grants caller bits.Write) there
        ∙ known (λ a. grants_of caller a bits.Write ≡ true) _ same may.granted;
    mutable = known_at (λ a. is_immutable a ≡ false) _ same may.mutable;
  }

  pub owned : (path : List (List ℕ)) → n ≡ reached w.rows root path
      → (first_failing (walk w.rows caller 0 0 root path) ≡ None)
      → is_owner_or_superuser caller (attrs_at w.rows (reached w.rows root path)) ≡ true → Owns w.rows caller n
  owned path same walks h = record {
    reaches = reaches_end path same walks;
    owner = known_at (λ a. is_owner_or_superuser caller a ≡ true) _ same h;
  }

  pub loose_at : (m : ℕ) → n ≡ m → is_immutable (attrs_at w.rows m) ≡ false → is_append_only (attrs_at w.rows m) ≡ false
      → is_fixed (attrs_at w.rows n) ≡ false
  loose_at m same h e = known_at (λ a. is_fixed a ≡ false) m same (or_from _ _ h e)

  -- ---- taken away

  pub parent_is : (path : List (List ℕ)) → n ≡ reached w.rows root path → MayRemove w.rows caller path
      → reached w.rows root (front path) ≡ r.parent
  parent_is path same may =
      let row : may.hangs.row ≡ r = cc (may.hangs.there, ap (map.get w.rows) same, there) in
      sym may.hangs.hangs ∙ ap (λ (x : Row). x.parent) row

  one_of : (dir file : Attrs) → is_barred caller dir file ≡ false → has_bit dir.mode 0o1000 ≡ true → (caller.uid ≡ 0)
      ⊎ (caller.uid ≡ file.uid) ⊎ (caller.uid ≡ dir.uid)
  one_of dir file free sticky =
      ⊎_elim (λ e. inl e) (λ a. ⊎_elim (λ e. inr (inl e)) (λ b. ⊎_elim (λ e. inr (inr e))
      (λ c. absurd (unbarred_one (has_bit dir.mode 0o1000) (caller.uid == 0) (caller.uid == file.uid)
      (caller.uid == dir.uid) free sticky (ne_eqb _ _ a) (ne_eqb _ _ b) (ne_eqb _ _ c)))
      (cases_eq caller.uid dir.uid)) (cases_eq caller.uid file.uid)) (cases_eq caller.uid 0)

  pub taken : (path : List (List ℕ)) → n ≡ reached w.rows root path → MayRemove w.rows caller path
      → MayTakeAway w.rows caller n r.parent
  taken path same may =
      let up = parent_is path same may in
      let above = walk_reaches w.rows caller 0 0 root (front path) (reaches_root w.rows caller tree) may.walks in
      record {
        below = λ e. may.hangs.below (sym same ∙ e);
        reaches = reaches_below w.rows caller n r there (subst (Reaches w.rows caller) up above)
            (subst (λ p. row_grants caller bits.Search (map.get w.rows p) ≡ true) up may.searches);
        writes = subst (MayWrite w.rows caller) up
            (record { reaches = above; granted = may.granted; mutable = may.dir_mutable });
        loose = loose_at _ same may.mutable may.rewritable;
        parent_loose = subst (λ p. is_fixed (attrs_at w.rows p) ≡ false) up
            (or_from _ _ may.dir_mutable may.dir_rewritable);
        sticky = subst (λ p. has_bit (attrs_at w.rows p).mode 0o1000 ≡ true → (caller.uid ≡ 0)
            ⊎ (caller.uid ≡ (attrs_at w.rows n).uid) ⊎ (caller.uid ≡ (attrs_at w.rows p).uid)) up
            (one_of (attrs_at w.rows (reached w.rows root (front path))) (attrs_at w.rows n)
            (known_at (λ a. is_barred caller (attrs_at w.rows (reached w.rows root (front path))) a
            ≡ false) _ same may.unbarred));
      }

  -- ---- written

  put_bytes : (path : List (List ℕ)) (place : Place) (b : ℕ) (bs : List ℕ) → n ≡ reached w.rows root path
      → MayChange w.rows caller path (is_end place)
      → (nat_le (start_in place (attrs_at w.rows (reached w.rows root path)).size + length (b ∷ bs)) file_max
      ≡ true)
      → MayRewrite w caller (Write path place (b ∷ bs)) n r
      (splice r.file.bytes (start_in place (length r.file.bytes)) (b ∷ bs))
  put_bytes path place b bs same may fits =
      let start = start_in place (length r.file.bytes) in
      let within : start + length (b ∷ bs) ≤ file_max =
      le-true _ _ (known (λ a. nat_le (start_in place a.size + length (b ∷ bs)) file_max ≡ true) _ same fits) in
      let long = length-spliced r.file.bytes start b bs in
      record {
        regular = regular_kind r.file.kind (known (λ a. is_directory_kind a.kind ≡ false) _ same may.regular);
        writes = may_write path (is_end place) same may;
        size = long ∙ most (length r.file.bytes) (start + length (b ∷ bs));
        fits = λ small. omega (arith, within, long, small);
        brings = λ i value c. let inside = splice-inside r.file.bytes start b bs c.k c.inside in
            ap (λ j. get_or (splice r.file.bytes start (b ∷ bs)) j 0) (sym c.at) ∙ inside ∙ c.is;
        keeps = λ i none below. ⊎_elim
            (λ low. splice-before r.file.bytes start b bs i low)
            (λ from. ⊎_elim
            (λ low. absurd (none (get_or (b ∷ bs) (i - start) 0)
            (record { k = i - start; inside = omega (arith, from, low); at = omega (arith, from); is = refl })))
            (λ high. splice-behind r.file.bytes start b bs i high)
            (cases_lt i (start + length (b ∷ bs))))
            (cases_lt i start);
        appends = λ append.
            let at = at_end place (is_append_only (attrs_of r.file))
            (known (λ a. (is_end place || not (is_append_only a)) ≡ true) _ same may.keeps) append in (
              subst (λ p. Appends (Write path p (b ∷ bs))) (sym at) tt,
              ap (λ p. splice r.file.bytes (start_in p (length r.file.bytes)) (b ∷ bs)) at
                  ∙ splice_end r.file.bytes b bs,
            );
        asked = sym same;
      }

  cut_bytes : (path : List (List ℕ)) (len : ℕ) → n ≡ reached w.rows root path
      → MayChange w.rows caller path false → (nat_le len file_max ≡ true)
      → MayRewrite w caller (SetLength path len) n r (resized r.file.bytes len)
  cut_bytes path len same may fits =
      let within : len ≤ file_max = le-true _ _ fits in
      let long = length-resized r.file.bytes len in
      record {
        regular = regular_kind r.file.kind (known (λ a. is_directory_kind a.kind ≡ false) _ same may.regular);
        writes = may_write path false same may;
        size = long;
        fits = λ small. omega (arith, within, long);
        brings = λ i value c. absurd c;
        keeps = λ i none below. resized-keeps r.file.bytes len i (omega (arith, long, below));
        appends = λ append.
            let loose = not-true _ (known (λ a. (false || not (is_append_only a)) ≡ true) _ same may.keeps) in
            absurd (cc (append, loose));
        asked = sym same;
      }

-- ---- each call

-- the path of a call that may give a new name leads to it
pub leads_last : (w : World) (caller : Caller) (path : List (List ℕ)) → MayMake w.rows caller path
    → LeadsTo w.rows path (reached w.rows root (front path)) (last path)
leads_last w caller path may = record { front = front path; split = split_last path may.filled; leads = refl }

-- where a call may give a new name, a row may be placed
pub placed : (w : World) (caller : Caller) → IsTree w.rows → (path : List (List ℕ)) → MayMake w.rows caller path
    → MayPlace w.rows caller (reached w.rows root (front path)) (last path)
placed w caller tree path may = record {
  directory = may.directory;
  writes = record {
    reaches = walk_reaches w.rows caller 0 0 root (front path)
        (reaches_root w.rows caller tree) may.walks;
    granted = may.granted;
    mutable = may.mutable;
  };
  searches = may.searches;
  free = child-none w.rows _ (last path) may.free;
}

module _ (numbers : ℕ) (w : World) (caller : Caller) (tree : IsTree w.rows) (n : ℕ) (r : Row) (there : map.get w.rows n
    ≡ Some r) where
  -- a change of a file at the end of a path, or of another
  changed_fate : (request : Request) (path : List (List ℕ)) (change : File → File)
      → (n ≡ reached w.rows root path → map.get
      (with_file (map.get w.rows (reached w.rows root path)) (reached w.rows root path) change w).rows n
      ≡ Some (record r { file = change r.file })
      → Fate w caller request (with_file (map.get w.rows (reached w.rows root path))
      (reached w.rows root path) change w) n r)
      → Fate w caller request (with_file (map.get w.rows (reached w.rows root path))
      (reached w.rows root path) change w) n r
  changed_fate request path change here = ⊎_elim
      (λ same. here same (file_changed w n _ r change there same))
      (λ other. Stays (file_unchanged (map.get w.rows (reached w.rows root path)) w n _ change other ∙ there))
      (cases_eq n (reached w.rows root path))

  -- a removed row, or another
  removed_fate : (request : Request) (path : List (List ℕ)) → MayRemove w.rows caller path
      → (n ≡ reached w.rows root path → (name : List ℕ) (m : ℕ) → IsChild w.rows n name m → ⊥)
      → (n ≡ reached w.rows root path → gone.Removes w n r.file.kind request)
      → gone.TakesOver w (record w { rows = map.remove w.rows (reached w.rows root path) }) request r
      → Fate w caller request (record w { rows = map.remove w.rows (reached w.rows root path) }) n r
  removed_fate request path may empty asked over = ⊎_elim
      (λ same. Goes (ap (map.get (map.remove w.rows (reached w.rows root path))) same
      ∙ get-remove_same w.rows (reached w.rows root path))
      (record { taken = taken w caller tree n r there path same may; childless = empty same; asked = asked same }) over)
      (λ other. Stays (get-remove_other w.rows (reached w.rows root path) n other ∙ there))
      (cases_eq n (reached w.rows root path))

  row_directory : (m : ℕ) → n ≡ m → is_directory_row (map.get w.rows m) ≡ is_directory_kind r.file.kind
  row_directory m same = ap is_directory_row (ap (map.get w.rows) (sym same) ∙ there)

  unlinks : (path : List (List ℕ)) (k : Kind) → is_directory_kind k ≡ false → reached w.rows root path ≡ n
      → gone.Removes w n k (Unlink path)
  unlinks path Regular h e = e
  unlinks path Directory h e = absurd (cc)

  rmdirs : (path : List (List ℕ)) (k : Kind) → is_directory_kind k ≡ true → reached w.rows root path ≡ n
      → gone.Removes w n k (Rmdir path)
  rmdirs path Regular h e = absurd (cc)
  rmdirs path Directory h e = e

  directory_tested : (k : Kind) → k ≡ Directory → is_directory_kind k ≡ true
  directory_tested k e = ap is_directory_kind e

  -- ---- a row that gets another place

  renames : (from to : List (List ℕ)) (k : Kind) → reached w.rows root to ≡ n
      → gone.IsAnother w n k (reached w.rows root from) → gone.Removes w n k (Rename from to)
  renames from to Regular h e = (h, e)
  renames from to Directory h e = (h, e)

  -- the moved row, in a world where the row that had its place may be gone
  moves : (from to : List (List ℕ)) (v : World) (o : Option ℕ) → map.get v.rows n
      ≡ Some (record r { parent = reached w.rows root (front to); name = last to })
      → n ≡ reached w.rows root from → MayRemove w.rows caller from → MayArrive w.rows caller to
      → MayGo w.rows caller from to o
      → ((m : ℕ) → IsChild w.rows (reached w.rows root (front to)) (last to) m
      → MayReplace w.rows caller r.file.kind m (reached w.rows root (front to)))
      → Fate w caller (Rename from to) v n r
  moves from to v o is same out into goes gives =
      let up = parent_is w caller tree n r there from same out in
      let dir = directory_row_there _ into.directory in
      Moves _ _ is (record {
        taken = taken w caller tree n r there from same out;
        placed = record {
          directory = into.directory;
          writes = record {
            reaches = walk_reaches w.rows caller 1 0 root (front to) (reaches_root w.rows caller tree) into.walks;
            granted = grants_attrs caller bits.Write _ dir ∙ goes.enters.granted;
            mutable = goes.enters.mutable;
          };
          searches = into.searches;
          there = gives;
        };
        directory = λ kind apart.
            let moved = attrs_at w.rows (reached w.rows root from) in
            let seen : moved ≡ attrs_of r.file = ap (attrs_at w.rows) (sym same)
            ∙ attrs_there w caller tree n r there in
            ap (row_grants caller bits.Write) there
            ∙ ap (λ a. grants_of caller a bits.Write) (sym seen)
            ∙ moved_grants (is_directory_kind moved.kind)
            (reached w.rows root (front from) == reached w.rows root (front to))
            (grants_of caller moved bits.Write) goes.leaves
            (ap (λ (a : Attrs). is_directory_kind a.kind) seen ∙ directory_tested r.file.kind kind)
            (ne_eqb (reached w.rows root (front from)) (reached w.rows root (front to)) (λ e. apart (sym e ∙ up)));
        asked = (sym same, record { front = front to; split = split_last to into.filled; leads = refl });
      })

  -- to a place that is free
  moved_fate : (from to : List (List ℕ)) → MayRemove w.rows caller from → MayArrive w.rows caller to
      → MayGo w.rows caller from to None
      → child w.rows (reached w.rows root (front to)) (last to) ≡ None
      → Fate w caller (Rename from to) (with_place (map.get w.rows (reached w.rows root from))
      (reached w.rows root from) (reached w.rows root (front to)) (last to) w) n r
  moved_fate from to out into goes free = ⊎_elim
      (λ same.
      moves from to _ None
      (subst (λ m. map.get (with_place (map.get w.rows m) m (reached w.rows root (front to)) (last to) w).rows n
      ≡ Some (record r { parent = reached w.rows root (front to); name = last to })) same
      (place_changed (map.get w.rows n) w n r (reached w.rows root (front to)) (last to) there))
      same out into goes (λ m c. absurd (child-none w.rows _ (last to) free m c)))
      (λ other. Stays (place_unchanged (map.get w.rows (reached w.rows root from)) w n _
      (reached w.rows root (front to)) (last to) other ∙ there))
      (cases_eq n (reached w.rows root from))

  -- to that of another row
  swapped_fate : (from to : List (List ℕ)) (m : ℕ) → MayRemove w.rows caller from → MayArrive w.rows caller to
      → MayGo w.rows caller from to (Some m)
      → child w.rows (reached w.rows root (front to)) (last to) ≡ Some m → m ≢ reached w.rows root from
      → Fate w caller (Rename from to) (with_place (map.get w.rows (reached w.rows root from))
      (reached w.rows root from) (reached w.rows root (front to)) (last to) (without_row m w)) n r
  swapped_fate from to m out into goes is apart =
      let moved = reached w.rows root from in
      let dir = reached w.rows root (front to) in
      let after = with_place (map.get w.rows moved) moved dir (last to) (without_row m w) in
      let both = may_be_replaced w.rows tree caller from to m into goes is in
      let hangs = child-is w.rows dir (last to) m is in
      let way = goes.gives m refl in
      let alike = same_kinds _ _ way.files way.directories in
      let empty = childless w.rows m way.empty in
      let went = out.hangs in
      ⊎_elim
      (λ same.
      moves from to after (Some m)
      (subst (λ k. map.get (with_place (map.get w.rows k) k dir (last to) (without_row m w)).rows n
      ≡ Some (record r { parent = dir; name = last to })) same
      (place_changed (map.get w.rows n) (without_row m w) n r dir (last to) there))
      same out into goes
      (λ k c.
      let one : m ≡ k = tree.unique dir (last to) m k hangs c in
      subst (λ q. MayReplace w.rows caller r.file.kind q dir) one (record {
        taken = subst (λ q. MayTakeAway w.rows caller m q) hangs.hangs
            (taken w caller tree m hangs.row hangs.there to (sym both.0) both.1);
        childless = empty;
        alike = is_some_and (λ (x : Row). x.file.kind ≡ r.file.kind) hangs.there
            (sym (ap (λ (a : Attrs). a.kind) (attrs_there w caller tree m hangs.row hangs.there)) ∙ alike
            ∙ ap (λ (a : Attrs). a.kind) (ap (attrs_at w.rows) (sym same) ∙ attrs_there w caller tree n r there));
      })))
      (λ other.
      let kept = place_unchanged (map.get w.rows moved) (without_row m w) n moved dir (last to) other in
      ⊎_elim
      (λ gone_one. Goes (kept ∙ ap (map.get (map.remove w.rows m)) gone_one ∙ get-remove_same w.rows m)
      (record {
        taken = taken w caller tree n r there to (gone_one ∙ sym both.0) both.1;
        childless = subst (λ q. (name : List ℕ) (k : ℕ) → IsChild w.rows q name k → ⊥) (sym gone_one) empty;
        asked = renames from to r.file.kind (both.0 ∙ sym gone_one) (
          λ e. other (sym e),
          is_some_and (λ (x : Row). x.file.kind ≡ r.file.kind) went.there
              (sym (ap (λ (a : Attrs). a.kind) (attrs_there w caller tree moved went.row went.there)) ∙ sym alike
              ∙ ap (λ (a : Attrs). a.kind) (ap (attrs_at w.rows) (sym gone_one) ∙ attrs_there w caller tree n r there)),
        );
      })
      (let own : hangs.row ≡ r = cc (hangs.there, ap (map.get w.rows) gone_one, there) in
      is_some_and (λ (x : Row). (x.parent ≡ r.parent) × (x.name ≡ r.name))
      (place_changed (map.get w.rows moved) (without_row m w) moved went.row dir (last to) went.there)
      (sym hangs.hangs ∙ ap (λ (x : Row). x.parent) own, sym hangs.named ∙ ap (λ (x : Row). x.name) own)))
      (λ away. Stays (kept ∙ get-remove_other w.rows m n away ∙ there))
      (cases_eq n m))
      (cases_eq n moved)

  over_fate : (from to : List (List ℕ)) (m : ℕ) (b : Bool) → (m == reached w.rows root from) ≡ b
      → MayRemove w.rows caller from → MayArrive w.rows caller to
      → child w.rows (reached w.rows root (front to)) (last to) ≡ Some m
      → (b ≡ false → MayGo w.rows caller from to (Some m))
      → Fate w caller (Rename from to)
      (cond b w (with_place (map.get w.rows (reached w.rows root from)) (reached w.rows root from)
      (reached w.rows root (front to)) (last to) (without_row m w))) n r
  over_fate from to m true e out into is goes = Stays there
  over_fate from to m false e out into is goes =
      swapped_fate from to m out into (goes refl) is (eqb-false m (reached w.rows root from) e)

  -- whatever has the place
  renamed_fate : (from to : List (List ℕ)) → MayRemove w.rows caller from → MayArrive w.rows caller to → (o : Option ℕ)
      → child w.rows (reached w.rows root (front to)) (last to) ≡ o
      → first_failing (moving_tests w.rows caller from to o) ≡ None
      → Fate w caller (Rename from to) (after_rename w (reached w.rows root from) o (reached w.rows root (front to))
      (last to)) n r
  renamed_fate from to out into None e h = moved_fate from to out into (may_go w.rows caller from to None refl h) e
  renamed_fate from to out into (Some m) e h =
      over_fate from to m (m == reached w.rows root from) refl out into e
      (λ other. may_go w.rows caller from to (Some m) other h)

  -- what each call makes of a row
  served_fate : (request : Request) → decide w caller request ≡ None → (LacksInodes numbers w request → ⊥)
      → Fate w caller request (effect numbers w caller request) n r
  served_fate (Stat path) allowed room = Stays there
  served_fate (Read path off len) allowed room = Stays there
  served_fate (Names path) allowed room = Stays there
  served_fate (Write path place []) allowed room = Stays there
  served_fate (Write path place (b ∷ bs)) allowed room =
      let more = λ (attrs : Attrs) (k : ℕ). asks
      (nat_le (start_in place attrs.size + length (b ∷ bs)) file_max) FitsFile 0 k ∷ [] in
      let may = may_change w.rows caller path (is_end place) more allowed in
      let fits = fits_last w.rows caller path (is_end place) more allowed in
      changed_fate _ path (written caller place (b ∷ bs))
      (λ same e. Changes _ e (put_bytes w caller tree n r there path place b bs same may (met_first _ _ _ fits).0))
  served_fate (SetLength path len) allowed room =
      let more = λ (attrs : Attrs) (k : ℕ). asks (nat_le len file_max) FitsFile 0 k ∷ [] in
      let may = may_change w.rows caller path false more allowed in
      let fits = fits_last w.rows caller path false more allowed in
      changed_fate _ path (cut caller len) (λ same e. Changes _ e
      (cut_bytes w caller tree n r there path len same may (met_first _ _ _ fits).0))
  served_fate (Create path mode) allowed room =
      Stays (get-insert_other w.rows _ _ n (old_not_new numbers w.rows n r room there) ∙ there)
  served_fate (Mkdir path mode) allowed room =
      Stays (get-insert_other w.rows _ _ n (old_not_new numbers w.rows n r room there) ∙ there)
  served_fate (Unlink path) allowed room =
      let two = passes-append (removing w.rows caller path) _ allowed in
      let file = regular_row _ (not-true _ (met_first _ _ _ two.1).0) in
      removed_fate _ path (may_remove w.rows caller path two.0)
      (λ same. no_parent w.rows tree n (ap (λ m. is_directory_row (map.get w.rows m)) same ∙ file))
      (λ same. unlinks path r.file.kind (sym (row_directory _ same) ∙ file) (sym same)) tt
  served_fate (Rmdir path) allowed room =
      let two = passes-append (removing w.rows caller path) _ allowed in
      let dir = met_first _ _ _ two.1 in
      let empty = met_first _ _ _ dir.1 in
      removed_fate _ path (may_remove w.rows caller path two.0)
      (λ same. subst (λ m. (name : List ℕ) (q : ℕ) → IsChild w.rows m name q → ⊥) (sym same)
      (childless w.rows (reached w.rows root path) empty.0))
      (λ same. rmdirs path r.file.kind (known w caller tree n r there (λ a. is_directory_kind a.kind
      ≡ true) _ same dir.0) (sym same)) tt
  served_fate (Rename from to) allowed room =
      let one = passes-append (removing w.rows caller from) _ allowed in
      let two = passes-append (arriving w.rows caller to) _ one.1 in
      renamed_fate from to (may_remove w.rows caller from one.0) (may_arrive w.rows tree caller to two.0) _ refl two.1
  served_fate (Chmod path mode) allowed room =
      let walks = passes-append (walk w.rows caller 0 0 root path) _ allowed in
      let a = met_first _ _ _ walks.1 in
      let b = met_first _ _ _ a.1 in
      let c = met_first _ _ _ b.1 in
      changed_fate _ path (λ f. record f { mode = mode }) (λ same e. Remodes mode e (record {
        allowed = record {
          owns = owned w caller tree n r there path same walks.0 c.0;
          loose = loose_at w caller tree n r there _ same (not-true _ a.0) (not-true _ b.0);
        };
        asked = (sym same, refl);
      }))
  served_fate (Chown path uid gid) allowed room =
      let walks = passes-append (walk w.rows caller 0 0 root path) _ allowed in
      let a = met_first _ _ _ walks.1 in
      let b = met_first _ _ _ a.1 in
      let c = met_first _ _ _ b.1 in
      changed_fate _ path (given caller uid gid) (λ same e.
      let may : may_set_owner caller (attrs_of r.file) uid gid
      ≡ true = known w caller tree n r there (λ x. may_set_owner caller x uid gid ≡ true) _ same c.0 in
      Gives uid gid e (record {
        allowed = record {
          owns = owned w caller tree n r there path same walks.0
              (owner_first (is_the_superuser caller) (is_the_owner caller (attrs_at w.rows (reached w.rows root path)))
              (uid == (attrs_at w.rows (reached w.rows root path)).uid) _ c.0);
          loose = loose_at w caller tree n r there _ same (not-true _ a.0) (not-true _ b.0);
        };
        giving = ⊎_elim
            (λ s. inl (eqb-true caller.uid 0 s))
            (λ two. inr (
              eqb-true uid r.file.uid two.0,
              ⊎_elim (λ g. inl (eqb-true gid r.file.gid g)) (λ m. inr m) two.1,
            ))
            (giving (is_the_superuser caller) (is_the_owner caller (attrs_of r.file)) (uid == r.file.uid)
            (gid == r.file.gid) (is_in_group caller gid) may);
        asked = (sym same, refl, refl);
      }))
  served_fate (Chflags path flags) allowed room =
      let walks = passes-append (walk w.rows caller 0 0 root path) _ allowed in
      let a = met_first _ _ _ walks.1 in
      let b = met_first _ _ _ a.1 in
      let c = met_first _ _ _ b.1 in
      changed_fate _ path (λ f. record f { flags = flags }) (λ same e. Reflags flags e (record {
        owns = owned w caller tree n r there path same walks.0 a.0;
        system = λ system. eqb-true caller.uid 0
            (only_super (is_the_superuser caller) (changes_system_flags r.file.flags flags || has_system_lock
            r.file.flags) (known w caller tree n r there (λ x. may_set_flags caller x.flags flags ≡ true) _ same b.0)
            system);
        locks = not_cleared (is_above_zero w.level) (clears_system_lock r.file.flags flags)
            (known w caller tree n r there (λ x. keeps_system_locks w.level x.flags flags ≡ true) _ same c.0);
        asked = (sym same, refl);
      }))
  served_fate (SetLevel level) allowed room = Stays there
  served_fate Sync allowed room = Stays there

  -- what a call makes of a row that was answered so
  pub fate : (request : Request) (answer : Answer) → IsAnswer numbers w caller request answer
      → Fate w caller request (after_answer numbers w caller request answer) n r
  fate request (Served shown) is = served_fate request is.0 is.1
  fate request (Denied denial) is = Stays there
  fate request (Refused resource) is = Stays there
