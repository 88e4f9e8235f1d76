-- Whom no rule denies a call may make it, in the words of Rights: `may`, for DoneLemmas, and with ServedLemmas the law
-- `served_exactly_where_he_may` (`served_exactly`), so also `answered_as_may` for RefusedLemmas. Call by call, each met
-- test is one of the facts that `May` asks for, and a walk that passes leads to a row which the caller reaches
-- (`led_met`). The hard call is a Rename: the row that gives way is the one found at the second path's end, or is the
-- moved one itself; a test dropped from the table leaves a fact of `May` unproved.
use Rattle.std.proofs.Common.{◌≡◌, ◌≢◌, ℕ, suc, ◌+◌, ◌==◌, ◌||◌, not, Bool, true, false, List, [], ◌∷◌, length, Option}
use Rattle.std.proofs.Common.{None, Some, inl, inr, refl, sym, ap, subst, ◌∙◌, ⊎_elim, arith, eqb-true, ne_eqb}
use Rattle.std.proofs.lemmas.Bool.{not-true}
use Rattle.std.specs.Prelude.{nat_le}
use Rattle.std.specs.FinMap as map
use Rattle.lfs_types.specs.Caller.{Caller}
use Rattle.lfs_types.specs.Kinds.{is_directory_kind}
use Rattle.lfs_types.specs.Tree.{Row, World, root, attrs_of}
use Rattle.lfs_types.specs.declared.answer.Answer.{Answer}
use Rattle.lfs_types.specs.declared.answer.Answer.TheVariants.{Served, Denied, Refused}
use Rattle.lfs_types.specs.declared.attrs.Attrs.{Attrs}
use Rattle.lfs_types.specs.declared.attrs.Bit.TheVariants as bits
use Rattle.lfs_types.specs.declared.request.Request.{Request}
use Rattle.lfs_types.specs.declared.request.Request.TheVariants.{Stat, Read, Write, List as Names, SetLength, Create}
use Rattle.lfs_types.specs.declared.request.Request.TheVariants.{Mkdir, Unlink, Rmdir, Rename, Chmod, Chown, Chflags}
use Rattle.lfs_types.specs.declared.request.Request.TheVariants.{SetLevel, Sync}
use Rattle.lfs_types.specs.declared.rule.Rule.TheVariants.{FitsFile}
use Rattle.lfs_rules.specs.Grants.{grants_of}
use Rattle.lfs_rules.specs.Locks.{is_append_only, may_set_flags, keeps_system_locks, changes_system_flags}
use Rattle.lfs_rules.specs.Locks.{clears_system_lock, has_system_lock}
use Rattle.lfs_rules.specs.Owners.{is_the_superuser, is_the_owner, is_in_group, may_set_owner}
use Rattle.lfs_rules.specs.Securelevel.{is_above_zero, is_lower}
use Rattle.lfs_model.specs.World.{Rows, child, IsChild, IsTree}
use Rattle.lfs_laws.specs.LawDenied.{child_of, led}
use Rattle.lfs_laws.specs.LawServed.{HasPlace, HasPlaceFor, HasRow, IsAnsweredAsMay, May, MayBring, MayHang}
use Rattle.lfs_laws.specs.LawServed.{ServedExactlyWhereMay}
use Rattle.lfs_laws.specs.Rights.{MayReplace, MayTakeAway, Reaches}
use Rattle.lfs_model.specs.Rules.{arriving, asks, attrs_at, decide, file_max, first_failing, front, is_end, is_there}
use Rattle.lfs_model.specs.Rules.{last, making, moving_tests, next, reached, removing, start_in, walk}
use Rattle.lfs_model.specs.Steps.{IsAnswer}
use Rattle.lfs_model.proofs.Allowed.{MayArrive, MayGo, MayRemove, child_there, directory_row_there, grants_attrs}
use Rattle.lfs_model.proofs.Allowed.{may_arrive, may_change, may_go, may_make, may_remove, path_there}
use Rattle.lfs_laws.proofs.Replaced.{may_be_replaced, same_kinds}
use Rattle.lfs_model.proofs.Children.{child-is, child-none}
use Rattle.lfs_model.proofs.EffectTree.{childless}
use Rattle.lfs_types.proofs.Somewhere.{is_some_and}
use Rattle.lfs_model.proofs.Deciding.{met_first, passes-append}
use Rattle.lfs_laws.proofs.Fates.{attrs_there, fits_last, giving, known, le-true, loose_at, may_write, moved_grants}
use Rattle.lfs_laws.proofs.Fates.{not_cleared, only_super, owned, parent_is, placed, taken}
use Rattle.lfs_laws.proofs.LawFlags.{by_init}
use Rattle.lfs_model.proofs.MovedWay.{no_ancestor}
use Rattle.lfs_laws.proofs.ServedLemmas.{served}
use Rattle.lfs_laws.proofs.Ways.{reaches_root, walk_reaches}
use Rattle.lfs_laws.proofs.LawFates.{owner_first}
use Rattle.lfs_model.proofs.WalkLemmas.{directory_kind, regular_kind}

-- names along which a walk passes lead to a row
led_met : (rows : Rows) (caller : Caller) (path k at : ℕ) (names : List (List ℕ))
    → first_failing (walk rows caller path k at names) ≡ None → led rows (Some at) names ≡ Some (reached rows at names)
led_met rows caller path k at [] h = refl
led_met rows caller path k at (name ∷ names) h =
    let c = met_first _ _ _ (met_first _ _ _ (met_first _ _ _ h).1).1 in
    ap (λ o. led rows o names) (child_there _ _ c.0 refl)
    ∙ led_met rows caller path (k + 1) (next rows at name) names c.1

-- the last name leads on from where those before it lead
led_end : (rows : Rows) (at : ℕ) (names : List (List ℕ)) → (length names == 0) ≡ false → led rows (Some at) names
    ≡ child_of rows (led rows (Some at) (front names)) (last names)
led_end rows at names h = led_from (Some at) names h
  where
    led_from : (o : Option ℕ) (names : List (List ℕ)) → (length names == 0) ≡ false → led rows o names
        ≡ child_of rows (led rows o (front names)) (last names)
    led_from o [] h = absurd (cc)
    led_from o (name ∷ []) h = refl
    led_from o (name ∷ second ∷ names) h = led_from (child_of rows o name) (second ∷ names)
        (ne_eqb (length (second ∷ names)) 0 (omega arith))

some_path : (path : List (List ℕ)) → (length path == 0) ≡ false → path ≢ []
some_path path h e = let none = ap (λ (l : List (List ℕ)). length l == 0) e in absurd (cc)

none_left : (l : List ℕ) → (length l == 0) ≡ true → l ≡ []
none_left [] h = refl
none_left (x ∷ xs) h = let none = eqb-true (suc (length xs)) 0 h in absurd (omega (arith, none))

module _ (w : World) (caller : Caller) (tree : IsTree w.rows) where
  reaches : (path : List (List ℕ)) → first_failing (walk w.rows caller 0 0 root path) ≡ None
      → Reaches w.rows caller (reached w.rows root path)
  reaches path walks = walk_reaches w.rows caller 0 0 root path (reaches_root w.rows caller tree) walks

  -- the row at the end of a path along which a walk passes
  at_end : (path : List (List ℕ)) (P : ℕ → Row → Type 0) → first_failing (walk w.rows caller 0 0 root path) ≡ None
      → ((r : Row) → map.get w.rows (reached w.rows root path) ≡ Some r → P (reached w.rows root path) r)
      → HasRow w path P
  at_end path P walks holds = let there = path_there w.rows tree caller 0 path walks in record {
    number = reached w.rows root path;
    row = there.value;
    leads = led_met w.rows caller 0 0 root path walks;
    there = there.is;
    holds = holds there.value there.is;
  }

  place_at : (path : List (List ℕ)) (P : ℕ → Type 0) → first_failing (making w.rows caller path) ≡ None
      → P (reached w.rows root (front path)) → HasPlace w caller path P
  place_at path P h holds = let may = may_make w.rows tree caller path h in record {
    parent = reached w.rows root (front path);
    filled = some_path path may.filled;
    leads = led_met w.rows caller 0 0 root (front path) may.walks;
    placed = placed w caller tree path may;
    holds = holds;
  }

  -- the walk of what a removal takes away
  removed_walk : (path : List (List ℕ)) → first_failing (removing w.rows caller path) ≡ None
      → first_failing (walk w.rows caller 0 0 root path) ≡ None
  removed_walk path h = (passes-append (walk w.rows caller 0 0 root path) _ (met_first _ _ _ h).1).0

  -- a row that has the place already
  brought_itself : (to : List (List ℕ)) (moved : ℕ) (r : Row) (o : Option ℕ)
      → child w.rows (reached w.rows root (front to)) (last to) ≡ o → MayArrive w.rows caller to
      → is_there moved o ≡ true → MayBring w caller to moved r
  brought_itself to moved r None e into same = absurd (cc)
  brought_itself to moved r (Some m) e into same =
      let led_dir = led_met w.rows caller 1 0 root (front to) into.walks in
      inl (led_end w.rows root to into.filled ∙ ap (λ o. child_of w.rows o (last to)) led_dir ∙ e
      ∙ ap Some (eqb-true m moved same))

  -- what has the place gives way
  gives_way : (from to : List (List ℕ)) (r : Row) (o : Option ℕ)
      → child w.rows (reached w.rows root (front to)) (last to) ≡ o
      → map.get w.rows (reached w.rows root from) ≡ Some r → MayArrive w.rows caller to → MayGo w.rows caller from to o
      → (k : ℕ) → IsChild w.rows (reached w.rows root (front to)) (last to) k
      → MayReplace w.rows caller r.file.kind k (reached w.rows root (front to))
  gives_way from to r None e there into goes k c =
      absurd (child-none w.rows (reached w.rows root (front to)) (last to) e k c)
  gives_way from to r (Some m) e there into goes k c =
      let dir = reached w.rows root (front to) in
      let both = may_be_replaced w.rows tree caller from to m into goes e in
      let hangs = child-is w.rows dir (last to) m e in
      let way = goes.gives m refl in
      let one : m ≡ k = tree.unique dir (last to) m k hangs c in
      subst (λ q. MayReplace w.rows caller r.file.kind q dir) one (record {
        taken = subst (λ q. MayTakeAway w.rows caller m q) hangs.hangs
            (taken w caller tree m hangs.row hangs.there to (sym both.0) both.1);
        childless = childless w.rows m way.empty;
        alike = is_some_and (λ (x : Row). x.file.kind ≡ r.file.kind) hangs.there
            (sym (ap (λ (a : Attrs). a.kind) (attrs_there w caller tree m hangs.row hangs.there))
            ∙ same_kinds _ _ way.files way.directories
            ∙ ap (λ (a : Attrs). a.kind) (attrs_there w caller tree (reached w.rows root from) r there));
      })

  -- and one that may get it
  brought_there : (from to : List (List ℕ)) (r : Row) (o : Option ℕ)
      → child w.rows (reached w.rows root (front to)) (last to) ≡ o
      → map.get w.rows (reached w.rows root from) ≡ Some r → MayRemove w.rows caller from → MayArrive w.rows caller to
      → MayGo w.rows caller from to o
      → HasPlaceFor w caller to r.file.kind (MayHang w caller (reached w.rows root from) r)
  brought_there from to r o e there out into goes =
      let moved = reached w.rows root from in
      let dir = reached w.rows root (front to) in
      let up = parent_is w caller tree moved r there from refl out in
      let seen = attrs_there w caller tree moved r there in
      let takes = taken w caller tree moved r there from refl out in
      record {
        parent = dir;
        filled = some_path to into.filled;
        leads = led_met w.rows caller 1 0 root (front to) into.walks;
        placed = record {
          directory = into.directory;
          writes = record {
            reaches = walk_reaches w.rows caller 1 0 root (front to) (reaches_root w.rows caller tree) into.walks;
            granted = grants_attrs caller bits.Write _ (directory_row_there _ into.directory) ∙ goes.enters.granted;
            mutable = goes.enters.mutable;
          };
          searches = into.searches;
          there = gives_way from to r o e there into goes;
        };
        holds = record {
          apart = no_ancestor w.rows tree caller 1 moved dir (front to) into.way takes.below goes.apart;
          granted = λ kind apart.
              ap (λ a. grants_of caller a bits.Write) (sym seen)
              ∙ moved_grants (is_directory_kind (attrs_at w.rows moved).kind) (reached w.rows root (front from) == dir)
              (grants_of caller (attrs_at w.rows moved) bits.Write) goes.leaves
              (ap (λ (a : Attrs). is_directory_kind a.kind) seen ∙ ap is_directory_kind kind)
              (ne_eqb (reached w.rows root (front from)) dir (λ e. apart (sym e ∙ up)));
        };
      }

  brought : (from to : List (List ℕ)) (r : Row) (o : Option ℕ) → child w.rows (reached w.rows root (front to)) (last to)
      ≡ o
      → map.get w.rows (reached w.rows root from) ≡ Some r → MayRemove w.rows caller from → MayArrive w.rows caller to
      → first_failing (moving_tests w.rows caller from to o) ≡ None
      → (b : Bool) → is_there (reached w.rows root from) o ≡ b → MayBring w caller to (reached w.rows root from) r
  brought from to r o e there out into h true same = brought_itself to (reached w.rows root from) r o e into same
  brought from to r o e there out into h false other =
      inr (brought_there from to r o e there out into (may_go w.rows caller from to o other h))

  rename_may : (from to : List (List ℕ)) → decide w caller (Rename from to) ≡ None → May w caller (Rename from to)
  rename_may from to h =
      let one = passes-append (removing w.rows caller from) _ h in
      let two = passes-append (arriving w.rows caller to) _ one.1 in
      let out = may_remove w.rows caller from one.0 in
      let into = may_arrive w.rows tree caller to two.0 in
      at_end from _ (removed_walk from one.0) (λ r there. (
        taken w caller tree (reached w.rows root from) r there from refl out,
        brought from to r _ refl there out into two.1 _ refl,
      ))

  -- whom no rule denies a call may make it
  pub may : (request : Request) → decide w caller request ≡ None → May w caller request
  may (Stat path) h = let walks = passes-append (walk w.rows caller 0 0 root path) _ h in
      at_end path _ walks.0 (λ r there. reaches path walks.0)
  may (Read path off len) h =
      let walks = passes-append (walk w.rows caller 0 0 root path) _ h in
      let a = met_first _ _ _ walks.1 in
      let b = met_first _ _ _ a.1 in
      at_end path _ walks.0 (λ r there. (
        reaches path walks.0,
        regular_kind _ (known w caller tree _ r there (λ x. is_directory_kind x.kind ≡ false) _ refl (not-true _ a.0)),
        known w caller tree _ r there (λ x. grants_of caller x bits.Read ≡ true) _ refl b.0,
      ))
  may (Names path) h =
      let walks = passes-append (walk w.rows caller 0 0 root path) _ h in
      let a = met_first _ _ _ walks.1 in
      let b = met_first _ _ _ a.1 in
      at_end path _ walks.0 (λ r there. (
        reaches path walks.0,
        directory_kind _ (known w caller tree _ r there (λ x. is_directory_kind x.kind ≡ true) _ refl a.0),
        known w caller tree _ r there (λ x. grants_of caller x bits.Read ≡ true) _ refl b.0,
      ))
  may (Write path place bytes) h =
      let more = λ (attrs : Attrs) (k : ℕ). asks
      (nat_le (start_in place attrs.size + length bytes) file_max) FitsFile 0 k ∷ [] in
      let change = may_change w.rows caller path (is_end place) more h in
      let fits = met_first _ _ _ (fits_last w.rows caller path (is_end place) more h) in
      at_end path _ change.walks (λ r there. (
        regular_kind _ (known w caller tree _ r there (λ x. is_directory_kind x.kind ≡ false) _ refl change.regular),
        may_write w caller tree _ r there path (is_end place) refl change,
        (λ e. only_super (is_end place) _ (known w caller tree _ r there (λ x. (is_end place || not (is_append_only x))
            ≡ true) _ refl change.keeps) e),
        le-true _ _ (known w caller tree _ r there (λ x. nat_le (start_in place x.size + length bytes) file_max
            ≡ true) _ refl fits.0),
      ))
  may (SetLength path len) h =
      let more = λ (attrs : Attrs) (k : ℕ). asks (nat_le len file_max) FitsFile 0 k ∷ [] in
      let change = may_change w.rows caller path false more h in
      let fits = met_first _ _ _ (fits_last w.rows caller path false more h) in
      at_end path _ change.walks (λ r there. (
        regular_kind _ (known w caller tree _ r there (λ x. is_directory_kind x.kind ≡ false) _ refl change.regular),
        may_write w caller tree _ r there path false refl change,
        not-true _ (known w caller tree _ r there (λ x. (false || not (is_append_only x)) ≡ true) _ refl change.keeps),
        le-true _ _ fits.0,
      ))
  may (Create path mode) h = place_at path _ h tt
  may (Mkdir path mode) h = place_at path _ h tt
  may (Unlink path) h =
      let two = passes-append (removing w.rows caller path) _ h in
      let file = met_first _ _ _ two.1 in
      at_end path _ (removed_walk path two.0) (λ r there. (
        taken w caller tree _ r there path refl (may_remove w.rows caller path two.0),
        regular_kind _ (known w caller tree _ r there (λ x. is_directory_kind x.kind ≡ false) _ refl
            (not-true _ file.0)),
      ))
  may (Rmdir path) h =
      let two = passes-append (removing w.rows caller path) _ h in
      let dir = met_first _ _ _ two.1 in
      let empty = met_first _ _ _ dir.1 in
      at_end path _ (removed_walk path two.0) (λ r there. (
        taken w caller tree _ r there path refl (may_remove w.rows caller path two.0),
        directory_kind _ (known w caller tree _ r there (λ x. is_directory_kind x.kind ≡ true) _ refl dir.0),
        none_left _ empty.0,
      ))
  may (Rename from to) h = rename_may from to h
  may (Chmod path mode) h =
      let walks = passes-append (walk w.rows caller 0 0 root path) _ h in
      let a = met_first _ _ _ walks.1 in
      let b = met_first _ _ _ a.1 in
      let c = met_first _ _ _ b.1 in
      at_end path _ walks.0 (λ r there. record {
        owns = owned w caller tree _ r there path refl walks.0 c.0;
        loose = loose_at w caller tree _ r there _ refl (not-true _ a.0) (not-true _ b.0);
      })
  may (Chown path uid gid) h =
      let walks = passes-append (walk w.rows caller 0 0 root path) _ h in
      let a = met_first _ _ _ walks.1 in
      let b = met_first _ _ _ a.1 in
      let c = met_first _ _ _ b.1 in
      at_end path _ walks.0 (λ r there. (
        record {
          owns = owned w caller tree _ r there path refl walks.0
              (owner_first (is_the_superuser caller) (is_the_owner caller (attrs_at w.rows (reached w.rows root path)))
              (uid == (attrs_at w.rows (reached w.rows root path)).uid) _ c.0);
          loose = loose_at w caller tree _ r there _ refl (not-true _ a.0) (not-true _ b.0);
        },
        ⊎_elim
            (λ s. inl (eqb-true caller.uid 0 s))
            (λ two. inr (
              eqb-true uid r.file.uid two.0,
              ⊎_elim (λ g. inl (eqb-true gid r.file.gid g)) (λ m. inr m) two.1,
            ))
            (giving (is_the_superuser caller) (is_the_owner caller (attrs_of r.file)) (uid == r.file.uid)
            (gid == r.file.gid) (is_in_group caller gid)
            (known w caller tree _ r there (λ x. may_set_owner caller x uid gid ≡ true) _ refl c.0)),
      ))
  may (Chflags path flags) h =
      let walks = passes-append (walk w.rows caller 0 0 root path) _ h in
      let a = met_first _ _ _ walks.1 in
      let b = met_first _ _ _ a.1 in
      let c = met_first _ _ _ b.1 in
      at_end path _ walks.0 (λ r there. (
        owned w caller tree _ r there path refl walks.0 a.0,
        (λ system. eqb-true caller.uid 0 (only_super (is_the_superuser caller)
            (changes_system_flags r.file.flags flags || has_system_lock r.file.flags)
            (known w caller tree _ r there (λ x. may_set_flags caller x.flags flags ≡ true) _ refl b.0) system)),
        (λ above. not_cleared (is_above_zero w.level) (clears_system_lock r.file.flags flags)
            (known w caller tree _ r there (λ x. keeps_system_locks w.level x.flags flags ≡ true) _ refl c.0) above),
      ))
  may (SetLevel level) h =
      let a = met_first _ _ _ h in
      let b = met_first _ _ _ a.1 in
      (eqb-true caller.uid 0 a.0, (λ lower. by_init (is_lower level w.level) caller.init b.0 lower))
  may Sync h = tt

-- so is each call answered
pub answered_as_may : (numbers : ℕ) (w : World) (caller : Caller) (request : Request) (answer : Answer) → IsTree w.rows
    → IsAnswer numbers w caller request answer → IsAnsweredAsMay w caller request answer
answered_as_may numbers w caller request (Served shown) tree is = may w caller tree request is.0
answered_as_may numbers w caller request (Denied denial) tree is = λ m. let allowed = served w caller tree request m in
    cc (sym is ∙ allowed)
answered_as_may numbers w caller request (Refused resource) tree is = may w caller tree request is.0

pub served_exactly : ServedExactlyWhereMay
served_exactly w caller request tree = (may w caller tree request, served w caller tree request)
