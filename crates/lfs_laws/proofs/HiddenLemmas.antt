-- A call by one whom a directory shuts out is decided alike whatever lies beneath: `hides_from_call`, for the law
-- `closed_door_hides`, and its parts for HiddenCalls. Rows that aren't beneath are the same in both worlds and have the
-- same names in them (`Apart`, `same_row`, `same_child`), and his walk never gets past the directory (`walk_end`), so
-- he sees the same and ViewLaw decides the rest. Two things still tell, and the law excepts both: the names of the
-- directory, listed, and whether it's empty (`told_door`); if a walk asked for a name before it asked for search, the
-- names beneath would show too.
use Rattle.std.proofs.Common.{◌≡◌, ◌≢◌, ◌⊎◌, ℕ, zero, suc, ◌+◌, ◌==◌, ◌&&◌, Bool, true, false, cond, List, [], ◌∷◌}
use Rattle.std.proofs.Common.{length, get_or, Option, None, Some, inl, inr, refl, sym, ap, subst, ◌∙◌, ⊎_elim, arith}
use Rattle.std.proofs.Common.{◌++◌, append-nil}
use Rattle.std.proofs.lemmas.Bool.{and_parts, cases_eq, eqb-false, cond-true}
use Rattle.std.proofs.lemmas.List.Elements.{Contains-get_or}
use Rattle.std.specs.Prelude.{option_map, unwrap_or, is_some}
use Rattle.std.specs.Prelude as lists
use Rattle.std.specs.FinMap as map
use Rattle.lfs_types.specs.Caller.{Caller}
use Rattle.lfs_types.specs.Tree.{Row, World, root, attrs_of}
use Rattle.lfs_types.specs.declared.attrs.Bit.TheVariants as bits
use Rattle.lfs_types.specs.declared.attrs.Kind.TheVariants.{Directory}
use Rattle.lfs_types.specs.declared.request.Request.{Request}
use Rattle.lfs_types.specs.declared.request.Request.TheVariants.{Stat, Read, Write, List as Names, SetLength, Create}
use Rattle.lfs_types.specs.declared.request.Request.TheVariants.{Mkdir, Unlink, Rmdir, Rename, Chmod, Chown, Chflags}
use Rattle.lfs_types.specs.declared.request.Request.TheVariants.{SetLevel, Sync}
use Rattle.lfs_types.specs.declared.rule.Denial.{Denial}
use Rattle.lfs_rules.specs.Grants.{grants_of}
use Rattle.lfs_types.specs.declared.rule.Rule.TheVariants.{IsEmpty}
use Rattle.lfs_laws.proofs.DeniedLemmas.{tells_little}
use Rattle.lfs_laws.proofs.ServedLemmas.{led_none}
use Rattle.lfs_laws.specs.LawDenied.{MayEnter, MayPass, SaysAt, Tells, led}
use Rattle.lfs_model.specs.World.{Rows, ancestor, child, children, file_at, parent_of, IsChild, IsTree}
use Rattle.lfs_laws.specs.LawHidden.{DifferBeneath, HasSameNames, HidesFromCall, IsBeneath, IsListing, IsOnto}
use Rattle.lfs_laws.specs.LawView.{HasSameView, ShowsAlike, TellsEmpty, may_enter, sight, sights}
use Rattle.lfs_laws.specs.Rights.{Reaches, paths}
use Rattle.lfs_model.specs.Rules.{decide, first_failing, is_directory_row, next, reached, removing, row_grants, walk}
use Rattle.lfs_model.proofs.Allowed.{child_there}
use Rattle.lfs_model.proofs.Children.{IsChildAnswer, child-answer, child-is, child-none}
use Rattle.lfs_model.proofs.Deciding.{met_first, passes-append}
use Rattle.lfs_laws.proofs.DoorLemmas.{door}
use Rattle.lfs_model.proofs.EffectTree.{childless}
use Rattle.lfs_model.proofs.Members.{children-hang}
use Rattle.lfs_model.proofs.Trees.{root_above}
use Rattle.lfs_laws.proofs.ViewLaw.{view}
use Rattle.lfs_types.proofs.Somewhere.{some_and, none_there}
use Rattle.lfs_laws.proofs.LawFlags.{both}

when : {A : Type 0} (b : Bool) (xs ys : List A) → (b ≡ true → xs ≡ ys) → cond b xs [] ≡ cond b ys []
when true xs ys on = on refl
when false xs ys on = refl

-- the worlds the other way round
pub flip : (w v : World) (d : ℕ) (dir : Row) → DifferBeneath d dir w v → DifferBeneath d dir v w
flip w v d dir h = record {
  level = sym h.level;
  one = h.other;
  other = h.one;
  rows = λ n. ⊎_elim (λ e. inl (sym e)) (λ x. inr (x.1, x.0)) (h.rows n);
}

-- a row that hangs in a directory
pub record Filled (rows : Rows) (at : ℕ) : Type 0 where
  pub name : List ℕ
  pub number : ℕ
  pub child : IsChild rows at name number

-- one that isn't empty has such a row
pub filled : (rows : Rows) (at : ℕ) → (length (children rows at) == 0) ≡ false → Filled rows at
filled rows at h =
    let ns = children rows at in
    let some : length ns ≢ 0 = eqb-false _ _ h in
    record {
      name = _;
      number = get_or ns 0 0;
      child = children-hang rows at (get_or ns 0 0) (Contains-get_or ns 0 0 (omega (arith, some)));
    }

module _ (rows : Rows) (d at : ℕ) (name : List ℕ) (n : ℕ) (c : IsChild rows at name n) (off : at ≢ d)
    (clear : IsBeneath rows d at → ⊥) where
  up : (k : ℕ) → ancestor rows (suc k) n ≡ d → ⊥
  unfolding ancestor
  up zero e = off (sym c.hangs ∙ ap parent_of (sym c.there) ∙ e)
  up (suc k) e = clear (k, ap (λ p. ancestor rows (suc k) p) (sym c.hangs ∙ ap parent_of (sym c.there)) ∙ e)

  -- what hangs in another directory, which isn't beneath, isn't beneath
  pub not_beneath : IsBeneath rows d n → ⊥
  not_beneath b = up b.0 b.1

module _ (w v : World) (d : ℕ) (dir : Row) (tree : IsTree w.rows) (other : IsTree v.rows) (below : d ≢ root)
    (differ : DifferBeneath d dir w v) where
  -- ---- rows that aren't beneath

  -- such a row is the same in the other world
  pub same_row : (n : ℕ) (r : Row) → map.get w.rows n ≡ Some r → (IsBeneath w.rows d n → ⊥) → map.get v.rows n ≡ Some r
  same_row n r there clear = ⊎_elim
      (λ e. sym e ∙ there)
      (λ h. ⊎_elim (λ none. none_there (map.get w.rows n) r none there) (λ b. absurd (clear b)) h.0)
      (differ.rows n)

  above : (n : ℕ) (r : Row) → map.get w.rows n ≡ Some r → (IsBeneath w.rows d n → ⊥) → (k : ℕ)
      → ancestor v.rows (suc k) n ≡ d → ⊥
  unfolding ancestor
  above n r there clear zero e = clear (zero, ap parent_of (there ∙ sym (same_row n r there clear)) ∙ e)
  above n r there clear (suc k) e =
      let p = some_and (map.get w.rows r.parent) (λ x. x.file.kind ≡ Directory) (tree.parents n r there) in
      above r.parent p.value p.is (λ b. clear (suc b.0, ap (λ o. ancestor w.rows (suc b.0) (parent_of o)) there ∙ b.1))
      k
      (ap (λ o. ancestor v.rows (suc k) (parent_of o)) (sym (same_row n r there clear)) ∙ e)

  -- a number whose row is the same, and not beneath
  pub record Apart (n : ℕ) : Type 0 where
    pub same : map.get w.rows n ≡ map.get v.rows n
    pub here : IsBeneath w.rows d n → ⊥
    pub there : IsBeneath v.rows d n → ⊥

  pub apart_row : (n : ℕ) (r : Row) → map.get w.rows n ≡ Some r → (IsBeneath w.rows d n → ⊥) → Apart n
  apart_row n r there clear = record {
    same = there ∙ sym (same_row n r there clear);
    here = clear;
    there = λ b. above n r there clear b.0 b.1;
  }

  pub top : Apart root
  top =
      let r = some_and (map.get w.rows root) _ tree.rooted in
      apart_row root r.value r.is (λ b. below (sym b.1 ∙ root_above w.rows tree (suc b.0)))

module _ (w v : World) (d : ℕ) (dir : Row) (tree : IsTree w.rows) (other : IsTree v.rows) (below : d ≢ root)
    (differ : DifferBeneath d dir w v) where
  abbrev IsApart : ℕ → Type 0
  IsApart n = Apart w v d dir tree other below differ n

  -- ---- what hangs in a directory that isn't beneath

  module _ (at : ℕ) (a : IsApart at) (off : at ≢ d) where
    pub child_goes : (name : List ℕ) (n : ℕ) → IsChild w.rows at name n → IsChild v.rows at name n
    child_goes name n c = record {
      row = c.row;
      there = same_row w v d dir tree other below differ n c.row c.there (not_beneath w.rows d at name n c off a.here);
      below = c.below;
      hangs = c.hangs;
      named = c.named;
    }

    pub child_comes : (name : List ℕ) (n : ℕ) → IsChild v.rows at name n → IsChild w.rows at name n
    child_comes name n c = record {
      row = c.row;
      there = same_row v w d dir other tree below (flip w v d dir differ) n c.row c.there
          (not_beneath v.rows d at name n c off a.there);
      below = c.below;
      hangs = c.hangs;
      named = c.named;
    }

    pub child_apart : (name : List ℕ) (n : ℕ) → IsChild w.rows at name n → IsApart n
    child_apart name n c = apart_row w v d dir tree other below differ n c.row c.there
        (not_beneath w.rows d at name n c off a.here)

    found : (name : List ℕ) (o : Option ℕ) → child w.rows at name ≡ o → IsChildAnswer v.rows at name o
    found name None e = λ n c. child-none w.rows at name e n (child_comes name n c)
    found name (Some n) e = child_goes name n (child-is w.rows at name n e)

    pub same_child : (name : List ℕ) → child w.rows at name ≡ child v.rows at name
    same_child name = sym (child-answer v.rows other.unique at name (child w.rows at name) (found name _ refl))

    -- it is empty in both
    pub both_empty : (length (children w.rows at) == 0) ≡ true → (length (children v.rows at) == 0) ≡ false → ⊥
    both_empty empty some =
        let one = filled v.rows at some in
        childless w.rows at empty one.name one.number (child_comes one.name one.number one.child)

  module _ (caller : Caller) (shut : grants_of caller (attrs_of dir.file) bits.Search ≡ false) where
    -- whoever enters a directory enters another
    pub entered : (at : ℕ) → row_grants caller bits.Search (map.get w.rows at) ≡ true → at ≢ d
    entered at h same = both _ (ap (row_grants caller bits.Search) (sym differ.one ∙ ap (map.get w.rows) (sym same))
        ∙ h) shut

    -- ---- what he sees

    seen_from : (names : List (List ℕ)) (o : Option ℕ) → ((n : ℕ) → o ≡ Some n → IsApart n)
        → sights w.rows caller o names ≡ sights v.rows caller o names
    unfolding sights
    seen_from [] None h = refl
    seen_from [] (Some n) h = ap (λ x. option_map (λ (r : Row). (n, attrs_of r.file)) x ∷ []) (h n refl).same
    seen_from (name ∷ names) None h = refl
    seen_from (name ∷ names) (Some n) h =
        let a = h n refl in
        (λ i. option_map (λ (r : Row). (n, attrs_of r.file)) (a.same i)
        ∷ cond (is_directory_row (a.same i) && row_grants caller bits.Search (a.same i))
        (sights w.rows caller (child w.rows n name) names) [])
        ∙ ap (λ l. sight v.rows (Some n) ∷ l) (when (may_enter v.rows caller (Some n)) _ _ (λ enters.
        let off = entered n (ap (row_grants caller bits.Search) a.same ∙ (and_parts _ _ enters).1) in
        seen_from names (child w.rows n name) (λ m e. child_apart n a off name m (child-is w.rows n name m e))
        ∙ ap (λ o. sights v.rows caller o names) (same_child n a off name)))

    seen_root : (names : List (List ℕ)) → sights w.rows caller (Some root) names
        ≡ sights v.rows caller (Some root) names
    seen_root names = seen_from names (Some root)
        (λ n e. subst IsApart (number e) (top w v d dir tree other below differ))
      where
        number : {m n : ℕ} → Some m ≡ Some n → m ≡ n
        number e = cc

    -- ---- where he comes

    pub record WalkEnd (at : ℕ) (names : List (List ℕ)) : Type 0 where
      pub same : reached w.rows at names ≡ reached v.rows at names
      pub apart : IsApart (reached w.rows at names)

    pub walk_end : (names : List (List ℕ)) (path k at : ℕ) → IsApart at
        → first_failing (walk w.rows caller path k at names) ≡ None → WalkEnd at names
    walk_end [] path k at a h = record { same = refl; apart = a }
    walk_end (name ∷ names) path k at a h =
        let e = met_first _ _ _ h in
        let s = met_first _ _ _ e.1 in
        let t = met_first _ _ _ s.1 in
        let off = entered at s.0 in
        let c = child-is w.rows at name (next w.rows at name) (child_there _ _ t.0 refl) in
        let on = walk_end names path (k + 1) (next w.rows at name)
        (child_apart at a off name (next w.rows at name) c) t.1 in
        record {
          same = on.same ∙ ap (λ o. reached v.rows (unwrap_or o 0) names) (same_child at a off name);
          apart = on.apart;
        }

    -- a row that he reaches isn't beneath
    far : (n : ℕ) (r : Row) → map.get w.rows n ≡ Some r → Reaches w.rows caller n → IsBeneath w.rows d n → ⊥
    far n r there up b = both _ (door w tree d dir differ.one below caller b.0 n r there b.1 up) shut

    -- ---- his view

    -- where he lists the directory, which he may read, its names are the same
    abbrev pub NamesAlike : Request → Type 0
    NamesAlike request = IsListing w d request → grants_of caller (attrs_of dir.file) bits.Read ≡ true
        → HasSameNames d w v

    contents : (request : Request) → NamesAlike request → ShowsAlike w v caller request
    contents (Stat path) names = tt
    contents (Read path off len) names = λ may. sym
        (ap (λ o. (file_at o).bytes) (same_row w v d dir tree other below differ may.number may.row may.there
        (far may.number may.row may.there may.reaches)))
    contents (Names path) names = λ may name. ⊎_elim
        (λ same.
        let is : may.row ≡ dir = cc (may.there, differ.one, ap (map.get w.rows) same) in
        let readable = subst (λ (x : Row). grants_of caller (attrs_of x.file) bits.Read ≡ true) is may.holds in
        subst (λ m. lists.◌↔◌ ((n : ℕ) × IsChild w.rows m name n) ((n : ℕ) × IsChild v.rows m name n)) (sym same)
        (names (may.named ∙ same) readable name))
        (λ off.
        let a = apart_row w v d dir tree other below differ may.number may.row may.there
        (far may.number may.row may.there may.reaches) in
        (λ x. (x.0, child_goes may.number a off name x.0 x.1), λ x. (x.0, child_comes may.number a off name x.0 x.1)))
        (cases_eq may.number d)
    contents (Write path place bytes) names = tt
    contents (SetLength path len) names = tt
    contents (Create path mode) names = tt
    contents (Mkdir path mode) names = tt
    contents (Unlink path) names = tt
    contents (Rmdir path) names = tt
    contents (Rename from to) names = tt
    contents (Chmod path mode) names = tt
    contents (Chown path uid gid) names = tt
    contents (Chflags path flags) names = tt
    contents (SetLevel level) names = tt
    contents Sync names = tt

    pub same_view : (request : Request) → NamesAlike request → HasSameView w v caller request
    same_view request names = record {
      level = differ.level;
      rows = λ i. lists.map (λ path. seen_root path i) (paths request);
      contents = contents request names;
    }

-- ---- what a Rmdir and a Rename tell

pass_one : (rows : Rows) (caller : Caller) → IsTree rows → (path k at n : ℕ) (name : List ℕ) (names : List (List ℕ))
    → MayEnter rows caller (Some at) → (o : Option ℕ) → child rows at name ≡ o → led rows o names ≡ Some n
    → ((m : ℕ) → o ≡ Some m → first_failing (walk rows caller path (k + 1) m names) ≡ None)
    → first_failing (walk rows caller path k at (name ∷ names)) ≡ None
pass_one rows caller tree path k at n name names enter None f g rest =
    absurd (cc (sym (led_none rows caller tree names) ∙ g))
pass_one rows caller tree path k at n name names enter (Some m) f g rest =
    cond-true _ _ _ enter.0 ∙ cond-true _ _ _ enter.1 ∙ cond-true _ _ _ (ap is_some f)
    ∙ subst (λ o. first_failing (walk rows caller path (k + 1) (unwrap_or o 0) names) ≡ None) (sym f) (rest m refl)

-- names along which a caller may pass, and which lead to a row, pass a walk
pass_walk : (rows : Rows) (caller : Caller) → IsTree rows → (path k at n : ℕ) (names : List (List ℕ))
    → MayPass rows caller (Some at) names → led rows (Some at) names ≡ Some n
    → first_failing (walk rows caller path k at names) ≡ None
pass_walk rows caller tree path k at n [] p e = refl
pass_walk rows caller tree path k at n (name ∷ names) p e =
    pass_one rows caller tree path k at n name names p.0 (child rows at name) refl e
    (λ m f. pass_walk rows caller tree path (k + 1) m n names (subst (λ o. MayPass rows caller o names) f p.1)
    (subst (λ o. led rows o names ≡ Some n) f e))

-- the path of a denial for what is in a directory leads there
full_path : (x : World) (caller : Caller) → IsTree x.rows → (from to : List (List ℕ)) → decide x caller (Rename from to)
    ≡ Some (record { rule = IsEmpty; path = 1; at = length to })
    → first_failing (walk x.rows caller 1 0 root to) ≡ None
full_path x caller tree from to e =
    let t : Tells x caller (Rename from to) to IsEmpty (length to) = tells_little x caller (Rename from to) _ tree e in
    full_end t _ refl t.says
  where
    whole : (front behind : List (List ℕ)) → front ++ behind ≡ to → behind ≡ [] → front ≡ to
    whole front behind split none = sym (append-nil front) ∙ ap (λ l. front ++ l) (sym none) ∙ split

    full_end : (t : Tells x caller (Rename from to) to IsEmpty (length to)) (o : Option ℕ)
        → led x.rows (Some root) t.front ≡ o → SaysAt x caller (Rename from to) IsEmpty t.behind o
        → first_failing (walk x.rows caller 1 0 root to) ≡ None
    full_end t None f says = absurd says
    full_end t (Some m) f says =
        let r = some_and (map.get x.rows m) _ says in
        subst (λ l. first_failing (walk x.rows caller 1 0 root l) ≡ None) (whole t.front t.behind t.split r.holds.0)
        (pass_walk x.rows caller tree 1 0 root m t.front t.passes f)

module _ (w v : World) (d : ℕ) (dir : Row) (tree : IsTree w.rows) (other : IsTree v.rows) (below : d ≢ root)
    (differ : DifferBeneath d dir w v)
    (caller : Caller) (shut : grants_of caller (attrs_of dir.file) bits.Search ≡ false) where
  abbrev is_bare : World → ℕ → Bool
  is_bare x m = length (children x.rows m) == 0

  -- the directory that a call removes is empty in one of the worlds alone
  pub record TellsOf (request : Request) : Type 0 where
    pub number : ℕ
    pub onto : IsOnto w number request
    pub apart : Apart w v d dir tree other below differ number
    pub differs : ((is_bare w number ≡ true) × (is_bare v number ≡ false))
        ⊎ ((is_bare v number ≡ true) × (is_bare w number ≡ false))

  told_here : (path : List (List ℕ)) → decide w caller (Rmdir path) ≡ None → is_bare w (reached w.rows root path) ≡ true
      → is_bare v (reached v.rows root path) ≡ false → TellsOf (Rmdir path)
  told_here path allowed empty holds =
      let some = met_first _ _ _ (passes-append (removing w.rows caller path) _ allowed).0 in
      let end = walk_end w v d dir tree other below differ caller shut path 0 0 root
      (top w v d dir tree other below differ) (passes-append (walk w.rows caller 0 0 root path) _ some.1).0 in
      record {
        number = reached w.rows root path;
        onto = refl;
        apart = end.apart;
        differs = inl (empty, ap (is_bare v) end.same ∙ holds);
      }

  told_there : (path : List (List ℕ)) → decide v caller (Rmdir path) ≡ None → is_bare w (reached w.rows root path)
      ≡ false → is_bare v (reached v.rows root path) ≡ true → TellsOf (Rmdir path)
  told_there path allowed holds empty =
      let some = met_first _ _ _ (passes-append (removing v.rows caller path) _ allowed).0 in
      let back = flip w v d dir differ in
      let end = walk_end v w d dir other tree below back caller shut path 0 0 root (top v w d dir other tree below back)
      (passes-append (walk v.rows caller 0 0 root path) _ some.1).0 in
      let a : Apart w v d dir tree other below differ (reached v.rows root path) =
      record { same = sym end.apart.same; here = end.apart.there; there = end.apart.here } in
      record {
        number = reached w.rows root path;
        onto = refl;
        apart = subst (Apart w v d dir tree other below differ) end.same a;
        differs = inr (ap (is_bare v) (sym end.same) ∙ empty, holds);
      }

  told_rmdir : (path : List (List ℕ)) (x y : Option Denial) → decide w caller (Rmdir path) ≡ x
      → decide v caller (Rmdir path) ≡ y → TellsEmpty w v (Rmdir path) x y → TellsOf (Rmdir path)
  told_rmdir path None None e f h = absurd h
  told_rmdir path None (Some denial) e f h = told_here path e h.1.0 h.1.1
  told_rmdir path (Some denial) None e f h = told_there path f h.1.1 h.1.0
  told_rmdir path (Some denial) (Some second) e f h = absurd h

  told_rename : (from to : List (List ℕ)) → TellsEmpty w v (Rename from to) (decide w caller (Rename from to))
      (decide v caller (Rename from to)) → TellsOf (Rename from to)
  told_rename from to h = ⊎_elim
      (λ x.
      let back = flip w v d dir differ in
      let end = walk_end v w d dir other tree below back caller shut to 1 0 root (top v w d dir other tree below back)
      (full_path v caller other from to x.1) in
      let a : Apart w v d dir tree other below differ (reached v.rows root to) =
      record { same = sym end.apart.same; here = end.apart.there; there = end.apart.here } in
      record {
        number = reached w.rows root to;
        onto = refl;
        apart = subst (Apart w v d dir tree other below differ) end.same a;
        differs = inl (x.2.0, ap (is_bare v) (sym end.same) ∙ x.2.1);
      })
      (λ x.
      let end = walk_end w v d dir tree other below differ caller shut to 1 0 root
      (top w v d dir tree other below differ) (full_path w caller tree from to x.1) in
      record {
        number = reached w.rows root to;
        onto = refl;
        apart = end.apart;
        differs = inr (ap (is_bare v) end.same ∙ x.2.0, x.2.1);
      })
      h

  pub told : (request : Request) → TellsEmpty w v request (decide w caller request) (decide v caller request)
      → TellsOf request
  told (Stat path) h = absurd h
  told (Read path off len) h = absurd h
  told (Names path) h = absurd h
  told (Write path place bytes) h = absurd h
  told (SetLength path len) h = absurd h
  told (Create path mode) h = absurd h
  told (Mkdir path mode) h = absurd h
  told (Unlink path) h = absurd h
  told (Rmdir path) h = told_rmdir path _ _ refl refl h
  told (Rename from to) h = told_rename from to h
  told (Chmod path mode) h = absurd h
  told (Chown path uid gid) h = absurd h
  told (Chflags path flags) h = absurd h
  told (SetLevel level) h = absurd h
  told Sync h = absurd h

  -- it is the closed one
  pub told_door : (request : Request) (t : TellsOf request) → t.number ≡ d
  told_door request t = ⊎_elim
      (λ same. same)
      (λ off. absurd (⊎_elim
      (λ h. both_empty w v d dir tree other below differ t.number t.apart off h.0 h.1)
      (λ h. both_empty v w d dir other tree below (flip w v d dir differ) t.number
      (record { same = sym t.apart.same; here = t.apart.there; there = t.apart.here }) off h.0 h.1)
      t.differs))
      (cases_eq t.number d)

pub hides_from_call : HidesFromCall
hides_from_call w v d dir caller request tree other below differ shut names =
    let both = view w v caller request tree other
    (same_view w v d dir tree other below differ caller shut request names) in (
      ⊎_elim (λ e. inl e) (λ h. let t = told w v d dir tree other below differ caller shut request h in
          inr (
            subst (λ m. IsOnto w m request) (told_door w v d dir tree other below differ caller shut request t)
                t.onto,
            h,
          )) both.0,
      both.1,
    )
