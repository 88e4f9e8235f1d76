-- Where the rows on a path are kept from the callers of a run, the path leads to its row still: `path_stays` and
-- `guarded_is_left`, for the law `path_stays`; LeadOnLemmas and SystemNames take their steps along names from here.
-- Whoever may neither retitle a row nor take it away leaves it where it hangs (by Fates), and a directory that
-- something hangs in can't be removed; so each name leads on, by induction on the names (`along`). The hard part is
-- that the same must hold after the call: who was to leave rows alone must still be (`alone_after`), so a right that a
-- call could give without the owner would break it.
use Rattle.std.proofs.Common.{◌≡◌, ◌≢◌, ◌⊎◌, ℕ, zero, suc, ◌+◌, ◌==◌, ◌||◌, Bool, true, false, List, [], ◌∷◌, Option}
use Rattle.std.proofs.Common.{None, Some, inl, inr, refl, sym, ap, subst, ◌∙◌, ⊎_elim}
use Rattle.std.proofs.lemmas.Bool.{eq-eqb, eqb-true, ne_eqb, or_cases, or_from, or_left, or_right}
use Rattle.std.specs.List.{list_any}
use Rattle.std.specs.Prelude.{IsSomeAnd, is_some, unwrap_or}
use Rattle.std.specs.FinMap as map
use Rattle.lfs_types.specs.Caller.{Caller}
use Rattle.lfs_types.specs.Tree.{Row, World, root, attrs_of}
use Rattle.lfs_types.specs.declared.answer.Answer.TheVariants.{Served, Denied, Refused}
use Rattle.lfs_types.specs.declared.attrs.Attrs.{Attrs}
use Rattle.lfs_types.specs.declared.attrs.Bit.TheVariants as bits
use Rattle.lfs_types.specs.declared.attrs.Kind.TheVariants.{File as Regular, Directory}
use Rattle.lfs_types.specs.declared.request.Request.{Request}
use Rattle.lfs_types.specs.declared.rule.Rule.TheVariants.{IsDirectory, GrantsSearch, NameThere}
use Rattle.lfs_rules.specs.Bits.{has_bit}
use Rattle.lfs_rules.specs.Locks.{has_system_lock, is_immutable}
use Rattle.lfs_model.specs.declared.journal.Entry.{Entry}
use Rattle.lfs_model.specs.declared.journal.Event.{Event}
use Rattle.lfs_model.specs.declared.journal.Event.TheVariants.{User, Cleaner}
use Rattle.lfs_model.specs.World.{Rows, ancestor, child, file_at, parent_of, IsTree}
use Rattle.lfs_laws.specs.LawDenied.{led}
use Rattle.lfs_laws.specs.LawOneThing.{DiffersInBytes}
use Rattle.lfs_laws.specs.LawPath.{AreHarmless, GuardedIsLeft, IsGuarded, IsHarmless, LeavesAlone, PathStays, PathStill}
use Rattle.lfs_laws.specs.LawPath.{StaysPut}
use Rattle.lfs_laws.specs.Rights.{MayRetitle, MayTakeAway, Owns, Reaches, is_fixed}
use Rattle.lfs_model.specs.Rules.{asks, attrs_at, is_directory_row, next, row_grants, visited, walk}
use Rattle.lfs_model.specs.Steps.{IsEvent, IsLegal, after_event, world_after}
use Rattle.lfs_model.specs.Walks.{is_on_way}
use Rattle.lfs_model.proofs.Children.{child-answer, child-is}
use Rattle.lfs_laws.proofs.Fates.{Fate, fate}
use Rattle.lfs_laws.proofs.Fates.Fate.{Stays, Goes, Moves, Changes, Remodes, Gives, Reflags}
use Rattle.lfs_laws.proofs.LawFates.{kept_mode}
use Rattle.lfs_laws.proofs.LawFlags.{both, mode_on}
use Rattle.lfs_laws.proofs.LegalTrees.{event_tree}
use Rattle.lfs_laws.proofs.LockedLemmas.{at_row}
use Rattle.lfs_types.proofs.Somewhere.{There, is_some_and, some_and}

-- ---- tests

-- what the system locks is fixed
lock_fixes : (a b c d : Bool) → (b || d) ≡ true → ((a || b) || (c || d)) ≡ true
lock_fixes true b c d h = refl
lock_fixes false true c d h = refl
lock_fixes false false true d h = refl
lock_fixes false false false d h = h

regular_not : {A : Type 0} (r : Row) → r.file.kind ≡ Regular → r.file.kind ≡ Directory → A
regular_not r e f = let wrong : Regular ≡ Directory = sym e ∙ f in absurd (cc)

-- ---- rows that stay

-- what a row that stays keeps besides
pub record Keeps (r s : Row) : Type 0 where
  pub parents : s.parent ≡ r.parent
  pub names : s.name ≡ r.name
  pub uid : s.file.uid ≡ r.file.uid
  pub flags : s.file.flags ≡ r.file.flags

keeps : (r s : Row) → StaysPut r s → Keeps r s
keeps r s = ⊎_elim
    (λ e. record {
      parents = ap (λ (x : Row). x.parent) e;
      names = ap (λ (x : Row). x.name) e;
      uid = ap (λ (x : Row). x.file.uid) e;
      flags = ap (λ (x : Row). x.file.flags) e;
    })
    (λ h. record {
      parents = ap (λ (x : Row). x.parent) h.1.0;
      names = ap (λ (x : Row). x.name) h.1.0;
      uid = ap (λ (x : Row). x.file.uid) h.1.0;
      flags = ap (λ (x : Row). x.file.flags) h.1.0;
    })

-- a directory stays whole
whole : (r s : Row) → r.file.kind ≡ Directory → StaysPut r s → s ≡ r
whole r s dir = ⊎_elim (λ e. e) (λ h. regular_not r h.0 dir)

put_on : (r s t : Row) → StaysPut r s → StaysPut s t → StaysPut r t
put_on r s t a b = ⊎_elim
    (λ e. subst (λ x. StaysPut x t) e b)
    (λ h. ⊎_elim
    (λ f. inr (subst (λ x. (r.file.kind ≡ Regular) × DiffersInBytes r x) (sym f) h))
    (λ g. inr (
      h.0,
      (
        g.1.0
            ∙ ap (λ (x : Row). record x { file = record x.file { mode = t.file.mode; bytes = t.file.bytes } }) h.1.0,
        mode_on r.file.mode s.file.mode t.file.mode h.1.1 g.1.1,
      ),
    ))
    b)
    a

-- ---- where names lead

pub led_none : (rows : Rows) (names : List (List ℕ)) → led rows None names ≡ None
led_none rows [] = refl
led_none rows (name ∷ names) = led_none rows names

pub record Step (rows : Rows) (at : ℕ) (name : List ℕ) (names : List (List ℕ)) (n : ℕ) : Type 0 where
  pub child : child rows at name ≡ Some (next rows at name)
  pub rest : led rows (Some (next rows at name)) names ≡ Some n

step_to : (rows : Rows) (at : ℕ) (name : List ℕ) (names : List (List ℕ)) (n : ℕ) (o : Option ℕ) → child rows at name ≡ o
    → led rows o names ≡ Some n → Step rows at name names n
step_to rows at name names n None e h = let wrong : None ≡ Some n = sym (led_none rows names) ∙ h in absurd (cc)
step_to rows at name names n (Some c) e h =
    let same : next rows at name ≡ c = ap (λ o. unwrap_or o 0) e in
    record { child = e ∙ ap Some (sym same); rest = ap (λ x. led rows (Some x) names) same ∙ h }

pub step : (rows : Rows) (at : ℕ) (name : List ℕ) (names : List (List ℕ)) (n : ℕ) → led rows (Some at) (name ∷ names)
    ≡ Some n → Step rows at name names n
step rows at name names n h = step_to rows at name names n (child rows at name) refl h

-- whether names lead from a row through another
abbrev pub passes : Rows → ℕ → List (List ℕ) → ℕ → Bool
passes rows at names m = list_any (λ x. x == m) (visited rows at names)

pub passes_first : (rows : Rows) (at : ℕ) (names : List (List ℕ)) → passes rows at names at ≡ true
passes_first rows at [] = or_left _ _ (eq-eqb at at refl)
passes_first rows at (name ∷ names) = or_left _ _ (eq-eqb at at refl)

-- a row on the way is the first, or hangs in one on the way
record IsOn (rows : Rows) (at : ℕ) (names : List (List ℕ)) (m : ℕ) : Type 0 where
  row : Row
  there : map.get rows m ≡ Some row
  above : (m ≡ at) ⊎ (passes rows at names row.parent ≡ true)

on_way : (rows : Rows) (names : List (List ℕ)) (at n m : ℕ) → There (map.get rows at) → led rows (Some at) names
    ≡ Some n → passes rows at names m ≡ true → IsOn rows at names m
on_way rows [] at n m there h on = ⊎_elim
    (λ e. let same : at ≡ m = eqb-true at m e in
    record { row = there.value; there = ap (map.get rows) (sym same) ∙ there.is; above = inl (sym same) })
    (λ e. absurd (cc (e)))
    (or_cases _ _ on)
on_way rows (name ∷ names) at n m there h on =
    let s = step rows at name names n h in
    let c = child-is rows at name (next rows at name) s.child in
    ⊎_elim
    (λ e. let same : at ≡ m = eqb-true at m e in
    record { row = there.value; there = ap (map.get rows) (sym same) ∙ there.is; above = inl (sym same) })
    (λ e.
    let o = on_way rows names (next rows at name) n m (record { value = c.row; is = c.there }) s.rest e in
    record {
      row = o.row;
      there = o.there;
      above = inr (⊎_elim
          (λ same.
          let row : o.row ≡ c.row = cc (o.there, c.there, ap (map.get rows) same) in
          or_left _ _ (eq-eqb at o.row.parent (sym (ap (λ (x : Row). x.parent) row ∙ c.hangs))))
          (λ up. or_right _ _ up) o.above);
    })
    (or_cases _ _ on)

root_there : (rows : Rows) → IsTree rows → There (map.get rows root)
root_there rows tree = let r = some_and (map.get rows root) _ tree.rooted in record { value = r.value; is = r.is }

-- ---- a path whose rows stay

module _ (w v : World) (tree : IsTree w.rows) (other : IsTree v.rows) where
  abbrev RowsStay : ℕ → List (List ℕ) → Type 0
  RowsStay at names = (m : ℕ) (r : Row) → passes w.rows at names m ≡ true → map.get w.rows m ≡ Some r
      → IsSomeAnd (map.get v.rows m) (StaysPut r)

  -- a directory on the way is the same
  directory_stays : (at : ℕ) (names : List (List ℕ)) → RowsStay at names → (p : ℕ) (m : ℕ) (r : Row) → map.get w.rows m
      ≡ Some r → r.parent ≡ p → passes w.rows at names p ≡ true → map.get v.rows p ≡ map.get w.rows p
  directory_stays at names stay p m r there hangs on =
      let dir = some_and (map.get w.rows r.parent) (λ x. x.file.kind ≡ Directory) (tree.parents m r there) in
      let is = ap (map.get w.rows) (sym hangs) ∙ dir.is in
      let s = some_and (map.get v.rows p) (StaysPut dir.value) (stay p dir.value on is) in
      s.is ∙ ap Some (whole dir.value s.value dir.holds s.holds) ∙ sym is

  record Along (at : ℕ) (names : List (List ℕ)) : Type 0 where
    leads : led v.rows (Some at) names ≡ led w.rows (Some at) names
    way : visited v.rows at names ≡ visited w.rows at names
    walks : (caller : Caller) (path k : ℕ) → walk v.rows caller path k at names ≡ walk w.rows caller path k at names

  along : (names : List (List ℕ)) (at n : ℕ) → led w.rows (Some at) names ≡ Some n → RowsStay at names → Along at names
  along [] at n h stay = record { leads = refl; way = refl; walks = λ caller path k. refl }
  along (name ∷ names) at n h stay =
      let s = step w.rows at name names n h in
      let to = next w.rows at name in
      let c = child-is w.rows at name to s.child in
      let on = along names to n s.rest (λ m r on. stay m r (or_right _ _ on)) in
      let new = some_and (map.get v.rows to) (StaysPut c.row)
      (stay to c.row (or_right _ _ (passes_first w.rows to names)) c.there) in
      let k = keeps c.row new.value new.holds in
      let kid : child v.rows at name ≡ child w.rows at name =
      child-answer v.rows other.unique at name (Some to)
      (record {
        row = new.value;
        there = new.is;
        below = c.below;
        hangs = k.parents ∙ c.hangs;
        named = k.names
            ∙ c.named;
      }) ∙ sym s.child in
      let dir = directory_stays at (name ∷ names) stay at to c.row c.there c.hangs (or_left _ _ (eq-eqb at at refl)) in
      record {
        leads = ap (λ o. led v.rows o names) (kid ∙ s.child) ∙ on.leads ∙ ap (λ o. led w.rows o names) (sym s.child);
        way = ap (λ o. at ∷ visited v.rows (unwrap_or o 0) names) kid ∙ ap (λ l. at ∷ l) on.way;
        walks = λ caller path k.
            (λ i. asks (is_directory_row (dir i)) IsDirectory path k
            ∷ asks (row_grants caller bits.Search (dir i)) GrantsSearch path k
            ∷ asks (is_some (kid i)) NameThere path (k + 1)
            ∷ walk v.rows caller path (k + 1) (unwrap_or (kid i) 0) names)
            ∙ ap (λ l. asks (is_directory_row (map.get w.rows at)) IsDirectory path k
            ∷ asks (row_grants caller bits.Search (map.get w.rows at)) GrantsSearch path k
            ∷ asks (is_some (child w.rows at name)) NameThere path (k + 1)
            ∷ l) (on.walks caller path (k + 1));
      }

  still : (path : List (List ℕ)) (n : ℕ) → led w.rows (Some root) path ≡ Some n → RowsStay root path
      → PathStill w v path
  still path n h stay = let a = along path root n h stay in
      record { leads = a.leads; way = a.way; rows = stay; walks = λ caller index. a.walks caller index 0 }

  -- ---- rights on its rows are the same

  module _ (path : List (List ℕ)) (n : ℕ) (leads : led w.rows (Some root) path ≡ Some n)
      (stay : RowsStay root path) where
    -- a row on the path, before and after
    record OnPath (m : ℕ) : Type 0 where
      old : Row
      was : map.get w.rows m ≡ Some old
      above : passes w.rows root path old.parent ≡ true
      new : Row
      is : map.get v.rows m ≡ Some new
      put : StaysPut old new
      dir : map.get v.rows old.parent ≡ map.get w.rows old.parent

    on_path : (m : ℕ) → passes w.rows root path m ≡ true → OnPath m
    on_path m on =
        let o = on_way w.rows path root n m (root_there w.rows tree) leads on in
        let s = some_and (map.get v.rows m) (StaysPut o.row) (stay m o.row on o.there) in
        let up : passes w.rows root path o.row.parent ≡ true = ⊎_elim (λ same.
        let r = some_and (map.get w.rows root) (λ x. (x.parent ≡ root) × (x.name ≡ [])
        × (x.file.kind ≡ Directory)) tree.rooted in
        let row : o.row ≡ r.value = cc (o.there, r.is, ap (map.get w.rows) same) in
        ap (passes w.rows root path) (ap (λ (x : Row). x.parent) row ∙ r.holds.0) ∙ passes_first w.rows root path)
        (λ h. h) o.above in
        record {
          old = o.row;
          was = o.there;
          above = up;
          new = s.value;
          is = s.is;
          put = s.holds;
          dir = directory_stays root path stay o.row.parent m o.row o.there refl up;
        }

    same_parent : (m : ℕ) → (p : OnPath m) → parent_of (map.get v.rows m) ≡ parent_of (map.get w.rows m)
    same_parent m p = ap parent_of p.is ∙ (keeps p.old p.new p.put).parents ∙ sym (ap parent_of p.was)

    reaches_back : (caller : Caller) (k m : ℕ) → passes w.rows root path m ≡ true → Reaches v.rows caller m
        → ancestor w.rows k m ≢ root → row_grants caller bits.Search (map.get w.rows (ancestor w.rows (suc k) m)) ≡ true
    unfolding ancestor
    reaches_back caller zero m on up off =
        let p = on_path m on in
        ap (row_grants caller bits.Search) (ap (map.get w.rows) (ap parent_of p.was) ∙ sym p.dir
        ∙ ap (map.get v.rows) (sym (same_parent m p ∙ ap parent_of p.was))) ∙ up zero off
    reaches_back caller (suc k) m on up off =
        let p = on_path m on in
        let q = p.old.parent in
        let below : Reaches v.rows caller q = λ j away. ap
        (λ x. row_grants caller bits.Search (map.get v.rows (ancestor v.rows (suc j) x)))
        (sym (same_parent m p ∙ ap parent_of p.was))
        ∙ up (suc j) (λ e. away (ap (ancestor v.rows j) (sym (same_parent m p ∙ ap parent_of p.was)) ∙ e)) in
        ap (λ o. row_grants caller bits.Search (map.get w.rows (ancestor w.rows (suc k) (parent_of o)))) p.was
        ∙ reaches_back caller k q p.above below (λ e. off (ap (λ o. ancestor w.rows k (parent_of o)) p.was ∙ e))

    reach : (caller : Caller) (m : ℕ) → passes w.rows root path m ≡ true → Reaches v.rows caller m
        → Reaches w.rows caller m
    reach caller m on up k off = reaches_back caller k m on up off

    same_uid : (m : ℕ) (p : OnPath m) → (attrs_at v.rows m).uid ≡ (attrs_at w.rows m).uid
    same_uid m p = ap (λ o. (file_at o).uid) p.is ∙ (keeps p.old p.new p.put).uid
        ∙ sym (ap (λ o. (file_at o).uid) p.was)

    same_flags : (m : ℕ) (p : OnPath m) → (attrs_at v.rows m).flags ≡ (attrs_at w.rows m).flags
    same_flags m p = ap (λ o. (file_at o).flags) p.is ∙ (keeps p.old p.new p.put).flags
        ∙ sym (ap (λ o. (file_at o).flags) p.was)

    owns_back : (caller : Caller) (m : ℕ) → passes w.rows root path m ≡ true → Owns v.rows caller m
        → Owns w.rows caller m
    owns_back caller m on owns = record {
      reaches = reach caller m on owns.reaches;
      owner = ap (λ u. (caller.uid == 0) || (caller.uid == u)) (sym (same_uid m (on_path m on))) ∙ owns.owner;
    }

    takes_back : (caller : Caller) (m : ℕ) → passes w.rows root path m ≡ true
        → MayTakeAway v.rows caller m (parent_of (map.get v.rows m))
        → MayTakeAway w.rows caller m (parent_of (map.get w.rows m))
    takes_back caller m on may =
        let p = on_path m on in
        let q = p.old.parent in
        let there : parent_of (map.get v.rows m) ≡ q = same_parent m p ∙ ap parent_of p.was in
        let taken : MayTakeAway v.rows caller m q = subst (MayTakeAway v.rows caller m) there may in
        let dir : attrs_at v.rows q ≡ attrs_at w.rows q = ap (λ o. attrs_of (file_at o)) p.dir in
        subst (MayTakeAway w.rows caller m) (sym (ap parent_of p.was)) (record {
          below = taken.below;
          reaches = reach caller m on taken.reaches;
          writes = record {
            reaches = reach caller q p.above taken.writes.reaches;
            granted = ap (row_grants caller bits.Write) (sym p.dir) ∙ taken.writes.granted;
            mutable = ap is_immutable (sym dir) ∙ taken.writes.mutable;
          };
          loose = ap (λ flags. (has_bit flags 0x2 || has_bit flags 0x2_0000) ||
              (has_bit flags 0x4 || has_bit flags 0x4_0000)) (sym (same_flags m p)) ∙ taken.loose;
          parent_loose = ap is_fixed (sym dir) ∙ taken.parent_loose;
          sticky = λ set. ⊎_elim (λ e. inl e) (λ h. inr
              (⊎_elim (λ e. inl (e ∙ same_uid m p)) (λ e. inr (e ∙ ap (λ (a : Attrs). a.uid) dir)) h))
              (taken.sticky (ap (λ (a : Attrs). has_bit a.mode 0o1000) dir ∙ set));
        })

    alone_after : (caller : Caller) (m : ℕ) → passes w.rows root path m ≡ true → LeavesAlone w.rows caller m
        → LeavesAlone v.rows caller m
    alone_after caller m on alone = record {
      owned = λ owns. let h = alone.owned (owns_back caller m on owns) in
          (h.0, ap has_system_lock (same_flags m (on_path m on)) ∙ h.1);
      taken = λ may. alone.taken (takes_back caller m on may);
    }

-- ---- one entry

module _ (w v : World) (caller : Caller) (request : Request) (m : ℕ) (r : Row) (there : map.get w.rows m ≡ Some r)
    (alone : LeavesAlone w.rows caller m) where
  untitled : {A : Type 0} → MayRetitle w.rows caller m → A
  untitled may =
      let lock = (alone.owned may.owns).1 in
      let flags = (attrs_at w.rows m).flags in
      both _ (lock_fixes (has_bit flags 0x2) (has_bit flags 0x2_0000) (has_bit flags 0x4) (has_bit flags 0x4_0000) lock)
      may.loose

  untaken : {A : Type 0} → MayTakeAway w.rows caller m r.parent → A
  untaken may = absurd (alone.taken (subst (MayTakeAway w.rows caller m) (sym (ap parent_of there)) may))

  stays_put : Fate w caller request v m r → IsSomeAnd (map.get v.rows m) (StaysPut r)
  stays_put (Stays e) = is_some_and (StaysPut r) e (inl refl)
  stays_put (Goes e x over) = untaken x.taken
  stays_put (Moves parent name e x) = untaken x.taken
  stays_put (Changes bytes e x) = is_some_and (StaysPut r) e
      (inr (x.regular, (refl, kept_mode (caller.uid == 0) r.file.mode)))
  stays_put (Remodes mode e x) = untitled x.allowed
  stays_put (Gives uid gid e x) = untitled x.allowed
  stays_put (Reflags flags e x) =
      let h = alone.owned x.owns in
      absurd (h.0 (x.system (or_right _ _ (ap (λ (a : Attrs). has_system_lock a.flags) (sym (at_row w m r there))
      ∙ h.1))))

module _ (numbers segments : ℕ) where
  row_stays : (w : World) (tree : IsTree w.rows) (path : List (List ℕ)) (caller : Caller) (event : Event)
      → IsEvent numbers segments w caller event → IsHarmless w.rows path caller event
      → (m : ℕ) (r : Row) → is_on_way w.rows path m ≡ true → map.get w.rows m ≡ Some r
      → IsSomeAnd (map.get (after_event numbers w caller event).rows m) (StaysPut r)
  row_stays w tree path caller (User request (Served shown)) is harmless m r on there =
      stays_put w _ caller request m r there (harmless m on)
      (fate numbers w caller tree m r there request (Served shown) is)
  row_stays w tree path caller (User request (Denied denial)) is harmless m r on there =
      is_some_and (StaysPut r) there (inl refl)
  row_stays w tree path caller (User request (Refused resource)) is harmless m r on there =
      is_some_and (StaysPut r) there (inl refl)
  row_stays w tree path caller (Cleaner kind outcome) is harmless m r on there =
      is_some_and (StaysPut r) there (inl refl)

  -- ---- lists of entries

  -- who must leave the rows of the path must so later
  harmless_still : (w v : World) (tree : IsTree w.rows) (other : IsTree v.rows) (path : List (List ℕ)) (n : ℕ)
      → led w.rows (Some root) path ≡ Some n → PathStill w v path
      → (caller : Caller) (event : Event) → IsHarmless w.rows path caller event → IsHarmless v.rows path caller event
  harmless_still w v tree other path n leads s caller (User request answer) harmless = λ m on.
      let was = ap (list_any (λ x. x == m)) (sym s.way) ∙ on in
      alone_after w v tree other path n leads s.rows caller m was (harmless m was)
  harmless_still w v tree other path n leads s caller (Cleaner kind outcome) harmless = tt

  still_on : (w v u : World) (path : List (List ℕ)) → PathStill w v path → PathStill v u path → PathStill w u path
  still_on w v u path a b = record {
    leads = b.leads ∙ a.leads;
    way = b.way ∙ a.way;
    rows = λ m r on there.
        let s = some_and (map.get v.rows m) (StaysPut r) (a.rows m r on there) in
        let t = some_and (map.get u.rows m) (StaysPut s.value)
        (b.rows m s.value (ap (list_any (λ x. x == m)) a.way ∙ on) s.is) in
        is_some_and (StaysPut r) t.is (put_on r s.value t.value s.holds t.holds);
    walks = λ caller index. b.walks caller index ∙ a.walks caller index;
  }

  stays_on : (entries : List Entry) (w v : World) (path : List (List ℕ)) (n : ℕ) → IsTree w.rows → IsTree v.rows
      → led w.rows (Some root) path ≡ Some n → PathStill w v path
      → IsLegal numbers segments entries v → AreHarmless w.rows path entries
      → PathStill w (world_after numbers entries v) path
  stays_on [] w v path n tree other leads s legal harmless = s
  stays_on (e ∷ es) w v path n tree other leads s legal harmless =
      let u = after_event numbers v e.cred e.event in
      let after = event_tree numbers segments v e.cred e.event other legal.0 in
      let now = harmless_still w v tree other path n leads s e.cred e.event harmless.0 in
      let next = still v u other after path n (s.leads ∙ leads) (row_stays v other path e.cred e.event legal.0 now) in
      stays_on es w u path n tree after leads (still_on w v u path s next) legal.1 harmless.1

pub path_stays : PathStays
path_stays numbers segments entries w path n tree legal leads harmless =
    stays_on numbers segments entries w w path n tree tree leads
    (record {
      leads = refl;
      way = refl;
      rows = λ m r on there. is_some_and (StaysPut r) there (inl refl);
      walks = λ caller index. refl;
    })
    legal harmless

-- ---- who must leave a row

module _ (rows : Rows) (caller : Caller) (n : ℕ) (ordinary : caller.uid ≢ 0)
    (foreign : caller.uid ≢ (attrs_at rows n).uid) where
  guarded_from : (p : ℕ) → parent_of (map.get rows n) ≡ p → (n ≢ root → IsGuarded rows caller n p)
      → MayTakeAway rows caller n p → ⊥
  unfolding ancestor
  guarded_from p up guarded may = ⊎_elim
      (λ e. both _ may.writes.granted e)
      (λ more. ⊎_elim
      (λ e. both _ (ap (λ m. row_grants caller bits.Search (map.get rows m)) (sym up) ∙ may.reaches zero may.below) e)
      (λ rest. ⊎_elim
      (λ e. both _ e may.parent_loose)
      (λ last. ⊎_elim
      (λ h. ⊎_elim ordinary (λ own. ⊎_elim foreign h.1 own) (may.sticky h.0))
      (λ e. both _ e may.loose)
      last) rest) more) (guarded may.below)

  left : (n ≢ root → IsGuarded rows caller n (parent_of (map.get rows n))) → LeavesAlone rows caller n
  left guarded = record {
    owned = λ owns. both _ owns.owner (or_from (caller.uid == 0) (caller.uid == (attrs_at rows n).uid)
        (ne_eqb caller.uid 0 ordinary) (ne_eqb caller.uid (attrs_at rows n).uid foreign));
    taken = guarded_from (parent_of (map.get rows n)) refl guarded;
  }

pub guarded_is_left : GuardedIsLeft
guarded_is_left rows caller n ordinary foreign guarded = left rows caller n ordinary foreign guarded
