-- A call by one whom a directory shuts out has the same effect outside and may be answered the same, whatever lies
-- beneath: `effect_same` and `answer_too`, for HiddenRuns. His paths end at rows that are the same in both worlds
-- (`walk_end` of HiddenLemmas), so what changes is one number with one row in both (`SameEffect`); a new row gets the
-- same number as long as the same numbers are in use (`least_same`, for TwinLemmas too). The rules decide alike but
-- where a denial or a removal tells whether the directory is empty, which is told only of one that is filled in both
-- (`none_told`). What may be lacking for a new row is alike too, as a directory that he enters has the same children in
-- both (`children_same`).
use Rattle.std.proofs.Common.{◌≡◌, ◌≢◌, ◌≤◌, ℕ, zero, suc, ◌+◌, ◌==◌, Bool, true, false, cond, List, [], ◌∷◌, ◌++◌}
use Rattle.std.proofs.Common.{length, Option, None, Some, inl, inr, refl, sym, ap, subst, ◌∙◌, ⊎_elim}
use Rattle.std.proofs.lemmas.Bool.{cases_eq}
use Rattle.std.proofs.lemmas.Bool.Decides.{same_from_decides, Decides-like}
use Rattle.std.proofs.lemmas.Map.Lookups.{btree_set_from_contains}
use Rattle.std.proofs.lemmas.Map.Made.{is_member-Decides}
use Rattle.std.specs.List.{list_any}
use Rattle.std.specs.List.Sorted.{IsStrictlySortedBy}
use Rattle.std.specs.Ordering.{nat_cmp, eq_by_cmp}
use Rattle.std.specs.Cmp.{nat_cmp_total}
use Rattle.std.specs.FinMap as map
use Rattle.std.specs.FinMap.{nat_cmp-IsAntisymmetric}
use Rattle.std.specs.Prelude.{is_some, Contains, IsSome}
use Rattle.lfs_types.specs.Caller.{Caller}
use Rattle.lfs_types.specs.Tree.{File, Row, World, root, attrs_of}
use Rattle.lfs_types.specs.declared.answer.Answer.{Answer}
use Rattle.lfs_types.specs.declared.answer.Answer.TheVariants.{Served, Denied, Refused}
use Rattle.lfs_types.specs.declared.answer.Resource.{Resource}
use Rattle.lfs_types.specs.declared.answer.Resource.TheVariants.{NoMemory, NoSpace, NoInodes, DirectoryFull}
use Rattle.lfs_types.specs.declared.answer.Resource.TheVariants.{JournalFull}
use Rattle.lfs_types.specs.declared.attrs.Bit.TheVariants as bits
use Rattle.lfs_types.specs.declared.attrs.Kind.{Kind}
use Rattle.lfs_types.specs.declared.attrs.Kind.TheVariants.{File as Regular, Directory}
use Rattle.lfs_types.specs.declared.limits.TheConstants.{FILE_BLOCKS}
use Rattle.lfs_types.specs.declared.request.Request.{Request}
use Rattle.lfs_types.specs.declared.request.Request.TheVariants.{Stat, Read, Write, List as Names, SetLength, Create}
use Rattle.lfs_types.specs.declared.request.Request.TheVariants.{Mkdir, Unlink, Rmdir, Rename, Chmod, Chown, Chflags}
use Rattle.lfs_types.specs.declared.request.Request.TheVariants.{SetLevel, Sync}
use Rattle.lfs_types.specs.declared.rule.Denial.{Denial}
use Rattle.lfs_types.specs.declared.rule.Rule.TheVariants.{IsEmpty}
use Rattle.lfs_rules.specs.Grants.{grants_of}
use Rattle.lfs_model.specs.World.{Rows, children, file_at, IsTree, child}
use Rattle.lfs_laws.specs.LawGone.{Removes}
use Rattle.lfs_laws.specs.LawHidden.{DifferBeneath, IsDeniedBehind, IsMaking, IsOnto, IsToldEmpty, MayMakeRow}
use Rattle.lfs_laws.specs.LawHidden.{UseSameNumbers}
use Rattle.lfs_laws.specs.LawView.{MayFollow, TellsEmpty}
use Rattle.lfs_model.specs.Rules.{Check, decide, first_failing, front, last, making, reached, removing, walk, arriving}
use Rattle.lfs_model.specs.Effects.{answer_of, cut, effect, given, least_unused, new_file, with_file, with_place}
use Rattle.lfs_model.specs.Effects.{written, after_rename, without_row}
use Rattle.lfs_model.specs.Steps.{AllUsed, IsAnswer, IsCrowded, LacksInodes, MayLack}
use Rattle.lfs_model.proofs.Allowed.{may_make, may_arrive}
use Rattle.lfs_model.proofs.Deciding.{met_first, passes-append}
use Rattle.lfs_laws.proofs.HiddenLemmas.{Apart, Filled, NamesAlike, WalkEnd, child_comes, child_goes, entered}
use Rattle.lfs_laws.proofs.HiddenLemmas.{same_view, top, told, told_door, walk_end, same_child}
use Rattle.lfs_model.proofs.EffectTree.{childless}
use Rattle.lfs_model.proofs.LevelLemmas.{with_file-level, with_place-level}
use Rattle.lfs_model.proofs.Members.{children-hang, children-has, children-sorted, number_eq-Decides}
use Rattle.lfs_laws.proofs.ViewLaw.{view}
use Rattle.lfs_types.proofs.Maps.{get-insert_same, get-insert_other, get-remove_same, get-remove_other}

-- ---- one number in two worlds

module _ (w v : World) (n : ℕ) (same : map.get w.rows n ≡ map.get v.rows n) where
  put_same : (m : ℕ) (x : Row) → map.get (map.insert w.rows m x) n ≡ map.get (map.insert v.rows m x) n
  put_same m x = ⊎_elim
      (λ e. ap (map.get (map.insert w.rows m x)) e ∙ get-insert_same w.rows m x
      ∙ sym (ap (map.get (map.insert v.rows m x)) e ∙ get-insert_same v.rows m x))
      (λ off. get-insert_other w.rows m x n off ∙ same ∙ sym (get-insert_other v.rows m x n off))
      (cases_eq n m)

  drop_same : (m : ℕ) → map.get (map.remove w.rows m) n ≡ map.get (map.remove v.rows m) n
  drop_same m = ⊎_elim
      (λ e. ap (map.get (map.remove w.rows m)) e ∙ get-remove_same w.rows m
      ∙ sym (ap (map.get (map.remove v.rows m)) e ∙ get-remove_same v.rows m))
      (λ off. get-remove_other w.rows m n off ∙ same ∙ sym (get-remove_other v.rows m n off))
      (cases_eq n m)

  file_same : (o : Option Row) (m : ℕ) (change : File → File) → map.get (with_file o m change w).rows n
      ≡ map.get (with_file o m change v).rows n
  file_same None m change = same
  file_same (Some r) m change = put_same m (record r { file = change r.file })

  place_same : (o : Option Row) (m parent : ℕ) (name : List ℕ) → map.get (with_place o m parent name w).rows n
      ≡ map.get (with_place o m parent name v).rows n
  place_same None m parent name = same
  place_same (Some r) m parent name = put_same m (record r { parent = parent; name = name })

-- the least unused number
pub least_same : (rows others : Rows) → ((n : ℕ) → is_some (map.get rows n) ≡ is_some (map.get others n))
    → (count n : ℕ) → least_unused rows count n ≡ least_unused others count n
unfolding least_unused
least_same rows others used zero n = refl
least_same rows others used (suc count) n = λ i. cond (used n i) (least_same rows others used count (n + 1) i) n

-- ---- numbers that run out

used_too : {X : Type 0} (o p : Option X) → is_some o ≡ is_some p → IsSome o → IsSome p
used_too None None e h = h
used_too None (Some y) e h = absurd (cc)
used_too (Some x) None e h = absurd (cc)
used_too (Some x) (Some y) e h = refl

module _ (numbers : ℕ) (w v : World) where
  all_used : UseSameNumbers w v → AllUsed numbers w.rows → AllUsed numbers v.rows
  all_used used all n low high = used_too _ _ (used n) (all n low high)

  lacks_same : (request : Request) → (IsMaking request → UseSameNumbers w v) → LacksInodes numbers w request
      → LacksInodes numbers v request
  lacks_same (Stat path) used h = h
  lacks_same (Read path off len) used h = h
  lacks_same (Names path) used h = h
  lacks_same (Write path place bytes) used h = h
  lacks_same (SetLength path len) used h = h
  lacks_same (Create path mode) used h = all_used (used tt) h
  lacks_same (Mkdir path mode) used h = all_used (used tt) h
  lacks_same (Unlink path) used h = h
  lacks_same (Rmdir path) used h = h
  lacks_same (Rename from to) used h = h
  lacks_same (Chmod path mode) used h = h
  lacks_same (Chown path uid gid) used h = h
  lacks_same (Chflags path flags) used h = h
  lacks_same (SetLevel level) used h = h
  lacks_same Sync used h = h

-- ---- lists of rows

-- rising lists of the same numbers are one
one_list : (ms ns : List ℕ) → IsStrictlySortedBy nat_cmp ms → IsStrictlySortedBy nat_cmp ns
    → ((n : ℕ) → Contains ms n → Contains ns n) → ((n : ℕ) → Contains ns n → Contains ms n) → ms ≡ ns
one_list ms ns sorted ordered there back =
    btree_set_from_contains nat_cmp_total (record { keys = ms }) (record { keys = ns }) sorted ordered
    (λ n. same_from_decides (list_any (eq_by_cmp nat_cmp n) ms) (list_any (eq_by_cmp nat_cmp n) ns)
    (Decides-like _ (there n) (back n) (is_member-Decides number_eq-Decides ms n))
    (is_member-Decides number_eq-Decides ns n))
    nat_cmp-IsAntisymmetric

-- ---- one call

-- what removes a directory is called onto it
pub removes_onto : (w : World) (n : ℕ) (request : Request) → Removes w n Directory request → IsOnto w n request
removes_onto w n (Stat path) h = h
removes_onto w n (Read path off len) h = h
removes_onto w n (Names path) h = h
removes_onto w n (Write path place bytes) h = h
removes_onto w n (SetLength path len) h = h
removes_onto w n (Create path mode) h = h
removes_onto w n (Mkdir path mode) h = h
removes_onto w n (Unlink path) h = h
removes_onto w n (Rmdir path) h = h
removes_onto w n (Rename from to) h = h.0
removes_onto w n (Chmod path mode) h = h
removes_onto w n (Chown path uid gid) h = h
removes_onto w n (Chflags path flags) h = h
removes_onto w n (SetLevel level) h = h
removes_onto w n Sync h = h

-- where a call is denied in one of two worlds, and tells whether a directory is empty, the denial does
module _ (w v : World) (denial : Denial) where
  rmdir_behind : (path : List (List ℕ)) (x y : Option Denial) → x ≡ Some denial → TellsEmpty w v (Rmdir path) x y
      → denial.rule ≡ IsEmpty
  rmdir_behind path None y e h = absurd (cc)
  rmdir_behind path (Some one) None e h = ap (λ (a : Denial). a.rule) (number e) ∙ h.0
    where
      number : Some one ≡ Some denial → denial ≡ one
      number f = cc
  rmdir_behind path (Some one) (Some second) e h = absurd h

  denied_behind : (request : Request) (x y : Option Denial) → x ≡ Some denial → TellsEmpty w v request x y
      → IsDeniedBehind request denial
  denied_behind (Stat path) x y e h = absurd h
  denied_behind (Read path off len) x y e h = absurd h
  denied_behind (Names path) x y e h = absurd h
  denied_behind (Write path place bytes) x y e h = absurd h
  denied_behind (SetLength path len) x y e h = absurd h
  denied_behind (Create path mode) x y e h = absurd h
  denied_behind (Mkdir path mode) x y e h = absurd h
  denied_behind (Unlink path) x y e h = absurd h
  denied_behind (Rmdir path) x y e h = rmdir_behind path x y e h
  denied_behind (Rename from to) x y e h = ⊎_elim (λ m. inl (subst MayFollow e m.0)) (λ m. inr (sym e ∙ m.1)) h
  denied_behind (Chmod path mode) x y e h = absurd h
  denied_behind (Chown path uid gid) x y e h = absurd h
  denied_behind (Chflags path flags) x y e h = absurd h
  denied_behind (SetLevel level) x y e h = absurd h
  denied_behind Sync x y e h = absurd h

module _ (numbers : ℕ) (w v : World) (d : ℕ) (dir : Row) (tree : IsTree w.rows) (other : IsTree v.rows)
    (below : d ≢ root) (differ : DifferBeneath d dir w v)
    (caller : Caller) (shut : grants_of caller (attrs_of dir.file) bits.Search ≡ false) where
  -- what would tell whether the directory is empty tells nothing, where something hangs in it in both
  none_told : (request : Request) → (TellsEmpty w v request (decide w caller request) (decide v caller request)
      → IsOnto w d request → Filled w.rows d × Filled v.rows d)
      → TellsEmpty w v request (decide w caller request) (decide v caller request) → ⊥
  none_told request full h =
      let t = told w v d dir tree other below differ caller shut request h in
      let same = told_door w v d dir tree other below differ caller shut request t in
      let both = full h (subst (λ m. IsOnto w m request) same t.onto) in
      let one = both.0 in
      let two = both.1 in
      ⊎_elim
      (λ x. childless w.rows d (ap (λ m. length (children w.rows m) == 0) (sym same)
      ∙ x.0) one.name one.number one.child)
      (λ x. childless v.rows d (ap (λ m. length (children v.rows m) == 0) (sym same)
      ∙ x.0) two.name two.number two.child)
      t.differs

  -- ---- where paths lead

  abbrev End : List (List ℕ) → Type 0
  End path = WalkEnd w v d dir tree other below differ caller shut root path

  ends : (index : ℕ) (path : List (List ℕ)) → first_failing (walk w.rows caller index 0 root path) ≡ None → End path
  ends index path h = walk_end w v d dir tree other below differ caller shut path index 0 root
      (top w v d dir tree other below differ) h

  row_end : (path : List (List ℕ)) → End path → map.get w.rows (reached w.rows root path)
      ≡ map.get v.rows (reached v.rows root path)
  row_end path end = end.apart.same ∙ ap (map.get v.rows) end.same

  -- ---- what a call does outside

  -- worlds after a call agree where those before it did
  pub record SameEffect (x y : World) : Type 0 where
    pub level : x.level ≡ y.level
    pub rows : (n : ℕ) → map.get w.rows n ≡ map.get v.rows n → map.get x.rows n ≡ map.get y.rows n

  no_effect : SameEffect w v
  no_effect = record { level = differ.level; rows = λ n e. e }

  file_effect : (path : List (List ℕ)) (change : File → File) → End path
      → SameEffect (with_file (map.get w.rows (reached w.rows root path)) (reached w.rows root path) change w)
      (with_file (map.get v.rows (reached v.rows root path)) (reached v.rows root path) change v)
  file_effect path change end = record {
    level = with_file-level (map.get w.rows (reached w.rows root path)) _ change w ∙ differ.level
        ∙ sym (with_file-level (map.get v.rows (reached v.rows root path)) _ change v);
    rows = λ n e. file_same w v n e (map.get w.rows (reached w.rows root path)) (reached w.rows root path) change
        ∙ (λ i. map.get (with_file (row_end path end i) (end.same i) change v).rows n);
  }

  removed_effect : (path : List (List ℕ)) → End path
      → SameEffect (record w { rows = map.remove w.rows (reached w.rows root path) })
      (record v { rows = map.remove v.rows (reached v.rows root path) })
  removed_effect path end = record {
    level = differ.level;
    rows = λ n e. drop_same w v n e (reached w.rows root path) ∙ (λ i. map.get (map.remove v.rows (end.same i)) n);
  }

  abbrev new_row : Rows → List (List ℕ) → Kind → ℕ → Row
  new_row rows path kind mode = record {
    parent = reached rows root (front path);
    name = last path;
    file = new_file caller kind (file_at (map.get rows (reached rows root (front path)))).gid mode;
  }

  made_effect : UseSameNumbers w v → (path : List (List ℕ)) (kind : Kind) (mode : ℕ) → End (front path)
      → SameEffect (record w {
        rows = map.insert w.rows (least_unused w.rows numbers 4)
            (new_row w.rows path kind mode);
      }) (record v {
        rows =
            map.insert v.rows (least_unused v.rows numbers 4) (new_row v.rows path kind mode);
      })
  made_effect used path kind mode end = record {
    level = differ.level;
    rows = λ n e. put_same w v n e (least_unused w.rows numbers 4) (new_row w.rows path kind mode)
        ∙ (λ i. map.get (map.insert v.rows (least_same w.rows v.rows used numbers 4 i)
        (record {
          parent = end.same i;
          name = last path;
          file = new_file caller kind (file_at (row_end (front path) end i)).gid mode;
        })) n);
  }

  over_effect : (n m parent : ℕ) (name : List ℕ) → map.get w.rows n ≡ map.get v.rows n → (b : Bool)
      → SameEffect (cond b w (with_place (map.get w.rows n) n parent name (without_row m w)))
      (cond b v (with_place (map.get v.rows n) n parent name (without_row m v)))
  over_effect n m parent name row true = no_effect
  over_effect n m parent name row false = record {
    level = with_place-level (map.get w.rows n) n parent name (without_row m w) ∙ differ.level
        ∙ sym (with_place-level (map.get v.rows n) n parent name (without_row m v));
    rows = λ k e. place_same (without_row m w) (without_row m v) k (drop_same w v k e m)
        (map.get w.rows n) n parent name
        ∙ ap (λ o. map.get (with_place o n parent name (without_row m v)).rows k) row;
  }

  placed_effect : (n parent : ℕ) (name : List ℕ) → map.get w.rows n ≡ map.get v.rows n → (o : Option ℕ)
      → SameEffect (after_rename w n o parent name) (after_rename v n o parent name)
  placed_effect n parent name row None = record {
    level = with_place-level (map.get w.rows n) n parent name w ∙ differ.level
        ∙ sym (with_place-level (map.get v.rows n) n parent name v);
    rows = λ k e. place_same w v k e (map.get w.rows n) n parent name
        ∙ ap (λ o. map.get (with_place o n parent name v).rows k) row;
  }
  placed_effect n parent name row (Some m) = over_effect n m parent name row (m == n)

  -- what has a name in a directory outside has it in both
  child_end : (path : List (List ℕ)) → End (front path) → reached w.rows root (front path) ≢ d
      → child w.rows (reached w.rows root (front path)) (last path)
      ≡ child v.rows (reached v.rows root (front path)) (last path)
  child_end path into off = same_child w v d dir tree other below differ
      (reached w.rows root (front path)) into.apart off (last path) ∙ ap (λ q. child v.rows q (last path)) into.same

  renamed_effect : (from to : List (List ℕ)) → End from → End (front to) → reached w.rows root (front to) ≢ d
      → SameEffect (effect numbers w caller (Rename from to)) (effect numbers v caller (Rename from to))
  renamed_effect from to end into off =
      let n = reached w.rows root from in
      let p = reached w.rows root (front to) in
      let q = reached v.rows root (front to) in
      let one = effect numbers w caller (Rename from to) in
      let at_child = subst (λ o. SameEffect one (after_rename v n o p (last to))) (child_end to into off)
      (placed_effect n p (last to) end.apart.same (child w.rows p (last to))) in
      let at_parent = subst (λ m. SameEffect one (after_rename v n (child v.rows q (last to)) m (last to))) into.same
      at_child in
      subst (λ m. SameEffect one (after_rename v m (child v.rows q (last to)) q (last to))) end.same at_parent

  reaches : (path : List (List ℕ)) (tests : List Check) → first_failing (walk w.rows caller 0 0 root path ++ tests)
      ≡ None → End path
  reaches path tests h = ends 0 path (passes-append (walk w.rows caller 0 0 root path) tests h).0

  makes : (path : List (List ℕ)) → first_failing (making w.rows caller path) ≡ None → End (front path)
  makes path h = ends 0 (front path) (may_make w.rows tree caller path h).walks

  removes : (path : List (List ℕ)) → first_failing (removing w.rows caller path) ≡ None → End path
  removes path h = reaches path _ (met_first _ _ _ h).1

  pub effect_same : (request : Request) → (IsMaking request → UseSameNumbers w v) → decide w caller request ≡ None
      → SameEffect (effect numbers w caller request) (effect numbers v caller request)
  effect_same (Stat path) used h = no_effect
  effect_same (Read path off len) used h = no_effect
  effect_same (Names path) used h = no_effect
  effect_same (Write path place []) used h = no_effect
  effect_same (Write path place (b ∷ bs)) used h = file_effect path (written caller place (b ∷ bs)) (reaches path _ h)
  effect_same (SetLength path len) used h = file_effect path (cut caller len) (reaches path _ h)
  effect_same (Create path mode) used h = made_effect (used tt) path Regular mode (makes path h)
  effect_same (Mkdir path mode) used h = made_effect (used tt) path Directory mode (makes path h)
  effect_same (Unlink path) used h = removed_effect path
      (removes path (passes-append (removing w.rows caller path) _ h).0)
  effect_same (Rmdir path) used h = removed_effect path
      (removes path (passes-append (removing w.rows caller path) _ h).0)
  effect_same (Rename from to) used h =
      let one = passes-append (removing w.rows caller from) _ h in
      let into = may_arrive w.rows tree caller to (passes-append (arriving w.rows caller to) _ one.1).0 in
      renamed_effect from to (removes from one.0) (ends 1 (front to) into.walks)
      (entered w v d dir tree other below differ caller shut _ into.searches)
  effect_same (Chmod path mode) used h = file_effect path (λ f. record f { mode = mode }) (reaches path _ h)
  effect_same (Chown path uid gid) used h = file_effect path (given caller uid gid) (reaches path _ h)
  effect_same (Chflags path flags) used h = file_effect path (λ f. record f { flags = flags }) (reaches path _ h)
  effect_same (SetLevel level) used h = record { level = refl; rows = λ n e. e }
  effect_same Sync used h = no_effect

  -- ---- refusals

  children_same : (at : ℕ) → Apart w v d dir tree other below differ at → at ≢ d → children w.rows at
      ≡ children v.rows at
  children_same at a off = one_list (children w.rows at) (children v.rows at) (children-sorted w.rows at)
      (children-sorted v.rows at)
      (λ n c. children-has v.rows at _ n (child_goes w v d dir tree other below differ at a off _ n
      (children-hang w.rows at n c)))
      (λ n c. children-has w.rows at _ n (child_comes w v d dir tree other below differ at a off _ n
      (children-hang v.rows at n c)))

  many_same : (path : List (List ℕ)) → first_failing (making w.rows caller path) ≡ None
      → FILE_BLOCKS ≤ length (children w.rows (reached w.rows root (front path)))
      → FILE_BLOCKS ≤ length (children v.rows (reached v.rows root (front path)))
  many_same path h many =
      let end = makes path h in
      let off = entered w v d dir tree other below differ caller shut _ (may_make w.rows tree caller path h).searches in
      subst (λ l. FILE_BLOCKS ≤ length l) (children_same _ end.apart off ∙ ap (children v.rows) end.same) many

  crowded_same : (request : Request) → decide w caller request ≡ None → IsCrowded w request → IsCrowded v request
  crowded_same (Stat path) allowed h = h
  crowded_same (Read path off len) allowed h = h
  crowded_same (Names path) allowed h = h
  crowded_same (Write path place bytes) allowed h = h
  crowded_same (SetLength path len) allowed h = h
  crowded_same (Create path mode) allowed h = many_same path allowed h
  crowded_same (Mkdir path mode) allowed h = many_same path allowed h
  crowded_same (Unlink path) allowed h = h
  crowded_same (Rmdir path) allowed h = h
  crowded_same (Rename from to) allowed h =
      let into = may_arrive w.rows tree caller to
      (passes-append (arriving w.rows caller to) _ (passes-append (removing w.rows caller from) _ allowed).1).0 in
      let end = ends 1 (front to) into.walks in
      let off = entered w v d dir tree other below differ caller shut _ into.searches in (
        sym (child_end to end off) ∙ h.0,
        subst (λ l. FILE_BLOCKS ≤ length l) (children_same _ end.apart off
            ∙ ap (children v.rows) end.same) h.1,
      )
  crowded_same (Chmod path mode) allowed h = h
  crowded_same (Chown path uid gid) allowed h = h
  crowded_same (Chflags path flags) allowed h = h
  crowded_same (SetLevel level) allowed h = h
  crowded_same Sync allowed h = h

  lack_same : (request : Request) (resource : Resource) → (IsMaking request → UseSameNumbers w v)
      → decide w caller request ≡ None
      → MayLack numbers w request resource → MayLack numbers v request resource
  lack_same request NoInodes used allowed h = lacks_same numbers w v request used h
  lack_same request DirectoryFull used allowed h =
      (λ lacks. h.0 (lacks_same numbers v w request (λ m n. sym (used m n)) lacks), crowded_same request allowed h.1)
  lack_same request NoSpace used allowed h =
      (λ lacks. h.0 (lacks_same numbers v w request (λ m n. sym (used m n)) lacks), h.1)
  lack_same request NoMemory used allowed h = h
  lack_same request JournalFull used allowed h = h

  -- ---- answers

  module _ (request : Request) (names : NamesAlike w v d dir tree other below differ caller shut request) where
    decide_same : (TellsEmpty w v request (decide w caller request) (decide v caller request) → IsOnto w d request
        → Filled w.rows d × Filled v.rows d) → decide w caller request ≡ decide v caller request
    decide_same full = ⊎_elim (λ e. e) (λ h. absurd (none_told request full h))
        (view w v caller request tree other (same_view w v d dir tree other below differ caller shut request names)).0

    answer_same : decide w caller request ≡ None → answer_of w request ≡ answer_of v request
    answer_same allowed = (view w v caller request tree other
        (same_view w v d dir tree other below differ caller shut request names)).1 allowed

    pub answer_too : (answer : Answer) → (IsToldEmpty w d request answer → Filled w.rows d × Filled v.rows d)
        → (MayMakeRow request answer → UseSameNumbers w v) → IsAnswer numbers w caller request answer
        → IsAnswer numbers v caller request answer
    answer_too (Served shown) full used is = (
      sym (decide_same (λ h. full)) ∙ is.0,
      λ lacks. is.1
          (lacks_same numbers v w request (λ m n. sym (used m n)) lacks),
      is.2 ∙ answer_same is.0,
    )
    answer_too (Denied denial) full used is =
        sym (decide_same (λ h onto. full (onto, denied_behind w v denial request _ _ is h))) ∙ is
    answer_too (Refused resource) full used is =
        (sym (decide_same (λ h. full)) ∙ is.0, lack_same request resource used is.0 is.1)
