-- Whoever may make a call, in the words of Rights, is denied by no rule: `served`, half of the law whose other half is
-- MayLemmas, where both are joined. Each test of the call is met by one of the facts of `May`; the walk's tests follow
-- from `Reaches` by induction on the names, since whoever reaches a row reaches the directory above it and may search
-- that (`reaches_up`). The hard test is that a moved row isn't on the way to its new place: rows on a way are above its
-- end (`above`), and `MayHang` says that the moved row isn't.
use Rattle.std.proofs.Common.{◌≡◌, ◌≢◌, ◌⊎◌, ◌≤◌, ℕ, zero, suc, ◌+◌, ◌==◌, ◌&&◌, ◌||◌, not, Bool, true, false, cond}
use Rattle.std.proofs.Common.{List, [], ◌∷◌, length, Option, None, Some, inl, inr, refl, sym, ap, subst, ◌∙◌, ⊎_elim}
use Rattle.std.proofs.Common.{arith, eq-eqb, ne_eqb, ◌++◌}
use Rattle.std.proofs.lemmas.Bool.{not_from_false, or_left, or_parts, or_right}
use Rattle.lfs_model.proofs.WalkLemmas.{directory_kind}
use Rattle.std.specs.Prelude.{IsSomeAnd, is_none, is_some, nat_le, unwrap_or}
use Rattle.std.specs.List.{list_any}
use Rattle.std.specs.FinMap as map
use Rattle.lfs_types.specs.Caller.{Caller}
use Rattle.lfs_types.specs.Kinds.{is_directory_kind}
use Rattle.lfs_types.specs.Tree.{Row, World, root, attrs_of}
use Rattle.lfs_types.specs.declared.attrs.Attrs.{Attrs}
use Rattle.lfs_types.specs.declared.attrs.Bit.TheVariants as bits
use Rattle.lfs_types.specs.declared.attrs.Kind.{Kind}
use Rattle.lfs_types.specs.declared.attrs.Kind.TheVariants.{File as Regular, Directory}
use Rattle.lfs_types.specs.declared.request.Request.{Request}
use Rattle.lfs_types.specs.declared.request.Request.TheVariants.{Stat, Read, Write, List as Names, SetLength, Create}
use Rattle.lfs_types.specs.declared.request.Request.TheVariants.{Mkdir, Unlink, Rmdir, Rename, Chmod, Chown, Chflags}
use Rattle.lfs_types.specs.declared.request.Request.TheVariants.{SetLevel, Sync}
use Rattle.lfs_types.specs.declared.rule.Denial.{Denial}
use Rattle.lfs_rules.specs.Bits.{has_bit}
use Rattle.lfs_rules.specs.Grants.{grants_of}
use Rattle.lfs_rules.specs.Locks.{is_immutable, is_append_only}
use Rattle.lfs_rules.specs.Owners.{is_the_superuser, is_the_owner, is_in_group}
use Rattle.lfs_model.specs.World.{Rows, ancestor, parent_of, child, children, file_at, IsChild, IsTree}
use Rattle.lfs_laws.specs.LawDenied.{led}
use Rattle.lfs_laws.specs.LawServed.{IsNotUnder, May, MayHang, HasPlaceFor}
use Rattle.lfs_laws.specs.Rights.{MayPlace, MayTakeAway, Reaches, MayReplace, MayTakePlace}
use Rattle.lfs_model.specs.Rules.{Check, attrs_at, chflags_tests, chmod_tests, chown_tests, decide, first_failing}
use Rattle.lfs_model.specs.Rules.{front, is_directory_row, last, length_tests, list_tests, making, next, reached}
use Rattle.lfs_model.specs.Rules.{reaching, read_tests, removing, row_grants, stat_tests, visited, walk, write_tests}
use Rattle.lfs_model.specs.Rules.{arriving, is_there, last_tests, moving_tests, placing_tests, removing_tests}
use Rattle.lfs_model.specs.Rules.{replaced_tests}
use Rattle.lfs_model.proofs.Allowed.{child_there, directory_attrs, grants_attrs, last_step, reached_last}
use Rattle.lfs_model.proofs.Allowed.{directory_row_there}
use Rattle.lfs_model.proofs.Children.{child-is}
use Rattle.lfs_model.proofs.Deciding.{failing-behind}
use Rattle.lfs_types.proofs.Somewhere.{There, some_and}
use Rattle.lfs_model.proofs.Members.{children-none}
use Rattle.lfs_laws.proofs.Ways.{reaches_root}

-- ---- tests that are met

met_then : (met : Bool) (denial : Denial) (rest : Option Denial) → met ≡ true → rest ≡ None
    → cond met rest (Some denial) ≡ None
met_then met denial rest e h = ap (λ b. cond b rest (Some denial)) e ∙ h

pub at_most : (a b : ℕ) → a ≤ b → nat_le a b ≡ true
at_most a b h = grind (arith, h)

append_end : (append end : Bool) → (append ≡ true → end ≡ true) → (end || not append) ≡ true
append_end true true h = refl
append_end true false h = absurd (cc (h refl))
append_end false true h = refl
append_end false false h = refl

either : (super x : Bool) → (x ≡ true → super ≡ true) → (super || not x) ≡ true
either true x h = refl
either false true h = absurd (cc (h refl))
either false false h = refl

neither : (above clears : Bool) → (above ≡ true → clears ≡ false) → not (above && clears) ≡ true
neither true clears h = ap not (h refl)
neither false clears h = refl

unless : (lower init : Bool) → (lower ≡ true → init ≡ true) → not (lower && not init) ≡ true
unless true init h = ap (λ b. not (not b)) (h refl)
unless false init h = refl

pub gives : (s o u g m : Bool) → (s || o) ≡ true → (s ≡ true) ⊎ ((u ≡ true) × ((g ≡ true) ⊎ (m ≡ true)))
    → (s || ((o && u) && (g || m))) ≡ true
gives true o u g m h e = refl
gives false false u g m h e = absurd (cc)
gives false true u g m h e = ⊎_elim (λ s. absurd (cc (s))) (λ two. ⊎_elim
    (λ a. ap (λ b. b && (g || m)) two.0 ∙ or_left g m a)
    (λ a. ap (λ b. b && (g || m)) two.0 ∙ or_right g m a) two.1) e

free_of : (sticky s o d : Bool) → (sticky ≡ true → (s ≡ true) ⊎ (o ≡ true) ⊎ (d ≡ true))
    → not (sticky && not ((s || o) || d)) ≡ true
free_of false s o d h = refl
free_of true true o d h = refl
free_of true false true d h = refl
free_of true false false true h = refl
free_of true false false false h = absurd (⊎_elim (λ e. cc (e)) (λ r. ⊎_elim (λ e. cc (e)) (λ e. cc (e)) r) (h refl))

leaves : (d stays granted : Bool) → (d ≡ true → stays ≡ false → granted ≡ true) → (not d || stays || granted) ≡ true
leaves false stays granted h = refl
leaves true true granted h = refl
leaves true false granted h = h refl refl

-- ---- the way to a row that a caller reaches

module _ (rows : Rows) (caller : Caller) (tree : IsTree rows) where
  pub led_none : (names : List (List ℕ)) → led rows None names ≡ None
  led_none [] = refl
  led_none (name ∷ names) = led_none names

  led_onward : (at n : ℕ) (name : List ℕ) (names : List (List ℕ)) (o : Option ℕ) → child rows at name ≡ o
      → led rows o names ≡ Some n
      → ((m : ℕ) → led rows (Some m) names ≡ Some n → reached rows m names ≡ n) → reached rows at (name ∷ names) ≡ n
  led_onward at n name names None f e rest = absurd (cc (sym (led_none names) ∙ e))
  led_onward at n name names (Some m) f e rest = ap (λ o. reached rows (unwrap_or o 0) names) f ∙ rest m e

  -- a row to which names lead is the one that they reach
  pub led_reached : (at n : ℕ) (names : List (List ℕ)) → led rows (Some at) names ≡ Some n → reached rows at names ≡ n
  led_reached at n [] e = cc
  led_reached at n (name ∷ names) e = led_onward at n name names (child rows at name) refl e
      (λ m f. led_reached m n names f)

  pub record Up (n : ℕ) : Type 0 where
    pub reaches : Reaches rows caller n
    pub searches : row_grants caller bits.Search (map.get rows n) ≡ true

  -- whoever reaches a row reaches the directory above it, and may search that
  pub reaches_up : (n : ℕ) (r : Row) → map.get rows n ≡ Some r → n ≢ root → Reaches rows caller n → Up r.parent
  unfolding ancestor
  reaches_up n r there apart up = record {
    reaches = λ k below. subst (λ o. row_grants caller bits.Search (map.get rows (ancestor rows (suc k) (parent_of o)))
        ≡ true) there
        (up (suc k) (λ e. below (ap (λ o. ancestor rows k (parent_of o)) (sym there) ∙ e)));
    searches = subst (λ o. row_grants caller bits.Search (map.get rows (parent_of o)) ≡ true) there (up zero apart);
  }

  record Passed (path k at : ℕ) (names : List (List ℕ)) (n : ℕ) : Type 0 where
    walks : first_failing (walk rows caller path k at names) ≡ None
    ends : reached rows at names ≡ n
    up : Reaches rows caller at

  is_directory_at : (n : ℕ) → IsSomeAnd (map.get rows n) (λ p. p.file.kind ≡ Directory)
      → is_directory_row (map.get rows n) ≡ true
  is_directory_at n h = let s = some_and (map.get rows n) _ h in ap is_directory_row s.is ∙ ap is_directory_kind s.holds

  one_more : (path k at : ℕ) (name : List ℕ) (names : List (List ℕ)) (n m : ℕ) → child rows at name ≡ Some m
      → Passed path (k + 1) m names n → Passed path k at (name ∷ names) n
  one_more path k at name names n m e rest =
      let hangs = child-is rows at name m e in
      let above = reaches_up m hangs.row hangs.there hangs.below rest.up in
      let up : Up at = subst Up hangs.hangs above in
      let dir : is_directory_row (map.get rows at)
      ≡ true = subst (λ p. is_directory_row (map.get rows p) ≡ true) hangs.hangs
      (is_directory_at _ (tree.parents m hangs.row hangs.there)) in
      record {
        walks = met_then _ _ _ dir (met_then _ _ _ up.searches (met_then _ _ _ (ap is_some e)
            (subst (λ o. first_failing (walk rows caller path (k + 1) (unwrap_or o 0) names) ≡ None)
            (sym e) rest.walks)));
        ends = subst (λ o. reached rows (unwrap_or o 0) names ≡ n) (sym e) rest.ends;
        up = up.reaches;
      }

  onward : (path k at : ℕ) (name : List ℕ) (names : List (List ℕ)) (n : ℕ) (o : Option ℕ) → child rows at name ≡ o
      → led rows o names ≡ Some n
      → ((m : ℕ) → led rows (Some m) names ≡ Some n → Passed path (k + 1) m names n) → Passed path k at (name ∷ names) n
  onward path k at name names n None f e rest = absurd (cc (sym (led_none names) ∙ e))
  onward path k at name names n (Some m) f e rest = one_more path k at name names n m f (rest m e)

  passes : (path k at : ℕ) (names : List (List ℕ)) (n : ℕ) → led rows (Some at) names ≡ Some n → Reaches rows caller n
      → Passed path k at names n
  passes path k at [] n e up = let same : at
      ≡ n = cc in record { walks = refl; ends = same; up = subst (Reaches rows caller) (sym same) up }
  passes path k at (name ∷ names) n e up =
      onward path k at name names n (child rows at name) refl e (λ m f. passes path (k + 1) m names n f up)

  -- ---- a row at a path

  at_row : (n : ℕ) (r : Row) → map.get rows n ≡ Some r → attrs_at rows n ≡ attrs_of r.file
  at_row n r there = ap (λ o. attrs_of (file_at o)) there

  tested : (path : List (List ℕ)) (n : ℕ) (r : Row) → led rows (Some root) path ≡ Some n → map.get rows n ≡ Some r
      → Reaches rows caller n
      → (tests : Attrs → ℕ → List Check) → first_failing (tests (attrs_of r.file) (length path)) ≡ None
      → first_failing (reaching rows caller path tests) ≡ None
  tested path n r e there up tests h =
      let way = passes 0 0 root path n e up in
      failing-behind (walk rows caller 0 0 root path) _ way.walks
      ∙ ap (λ a. first_failing (tests a (length path))) (ap (attrs_at rows) way.ends ∙ at_row n r there) ∙ h

  -- ---- a place for a name

  free_name : (p : ℕ) (name : List ℕ) (o : Option ℕ) → child rows p name ≡ o → ((m : ℕ) → IsChild rows p name m → ⊥)
      → is_none (child rows p name) ≡ true
  free_name p name None e free = ap is_none e
  free_name p name (Some m) e free = absurd (free m (child-is rows p name m e))

  filled_path : (path : List (List ℕ)) → path ≢ [] → (length path == 0) ≡ false
  filled_path [] some = absurd (some refl)
  filled_path (name ∷ names) some = ne_eqb (suc (length names)) 0 (omega arith)

  makes : (path : List (List ℕ)) (p : ℕ) → path ≢ [] → led rows (Some root) (front path) ≡ Some p
      → MayPlace rows caller p (last path)
      → first_failing (making rows caller path) ≡ None
  makes path p filled e may =
      let way = passes 0 0 root (front path) p e may.writes.reaches in
      let there = directory_row_there _ may.directory in
      met_then _ _ _ (not_from_false _ (filled_path path filled))
      (failing-behind (walk rows caller 0 0 root (front path)) _ way.walks
      ∙ met_then _ _ _ (ap (λ n. is_directory_kind (attrs_at rows n).kind) way.ends ∙ sym (directory_attrs _ there)
      ∙ may.directory)
      (met_then _ _ _ (ap (λ n. grants_of caller (attrs_at rows n) bits.Search) way.ends
      ∙ sym (grants_attrs caller bits.Search _ there) ∙ may.searches)
      (met_then _ _ _ (ap (λ n. is_none (child rows n (last path))) way.ends ∙ free_name p (last path) _ refl may.free)
      (met_then _ _ _ (ap (λ n. not (is_immutable (attrs_at rows n))) way.ends ∙ not_from_false _ may.writes.mutable)
      (met_then _ _ _ (ap (λ n. grants_of caller (attrs_at rows n) bits.Write) way.ends
      ∙ sym (grants_attrs caller bits.Write _ there) ∙ may.writes.granted) refl)))))

  -- ---- a name that is taken away

  some_names : (path : List (List ℕ)) (n : ℕ) → led rows (Some root) path ≡ Some n → n ≢ root → (length path == 0)
      ≡ false
  some_names [] n e apart = let same : root ≡ n = cc in absurd (apart (sym same))
  some_names (name ∷ names) n e apart = ne_eqb (suc (length names)) 0 (omega arith)

  -- the names before the last lead to the row's parent
  above_is : (path : List (List ℕ)) (n : ℕ) (r : Row) → (length path == 0) ≡ false → map.get rows n ≡ Some r
      → Passed 0 0 root path n → reached rows root (front path) ≡ r.parent
  above_is path n r filled there way =
      let step = last_step rows caller 0 0 root path filled way.walks in
      let hangs = child-is rows (reached rows root (front path)) (last path)
      (next rows (reached rows root (front path)) (last path)) (child_there _ _ step.leads refl) in
      let same : next rows (reached rows root (front path)) (last path) ≡ n = sym (reached_last rows root path filled)
      ∙ way.ends in
      let row : hangs.row ≡ r = cc (hangs.there, ap (map.get rows) same, there) in
      sym hangs.hangs ∙ ap (λ (x : Row). x.parent) row

  parent_there : (n : ℕ) (r : Row) → map.get rows n ≡ Some r → There (map.get rows r.parent)
  parent_there n r there = directory_row_there _ (is_directory_at r.parent (tree.parents n r there))

  -- the tests of a name that a caller may take away, by any path
  removing_met : (index p m k : ℕ) → There (map.get rows p) → MayTakeAway rows caller m p
      → first_failing (removing_tests caller index (attrs_at rows p) (attrs_at rows m) k) ≡ None
  removing_met index p m k there may =
      let owners : (f d : Attrs) → (caller.uid ≡ 0) ⊎ (caller.uid ≡ f.uid) ⊎ (caller.uid ≡ d.uid)
      → (is_the_superuser caller ≡ true) ⊎ (is_the_owner caller f ≡ true) ⊎ (is_the_owner caller d ≡ true)
      = λ f d h. ⊎_elim (λ a. inl (eq-eqb caller.uid 0 a))
      (λ more. ⊎_elim (λ a. inr (inl (eq-eqb caller.uid f.uid a)))
      (λ a. inr (inr (eq-eqb caller.uid d.uid a))) more) h in
      met_then _ _ _ (not_from_false _ may.writes.mutable)
      (met_then _ _ _ (sym (grants_attrs caller bits.Write _ there) ∙ may.writes.granted)
      (met_then _ _ _ (not_from_false _ ((or_parts _ _ may.parent_loose).1))
      (met_then _ _ _ (free_of (has_bit (attrs_at rows p).mode 0o1000) (is_the_superuser caller)
      (is_the_owner caller (attrs_at rows m)) (is_the_owner caller (attrs_at rows p))
      (λ s. owners (attrs_at rows m) (attrs_at rows p) (may.sticky s)))
      (met_then _ _ _ (not_from_false _ ((or_parts _ _ may.loose).0))
      (met_then _ _ _ (not_from_false _ ((or_parts _ _ may.loose).1)) refl)))))

  removes : (path : List (List ℕ)) (n : ℕ) (r : Row) → led rows (Some root) path ≡ Some n → map.get rows n ≡ Some r
      → MayTakeAway rows caller n r.parent
      → first_failing (removing rows caller path) ≡ None
  removes path n r e there may =
      let filled = some_names path n e may.below in
      let way = passes 0 0 root path n e may.reaches in
      let up = above_is path n r filled there way in
      met_then _ _ _ (not_from_false _ filled) (failing-behind (walk rows caller 0 0 root path) _ way.walks
      ∙ (λ i. first_failing (removing_tests caller 0 (attrs_at rows (up i)) (attrs_at rows (way.ends i))
      (length (front path))))
      ∙ removing_met 0 r.parent n (length (front path)) (parent_there n r there) may)

  -- ---- a place for a row that is there

  arrives : (path : List (List ℕ)) (p : ℕ) → (length path == 0) ≡ false → Passed 1 0 root (front path) p
      → is_directory_row (map.get rows p) ≡ true → row_grants caller bits.Search (map.get rows p) ≡ true
      → first_failing (arriving rows caller path) ≡ None
  arrives path p filled way dir search =
      let there = directory_row_there _ dir in
      met_then _ _ _ (not_from_false _ filled) (failing-behind (walk rows caller 1 0 root (front path)) _ way.walks
      ∙ met_then _ _ _ (ap (λ n. is_directory_kind (attrs_at rows n).kind) way.ends ∙ sym (directory_attrs _ there)
      ∙ dir)
      (met_then _ _ _ (ap (λ n. grants_of caller (attrs_at rows n) bits.Search) way.ends
      ∙ sym (grants_attrs caller bits.Search _ there) ∙ search) refl))

  alike_kinds : (k l : Kind) → k ≡ l → ((not (is_directory_kind k) || is_directory_kind l) ≡ true)
      × ((is_directory_kind k || not (is_directory_kind l)) ≡ true)
  alike_kinds Regular Regular e = (refl, refl)
  alike_kinds Regular Directory e = absurd (cc)
  alike_kinds Directory Regular e = absurd (cc)
  alike_kinds Directory Directory e = (refl, refl)

  unless_met : (b : Bool) (checks : List Check) → first_failing checks ≡ None → first_failing (cond b [] checks) ≡ None
  unless_met true checks h = refl
  unless_met false checks h = h

  replaced_met : (p m k : ℕ) (moved : Attrs) → There (map.get rows p) → MayReplace rows caller moved.kind m p
      → first_failing (removing_tests caller 1 (attrs_at rows p) (attrs_at rows m) k
      ++ replaced_tests (length (children rows m) == 0) moved (attrs_at rows m) (k + 1)) ≡ None
  replaced_met p m k moved there may =
      let r = some_and (map.get rows m) _ may.alike in
      let kinds = alike_kinds (attrs_at rows m).kind moved.kind (ap (λ (x : Attrs). x.kind) (at_row m r.value r.is)
      ∙ r.holds) in
      failing-behind (removing_tests caller 1 (attrs_at rows p) (attrs_at rows m) k)
      (replaced_tests (length (children rows m) == 0) moved (attrs_at rows m) (k + 1))
      (removing_met 1 p m k there may.taken)
      ∙ met_then _ _ _ kinds.0 (met_then _ _ _ kinds.1 (met_then _ _ _ (children-none rows m may.childless) refl))

  placing_met : (moved p k : ℕ) (name : List ℕ) (o : Option ℕ) → child rows p name ≡ o
      → MayTakePlace rows caller (attrs_at rows moved).kind p name
      → first_failing (placing_tests rows caller moved p o k) ≡ None
  placing_met moved p k name None e may =
      met_then _ _ _ (not_from_false _ may.writes.mutable)
      (met_then _ _ _ (sym (grants_attrs caller bits.Write _ (directory_row_there _ may.directory))
      ∙ may.writes.granted) refl)
  placing_met moved p k name (Some m) e may =
      replaced_met p m k (attrs_at rows moved) (directory_row_there _ may.directory)
      (may.there m (child-is rows p name m e))

  -- ---- a place that isn't beneath a row

  ancestor_up : (k n : ℕ) → ancestor rows (suc k) n ≡ parent_of (map.get rows (ancestor rows k n))
  unfolding ancestor
  ancestor_up zero n = refl
  ancestor_up (suc k) n = ancestor_up k (parent_of (map.get rows n))

  abbrev Above : ℕ → ℕ → Type 0
  Above at m = (k : ℕ) × (ancestor rows k m ≡ at)

  one_up : (at m to : ℕ) (name : List ℕ) → child rows at name ≡ Some to → Above to m → Above at m
  one_up at m to name e up =
      let hangs = child-is rows at name to e in (
        suc up.0,
        ancestor_up up.0 m ∙ ap (λ n. parent_of (map.get rows n)) up.1 ∙ ap parent_of hangs.there
            ∙ hangs.hangs,
      )

  above_onward : (at : ℕ) (name : List ℕ) (names : List (List ℕ)) (m : ℕ) (o : Option ℕ) → child rows at name ≡ o
      → led rows o names ≡ Some m
      → ((to : ℕ) → led rows (Some to) names ≡ Some m → Above to m) → Above at m
  above_onward at name names m None f e rest = absurd (cc (sym (led_none names) ∙ e))
  above_onward at name names m (Some to) f e rest = one_up at m to name f (rest to e)

  -- what names lead from is above what they lead to
  above : (at : ℕ) (names : List (List ℕ)) (m : ℕ) → led rows (Some at) names ≡ Some m → Above at m
  unfolding ancestor
  above at [] m e = let same : at ≡ m = cc in (0, sym same)
  above at (name ∷ names) m e = above_onward at name names m (child rows at name) refl e (λ to f. above to names m f)

  -- whose way to it leads through no row that isn't above it
  off_onward : (at : ℕ) (name : List ℕ) (names : List (List ℕ)) (m n : ℕ) (o : Option ℕ) → child rows at name ≡ o
      → led rows o names ≡ Some m → at ≢ n
      → ((to : ℕ) → led rows (Some to) names ≡ Some m → list_any (λ x. x == n) (visited rows to names) ≡ false)
      → list_any (λ x. x == n) (visited rows at (name ∷ names)) ≡ false
  off_onward at name names m n None f e other rest = absurd (cc (sym (led_none names) ∙ e))
  off_onward at name names m n (Some to) f e other rest =
      ap (λ b. b || list_any (λ x. x == n) (visited rows (next rows at name) names)) (ne_eqb at n other)
      ∙ ap (λ o. list_any (λ x. x == n) (visited rows (unwrap_or o 0) names)) f
      ∙ rest to e

  off_way : (at : ℕ) (names : List (List ℕ)) (m n : ℕ) → led rows (Some at) names ≡ Some m → IsNotUnder rows n m
      → list_any (λ x. x == n) (visited rows at names) ≡ false
  off_way at names m n e apart =
      let up = above at names m e in
      off_from at names m n e apart (λ same. apart up.0 (up.1 ∙ same))
    where
      off_from : (at : ℕ) (names : List (List ℕ)) (m n : ℕ) → led rows (Some at) names ≡ Some m → IsNotUnder rows n m
          → at ≢ n → list_any (λ x. x == n) (visited rows at names) ≡ false
      off_from at [] m n e apart other = ap (λ b. b || false) (ne_eqb at n other)
      off_from at (name ∷ names) m n e apart other = off_onward at name names m n (child rows at name) refl e other
          (λ to f. let up = above to names m f in off_from to names m n f apart (λ same. apart up.0 (up.1 ∙ same)))

-- ---- each call

regular_then : (k : Kind) → k ≡ Regular → not (is_directory_kind k) ≡ true
regular_then k e = ap (λ x. not (is_directory_kind x)) e

module _ (w : World) (caller : Caller) (tree : IsTree w.rows) where
  -- a Rename's tests of the second path
  abbrev Arrives : List (List ℕ) → List (List ℕ) → Type 0
  Arrives from to = first_failing (arriving w.rows caller to
      ++ moving_tests w.rows caller from to (child w.rows (reached w.rows root (front to)) (last to))) ≡ None

  renamed_itself : (from to : List (List ℕ)) (n : ℕ) (r : Row) → map.get w.rows n ≡ Some r → led w.rows (Some root) from
      ≡ Some n → MayTakeAway w.rows caller n r.parent
      → led w.rows (Some root) to ≡ Some n → Arrives from to
  renamed_itself from to n r there leads may again =
      let filled = some_names w.rows caller tree to n again may.below in
      let way = passes w.rows caller tree 1 0 root to n again may.reaches in
      let step = last_step w.rows caller 1 0 root to filled way.walks in
      let dir = reached w.rows root (front to) in
      let into : Passed w.rows caller tree 1 0 root (front to) dir =
      record { walks = step.walks; ends = refl; up = reaches_root w.rows caller tree } in
      let is : child w.rows dir (last to) ≡ Some n = child_there _ _ step.leads refl
      ∙ ap Some (sym (reached_last w.rows root to filled) ∙ way.ends) in
      let from_way = passes w.rows caller tree 0 0 root from n leads may.reaches in
      failing-behind (arriving w.rows caller to) _
      (arrives w.rows caller tree to dir filled into step.directory step.searches)
      ∙ ap (λ o. first_failing (moving_tests w.rows caller from to o)) is
      ∙ ap (λ b. first_failing (cond b [] (placing_tests w.rows caller (reached w.rows root from) dir (Some n)
      (length (front to)) ++ last_tests w.rows caller from to)))
      (eq-eqb n (reached w.rows root from) (sym from_way.ends))

  last_met : (from to : List (List ℕ)) (n p : ℕ) (r : Row) → map.get w.rows n ≡ Some r → reached w.rows root from ≡ n
      → reached w.rows root (front from) ≡ r.parent → reached w.rows root (front to) ≡ p
      → led w.rows (Some root) (front to) ≡ Some p → MayHang w caller n r p
      → first_failing (last_tests w.rows caller from to) ≡ None
  last_met from to n p r there ends up into leads hang =
      let a = at_row w.rows caller tree n r there in
      met_then _ _ _ (ap (λ m. not (list_any (λ x. x == m) (visited w.rows root (front to)))) ends
      ∙ not_from_false _ (off_way w.rows caller tree root (front to) p n leads hang.apart))
      (met_then _ _ _ (leaves (is_directory_kind (attrs_at w.rows (reached w.rows root from)).kind)
      (reached w.rows root (front from) == reached w.rows root (front to))
      (grants_of caller (attrs_at w.rows (reached w.rows root from)) bits.Write)
      (λ d apart. ap (λ m. grants_of caller (attrs_at w.rows m) bits.Write) ends
      ∙ ap (λ x. grants_of caller x bits.Write) a
      ∙ hang.granted (directory_kind _ (ap (λ (x : Attrs). is_directory_kind x.kind) (sym a)
      ∙ ap (λ m. is_directory_kind (attrs_at w.rows m).kind) (sym ends) ∙ d))
      (λ same. absurd (cc (
        apart,
        eq-eqb (reached w.rows root (front from)) (reached w.rows root (front to)) (up
            ∙ sym same ∙ sym into),
      )))))
      refl)

  renamed_apart : (from to : List (List ℕ)) (n : ℕ) (r : Row) → map.get w.rows n ≡ Some r → led w.rows (Some root) from
      ≡ Some n → MayTakeAway w.rows caller n r.parent
      → HasPlaceFor w caller to r.file.kind (MayHang w caller n r) → Arrives from to
  renamed_apart from to n r there leads may place =
      let way = passes w.rows caller tree 0 0 root from n leads may.reaches in
      let up = above_is w.rows caller tree from n r (some_names w.rows caller tree from n leads may.below) there way in
      let into = passes w.rows caller tree 1 0 root (front to) place.parent place.leads place.placed.writes.reaches in
      let dir = reached w.rows root (front to) in
      let kind : r.file.kind ≡ (attrs_at w.rows (reached w.rows root from)).kind =
      sym (ap (λ (x : Attrs). x.kind) (ap (attrs_at w.rows) way.ends ∙ at_row w.rows caller tree n r there)) in
      let takes : MayTakePlace w.rows caller (attrs_at w.rows (reached w.rows root from)).kind dir (last to) =
      subst (λ k. MayTakePlace w.rows caller k dir (last to)) kind
      (subst (λ p. MayTakePlace w.rows caller r.file.kind p (last to)) (sym into.ends) place.placed) in
      failing-behind (arriving w.rows caller to) _
      (arrives w.rows caller tree to place.parent
      (filled_path w.rows caller tree to place.filled) into place.placed.directory place.placed.searches)
      ∙ unless_met w.rows caller tree (is_there (reached w.rows root from) (child w.rows dir (last to))) _
      (failing-behind (placing_tests w.rows caller (reached w.rows root from) dir (child w.rows dir (last to))
      (length (front to))) _
      (placing_met w.rows caller tree (reached w.rows root from) dir (length (front to)) (last to) _ refl takes)
      ∙ last_met from to n place.parent r there way.ends up into.ends place.leads place.holds)

  -- a Rename whose row may be taken away, and which has the second place already or may be brought there
  rename_served : (from to : List (List ℕ)) → May w caller (Rename from to) → decide w caller (Rename from to) ≡ None
  rename_served from to may =
      failing-behind (removing w.rows caller from) _
      (removes w.rows caller tree from may.number may.row may.leads may.there may.holds.0)
      ∙ ⊎_elim (renamed_itself from to may.number may.row may.there may.leads may.holds.0)
      (renamed_apart from to may.number may.row may.there may.leads may.holds.0) may.holds.1

  -- whoever may make a call is denied by no rule
  pub served : (request : Request) → May w caller request → decide w caller request ≡ None
  served (Stat path) may = tested w.rows caller tree path may.number may.row may.leads may.there may.holds stat_tests
      refl
  served (Read path off len) may = tested w.rows caller tree path may.number may.row may.leads may.there may.holds.0
      (read_tests caller)
      (met_then _ _ _ (regular_then _ may.holds.1) (met_then _ _ _ may.holds.2 refl))
  served (Names path) may = tested w.rows caller tree path may.number may.row may.leads may.there may.holds.0
      (list_tests caller)
      (met_then _ _ _ (ap is_directory_kind may.holds.1) (met_then _ _ _ may.holds.2 refl))
  served (Write path place bytes) may =
      let writes = may.holds.1 in
      let a = at_row w.rows caller tree may.number may.row may.there in
      tested w.rows caller tree path may.number may.row may.leads may.there writes.reaches
      (write_tests caller place (length bytes))
      (met_then _ _ _ (regular_then _ may.holds.0)
      (met_then _ _ _ (ap (λ x. not (is_immutable x)) (sym a) ∙ not_from_false _ writes.mutable)
      (met_then _ _ _ (ap (row_grants caller bits.Write) (sym may.there) ∙ writes.granted)
      (met_then _ _ _ (append_end _ _ may.holds.2)
      (met_then _ _ _ (at_most _ _ may.holds.3) refl)))))
  served (SetLength path len) may =
      let writes = may.holds.1 in
      let a = at_row w.rows caller tree may.number may.row may.there in
      tested w.rows caller tree path may.number may.row may.leads may.there writes.reaches (length_tests caller len)
      (met_then _ _ _ (regular_then _ may.holds.0)
      (met_then _ _ _ (ap (λ x. not (is_immutable x)) (sym a) ∙ not_from_false _ writes.mutable)
      (met_then _ _ _ (ap (row_grants caller bits.Write) (sym may.there) ∙ writes.granted)
      (met_then _ _ _ (not_from_false _ may.holds.2)
      (met_then _ _ _ (at_most _ _ may.holds.3) refl)))))
  served (Create path mode) may = makes w.rows caller tree path may.parent may.filled may.leads may.placed
  served (Mkdir path mode) may = makes w.rows caller tree path may.parent may.filled may.leads may.placed
  served (Unlink path) may =
      let way = passes w.rows caller tree 0 0 root path may.number may.leads may.holds.0.reaches in
      failing-behind (removing w.rows caller path) _
      (removes w.rows caller tree path may.number may.row may.leads may.there may.holds.0)
      ∙ met_then _ _ _ (ap (λ n. not (is_directory_kind (attrs_at w.rows n).kind)) way.ends
      ∙ ap (λ (x : Attrs). not (is_directory_kind x.kind)) (at_row w.rows caller tree may.number may.row may.there)
      ∙ regular_then _ may.holds.1) refl
  served (Rmdir path) may =
      let way = passes w.rows caller tree 0 0 root path may.number may.leads may.holds.0.reaches in
      failing-behind (removing w.rows caller path) _
      (removes w.rows caller tree path may.number may.row may.leads may.there may.holds.0)
      ∙ met_then _ _ _ (ap (λ n. is_directory_kind (attrs_at w.rows n).kind) way.ends
      ∙ ap (λ (x : Attrs). is_directory_kind x.kind) (at_row w.rows caller tree may.number may.row may.there)
      ∙ ap is_directory_kind may.holds.1)
      (met_then _ _ _ (ap (λ n. length (children w.rows n) == 0) way.ends ∙ ap (λ l. length l == 0) may.holds.2) refl)
  served (Rename from to) may = rename_served from to may
  served (Chmod path mode) may =
      let a = at_row w.rows caller tree may.number may.row may.there in
      tested w.rows caller tree path may.number may.row may.leads may.there may.holds.owns.reaches (chmod_tests caller)
      (met_then _ _ _ (ap (λ x. not (is_immutable x)) (sym a) ∙ not_from_false _ ((or_parts _ _ may.holds.loose).0))
      (met_then _ _ _ (ap (λ x. not (is_append_only x)) (sym a) ∙ not_from_false _ ((or_parts _ _ may.holds.loose).1))
      (met_then _ _ _ (ap (λ (x : Attrs). is_the_superuser caller || is_the_owner caller x) (sym a)
      ∙ may.holds.owns.owner) refl)))
  served (Chown path uid gid) may =
      let a = at_row w.rows caller tree may.number may.row may.there in
      let title = may.holds.0 in
      tested w.rows caller tree path may.number may.row may.leads may.there title.owns.reaches
      (chown_tests caller uid gid)
      (met_then _ _ _ (ap (λ x. not (is_immutable x)) (sym a) ∙ not_from_false _ ((or_parts _ _ title.loose).0))
      (met_then _ _ _ (ap (λ x. not (is_append_only x)) (sym a) ∙ not_from_false _ ((or_parts _ _ title.loose).1))
      (met_then _ _ _ (gives (is_the_superuser caller) (is_the_owner caller (attrs_of may.row.file))
      (uid == may.row.file.uid) (gid == may.row.file.gid) (is_in_group caller gid)
      (ap (λ (x : Attrs). is_the_superuser caller || is_the_owner caller x) (sym a) ∙ title.owns.owner)
      (⊎_elim (λ s. inl (eq-eqb caller.uid 0 s))
      (λ two. inr (
        eq-eqb uid may.row.file.uid two.0,
        ⊎_elim (λ g. inl (eq-eqb gid may.row.file.gid g)) (λ m. inr m) two.1,
      )) may.holds.1)) refl)))
  served (Chflags path flags) may =
      let a = at_row w.rows caller tree may.number may.row may.there in
      tested w.rows caller tree path may.number may.row may.leads may.there may.holds.0.reaches
      (chflags_tests caller w.level flags)
      (met_then _ _ _ (ap (λ (x : Attrs). is_the_superuser caller || is_the_owner caller x) (sym a) ∙ may.holds.0.owner)
      (met_then _ _ _ (either _ _ (λ s. eq-eqb caller.uid 0 (may.holds.1 s)))
      (met_then _ _ _ (neither _ _ may.holds.2) refl)))
  served (SetLevel level) may = met_then _ _ _ (eq-eqb caller.uid 0 may.0) (met_then _ _ _ (unless _ _ may.1) refl)
  served Sync may = refl
