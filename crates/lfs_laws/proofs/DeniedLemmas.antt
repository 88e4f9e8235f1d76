-- Each denial is true, and tells of a row only if the caller may search every directory before it: `tells_little`, for
-- the law of that name and HiddenLemmas. A record `At` goes along the walk: it has the names before a component, what
-- they lead to, and that the caller may pass them; at each test that fails it becomes `Tells`, and what the unmet test
-- says as a Bool is put as a fact (UnmetTests). Call by call, the tests are those of `rule_table` in their order: a
-- test asked before search would tell of a row that he may not know of, and no proof of its line could be found.
use Rattle.std.proofs.Common.{◌≡◌, ◌≢◌, ◌≤◌, ℕ, ◌+◌, ◌==◌, ◌||◌, not, Bool, true, false, cond, List, [], ◌∷◌, ◌++◌}
use Rattle.std.proofs.Common.{length, Option, None, Some, refl, sym, ap, subst, ◌∙◌, arith, append_assoc, append-nil}
use Rattle.std.proofs.Common.{length-append, eqb-true, eq-eqb}
use Rattle.std.proofs.lemmas.Bool.{eqb-false, not-true, not-false, or_parts}
use Rattle.std.specs.Prelude.{is_some, is_none, nat_le, slice_get, IsSome, IsSomeAnd}
use Rattle.std.specs.List.{list_any}
use Rattle.std.specs.FinMap as map
use Rattle.lfs_types.specs.Caller.{Caller}
use Rattle.lfs_types.specs.Kinds.{is_directory_kind}
use Rattle.lfs_types.specs.Tree.{Row, World, root, attrs_of}
use Rattle.lfs_types.specs.declared.attrs.Attrs.{Attrs}
use Rattle.lfs_types.specs.declared.attrs.Bit.TheVariants as bits
use Rattle.lfs_types.specs.declared.request.Request.{Request}
use Rattle.lfs_types.specs.declared.request.Request.TheVariants.{Stat, Read, Write, List as Names, SetLength, Create}
use Rattle.lfs_types.specs.declared.request.Request.TheVariants.{Mkdir, Unlink, Rmdir, Rename, Chmod, Chown, Chflags}
use Rattle.lfs_types.specs.declared.request.Request.TheVariants.{SetLevel, Sync}
use Rattle.lfs_types.specs.declared.rule.Denial.{Denial}
use Rattle.lfs_types.specs.declared.rule.Rule.{Rule}
use Rattle.lfs_types.specs.declared.rule.Rule.TheVariants.{IsDirectory, GrantsSearch, NameThere, NameFree}
use Rattle.lfs_types.specs.declared.rule.Rule.TheVariants.{IsNoDirectory, IsEmpty, IsNotRoot, IsNotBeneathItself}
use Rattle.lfs_types.specs.declared.rule.Rule.TheVariants.{IsMutable, IsNotAppendOnly, GrantsRead, GrantsWrite}
use Rattle.lfs_types.specs.declared.rule.Rule.TheVariants.{PassesSticky, IsOwner, MaySetOwner, MaySetFlags}
use Rattle.lfs_types.specs.declared.rule.Rule.TheVariants.{KeepsSystemLocks, FitsFile}
use Rattle.lfs_model.specs.World.{Rows, child, children, IsChild, IsTree}
use Rattle.lfs_model.specs.Rules.{Check, asks, attrs_at, change_tests, chflags_tests, chmod_tests, chown_tests}
use Rattle.lfs_model.specs.Rules.{file_max, is_end, length_tests, level_tests, list_tests, read_tests, start_in}
use Rattle.lfs_model.specs.Rules.{stat_tests, write_tests, decide, first_failing, front, last, making, next, position}
use Rattle.lfs_model.specs.Rules.{reached, reaching, removing, removing_tests, rmdir_tests, unlink_tests, row_grants}
use Rattle.lfs_model.specs.Rules.{is_directory_row, visited, walk, arriving, is_there, placing_tests, replaced_tests}
use Rattle.lfs_model.specs.Rules.{entering_tests, moving_tests, last_tests}
use Rattle.lfs_laws.specs.LawDenied.{child_of, led, IsTooLong, MayEnter, MayPass, Says, SaysAt, Tells, Told}
use Rattle.lfs_laws.specs.LawDenied.{TellsLittle}
use Rattle.lfs_rules.specs.Grants.{grants_of}
use Rattle.lfs_rules.specs.Locks.{is_immutable, is_append_only, keeps_system_locks, may_set_flags}
use Rattle.lfs_rules.specs.Owners.{may_set_owner}
use Rattle.lfs_rules.specs.Securelevel.{is_above_zero, is_lower}
use Rattle.lfs_model.proofs.Allowed.{child_there, directory_attrs, grants_attrs, last_step, reached_last, split_last}
use Rattle.lfs_model.proofs.Allowed.{MayArrive, may_arrive}
use Rattle.lfs_model.proofs.Children.{child-is}
use Rattle.lfs_model.proofs.Deciding.{met_first, passes-append}
use Rattle.lfs_model.proofs.WalkLemmas.{directory_kind, regular_kind}
use Rattle.lfs_types.proofs.Somewhere.{is_some_and, not_some, present, some_and, there_of}
use Rattle.lfs_laws.proofs.UnmetTests.{BarredBy, barred_by, both_of, each, fails, fails-append, full_directory}
use Rattle.lfs_laws.proofs.UnmetTests.{given_wrongly, kept, last_of, neither_owner, no_names, no_path, none_fails}
use Rattle.lfs_laws.proofs.UnmetTests.{not_most, not_none, nothing_left, of_row, one_left, parent_of_row, second_of}
use Rattle.lfs_laws.proofs.UnmetTests.{unless}

-- ---- ways

pass_more : (rows : Rows) (caller : Caller) (o : Option ℕ) (names : List (List ℕ)) (name : List ℕ)
    → MayPass rows caller o names → MayEnter rows caller (led rows o names)
    → MayPass rows caller o (names ++ name ∷ [])
pass_more rows caller o [] name p enter = (enter, tt)
pass_more rows caller o (x ∷ xs) name p enter = (p.0, pass_more rows caller (child_of rows o x) xs name p.1 enter)

led_more : (rows : Rows) (o : Option ℕ) (names : List (List ℕ)) (name : List ℕ) → led rows o (names ++ name ∷ [])
    ≡ child_of rows (led rows o names) name
led_more rows o [] name = refl
led_more rows o (x ∷ xs) name = led_more rows (child_of rows o x) xs name

-- a row at a component of a path, of which the caller may pass the names before it
record At (rows : Rows) (caller : Caller) (path : List (List ℕ)) (n k : ℕ) : Type 0 where
  front : List (List ℕ)
  behind : List (List ℕ)
  split : front ++ behind ≡ path
  counted : length front ≡ k
  passes : MayPass rows caller (Some root) front
  leads : led rows (Some root) front ≡ Some n
  there : IsSome (map.get rows n)

module _ (w : World) (caller : Caller) (request : Request) (tree : IsTree w.rows) (path : List (List ℕ)) where
  -- the root, before any name
  abbrev start : At w.rows caller path root 0
  start = let top = some_and (map.get w.rows root) _ tree.rooted in
      record {
        front = [];
        behind = path;
        split = refl;
        counted = refl;
        passes = tt;
        leads = refl;
        there = present top.is;
      }

  -- what is told of the row here
  abbrev Broken : (n k : ℕ) → At w.rows caller path n k → Rule → Type 0
  Broken n k a rule = (r : Row) → map.get w.rows n ≡ Some r → Says w caller request rule a.behind n r

  here : (n k : ℕ) (a : At w.rows caller path n k) (rule : Rule) → Broken n k a rule
      → Tells w caller request path rule k
  here n k a rule says = let there = there_of _ a.there in record {
    front = a.front;
    behind = a.behind;
    split = a.split;
    counted = a.counted;
    passes = a.passes;
    says = subst (SaysAt w caller request rule a.behind) (sym a.leads)
        (is_some_and (Says w caller request rule a.behind n) there.is (says there.value there.is));
  }

  -- no name is left at the end of a path
  none_behind : (n k : ℕ) (a : At w.rows caller path n k) → k ≡ length path → a.behind ≡ []
  none_behind n k a e =
      let long = length-append a.front a.behind in
      let whole = ap (length {A = List ℕ}) a.split in
      let count = a.counted in
      no_names a.behind (omega (arith, long, whole, count, e))

  -- the next name
  on_split : (n k : ℕ) (a : At w.rows caller path n k) (name : List ℕ) (rest : List (List ℕ)) → a.behind ≡ name ∷ rest
      → (a.front ++ name ∷ []) ++ rest ≡ path
  on_split n k a name rest is = append_assoc a.front (name ∷ []) rest ∙ ap (λ l. a.front ++ l) (sym is) ∙ a.split

  on_count : (n k : ℕ) (a : At w.rows caller path n k) (name : List ℕ) → length (a.front ++ name ∷ []) ≡ k + 1
  on_count n k a name = let long = length-append a.front (name ∷ []) in let count = a.counted in
      omega (arith, long, count)

  on_leads : (n k : ℕ) (a : At w.rows caller path n k) (name : List ℕ) → led w.rows (Some root) (a.front ++ name ∷ [])
      ≡ child w.rows n name
  on_leads n k a name = led_more w.rows (Some root) a.front name ∙ ap (λ o. child_of w.rows o name) a.leads

  on_passes : (n k : ℕ) (a : At w.rows caller path n k) (name : List ℕ) → MayEnter w.rows caller (Some n)
      → MayPass w.rows caller (Some root) (a.front ++ name ∷ [])
  on_passes n k a name enter = pass_more w.rows caller (Some root) a.front name a.passes
      (subst (MayEnter w.rows caller) (sym a.leads) enter)

  abbrev next_at : (n k : ℕ) (a : At w.rows caller path n k) (name : List ℕ) (rest : List (List ℕ)) → a.behind ≡ name
      ∷ rest → MayEnter w.rows caller (Some n)
      → (m : ℕ) → child w.rows n name ≡ Some m → At w.rows caller path m (k + 1)
  next_at n k a name rest is enter m at = record {
    front = a.front ++ name ∷ [];
    behind = rest;
    split = on_split n k a name rest is;
    counted = on_count n k a name;
    passes = on_passes n k a name enter;
    leads = on_leads n k a name ∙ at;
    there = present (child-is w.rows n name m at).there;
  }

  -- a name that isn't there
  missing : (n k : ℕ) (a : At w.rows caller path n k) (name : List ℕ) (rest : List (List ℕ)) → a.behind ≡ name ∷ rest
      → MayEnter w.rows caller (Some n)
      → child w.rows n name ≡ None → Tells w caller request path NameThere (k + 1)
  missing n k a name rest is enter none = record {
    front = a.front ++ name ∷ [];
    behind = rest;
    split = on_split n k a name rest is;
    counted = on_count n k a name;
    passes = on_passes n k a name enter;
    says = subst (SaysAt w caller request NameThere rest) (sym (on_leads n k a name ∙ none)) tt;
  }

  module _ (index : ℕ) (D : Denial → Type 0) (tells : (rule : Rule) (k : ℕ) → Tells w caller request path rule k
      → D (record { rule = rule; path = index; at = k })) where
    -- a walk along names, and tests behind it
    along : (names rest : List (List ℕ)) (n k : ℕ) (a : At w.rows caller path n k) → a.behind ≡ names ++ rest
        → (tail : List Check)
        → ((j : ℕ) → j ≡ k + length names → (b : At w.rows caller path (reached w.rows n names) j) → b.behind ≡ rest
        → (denial : Denial) → first_failing tail ≡ Some denial → D denial)
        → (denial : Denial) → first_failing (walk w.rows caller index k n names ++ tail) ≡ Some denial → D denial
    along [] rest n k a is tail on denial h = on k (omega arith) a is denial h
    along (name ∷ names) rest n k a is tail on denial h =
        fails D (is_directory_row (map.get w.rows n)) _ _
        (λ none. tells IsDirectory k (here n k a IsDirectory
        (λ r there. regular_kind r.file.kind (ap is_directory_row (sym there) ∙ none))))
        (λ dir. fails D (row_grants caller bits.Search (map.get w.rows n)) _ _
        (λ none. tells GrantsSearch k (here n k a GrantsSearch
        (λ r there. (
          directory_kind r.file.kind (ap is_directory_row (sym there) ∙ dir),
          ap (row_grants caller bits.Search) (sym there) ∙ none,
        ))))
        (λ search. fails D (is_some (child w.rows n name)) _ _
        (λ none. tells NameThere (k + 1) (missing n k a name (names ++ rest) is (dir, search) (not_some _ none)))
        (λ some. along names rest (next w.rows n name) (k + 1)
        (next_at n k a name (names ++ rest) is (dir, search) (next w.rows n name) (child_there _ _ some refl)) refl tail
        (λ j e. on j (omega (arith, e))))))
        denial h

    -- tests of the attributes at the end of the path
    at_path : (tests : Attrs → ℕ → List Check)
        → ((n : ℕ) → At w.rows caller path n (length path) → (denial : Denial)
        → first_failing (tests (attrs_at w.rows n) (length path)) ≡ Some denial → D denial)
        → (denial : Denial) → first_failing (walk w.rows caller index 0 root path
        ++ tests (attrs_at w.rows (reached w.rows root path)) (length path)) ≡ Some denial → D denial
    at_path tests on = along path [] root 0 start (sym (append-nil path))
        (tests (attrs_at w.rows (reached w.rows root path)) (length path))
        (λ j e b is. on (reached w.rows root path)
        (subst (At w.rows caller path (reached w.rows root path)) (let same : j
        ≡ length path = omega (arith, e) in same) b))

    -- a test by a rule of a row that is there
    ok : (n k : ℕ) (a : At w.rows caller path n k) (rule : Rule) → Broken n k a rule
        → D (record { rule = rule; path = index; at = k })
    ok n k a rule says = tells rule k (here n k a rule says)

    -- so at a component that is said otherwise
    tell_at : (n j k : ℕ) → j ≡ k → (a : At w.rows caller path n j) (rule : Rule) → Broken n j a rule
        → D (record { rule = rule; path = index; at = k })
    tell_at n j k e a rule says = subst (λ q. D (record { rule = rule; path = index; at = q })) e (ok n j a rule says)

  -- the tests of a new row
  module _ (D : Denial → Type 0) (tells : (rule : Rule) (k : ℕ) → Tells w caller request path rule k
      → D (record { rule = rule; path = 0; at = k })) where
    made : (denial : Denial) → first_failing (making w.rows caller path) ≡ Some denial → D denial
    made = fails D (not (length path == 0)) _ _
        (λ none. ok 0 D tells root 0 start NameFree (λ r there. no_path path none))
        (λ some. along 0 D tells (front path) (last path ∷ []) root 0 start (sym (split_last path (not-true _ some))) _
        (λ j e b is. let at : j ≡ length (front path) = omega (arith, e) in
        let dir = reached w.rows root (front path) in
        let attrs = attrs_at w.rows dir in
        let kind_is = directory_attrs (map.get w.rows dir) (there_of _ b.there) in
        let search_is = grants_attrs caller bits.Search (map.get w.rows dir) (there_of _ b.there) in
        fails D (is_directory_kind attrs.kind) _ _
        (λ none. tell_at 0 D tells _ j _ at b IsDirectory
        (λ r there. regular_kind r.file.kind (of_row w.rows dir r there (λ x. is_directory_kind x.kind
        ≡ false) none)))
        (λ d. fails D (grants_of caller attrs bits.Search) _ _
        (λ none. tell_at 0 D tells _ j _ at b GrantsSearch
        (λ r there. (
          directory_kind r.file.kind (of_row w.rows dir r there (λ x. is_directory_kind x.kind
              ≡ true) d),
          of_row w.rows dir r there (λ x. grants_of caller x bits.Search ≡ false) none,
        )))
        (λ s. fails D (is_none (child w.rows dir (last path))) _ _
        (λ taken. let m = not_none (child w.rows dir (last path)) taken in
        let c = next_at _ j b (last path) [] is (kind_is ∙ d, search_is ∙ s) m.0 m.1 in
        tell_at 0 D tells m.0 (j + 1) _ (ap (λ q. q + 1) at) c NameFree (λ r there. refl))
        (λ free. fails D (not (is_immutable attrs)) _ _
        (λ none. tell_at 0 D tells _ j _ at b IsMutable
        (λ r there. (
          one_left b.behind (last path) is,
          of_row w.rows dir r there (λ x. is_immutable x ≡ true) (not-false _ none),
        )))
        (λ m. fails D (grants_of caller attrs bits.Write) _ _
        (λ none. tell_at 0 D tells _ j _ at b GrantsWrite
        (λ r there. (
          one_left b.behind (last path) is,
          of_row w.rows dir r there (λ x. grants_of caller x bits.Write ≡ false) none,
        )))
        (λ g. none_fails D)))))))

  -- ---- where a walk that passes ends

  record Ended (n k : ℕ) (names rest : List (List ℕ)) : Type 0 where
    to : ℕ
    is : to ≡ k + length names
    at : At w.rows caller path (reached w.rows n names) to
    left : at.behind ≡ rest

  ended : (index : ℕ) (names rest : List (List ℕ)) (n k : ℕ) (a : At w.rows caller path n k) → a.behind ≡ names ++ rest
      → first_failing (walk w.rows caller index k n names) ≡ None → Ended n k names rest
  ended index [] rest n k a is h = record { to = k; is = omega arith; at = a; left = is }
  ended index (name ∷ names) rest n k a is h =
      let d = met_first _ _ _ h in
      let s = met_first _ _ _ d.1 in
      let t = met_first _ _ _ s.1 in
      let on = ended index names rest (next w.rows n name) (k + 1)
      (next_at n k a name (names ++ rest) is (d.0, s.0) (next w.rows n name) (child_there _ _ t.0 refl)) refl t.1 in
      let e = on.is in
      record { to = on.to; is = omega (arith, e); at = on.at; left = on.left }

  -- the tests of a directory, and of what hangs in it, whose name is to go
  lost : (index : ℕ) (D : Denial → Type 0) (tells : (rule : Rule) (k : ℕ) → Tells w caller request path rule k
      → D (record { rule = rule; path = index; at = k }))
      → (dir m : ℕ) (name : List ℕ) (hangs : IsChild w.rows dir name m) (j k : ℕ) → j ≡ k → j + 1 ≡ k + 1
      → (a : At w.rows caller path dir j) → length a.behind ≤ 1
      → (c : At w.rows caller path m (j + 1)) → c.behind ≡ [] → (denial : Denial)
      → first_failing (removing_tests caller index (attrs_at w.rows dir) (attrs_at w.rows m) k) ≡ Some denial
      → D denial
  lost index D tells dir m name hangs j k at after a one c last_one =
      each D (removing_tests caller index (attrs_at w.rows dir) (attrs_at w.rows m) k) (
        λ f. tell_at index D tells _ j _ at a IsMutable
            (λ r there. (one, of_row w.rows dir r there (λ x. is_immutable x ≡ true) (not-false _ f))),
        (
          λ f. tell_at index D tells _ j _ at a GrantsWrite
              (λ r there. (one, of_row w.rows dir r there (λ x. grants_of caller x bits.Write ≡ false) f)),
          (
            λ f. tell_at index D tells _ j _ at a IsNotAppendOnly
                (λ r there. (one, of_row w.rows dir r there (λ x. is_append_only x ≡ true) (not-false _ f))),
            (
              λ f. tell_at index D tells _ (j + 1) _ after c PassesSticky (λ r there. (
                last_one,
                kept w caller r (subst (λ p. BarredBy caller (attrs_at w.rows p) (attrs_of r.file))
                    (parent_of_row w.rows m r there dir hangs)
                    (of_row w.rows m r there (λ x. BarredBy caller (attrs_at w.rows dir) x)
                    (barred_by caller (attrs_at w.rows dir) (attrs_at w.rows m) (not-false _ f)))),
              )),
              (
                λ f. tell_at index D tells _ (j + 1) _ after c IsMutable
                    (λ r there. (
                      nothing_left c.behind last_one,
                      of_row w.rows m r there (λ x. is_immutable x ≡ true) (not-false _ f),
                    )),
                (
                  λ f. tell_at index D tells _ (j + 1) _ after c IsNotAppendOnly
                      (λ r there. (
                        nothing_left c.behind last_one,
                        of_row w.rows m r there (λ x. is_append_only x ≡ true) (not-false _ f),
                      )),
                  tt,
                ),
              ),
            ),
          ),
        ),
      )

  -- the tests of taking a name away
  module _ (D : Denial → Type 0) (tells : (rule : Rule) (k : ℕ) → Tells w caller request path rule k
      → D (record { rule = rule; path = 0; at = k })) where
    removed : (denial : Denial) → first_failing (removing w.rows caller path) ≡ Some denial → D denial
    removed = fails D (not (length path == 0)) _ _
        (λ none. ok 0 D tells root 0 start IsNotRoot (λ r there. (no_path path none, refl)))
        (λ some. let filled = not-true _ some in
        let k = length (front path) in
        let dir = reached w.rows root (front path) in
        let end_row = reached w.rows root path in
        let tests = removing_tests caller 0 (attrs_at w.rows dir) (attrs_at w.rows end_row) k in
        fails-append D (walk w.rows caller 0 0 root path) tests
        (λ denial h. along 0 D tells path [] root 0 start (sym (append-nil path)) [] (λ j e b is. none_fails D) denial
        (ap first_failing (append-nil (walk w.rows caller 0 0 root path)) ∙ h))
        (λ walks. let step = last_step w.rows caller 0 0 root path filled walks in
        let end = ended 0 (front path) (last path ∷ []) root 0 start (sym (split_last path filled)) step.walks in
        let to = end.is in
        let at : end.to ≡ k = omega (arith, to) in
        let after : end.to + 1 ≡ k + 1 = omega (arith, to) in
        let one = one_left end.at.behind (last path) end.left in
        let leads : child w.rows dir (last path)
        ≡ Some end_row = child_there _ _ step.leads (reached_last w.rows root path filled) in
        let hangs = child-is w.rows dir (last path) end_row leads in
        let c = next_at _ end.to end.at (last path) [] end.left (step.directory, step.searches) end_row leads in
        lost 0 D tells dir end_row (last path) hangs _ _ at after end.at one c refl))

  -- the tests of the way to another place
  module _ (D : Denial → Type 0) (tells : (rule : Rule) (k : ℕ) → Tells w caller request path rule k
      → D (record { rule = rule; path = 1; at = k })) where
    arrived : (denial : Denial) → first_failing (arriving w.rows caller path) ≡ Some denial → D denial
    arrived = fails D (not (length path == 0)) _ _
        (λ none. ok 1 D tells root 0 start IsNotRoot (λ r there. (no_path path none, refl)))
        (λ some. along 1 D tells (front path) (last path ∷ []) root 0 start (sym (split_last path (not-true _ some))) _
        (λ j e b is. let at : j ≡ length (front path) = omega (arith, e) in
        let dir = reached w.rows root (front path) in
        fails D (is_directory_kind (attrs_at w.rows dir).kind) _ _
        (λ none. tell_at 1 D tells _ j _ at b IsDirectory
        (λ r there. regular_kind r.file.kind (of_row w.rows dir r there (λ x. is_directory_kind x.kind
        ≡ false) none)))
        (λ d. fails D (grants_of caller (attrs_at w.rows dir) bits.Search) _ _
        (λ none. tell_at 1 D tells _ j _ at b GrantsSearch
        (λ r there. (
          directory_kind r.file.kind (of_row w.rows dir r there (λ x. is_directory_kind x.kind
              ≡ true) d),
          of_row w.rows dir r there (λ x. grants_of caller x bits.Search ≡ false) none,
        )))
        (λ s. none_fails D))))

    -- and of the directory and the row there
    placed : (moved : ℕ) (o : Option ℕ) → child w.rows (reached w.rows root (front path)) (last path) ≡ o
        → MayArrive w.rows caller path
        → (denial : Denial) → first_failing (placing_tests w.rows caller moved (reached w.rows root (front path)) o
        (length (front path))) ≡ Some denial → D denial
    placed moved None is into =
        let dir = reached w.rows root (front path) in
        let end = ended 1 (front path) (last path ∷ []) root 0 start (sym (split_last path into.filled)) into.walks in
        let to = end.is in
        let at : end.to ≡ length (front path) = omega (arith, to) in
        let one = one_left end.at.behind (last path) end.left in
        each D (entering_tests caller 1 (attrs_at w.rows dir) (length (front path))) (
          λ f. tell_at 1 D tells _ end.to _ at end.at IsMutable
              (λ r there. (one, of_row w.rows dir r there (λ x. is_immutable x ≡ true) (not-false _ f))),
          (
            λ f. tell_at 1 D tells _ end.to _ at end.at GrantsWrite
                (λ r there. (one, of_row w.rows dir r there (λ x. grants_of caller x bits.Write ≡ false) f)),
            tt,
          ),
        )
    placed moved (Some m) is into =
        let k = length (front path) in
        let dir = reached w.rows root (front path) in
        let end = ended 1 (front path) (last path ∷ []) root 0 start (sym (split_last path into.filled)) into.walks in
        let to = end.is in
        let at : end.to ≡ k = omega (arith, to) in
        let after : end.to + 1 ≡ k + 1 = omega (arith, to) in
        let one = one_left end.at.behind (last path) end.left in
        let hangs = child-is w.rows dir (last path) m is in
        let c = next_at _ end.to end.at (last path) [] end.left (into.directory, into.searches) m is in
        fails-append D (removing_tests caller 1 (attrs_at w.rows dir) (attrs_at w.rows m) k)
        (replaced_tests (length (children w.rows m) == 0) (attrs_at w.rows moved) (attrs_at w.rows m) (k + 1))
        (lost 1 D tells dir m (last path) hangs _ _ at after end.at one c refl)
        (λ first. fails D (not (is_directory_kind (attrs_at w.rows m).kind) || is_directory_kind
        (attrs_at w.rows moved).kind) _ _
        (λ f. tell_at 1 D tells _ (end.to + 1) _ after c IsNoDirectory
        (λ r there. (
          refl,
          directory_kind r.file.kind
              (of_row w.rows m r there (λ x. is_directory_kind x.kind ≡ true) (not-false _ (or_parts _ _ f).0)),
        )))
        (λ no. fails D (is_directory_kind (attrs_at w.rows m).kind || not
        (is_directory_kind (attrs_at w.rows moved).kind)) _ _
        (λ f. tell_at 1 D tells _ (end.to + 1) _ after c IsDirectory
        (λ r there. regular_kind r.file.kind (of_row w.rows m r there (λ x. is_directory_kind x.kind ≡ false)
        (or_parts _ _ f).0)))
        (λ yes. fails D (length (children w.rows m) == 0) _ _
        (λ f. tell_at 1 D tells _ (end.to + 1) _ after c IsEmpty
        (λ r there. (
          refl,
          full_directory w.rows caller tree m r there f,
          λ none. let zero_long = eq-eqb _ 0 (ap (length {A = ℕ}) none) in cc (zero_long, f),
        )))
        (λ e. none_fails D))))

  -- what a call takes away stands at the end of its path
  taken_end : first_failing (removing w.rows caller path) ≡ None
      → At w.rows caller path (reached w.rows root path) (length path)
  taken_end h =
      let some = met_first (not (length path == 0)) _ _ h in
      let walks = passes-append (walk w.rows caller 0 0 root path) _ some.1 in
      let end = ended 0 path [] root 0 start (sym (append-nil path)) walks.0 in
      let to = end.is in
      let steps : end.to ≡ length path = omega (arith, to) in
      subst (λ k. At w.rows caller path (reached w.rows root path) k) steps end.at

  -- a row that a walk goes through, before these names
  record Visited (n k : ℕ) : Type 0 where
    to : ℕ
    is : to ≡ k
    at : At w.rows caller path n to
    left : at.behind ≢ []

  visit_here : (n moved k : ℕ) (a : At w.rows caller path n k) → a.behind ≢ [] → (b : Bool) → (n == moved) ≡ b
      → (others : Bool) (p : ℕ) → (b || others) ≡ true
      → (others ≡ true → Visited moved ((k + 1) + p)) → Visited moved (k + cond b 0 (1 + p))
  visit_here n moved k a left true e others p h on =
      let same = eqb-true n moved e in
      record {
        to = k;
        is = omega arith;
        at = record {
          front = a.front;
          behind = a.behind;
          split = a.split;
          counted = a.counted;
          passes = a.passes;
          leads = a.leads ∙ ap Some same;
          there = subst (λ m. IsSome (map.get w.rows m)) same a.there;
        };
        left = left;
      }
  visit_here n moved k a left false e others p h on = let v = on h in let at = v.is in
      record { to = v.to; is = omega (arith, at); at = v.at; left = v.left }

  visits : (index : ℕ) (names rest : List (List ℕ)) (n k : ℕ) (a : At w.rows caller path n k) → a.behind ≡ names ++ rest
      → rest ≢ [] → first_failing (walk w.rows caller index k n names) ≡ None → (moved : ℕ)
      → list_any (λ m. m == moved) (visited w.rows n names) ≡ true
      → Visited moved (k + position moved (visited w.rows n names))
  visits index [] rest n k a is some h moved any =
      visit_here n moved k a (λ e. some (sym is ∙ e)) (n == moved) refl false 0 any (λ wrong. absurd (cc))
  visits index (name ∷ names) rest n k a is some h moved any =
      let d = met_first _ _ _ h in
      let s = met_first _ _ _ d.1 in
      let t = met_first _ _ _ s.1 in
      let b = next_at n k a name (names ++ rest) is (d.0, s.0) (next w.rows n name) (child_there _ _ t.0 refl) in
      visit_here n moved k a (λ e. cc (sym is ∙ e)) (n == moved) refl
      (list_any (λ m. m == moved) (visited w.rows (next w.rows n name) names))
      (position moved (visited w.rows (next w.rows n name) names)) any
      (visits index names rest (next w.rows n name) (k + 1) b refl some t.1 moved)

-- ---- each call

module _ (w : World) (caller : Caller) (tree : IsTree w.rows) where
  -- what a denial tells of the only path of a call
  abbrev Along : Request → List (List ℕ) → Denial → Type 0
  Along request path d = IsSomeAnd (slice_get (path ∷ []) d.path) (λ p. Tells w caller request p d.rule d.at)

  -- the object of a call, at the end of its path
  abbrev Object : List (List ℕ) → ℕ → Type 0
  Object path n = At w.rows caller path n (length path)

  -- a call of what a path leads to
  by_path : (request : Request) (path : List (List ℕ)) (tests : Attrs → ℕ → List Check)
      → ((n : ℕ) (a : Object path n) (denial : Denial) → first_failing (tests (attrs_at w.rows n) (length path))
      ≡ Some denial
      → Along request path denial)
      → (denial : Denial) → first_failing (reaching w.rows caller path tests) ≡ Some denial → Along request path denial
  by_path request path tests on = at_path w caller request tree path 0 (Along request path) (λ rule k t. t) tests on

  -- no name is left behind the object
  at_last : (request : Request) (path : List (List ℕ)) (n : ℕ) (a : Object path n) → a.behind ≡ []
  at_last request path n a = none_behind w caller request tree path n (length path) a refl

  -- of the object, at the path's end, this is so
  object : (request : Request) (path : List (List ℕ)) (n : ℕ) (a : Object path n) (rule : Rule)
      → ((r : Row) → map.get w.rows n ≡ Some r → Says w caller request rule [] n r)
      → Tells w caller request path rule (length path)
  object request path n a rule says =
      here w caller request tree path n (length path) a rule
      (λ r there. subst (λ l. Says w caller request rule l n r) (sym (at_last request path n a)) (says r there))

  change_told : (request : Request) (path : List (List ℕ)) (appends : Bool) (fits : Attrs → Bool)
      → ((r : Row) → fits (attrs_of r.file) ≡ false → IsTooLong request r)
      → (n : ℕ) (a : Object path n) (denial : Denial)
      → first_failing (change_tests caller appends (attrs_at w.rows n) (length path)
      ++ (asks (fits (attrs_at w.rows n)) FitsFile 0 (length path) ∷ [])) ≡ Some denial → Along request path denial
  change_told request path appends fits long n a =
      each (Along request path) (change_tests caller appends (attrs_at w.rows n) (length path)
      ++ (asks (fits (attrs_at w.rows n)) FitsFile 0 (length path) ∷ [])) (
        λ f. object request path n a IsNoDirectory
            (λ r there. (
              refl,
              directory_kind r.file.kind
                  (of_row w.rows n r there (λ x. is_directory_kind x.kind ≡ true) (not-false _ f)),
            )),
        (
          λ f. object request path n a IsMutable (λ r there. (
            omega arith,
            of_row w.rows n r there (λ x. is_immutable x ≡ true) (not-false _ f),
          )),
          (
            λ f. object request path n a GrantsWrite
                (λ r there. (omega arith, of_row w.rows n r there (λ x. grants_of caller x bits.Write ≡ false) f)),
            (
              λ f. object request path n a IsNotAppendOnly
                  (λ r there. (
                    omega arith,
                    of_row w.rows n r there (λ x. is_append_only x ≡ true)
                        (second_of appends _ f),
                  )),
              (
                λ f. object request path n a FitsFile (λ r there. (
                  refl,
                  long r (of_row w.rows n r there (λ x. fits x ≡ false) f),
                )),
                tt,
              ),
            ),
          ),
        ),
      )

  abbrev ToldOf : List (List ℕ) → List (List ℕ) → Denial → Type 0
  ToldOf from to d = IsSomeAnd (slice_get (from ∷ to ∷ []) d.path) (λ p. Tells w caller (Rename from to) p d.rule d.at)

  beneath : (from to : List (List ℕ)) → first_failing (removing w.rows caller from) ≡ None → MayArrive w.rows caller to
      → list_any (λ n. n == reached w.rows root from) (visited w.rows root (front to)) ≡ true
      → Tells w caller (Rename from to) to IsNotBeneathItself
      (position (reached w.rows root from) (visited w.rows root (front to)))
  beneath from to out into through =
      let moved = reached w.rows root from in
      let object = taken_end w caller (Rename from to) tree from out in
      let v = visits w caller (Rename from to) tree to 1 (front to) (last to ∷ []) root 0
      (start w caller (Rename from to) tree to) (sym (split_last to into.filled))
      (λ e. cc (e)) into.walks moved through in
      let at = v.is in
      let spot : v.to ≡ position moved (visited w.rows root (front to)) = omega (arith, at) in
      let leads : led w.rows (Some root) from ≡ Some moved =
      ap (led w.rows (Some root)) (sym (whole from object.front object.behind object.split
      (at_last (Rename from to) from moved object))) ∙ object.leads in
      subst (λ k. Tells w caller (Rename from to) to IsNotBeneathItself k) spot
      (here w caller (Rename from to) tree to moved v.to v.at IsNotBeneathItself (λ r there. (v.left, leads)))
    where
      whole : (path front behind : List (List ℕ)) → front ++ behind ≡ path → behind ≡ [] → front ≡ path
      whole path front behind split none = sym (append-nil front) ∙ ap (λ l. front ++ l) (sym none) ∙ split

  -- the denial of a row that gets a place
  moved_told : (from to : List (List ℕ)) → first_failing (removing w.rows caller from) ≡ None
      → MayArrive w.rows caller to → (o : Option ℕ)
      → child w.rows (reached w.rows root (front to)) (last to) ≡ o
      → (denial : Denial) → first_failing (moving_tests w.rows caller from to o) ≡ Some denial → ToldOf from to denial
  moved_told from to out into o is =
      let moved = reached w.rows root from in
      let tests = placing_tests w.rows caller moved (reached w.rows root (front to)) o (length (front to)) in
      unless (ToldOf from to) (is_there moved o) (tests ++ last_tests w.rows caller from to)
      (fails-append (ToldOf from to) tests (last_tests w.rows caller from to)
      (placed w caller (Rename from to) tree to (ToldOf from to) (λ rule k t. t) moved o is into)
      (λ first. each (ToldOf from to) (last_tests w.rows caller from to) (
        λ f. beneath from to out into (not-false _ f),
        (
          λ f. let a = taken_end w caller (Rename from to) tree from out in
              object (Rename from to) from moved a GrantsWrite (λ r there. (
                omega arith,
                of_row w.rows moved r there (λ x. grants_of caller x bits.Write ≡ false)
                    (last_of (is_directory_kind (attrs_at w.rows moved).kind)
                    (reached w.rows root (front from) == reached w.rows root (front to)) _ f),
              )),
          tt,
        ),
      )))

  -- a Rename's denial is of its first path, or of the way to its second, or of the row that gets the place
  renamed_told : (from to : List (List ℕ)) (denial : Denial) → decide w caller (Rename from to) ≡ Some denial
      → ToldOf from to denial
  renamed_told from to =
      let more = moving_tests w.rows caller from to (child w.rows (reached w.rows root (front to)) (last to)) in
      fails-append (ToldOf from to) (removing w.rows caller from) (arriving w.rows caller to ++ more)
      (removed w caller (Rename from to) tree from (ToldOf from to) (λ rule k t. t))
      (λ out. fails-append (ToldOf from to) (arriving w.rows caller to) more
      (arrived w caller (Rename from to) tree to (ToldOf from to) (λ rule k t. t))
      (λ into. moved_told from to out (may_arrive w.rows tree caller to into) _ refl))

  told : (request : Request) (denial : Denial) → decide w caller request ≡ Some denial → Told w caller request denial
  told (Stat path) = by_path (Stat path) path stat_tests (λ n a. none_fails (Along (Stat path) path))
  told (Read path off len) = by_path (Read path off len) path (read_tests caller)
      (λ n a. each (Along (Read path off len) path) (read_tests caller (attrs_at w.rows n) (length path)) (
        λ f. object (Read path off len) path n a IsNoDirectory
            (λ r there. (
              refl,
              directory_kind r.file.kind
                  (of_row w.rows n r there (λ x. is_directory_kind x.kind ≡ true) (not-false _ f)),
            )),
        (
          λ f. object (Read path off len) path n a GrantsRead
              (λ r there. (refl, of_row w.rows n r there (λ x. grants_of caller x bits.Read ≡ false) f)),
          tt,
        ),
      ))
  told (Names path) = by_path (Names path) path (list_tests caller)
      (λ n a. each (Along (Names path) path) (list_tests caller (attrs_at w.rows n) (length path)) (
        λ f. object (Names path) path n a IsDirectory
            (λ r there. regular_kind r.file.kind (of_row w.rows n r there (λ x. is_directory_kind x.kind ≡ false) f)),
        (
          λ f. object (Names path) path n a GrantsRead
              (λ r there. (refl, of_row w.rows n r there (λ x. grants_of caller x bits.Read ≡ false) f)),
          tt,
        ),
      ))
  told (Write path place bytes) = by_path (Write path place bytes) path (write_tests caller place (length bytes))
      (change_told (Write path place bytes) path (is_end place)
      (λ attrs. nat_le (start_in place attrs.size + length bytes) file_max) (λ r f. not_most _ _ f))
  told (SetLength path len) = by_path (SetLength path len) path (length_tests caller len)
      (change_told (SetLength path len) path false (λ attrs. nat_le len file_max) (λ r f. not_most _ _ f))
  told (Create path mode) = made w caller (Create path mode) tree path (Along (Create path mode) path) (λ rule k t. t)
  told (Mkdir path mode) = made w caller (Mkdir path mode) tree path (Along (Mkdir path mode) path) (λ rule k t. t)
  told (Unlink path) =
      let n = reached w.rows root path in
      let rest = unlink_tests (attrs_at w.rows n) (length path) in
      fails-append (Along (Unlink path) path) (removing w.rows caller path) rest
      (removed w caller (Unlink path) tree path (Along (Unlink path) path) (λ rule k t. t))
      (λ out. let a = taken_end w caller (Unlink path) tree path out in
      each (Along (Unlink path) path) rest (
        λ f. object (Unlink path) path n a IsNoDirectory
            (λ r there. (
              refl,
              directory_kind r.file.kind
                  (of_row w.rows n r there (λ x. is_directory_kind x.kind ≡ true) (not-false _ f)),
            )),
        tt,
      ))
  told (Rmdir path) =
      let n = reached w.rows root path in
      let rest = rmdir_tests (length (children w.rows n) == 0) (attrs_at w.rows n) (length path) in
      fails-append (Along (Rmdir path) path) (removing w.rows caller path) rest
      (removed w caller (Rmdir path) tree path (Along (Rmdir path) path) (λ rule k t. t))
      (λ out. let a = taken_end w caller (Rmdir path) tree path out in
      fails (Along (Rmdir path) path) (is_directory_kind (attrs_at w.rows n).kind) _ _
      (λ f. object (Rmdir path) path n a IsDirectory
      (λ r there. regular_kind r.file.kind (of_row w.rows n r there (λ x. is_directory_kind x.kind ≡ false) f)))
      (λ d. fails (Along (Rmdir path) path) (length (children w.rows n) == 0) _ _
      (λ f. object (Rmdir path) path n a IsEmpty (λ r there. (
        refl,
        directory_kind r.file.kind (of_row w.rows n r there (λ x. is_directory_kind x.kind ≡ true) d),
        (λ none. let zero_long = eq-eqb _ 0 (ap (length {A = ℕ}) none) in cc (zero_long, f)),
      )))
      (λ e. none_fails (Along (Rmdir path) path))))
  told (Rename from to) = renamed_told from to
  told (Chmod path mode) = by_path (Chmod path mode) path (chmod_tests caller)
      (λ n a. each (Along (Chmod path mode) path) (chmod_tests caller (attrs_at w.rows n) (length path)) (
        λ f. object (Chmod path mode) path n a IsMutable
            (λ r there. (omega arith, of_row w.rows n r there (λ x. is_immutable x ≡ true) (not-false _ f))),
        (
          λ f. object (Chmod path mode) path n a IsNotAppendOnly
              (λ r there. (omega arith, of_row w.rows n r there (λ x. is_append_only x ≡ true) (not-false _ f))),
          (
            λ f. object (Chmod path mode) path n a IsOwner
                (λ r there. let b = of_row w.rows n r there (λ x. (caller.uid ≢ 0) × (caller.uid ≢ x.uid))
                (neither_owner caller (attrs_at w.rows n) f) in (refl, b.0, b.1)),
            tt,
          ),
        ),
      ))
  told (Chown path uid gid) = by_path (Chown path uid gid) path (chown_tests caller uid gid)
      (λ n a. each (Along (Chown path uid gid) path) (chown_tests caller uid gid (attrs_at w.rows n) (length path)) (
        λ f. object (Chown path uid gid) path n a IsMutable
            (λ r there. (omega arith, of_row w.rows n r there (λ x. is_immutable x ≡ true) (not-false _ f))),
        (
          λ f. object (Chown path uid gid) path n a IsNotAppendOnly
              (λ r there. (omega arith, of_row w.rows n r there (λ x. is_append_only x ≡ true) (not-false _ f))),
          (
            λ f. object (Chown path uid gid) path n a MaySetOwner (λ r there. (
              refl,
              eqb-false caller.uid 0 (or_parts (caller.uid == 0) _ f).0,
              given_wrongly caller uid gid r (of_row w.rows n r there (λ x. may_set_owner caller x uid gid ≡ false) f),
            )),
            tt,
          ),
        ),
      ))
  told (Chflags path flags) = by_path (Chflags path flags) path (chflags_tests caller w.level flags)
      (λ n a. each (Along (Chflags path flags) path)
      (chflags_tests caller w.level flags (attrs_at w.rows n) (length path)) (
        λ f. object (Chflags path flags) path n a IsOwner
            (λ r there. let b = of_row w.rows n r there (λ x. (caller.uid ≢ 0) × (caller.uid ≢ x.uid))
            (neither_owner caller (attrs_at w.rows n) f) in (refl, b.0, b.1)),
        (
          λ f. object (Chflags path flags) path n a MaySetFlags (λ r there. (
            refl,
            eqb-false caller.uid 0 (or_parts (caller.uid == 0) _ f).0,
            second_of (caller.uid == 0) _ (of_row w.rows n r there (λ x. may_set_flags caller x.flags flags ≡ false) f),
          )),
          (
            λ f. object (Chflags path flags) path n a KeepsSystemLocks
                (λ r there. let b = both_of (is_above_zero w.level) _
                (of_row w.rows n r there (λ x. keeps_system_locks w.level x.flags flags ≡ false) f) in
                (refl, b.0, b.1)),
            tt,
          ),
        ),
      ))
  told (SetLevel level) = each (Told w caller (SetLevel level)) (level_tests caller w.level level) (
    λ f. (refl, refl, eqb-false caller.uid 0 f),
    (λ f. let b = both_of (is_lower level w.level) _ f in (refl, refl, (b.0, not-true _ b.1)), tt),
  )
  told Sync = none_fails (Told w caller Sync)

pub tells_little : TellsLittle
tells_little w caller request denial tree h = told w caller tree request denial h
