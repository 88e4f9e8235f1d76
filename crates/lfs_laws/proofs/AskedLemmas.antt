-- Each denial names a rule, a path and a place that the request itself asks about: `names_what_it_asks`, for the law of
-- that name. A denial is that of the first unmet test, so it's enough that each test in the list names such a place
-- (`Each`); the lists are taken apart as `rule_table` puts them together: walk, directory, row. The hard one is the
-- second path of a Rename, with a moved row that stands on the way; a test added to `rule_table` needs its rule in
-- OfMaker, OfTaker or OfNamed.
use Rattle.std.proofs.Common.{◌≡◌, ◌⊎◌, ◌<◌, ◌≤◌, ℕ, ◌+◌, ◌==◌, ◌||◌, not, Bool, true, false, cond, List, [], ◌∷◌, ◌++◌}
use Rattle.std.proofs.Common.{length, Option, None, Some, refl, sym, ap, arith, inl, inr, length-append}
use Rattle.std.proofs.lemmas.Bool.{not-true, not-false}
use Rattle.std.specs.Prelude.{is_none}
use Rattle.std.specs.List.{list_any}
use Rattle.lfs_types.specs.Caller.{Caller}
use Rattle.lfs_types.specs.Tree.{World, root}
use Rattle.lfs_types.specs.declared.attrs.Attrs.{Attrs}
use Rattle.lfs_types.specs.declared.level.Level.{Level}
use Rattle.lfs_types.specs.declared.request.Place.TheVariants.{At, End}
use Rattle.lfs_types.specs.declared.request.Request.TheVariants.{Stat, Read, Write, List as Names, SetLength, Create}
use Rattle.lfs_types.specs.declared.request.Request.TheVariants.{Mkdir, Unlink, Rmdir, Rename, Chmod, Chown, Chflags}
use Rattle.lfs_types.specs.declared.request.Request.TheVariants.{SetLevel, Sync}
use Rattle.lfs_types.specs.declared.rule.Denial.{Denial}
use Rattle.lfs_types.specs.declared.rule.Rule.{Rule}
use Rattle.lfs_types.specs.declared.rule.Rule.TheVariants.{IsDirectory, GrantsSearch, NameThere, NameFree}
use Rattle.lfs_types.specs.declared.rule.Rule.TheVariants.{IsNoDirectory, IsEmpty, IsNotRoot, IsNotBeneathItself}
use Rattle.lfs_types.specs.declared.rule.Rule.TheVariants.{IsMutable, IsNotAppendOnly, GrantsRead, GrantsWrite}
use Rattle.lfs_types.specs.declared.rule.Rule.TheVariants.{PassesSticky, IsOwner, MaySetOwner, MaySetFlags}
use Rattle.lfs_types.specs.declared.rule.Rule.TheVariants.{KeepsSystemLocks, FitsFile}
use Rattle.lfs_model.specs.World.{Rows, child, children}
use Rattle.lfs_model.specs.Rules.{Check, arriving, attrs_at, decide, first_failing, front, last, last_tests}
use Rattle.lfs_model.specs.Rules.{level_tests, making, making_tests, moving_tests, next, placing_tests, position}
use Rattle.lfs_model.specs.Rules.{reached, removing, removing_tests, replaced_tests, rmdir_tests, searching_tests}
use Rattle.lfs_model.specs.Rules.{unlink_tests, visited, walk}
use Rattle.lfs_laws.specs.LawAsked.{IsAsked, IsAskedAlong, NamesWhatItAsks, OfMaker, OfMoved, OfNamed, OfNone}
use Rattle.lfs_laws.specs.LawAsked.{OfReplaced, OfTaken, OfTaker, OnNewWay, OnWalk, OnWay}
use Rattle.lfs_model.proofs.Allowed.{split_last}
use Rattle.lfs_laws.proofs.UnmetTests.{Each, each, fails, fails-append, no_path}

-- what holds of some tests holds of them together
each-append : (D : Denial → Type 0) (xs ys : List Check) → Each D xs → Each D ys → Each D (xs ++ ys)
each-append D [] ys a b = b
each-append D (x ∷ xs) ys a b = (a.0, each-append D xs ys a.1 b)

abbrev named : Rule → ℕ → ℕ → Denial
named rule path at = record { rule = rule; path = path; at = at }

-- what a walk asks along names
walk_each : (D : Denial → Type 0) (rows : Rows) (caller : Caller) (path k at : ℕ) (names : List (List ℕ))
    → ((j : ℕ) → k ≤ j → j < k + length names → D (named IsDirectory path j) × D (named GrantsSearch path j))
    → ((j : ℕ) → k < j → j ≤ k + length names → D (named NameThere path j))
    → Each D (walk rows caller path k at names)
walk_each D rows caller path k at [] kinds there = tt
walk_each D rows caller path k at (name ∷ names) kinds there =
    let here = kinds k (omega arith) (omega arith) in (
      λ h. here.0,
      (
        λ h. here.1,
        (
          λ h. there (k + 1) (omega arith) (omega arith),
          walk_each D rows caller path (k + 1) (next rows at name) names
              (λ j low high. kinds j (omega (arith, low)) (omega (arith, high)))
              (λ j low high. there j (omega (arith, low)) (omega (arith, high))),
        ),
      ),
    )

-- the names before the last are one less
length-front : (path : List (List ℕ)) → (length path == 0) ≡ false → length (front path) + 1 ≡ length path
length-front path filled =
    let long = ap (length {A = List ℕ}) (split_last path filled) in
    let parts = length-append (front path) (last path ∷ []) in
    omega (arith, long, parts)

-- the rows of a way are one more than its names
length-visited : (rows : Rows) (at : ℕ) (names : List (List ℕ)) → length (visited rows at names) ≡ length names + 1
length-visited rows at [] = refl
length-visited rows at (name ∷ names) = let rest = length-visited rows (next rows at name) names in omega (arith, rest)

position_here : (b more : Bool) (place long : ℕ) → (more ≡ true → place < long) → (b || more) ≡ true
    → cond b 0 (1 + place) < 1 + long
position_here true more place long rest h = omega arith
position_here false more place long rest h = let r = rest h in omega (arith, r)

-- what stands in a list does so before its end
position_within : (n : ℕ) (ms : List ℕ) → list_any (λ m. m == n) ms ≡ true → position n ms < length ms
position_within n [] h = absurd (cc)
position_within n (m ∷ ms) h =
    let here = position_here (m == n) (list_any (λ k. k == n) ms) (position n ms) (length ms) (position_within n ms) h
    in
    omega (arith, here)

-- ---- parts of calls, at a path of this index

module _ (D : Denial → Type 0) (rows : Rows) (caller : Caller) (index : ℕ) (path : List (List ℕ)) where
  walked_each : ((rule : Rule) (at : ℕ) → OnWalk path rule at → D (named rule index at))
      → Each D (walk rows caller index 0 root path)
  walked_each on = walk_each D rows caller index 0 root path
      (λ j low high. let within : j < length path = omega (arith, high) in
      (on IsDirectory j within, on GrantsSearch j within))
      (λ j low high. let within : j ≤ length path = omega (arith, high) in on NameThere j (low, within))

  module _ (filled : (length path == 0) ≡ false) where
    way_each : ((rule : Rule) (at : ℕ) → OnWay path rule at → D (named rule index at))
        → Each D (walk rows caller index 0 root (front path))
    way_each on =
        let long = length-front path filled in
        walk_each D rows caller index 0 root (front path)
        (λ j low high. let within : j < length path = omega (arith, high, long) in
        (on IsDirectory j within, on GrantsSearch j within))
        (λ j low high. let within : j < length path = omega (arith, high, long) in on NameThere j (low, within))

    -- what is asked of a directory in which a name is looked for
    searching_each : ((rule : Rule) (at : ℕ) → OnWay path rule at → D (named rule index at)) → (dir : Attrs)
        → Each D (searching_tests caller index dir (length (front path)))
    searching_each on dir =
        let long = length-front path filled in
        let within : length (front path) < length path = omega (arith, long) in
        (λ h. on IsDirectory _ within, (λ h. on GrantsSearch _ within, tt))

    -- what is asked of a directory that loses a name, and of what hangs there
    removing_each : ((rule : Rule) (at : ℕ) → at + 1 ≡ length path → OfTaker rule → D (named rule index at))
        → ((rule : Rule) (at : ℕ) → at ≡ length path → OfTaken rule → D (named rule index at))
        → (dir file : Attrs) → Each D (removing_tests caller index dir file (length (front path)))
    removing_each parent end dir file =
        let long = length-front path filled in (
          λ h. parent IsMutable _ long tt,
          (
            λ h. parent GrantsWrite _ long tt,
            (
              λ h. parent IsNotAppendOnly _ long tt,
              (
                λ h. end PassesSticky _ long tt,
                (
                  λ h. end IsMutable _ long tt,
                  (λ h. end IsNotAppendOnly _ long tt, tt),
                ),
              ),
            ),
          ),
        )

root_length : (path : List (List ℕ)) → not (length path == 0) ≡ false → 0 ≡ length path
root_length path h = sym (ap (length {A = List ℕ}) (no_path path h))

-- a call that makes a row
module _ (D : Denial → Type 0) (w : World) (caller : Caller) (path : List (List ℕ))
    (way : (rule : Rule) (at : ℕ) → OnWay path rule at → D (named rule 0 at))
    (parent : (rule : Rule) (at : ℕ) → at + 1 ≡ length path → OfMaker rule → D (named rule 0 at))
    (end : (at : ℕ) → at ≡ length path → D (named NameFree 0 at)) (denial : Denial) where
  making_asked : first_failing (making w.rows caller path) ≡ Some denial → D denial
  making_asked = fails D (not (length path == 0)) _ _
      (λ none. end 0 (root_length path none))
      (λ some.
      let filled = not-true _ some in
      let long = length-front path filled in
      let within : length (front path) < length path = omega (arith, long) in
      let free = is_none (child w.rows (reached w.rows root (front path)) (last path)) in
      each D _ (each-append D (walk w.rows caller 0 0 root (front path))
      (making_tests caller free (attrs_at w.rows (reached w.rows root (front path))) (length (front path)))
      (way_each D w.rows caller 0 path filled way) (
        λ h. way IsDirectory _ within,
        (
          λ h. way GrantsSearch _ within,
          (λ h. end _ long, (λ h. parent IsMutable _ long tt, (λ h. parent GrantsWrite _ long tt, tt))),
        ),
      )))
      denial

-- a call that takes a name away, with other tests behind
module _ (D : Denial → Type 0) (w : World) (caller : Caller) (path : List (List ℕ)) (more : List Check)
    (on : (rule : Rule) (at : ℕ) → OnWalk path rule at → D (named rule 0 at))
    (parent : (rule : Rule) (at : ℕ) → at + 1 ≡ length path → OfTaker rule → D (named rule 0 at))
    (end : (rule : Rule) (at : ℕ) → at ≡ length path → OfTaken rule → D (named rule 0 at))
    (rest : (length path == 0) ≡ false → (denial : Denial) → first_failing more ≡ Some denial → D denial)
    (denial : Denial) where
  removing_asked : first_failing (removing w.rows caller path ++ more) ≡ Some denial → D denial
  removing_asked = fails D (not (length path == 0)) _ _
      (λ none. end IsNotRoot 0 (root_length path none) tt)
      (λ some.
      let filled = not-true _ some in
      let dir = attrs_at w.rows (reached w.rows root (front path)) in
      let file = attrs_at w.rows (reached w.rows root path) in
      let first = walk w.rows caller 0 0 root path ++ removing_tests caller 0 dir file (length (front path)) in
      fails-append D first more
      (each D first (each-append D _ _ (walked_each D w.rows caller 0 path on)
      (removing_each D w.rows caller 0 path filled parent end dir file)))
      (λ met. rest filled))
      denial

-- the second path of a Rename
module _ (D : Denial → Type 0) (w : World) (caller : Caller) (from to : List (List ℕ))
    (way : (rule : Rule) (at : ℕ) → OnNewWay to rule at → D (named rule 1 at))
    (parent : (rule : Rule) (at : ℕ) → at + 1 ≡ length to → OfTaker rule → D (named rule 1 at))
    (end : (rule : Rule) (at : ℕ) → at ≡ length to → OfReplaced rule → D (named rule 1 at))
    (write : D (named GrantsWrite 0 (length from))) where
  on_way : (rule : Rule) (at : ℕ) → OnWay to rule at → D (named rule 1 at)
  on_way IsNotBeneathItself at h = absurd h
  on_way rule at h = way rule at h

  of_taken : (rule : Rule) (at : ℕ) → at ≡ length to → OfTaken rule → D (named rule 1 at)
  of_taken IsNoDirectory at e h = absurd h
  of_taken IsDirectory at e h = absurd h
  of_taken IsEmpty at e h = absurd h
  of_taken rule at e h = end rule at e h

  module _ (filled : (length to == 0) ≡ false) where
    last_each : Each D (last_tests w.rows caller from to)
    last_each =
        let moved = reached w.rows root from in
        let rows = visited w.rows root (front to) in
        let long = length-front to filled in
        let count = length-visited w.rows root (front to) in (
          λ h. let within = position_within moved rows (not-false _ h) in
              way IsNotBeneathItself (position moved rows) (omega (arith, within, count, long)),
          (λ h. write, tt),
        )

    unless_each : (b : Bool) (xs : List Check) → Each D xs → Each D (cond b [] xs)
    unless_each true xs h = tt
    unless_each false xs h = h

    moving_each : (o : Option ℕ) → Each D (moving_tests w.rows caller from to o)
    moving_each None =
        let long = length-front to filled in
        (λ h. parent IsMutable _ long tt, (λ h. parent GrantsWrite _ long tt, last_each))
    moving_each (Some m) =
        let long = length-front to filled in
        let dir = reached w.rows root (front to) in
        let moved = reached w.rows root from in
        unless_each (m == moved) _ (each-append D (placing_tests w.rows caller moved dir (Some m) (length (front to)))
        (last_tests w.rows caller from to)
        (each-append D (removing_tests caller 1 (attrs_at w.rows dir) (attrs_at w.rows m) (length (front to)))
        (replaced_tests (length (children w.rows m) == 0) (attrs_at w.rows moved) (attrs_at w.rows m) (length (front to)
        + 1))
        (removing_each D w.rows caller 1 to filled parent of_taken (attrs_at w.rows dir) (attrs_at w.rows m))
        (λ h. end IsNoDirectory _ long tt, (λ h. end IsDirectory _ long tt, (λ h. end IsEmpty _ long tt, tt))))
        last_each)

  arriving_asked : (denial : Denial)
      → first_failing (arriving w.rows caller to
      ++ moving_tests w.rows caller from to (child w.rows (reached w.rows root (front to)) (last to))) ≡ Some denial
      → D denial
  arriving_asked denial = fails D (not (length to == 0)) _ _
      (λ none. end IsNotRoot 0 (root_length to none) tt)
      (λ some.
      let filled = not-true _ some in
      let dir = attrs_at w.rows (reached w.rows root (front to)) in
      each D _ (each-append D (walk w.rows caller 1 0 root (front to)
      ++ searching_tests caller 1 dir (length (front to))) _
      (each-append D _ _ (way_each D w.rows caller 1 to filled on_way)
      (searching_each D w.rows caller 1 to filled on_way dir))
      (moving_each filled _)))
      denial

taken_file : (path : List (List ℕ)) (rule : Rule) → OfTaken rule → OfNamed (Unlink path) rule
taken_file path IsNoDirectory h = tt
taken_file path rule h = h

taken_directory : (path : List (List ℕ)) (rule : Rule) → OfTaken rule → OfNamed (Rmdir path) rule
taken_directory path IsDirectory h = tt
taken_directory path IsEmpty h = tt
taken_directory path rule h = h

taken_moved : (rule : Rule) → OfTaken rule → OfMoved rule
taken_moved GrantsWrite h = tt
taken_moved rule h = h

-- a call on what a path names
module _ (Named : Rule → Type 0) (w : World) (caller : Caller) (path : List (List ℕ)) where
  abbrev Along : Denial → Type 0
  Along = IsAskedAlong 0 path OnWalk OfNone Named

  named_end : (rule : Rule) → Named rule → Along (named rule 0 (length path))
  named_end rule h = (refl, inr (inr (refl, h)))

  reaching_asked : (tests : List Check) → Each Along tests → (denial : Denial)
      → first_failing (walk w.rows caller 0 0 root path ++ tests) ≡ Some denial → Along denial
  reaching_asked tests h = each Along _ (each-append Along _ tests
      (walked_each Along w.rows caller 0 path (λ rule at on. (refl, inl on))) h)

level_asked : (w : World) (caller : Caller) (level : Level) (denial : Denial) → decide w caller (SetLevel level)
    ≡ Some denial
    → IsAsked (SetLevel level) denial
level_asked w caller level =
    let told : Each (IsAsked (SetLevel level)) (level_tests caller w.level level) =
    (λ h. (refl, refl, tt), (λ h. (refl, refl, tt), tt)) in
    each (IsAsked (SetLevel level)) (level_tests caller w.level level) told

pub names_what_it_asks : NamesWhatItAsks
names_what_it_asks w caller (Stat path) = reaching_asked OfNone w caller path [] tt
names_what_it_asks w caller (Read path off len) =
    let end = named_end (OfNamed (Read path off len)) w caller path in
    reaching_asked (OfNamed (Read path off len)) w caller path _ (
      λ h. end IsNoDirectory tt,
      (λ h. end GrantsRead tt, tt),
    )
names_what_it_asks w caller (Names path) =
    let end = named_end (OfNamed (Names path)) w caller path in
    reaching_asked (OfNamed (Names path)) w caller path _ (λ h. end IsDirectory tt, (λ h. end GrantsRead tt, tt))
names_what_it_asks w caller (Write path (At start) bytes) =
    let end = named_end (OfNamed (Write path (At start) bytes)) w caller path in
    reaching_asked (OfNamed (Write path (At start) bytes)) w caller path _ (
      λ h. end IsNoDirectory tt,
      (
        λ h. end IsMutable tt,
        (λ h. end GrantsWrite tt, (λ h. end IsNotAppendOnly tt, (λ h. end FitsFile tt, tt))),
      ),
    )
names_what_it_asks w caller (Write path End bytes) =
    let end = named_end (OfNamed (Write path End bytes)) w caller path in
    reaching_asked (OfNamed (Write path End bytes)) w caller path _ (
      λ h. end IsNoDirectory tt,
      (
        λ h. end IsMutable tt,
        (λ h. end GrantsWrite tt, (λ h. absurd (cc), (λ h. end FitsFile tt, tt))),
      ),
    )
names_what_it_asks w caller (SetLength path len) =
    let end = named_end (OfNamed (SetLength path len)) w caller path in
    reaching_asked (OfNamed (SetLength path len)) w caller path _ (
      λ h. end IsNoDirectory tt,
      (
        λ h. end IsMutable tt,
        (λ h. end GrantsWrite tt, (λ h. end IsNotAppendOnly tt, (λ h. end FitsFile tt, tt))),
      ),
    )
names_what_it_asks w caller (Create path mode) =
    making_asked (IsAskedAlong 0 path OnWay OfMaker (OfNamed (Create path mode))) w caller path
    (λ rule at on. (refl, inl on)) (λ rule at e h. (refl, inr (inl (e, h)))) (λ at e. (refl, inr (inr (e, tt))))
names_what_it_asks w caller (Mkdir path mode) =
    making_asked (IsAskedAlong 0 path OnWay OfMaker (OfNamed (Mkdir path mode))) w caller path
    (λ rule at on. (refl, inl on)) (λ rule at e h. (refl, inr (inl (e, h)))) (λ at e. (refl, inr (inr (e, tt))))
names_what_it_asks w caller (Unlink path) =
    removing_asked (IsAskedAlong 0 path OnWalk OfTaker (OfNamed (Unlink path))) w caller path _
    (λ rule at on. (refl, inl on)) (λ rule at e h. (refl, inr (inl (e, h))))
    (λ rule at e h. (refl, inr (inr (e, taken_file path rule h))))
    (λ filled. each (IsAskedAlong 0 path OnWalk OfTaker (OfNamed (Unlink path)))
    (unlink_tests (attrs_at w.rows (reached w.rows root path)) (length path)) (
      λ h. (refl, inr (inr (refl, tt))),
      tt,
    ))
names_what_it_asks w caller (Rmdir path) =
    removing_asked (IsAskedAlong 0 path OnWalk OfTaker (OfNamed (Rmdir path))) w caller path _
    (λ rule at on. (refl, inl on)) (λ rule at e h. (refl, inr (inl (e, h))))
    (λ rule at e h. (refl, inr (inr (e, taken_directory path rule h))))
    (λ filled. each (IsAskedAlong 0 path OnWalk OfTaker (OfNamed (Rmdir path)))
    (rmdir_tests (length (children w.rows (reached w.rows root path)) == 0) (attrs_at w.rows (reached w.rows root path))
    (length path)) (λ h. (refl, inr (inr (refl, tt))), (λ h. (refl, inr (inr (refl, tt))), tt)))
names_what_it_asks w caller (Rename from to) =
    let D : Denial → Type 0 = λ denial. IsAskedAlong 0 from OnWalk OfTaker OfMoved denial
    ⊎ IsAskedAlong 1 to OnNewWay OfTaker OfReplaced denial in
    removing_asked D w caller from _
    (λ rule at on. inl (refl, inl on)) (λ rule at e h. inl (refl, inr (inl (e, h))))
    (λ rule at e h. inl (refl, inr (inr (e, taken_moved rule h))))
    (λ filled. arriving_asked D w caller from to
    (λ rule at on. inr (refl, inl on)) (λ rule at e h. inr (refl, inr (inl (e, h))))
    (λ rule at e h. inr (refl, inr (inr (e, h))))
    (inl (refl, inr (inr (refl, tt)))))
names_what_it_asks w caller (Chmod path mode) =
    let end = named_end (OfNamed (Chmod path mode)) w caller path in
    reaching_asked (OfNamed (Chmod path mode)) w caller path _ (
      λ h. end IsMutable tt,
      (λ h. end IsNotAppendOnly tt, (λ h. end IsOwner tt, tt)),
    )
names_what_it_asks w caller (Chown path uid gid) =
    let end = named_end (OfNamed (Chown path uid gid)) w caller path in
    reaching_asked (OfNamed (Chown path uid gid)) w caller path _ (
      λ h. end IsMutable tt,
      (λ h. end IsNotAppendOnly tt, (λ h. end MaySetOwner tt, tt)),
    )
names_what_it_asks w caller (Chflags path flags) =
    let end = named_end (OfNamed (Chflags path flags)) w caller path in
    reaching_asked (OfNamed (Chflags path flags)) w caller path _ (
      λ h. end IsOwner tt,
      (λ h. end MaySetFlags tt, (λ h. end KeepsSystemLocks tt, tt)),
    )
names_what_it_asks w caller (SetLevel level) = level_asked w caller level
names_what_it_asks w caller Sync = λ denial h. absurd (cc)
