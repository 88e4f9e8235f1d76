-- Two worlds and two callers of whom each question of the tests has the same answer are decided alike: `decided_same`,
-- on which two laws of IdleLemmas stand. The record `SameTests` lists the questions (child, kind, size, grants, locks,
-- owner) as equal functions, so each list of tests is equal part by part, with the walk by induction on the names. A
-- test that asks anything else needs a field here, or, as the flags of Chflags and the level have, a line in
-- `SameRest`.
use Rattle.std.proofs.Common.{◌≡◌, ℕ, ◌+◌, ◌==◌, not, Bool, List, [], ◌∷◌, ◌++◌, length, cond, Option, None, Some, refl}
use Rattle.std.proofs.Common.{ap, ◌∙◌}
use Rattle.std.specs.Prelude as lists
use Rattle.std.specs.Prelude.{◌||◌, is_some, is_none, nat_le, unwrap_or}
use Rattle.std.specs.List.{list_any}
use Rattle.std.specs.FinMap as map
use Rattle.lfs_types.specs.Caller.{Caller}
use Rattle.lfs_types.specs.Kinds.{is_directory_kind}
use Rattle.lfs_types.specs.Tree.{World, root}
use Rattle.lfs_types.specs.declared.attrs.Bit.{Bit}
use Rattle.lfs_types.specs.declared.attrs.Bit.TheVariants as bits
use Rattle.lfs_types.specs.declared.request.Request.{Request}
use Rattle.lfs_types.specs.declared.request.Request.TheVariants.{Stat, Read, Write, List as Names, SetLength, Create}
use Rattle.lfs_types.specs.declared.request.Request.TheVariants.{Mkdir, Unlink, Rmdir, Rename, Chmod, Chown, Chflags}
use Rattle.lfs_types.specs.declared.request.Request.TheVariants.{SetLevel, Sync}
use Rattle.lfs_types.specs.declared.rule.Rule.TheVariants.{IsDirectory, GrantsSearch, NameThere, NameFree}
use Rattle.lfs_types.specs.declared.rule.Rule.TheVariants.{IsNoDirectory, IsEmpty, IsNotRoot, IsNotBeneathItself}
use Rattle.lfs_types.specs.declared.rule.Rule.TheVariants.{IsMutable, IsNotAppendOnly, GrantsRead, GrantsWrite}
use Rattle.lfs_types.specs.declared.rule.Rule.TheVariants.{PassesSticky, IsOwner, MaySetOwner, MaySetFlags}
use Rattle.lfs_types.specs.declared.rule.Rule.TheVariants.{KeepsSystemLocks, FitsFile}
use Rattle.lfs_rules.specs.Grants.{grants_of}
use Rattle.lfs_rules.specs.Locks.{is_immutable, is_append_only, keeps_system_locks, may_set_flags}
use Rattle.lfs_rules.specs.Owners.{is_owner_or_superuser, may_set_owner}
use Rattle.lfs_rules.specs.Sticky.{is_barred}
use Rattle.lfs_model.specs.World.{Rows, child, children}
use Rattle.lfs_model.specs.Rules.{Check, arriving, asks, attrs_at, decide, file_max, first_failing, front}
use Rattle.lfs_model.specs.Rules.{is_directory_row, is_end, last, last_tests, level_tests, making, moving_tests, next}
use Rattle.lfs_model.specs.Rules.{position, reached, removing, removing_tests, row_grants, rule_table, start_in}
use Rattle.lfs_model.specs.Rules.{visited, walk}

-- two tests of numbers say the same
abbrev pub Alike : (ℕ → Bool) → (ℕ → Bool) → Type 0
Alike f g = f ≡ g

abbrev pub AlikeOfTwo : (ℕ → ℕ → Bool) → (ℕ → ℕ → Bool) → Type 0
AlikeOfTwo f g = f ≡ g

abbrev pub AlikeNumbers : (ℕ → ℕ) → (ℕ → ℕ) → Type 0
AlikeNumbers f g = f ≡ g

abbrev AlikeTests : (ℕ → ℕ → List Check) → (ℕ → ℕ → List Check) → Type 0
AlikeTests f g = f ≡ g

-- what the tests of two callers ask of the rows of two worlds is the same
pub record SameTests (rows other : Rows) (c d : Caller) : Type 0 where
  pub child : child rows ≡ child other
  pub children : children rows ≡ children other
  pub is_directory : Alike (λ n. is_directory_row (map.get rows n)) (λ n. is_directory_row (map.get other n))
  pub searches : Alike (λ n. row_grants c bits.Search (map.get rows n))
      (λ n. row_grants d bits.Search (map.get other n))
  pub directory : Alike (λ n. is_directory_kind (attrs_at rows n).kind) (λ n. is_directory_kind (attrs_at other n).kind)
  pub size : AlikeNumbers (λ n. (attrs_at rows n).size) (λ n. (attrs_at other n).size)
  pub grants : (bit : Bit) → Alike (λ n. grants_of c (attrs_at rows n) bit) (λ n. grants_of d (attrs_at other n) bit)
  pub immutable : Alike (λ n. is_immutable (attrs_at rows n)) (λ n. is_immutable (attrs_at other n))
  pub append_only : Alike (λ n. is_append_only (attrs_at rows n)) (λ n. is_append_only (attrs_at other n))
  pub barred : AlikeOfTwo (λ m n. is_barred c (attrs_at rows m) (attrs_at rows n))
      (λ m n. is_barred d (attrs_at other m) (attrs_at other n))
  pub owner : Alike (λ n. is_owner_or_superuser c (attrs_at rows n)) (λ n. is_owner_or_superuser d (attrs_at other n))
  pub gives : (uid gid : ℕ) → Alike (λ n. may_set_owner c (attrs_at rows n) uid gid)
      (λ n. may_set_owner d (attrs_at other n) uid gid)

module _ (w v : World) (c d : Caller) (same : SameTests w.rows v.rows c d) where
  reached_at : (at : ℕ) (names : List (List ℕ)) → reached w.rows at names ≡ reached v.rows at names
  reached_at at [] = refl
  reached_at at (name ∷ names) = reached_at (next w.rows at name) names
      ∙ ap (λ o. reached v.rows (unwrap_or o 0) names) (λ i. same.child i at name)

  reached_same : reached w.rows ≡ reached v.rows
  reached_same = λ i at names. reached_at at names i

  walk_at : (path k at : ℕ) (names : List (List ℕ)) → walk w.rows c path k at names ≡ walk v.rows d path k at names
  walk_at path k at [] = refl
  walk_at path k at (name ∷ names) =
      (λ i. asks (same.is_directory i at) IsDirectory path k
      ∷ asks (same.searches i at) GrantsSearch path k
      ∷ asks (is_some (same.child i at name)) NameThere path (k + 1)
      ∷ walk_at path (k + 1) (next w.rows at name) names i)
      ∙ ap (λ o. asks (is_directory_row (map.get v.rows at)) IsDirectory path k
      ∷ asks (row_grants d bits.Search (map.get v.rows at)) GrantsSearch path k
      ∷ asks (is_some (child v.rows at name)) NameThere path (k + 1)
      ∷ walk v.rows d path (k + 1) (unwrap_or o 0) names) (λ i. same.child i at name)

  visited_at : (at : ℕ) (names : List (List ℕ)) → visited w.rows at names ≡ visited v.rows at names
  visited_at at [] = refl
  visited_at at (name ∷ names) = ap (λ ns. at ∷ ns) (visited_at (next w.rows at name) names
      ∙ ap (λ o. visited v.rows (unwrap_or o 0) names) (λ i. same.child i at name))

  -- ---- parts of calls

  making_same : (names : List (List ℕ)) → making w.rows c names ≡ making v.rows d names
  making_same names = λ i.
      let dir = reached_same i root (front names) in
      let k = length (front names) in
      asks (not (length names == 0)) NameFree 0 0
      ∷ walk_at 0 0 root (front names) i ++
      (asks (same.directory i dir) IsDirectory 0 k
      ∷ asks (same.grants bits.Search i dir) GrantsSearch 0 k
      ∷ asks (is_none (same.child i dir (last names))) NameFree 0 (k + 1)
      ∷ asks (not (same.immutable i dir)) IsMutable 0 k
      ∷ asks (same.grants bits.Write i dir) GrantsWrite 0 k
      ∷ [])

  removing_tests_at : (path k : ℕ)
      → AlikeTests (λ dir file. removing_tests c path (attrs_at w.rows dir) (attrs_at w.rows file) k)
      (λ dir file. removing_tests d path (attrs_at v.rows dir) (attrs_at v.rows file) k)
  removing_tests_at path k = λ i dir file.
      asks (not (same.immutable i dir)) IsMutable path k
      ∷ asks (same.grants bits.Write i dir) GrantsWrite path k
      ∷ asks (not (same.append_only i dir)) IsNotAppendOnly path k
      ∷ asks (not (same.barred i dir file)) PassesSticky path (k + 1)
      ∷ asks (not (same.immutable i file)) IsMutable path (k + 1)
      ∷ asks (not (same.append_only i file)) IsNotAppendOnly path (k + 1)
      ∷ []

  removing_same : (names : List (List ℕ)) → removing w.rows c names ≡ removing v.rows d names
  removing_same names = λ i.
      asks (not (length names == 0)) IsNotRoot 0 0
      ∷ walk_at 0 0 root names i ++ removing_tests_at 0 (length (front names)) i (reached_same i root (front names))
      (reached_same i root names)

  arriving_same : (names : List (List ℕ)) → arriving w.rows c names ≡ arriving v.rows d names
  arriving_same names = λ i.
      let dir = reached_same i root (front names) in
      let k = length (front names) in
      asks (not (length names == 0)) IsNotRoot 1 0
      ∷ walk_at 1 0 root (front names) i ++
      (asks (same.directory i dir) IsDirectory 1 k
      ∷ asks (same.grants bits.Search i dir) GrantsSearch 1 k
      ∷ [])

  last_same : (from to : List (List ℕ)) → last_tests w.rows c from to ≡ last_tests v.rows d from to
  last_same from to = λ i.
      let moved = reached_same i root from in
      let way = visited_at root (front to) i in
      let stays = reached_same i root (front from) == reached_same i root (front to) in
      asks (not (list_any (λ n. n == moved) way)) IsNotBeneathItself 1 (position moved way)
      ∷ asks (not (same.directory i moved) || stays || same.grants bits.Write i moved) GrantsWrite 0 (length from)
      ∷ []

  moving_at : (from to : List (List ℕ)) (o : Option ℕ) → moving_tests w.rows c from to o
      ≡ moving_tests v.rows d from to o
  moving_at from to None = λ i.
      let dir = reached_same i root (front to) in
      let k = length (front to) in
      (asks (not (same.immutable i dir)) IsMutable 1 k
      ∷ asks (same.grants bits.Write i dir) GrantsWrite 1 k
      ∷ []) ++ last_same from to i
  moving_at from to (Some m) = λ i.
      let moved = reached_same i root from in
      let k = length (front to) in
      lists.cond (m == moved) [] ((removing_tests_at 1 k i (reached_same i root (front to)) m
      ++ (asks (not (same.directory i m) || same.directory i moved) IsNoDirectory 1 (k + 1)
      ∷ asks (same.directory i m || not (same.directory i moved)) IsDirectory 1 (k + 1)
      ∷ asks (length (same.children i m) == 0) IsEmpty 1 (k + 1)
      ∷ [])) ++ last_same from to i)

  named_same : (names : List (List ℕ))
      → child w.rows (reached w.rows root (front names)) (last names)
      ≡ child v.rows (reached v.rows root (front names)) (last names)
  named_same names = λ i. same.child i (reached_same i root (front names)) (last names)

  -- what is asked behind the walk of a Chflags, and of a SetLevel
  abbrev pub SameRest : Request → Type 0
  SameRest (Chflags path flags) =
      Alike (λ n. may_set_flags c (attrs_at w.rows n).flags flags)
      (λ n. may_set_flags d (attrs_at v.rows n).flags flags)
      × Alike (λ n. keeps_system_locks w.level (attrs_at w.rows n).flags flags)
      (λ n. keeps_system_locks v.level (attrs_at v.rows n).flags flags)
  SameRest (SetLevel level) = level_tests c w.level level ≡ level_tests d v.level level
  SameRest request = Unit {0}

  table_same : (request : Request) → SameRest request → rule_table w c request ≡ rule_table v d request
  table_same (Stat path) rest = λ i. walk_at 0 0 root path i ++ []
  table_same (Read path off len) rest = λ i.
      let n = reached_same i root path in
      let k = length path in
      walk_at 0 0 root path i ++ (asks (not (same.directory i n)) IsNoDirectory 0 k
      ∷ asks (same.grants bits.Read i n) GrantsRead 0 k ∷ [])
  table_same (Names path) rest = λ i.
      let n = reached_same i root path in
      let k = length path in
      walk_at 0 0 root path i ++ (asks (same.directory i n) IsDirectory 0 k
      ∷ asks (same.grants bits.Read i n) GrantsRead 0 k ∷ [])
  table_same (Write path place bytes) rest = λ i.
      let n = reached_same i root path in
      let k = length path in
      walk_at 0 0 root path i ++
      (asks (not (same.directory i n)) IsNoDirectory 0 k
      ∷ asks (not (same.immutable i n)) IsMutable 0 k
      ∷ asks (same.grants bits.Write i n) GrantsWrite 0 k
      ∷ asks (is_end place || not (same.append_only i n)) IsNotAppendOnly 0 k
      ∷ asks (nat_le (start_in place (same.size i n) + length bytes) file_max) FitsFile 0 k
      ∷ [])
  table_same (SetLength path len) rest = λ i.
      let n = reached_same i root path in
      let k = length path in
      walk_at 0 0 root path i ++
      (asks (not (same.directory i n)) IsNoDirectory 0 k
      ∷ asks (not (same.immutable i n)) IsMutable 0 k
      ∷ asks (same.grants bits.Write i n) GrantsWrite 0 k
      ∷ asks (not (same.append_only i n)) IsNotAppendOnly 0 k
      ∷ asks (nat_le len file_max) FitsFile 0 k
      ∷ [])
  table_same (Create path mode) rest = making_same path
  table_same (Mkdir path mode) rest = making_same path
  table_same (Unlink path) rest = λ i.
      removing_same path i ++ (asks (not (same.directory i (reached_same i root path))) IsNoDirectory 0 (length path)
      ∷ [])
  table_same (Rmdir path) rest = λ i.
      let dir = reached_same i root path in
      removing_same path i ++
      (asks (same.directory i dir) IsDirectory 0 (length path)
      ∷ asks (length (same.children i dir) == 0) IsEmpty 0 (length path)
      ∷ [])
  table_same (Rename from to) rest =
      let dir = reached w.rows root (front to) in
      (λ i. removing_same from i ++ (arriving_same to i ++ moving_at from to (child w.rows dir (last to)) i))
      ∙ ap (λ o. removing v.rows d from ++ (arriving v.rows d to ++ moving_tests v.rows d from to o)) (named_same to)
  table_same (Chmod path mode) rest = λ i.
      let n = reached_same i root path in
      let k = length path in
      walk_at 0 0 root path i ++
      (asks (not (same.immutable i n)) IsMutable 0 k
      ∷ asks (not (same.append_only i n)) IsNotAppendOnly 0 k
      ∷ asks (same.owner i n) IsOwner 0 k
      ∷ [])
  table_same (Chown path uid gid) rest = λ i.
      let n = reached_same i root path in
      let k = length path in
      walk_at 0 0 root path i ++
      (asks (not (same.immutable i n)) IsMutable 0 k
      ∷ asks (not (same.append_only i n)) IsNotAppendOnly 0 k
      ∷ asks (same.gives uid gid i n) MaySetOwner 0 k
      ∷ [])
  table_same (Chflags path flags) rest = λ i.
      let n = reached_same i root path in
      let k = length path in
      walk_at 0 0 root path i ++
      (asks (same.owner i n) IsOwner 0 k
      ∷ asks (rest.0 i n) MaySetFlags 0 k
      ∷ asks (rest.1 i n) KeepsSystemLocks 0 k
      ∷ [])
  table_same (SetLevel level) rest = rest
  table_same Sync rest = refl

  pub decided_same : (request : Request) → SameRest request → decide w c request ≡ decide v d request
  decided_same request rest = ap first_failing (table_same request rest)
