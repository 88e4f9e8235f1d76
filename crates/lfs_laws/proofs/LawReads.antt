-- Worlds that differ only in bytes that the caller may not read answer him alike: `answers_alike`, for the law
-- `nobody_reads` and UnreadRuns; TwinLemmas takes from here that paths lead to the same rows. Rows that look alike
-- agree on all that a test asks, even on their size, so the whole table of tests is equal, as a function at once
-- (`table_same`), and so are the refusals; the answers follow call by call. Only Read shows bytes, and it was allowed,
-- so its file is one that the caller may read and is the same in both; a test or an answer that looked at bytes in
-- another call would end the proof.
use Rattle.std.proofs.Common.{◌≡◌, ℕ, ◌≤◌, ◌+◌, ◌==◌, not, Bool, true, List, [], ◌∷◌, ◌++◌, length, Option, None, Some}
use Rattle.std.proofs.Common.{refl, sym, ap, subst, ◌∙◌, arith}
use Rattle.std.specs.Prelude.{find, filter, min, nat_le, unwrap_or, is_some, is_none, IsSome}
use Rattle.std.specs.Prelude as lists
use Rattle.std.specs.List.{list_any}
use Rattle.std.specs.FinMap as map
use Rattle.lfs_types.specs.Caller.{Caller}
use Rattle.lfs_types.specs.Kinds.{is_directory_kind}
use Rattle.lfs_types.specs.Stored.{slice_of}
use Rattle.lfs_types.specs.Tree.{Row, World, root, attrs_of}
use Rattle.lfs_types.specs.declared.answer.Answer.{Answer}
use Rattle.lfs_types.specs.declared.answer.Answer.TheVariants.{Served, Denied, Refused}
use Rattle.lfs_types.specs.declared.answer.Resource.{Resource}
use Rattle.lfs_types.specs.declared.answer.Resource.TheVariants.{NoMemory, NoSpace, NoInodes, DirectoryFull}
use Rattle.lfs_types.specs.declared.answer.Resource.TheVariants.{JournalFull}
use Rattle.lfs_types.specs.declared.answer.Served.TheVariants as served
use Rattle.lfs_types.specs.declared.attrs.Attrs.{Attrs}
use Rattle.lfs_types.specs.declared.attrs.Bit.{Bit}
use Rattle.lfs_types.specs.declared.attrs.Bit.TheVariants as bits
use Rattle.lfs_types.specs.declared.request.Request.{Request}
use Rattle.lfs_types.specs.declared.request.Request.TheVariants.{Stat, Read, Write, List as Names, SetLength, Create}
use Rattle.lfs_types.specs.declared.request.Request.TheVariants.{Mkdir, Unlink, Rmdir, Rename, Chmod, Chown, Chflags}
use Rattle.lfs_types.specs.declared.request.Request.TheVariants.{SetLevel, Sync}
use Rattle.lfs_types.specs.declared.rule.Rule.TheVariants.{IsDirectory, GrantsSearch, NameThere, NameFree, IsNotRoot}
use Rattle.lfs_types.specs.declared.rule.Rule.TheVariants.{IsNotBeneathItself}
use Rattle.lfs_rules.specs.Grants.{grants_of}
use Rattle.lfs_model.specs.World.{IsTree, Rows, hangs_in, hangs_as, child, children, name_of, file_at}
use Rattle.lfs_model.specs.Rules.{first_failing, asks, is_directory_row, row_grants, attrs_at, next, reached, front}
use Rattle.lfs_model.specs.Rules.{last, Check, walk, visited, making, making_tests, removing, removing_tests, arriving}
use Rattle.lfs_model.specs.Rules.{searching_tests, entering_tests, replaced_tests, moving_tests, last_tests}
use Rattle.lfs_model.specs.Rules.{leaves_test, position, unlink_tests, rmdir_tests, leaves_test, position, reaching}
use Rattle.lfs_model.specs.Rules.{stat_tests, read_tests, list_tests, write_tests, length_tests, chmod_tests}
use Rattle.lfs_model.specs.Rules.{chown_tests, chflags_tests, level_tests, rule_table, decide}
use Rattle.lfs_model.specs.Effects.{read_max, in_byte_order, answer_of}
use Rattle.lfs_laws.specs.LawUnread.{NumberLooksAlike, DifferUnread}
use Rattle.lfs_laws.specs.Rights.{Reaches}
use Rattle.lfs_model.specs.Steps.{AllUsed, LacksInodes, IsCrowded, MayLack, IsAnswer}
use Rattle.lfs_laws.proofs.CallLaws.{shown_law}
use Rattle.lfs_model.proofs.Deciding.{met_first, passes-append}
use Rattle.lfs_types.specs.declared.limits.TheConstants.{FILE_BLOCKS}
use Rattle.lfs_laws.proofs.SameKeys.{same_keys}

-- ---- rows that look alike

module _ (caller : Caller) (reaches : Type 0) where
  alike_some : (o p : Option Row) → NumberLooksAlike caller reaches o p → is_some o ≡ is_some p
  alike_some None None h = refl
  alike_some None (Some s) h = absurd h
  alike_some (Some r) None h = absurd h
  alike_some (Some r) (Some s) h = refl

  alike_attrs : (o p : Option Row) → NumberLooksAlike caller reaches o p → attrs_of (file_at o) ≡ attrs_of (file_at p)
  alike_attrs None None h = refl
  alike_attrs None (Some s) h = absurd h
  alike_attrs (Some r) None h = absurd h
  alike_attrs (Some r) (Some s) h = h.attrs

  alike_directory : (o p : Option Row) → NumberLooksAlike caller reaches o p → is_directory_row o ≡ is_directory_row p
  alike_directory None None h = refl
  alike_directory None (Some s) h = absurd h
  alike_directory (Some r) None h = absurd h
  alike_directory (Some r) (Some s) h = ap (λ (a : Attrs). is_directory_kind a.kind) h.attrs

  alike_grants : (bit : Bit) (o p : Option Row) → NumberLooksAlike caller reaches o p → row_grants caller bit o
      ≡ row_grants caller bit p
  alike_grants bit None None h = refl
  alike_grants bit None (Some s) h = absurd h
  alike_grants bit (Some r) None h = absurd h
  alike_grants bit (Some r) (Some s) h = ap (λ a. grants_of caller a bit) h.attrs

  alike_name : (o p : Option Row) → NumberLooksAlike caller reaches o p → name_of o ≡ name_of p
  alike_name None None h = refl
  alike_name None (Some s) h = absurd h
  alike_name (Some r) None h = absurd h
  alike_name (Some r) (Some s) h = h.names

  alike_in : (parent n : ℕ) (o p : Option Row) → NumberLooksAlike caller reaches o p → hangs_in parent n o
      ≡ hangs_in parent n p
  alike_in parent n None None h = refl
  alike_in parent n None (Some s) h = absurd h
  alike_in parent n (Some r) None h = absurd h
  alike_in parent n (Some r) (Some s) h = ap (λ q. lists.◌&&◌ (not (n == root)) (q == parent)) h.parents

  alike_as : (parent : ℕ) (name : List ℕ) (n : ℕ) (o p : Option Row) → NumberLooksAlike caller reaches o p
      → hangs_as parent name n o ≡ hangs_as parent name n p
  alike_as parent name n None None h = refl
  alike_as parent name n None (Some s) h = absurd h
  alike_as parent name n (Some r) None h = absurd h
  alike_as parent name n (Some r) (Some s) h =
      λ i. lists.◌&&◌ (lists.◌&&◌ (not (n == root)) (h.parents i == parent)) (lists.bytes_eq (h.names i) name)

  alike_bytes : (o p : Option Row) → NumberLooksAlike caller reaches o p
      → grants_of caller (attrs_of (file_at o)) bits.Read ≡ true → reaches → (file_at o).bytes ≡ (file_at p).bytes
  alike_bytes None None h g up = refl
  alike_bytes None (Some s) h g up = absurd h
  alike_bytes (Some r) None h g up = absurd h
  alike_bytes (Some r) (Some s) h g up = h.bytes g up

-- ---- the tests

abbrev directory_at : Rows → ℕ → Bool
directory_at rows n = is_directory_row (map.get rows n)

abbrev grants_at : Caller → Bit → Rows → ℕ → Bool
grants_at caller bit rows n = row_grants caller bit (map.get rows n)

module _ (caller : Caller) (w v : World) (tree : IsTree w.rows) (differ : DifferUnread caller w v) where
  directories : directory_at w.rows ≡ directory_at v.rows
  directories = λ i n. alike_directory caller (Reaches w.rows caller n) _ _ (differ.rows n) i

  grants : (bit : Bit) → grants_at caller bit w.rows ≡ grants_at caller bit v.rows
  grants bit = λ i n. alike_grants caller (Reaches w.rows caller n) bit _ _ (differ.rows n) i

  attributes : attrs_at w.rows ≡ attrs_at v.rows
  attributes = λ i n. alike_attrs caller (Reaches w.rows caller n) _ _ (differ.rows n) i

  numbers_same : map.keys w.rows ≡ map.keys v.rows
  numbers_same = same_keys w.rows v.rows (λ n. alike_some caller (Reaches w.rows caller n) _ _ (differ.rows n))

  pub child_same : child w.rows ≡ child v.rows
  unfolding child
  child_same = λ i parent name. find (λ n. alike_as caller (Reaches w.rows caller n) parent name n _ _
      (differ.rows n) i) (numbers_same i)

  children_same : children w.rows ≡ children v.rows
  unfolding children
  children_same = λ i parent. filter (λ n. alike_in caller (Reaches w.rows caller n) parent n _ _ (differ.rows n) i)
      (numbers_same i)

  pub reached_at : (at : ℕ) (names : List (List ℕ)) → reached w.rows at names ≡ reached v.rows at names
  reached_at at [] = refl
  reached_at at (name ∷ names) = reached_at (next w.rows at name) names
      ∙ ap (λ o. reached v.rows (unwrap_or o 0) names) (λ i. child_same i at name)

  reached_same : reached w.rows ≡ reached v.rows
  reached_same = λ i at names. reached_at at names i

  walk_at : (path k at : ℕ) (names : List (List ℕ)) → walk w.rows caller path k at names
      ≡ walk v.rows caller path k at names
  walk_at path k at [] = refl
  walk_at path k at (name ∷ names) =
      (λ i. asks (directories i at) IsDirectory path k
      ∷ asks (grants bits.Search i at) GrantsSearch path k
      ∷ asks (is_some (child_same i at name)) NameThere path (k + 1)
      ∷ walk_at path (k + 1) (next w.rows at name) names i)
      ∙ ap (λ o. asks (is_directory_row (map.get v.rows at)) IsDirectory path k
      ∷ asks (row_grants caller bits.Search (map.get v.rows at)) GrantsSearch path k
      ∷ asks (is_some (child v.rows at name)) NameThere path (k + 1)
      ∷ walk v.rows caller path (k + 1) (unwrap_or o 0) names) (λ i. child_same i at name)

  visited_at : (at : ℕ) (names : List (List ℕ)) → visited w.rows at names ≡ visited v.rows at names
  visited_at at [] = refl
  visited_at at (name ∷ names) = ap (λ ns. at ∷ ns) (visited_at (next w.rows at name) names
      ∙ ap (λ o. visited v.rows (unwrap_or o 0) names) (λ i. child_same i at name))

  making_same : (names : List (List ℕ)) → making w.rows caller names ≡ making v.rows caller names
  making_same names = λ i.
      let dir = reached_same i root (front names) in
      asks (not (length names == 0)) NameFree 0 0
      ∷ walk_at 0 0 root (front names) i ++ making_tests caller (is_none (child_same i dir (last names)))
      (attributes i dir) (length (front names))

  removing_same : (names : List (List ℕ)) → removing w.rows caller names ≡ removing v.rows caller names
  removing_same names = λ i.
      let dir = attributes i (reached_same i root (front names)) in
      let file = attributes i (reached_same i root names) in
      asks (not (length names == 0)) IsNotRoot 0 0
      ∷ walk_at 0 0 root names i ++ removing_tests caller 0 dir file (length (front names))

  arriving_same : (names : List (List ℕ)) → arriving w.rows caller names ≡ arriving v.rows caller names
  arriving_same names = λ i.
      asks (not (length names == 0)) IsNotRoot 1 0
      ∷ walk_at 1 0 root (front names) i ++ searching_tests caller 1 (attributes i (reached_same i root (front names)))
      (length (front names))

  -- what has the last name
  named_same : (names : List (List ℕ)) → child w.rows (reached w.rows root (front names)) (last names)
      ≡ child v.rows (reached v.rows root (front names)) (last names)
  named_same names = λ i. child_same i (reached_same i root (front names)) (last names)

  last_same : (from to : List (List ℕ)) → last_tests w.rows caller from to ≡ last_tests v.rows caller from to
  last_same from to = λ i.
      let moved = reached_same i root from in
      let way = visited_at root (front to) i in
      let stays = reached_same i root (front from) == reached_same i root (front to) in
      asks (not (list_any (λ n. n == moved) way)) IsNotBeneathItself 1 (position moved way)
      ∷ leaves_test caller stays (attributes i moved) (length from)
      ∷ []

  moving_at : (from to : List (List ℕ)) (o : Option ℕ) → moving_tests w.rows caller from to o
      ≡ moving_tests v.rows caller from to o
  moving_at from to None = λ i.
      entering_tests caller 1 (attributes i (reached_same i root (front to))) (length (front to)) ++ last_same from to i
  moving_at from to (Some m) = λ i.
      let moved = reached_same i root from in
      let k = length (front to) in
      lists.cond (m == moved) [] ((removing_tests caller 1 (attributes i (reached_same i root (front to)))
      (attributes i m) k
      ++ replaced_tests (length (children_same i m) == 0) (attributes i moved) (attributes i m) (k + 1))
      ++ last_same from to i)

  -- what a path leads to has the same attributes
  reaching_same : (path : List (List ℕ)) (tests : Attrs → ℕ → List Check) → reaching w.rows caller path tests
      ≡ reaching v.rows caller path tests
  reaching_same path tests = λ i. walk_at 0 0 root path i
      ++ tests (attributes i (reached_same i root path)) (length path)

  table_same : (request : Request) → rule_table w caller request ≡ rule_table v caller request
  table_same (Stat path) = reaching_same path stat_tests
  table_same (Read path off len) = reaching_same path (read_tests caller)
  table_same (Names path) = reaching_same path (list_tests caller)
  table_same (Write path place bytes) = reaching_same path (write_tests caller place (length bytes))
  table_same (SetLength path len) = reaching_same path (length_tests caller len)
  table_same (Create path mode) = making_same path
  table_same (Mkdir path mode) = making_same path
  table_same (Unlink path) = λ i.
      removing_same path i ++ unlink_tests (attributes i (reached_same i root path)) (length path)
  table_same (Rmdir path) = λ i.
      let dir = reached_same i root path in
      removing_same path i ++ rmdir_tests (length (children_same i dir) == 0) (attributes i dir) (length path)
  table_same (Rename from to) =
      let dir = reached w.rows root (front to) in
      (λ i. removing_same from i ++ (arriving_same to i ++ moving_at from to (child w.rows dir (last to)) i))
      ∙ ap (λ o. removing v.rows caller from ++ (arriving v.rows caller to ++ moving_tests v.rows caller from to o))
      (named_same to)
  table_same (Chmod path mode) = reaching_same path (chmod_tests caller)
  table_same (Chown path uid gid) = reaching_same path (chown_tests caller uid gid)
  table_same (Chflags path flags) =
      reaching_same path (chflags_tests caller w.level flags)
      ∙ ap (λ level. reaching v.rows caller path (chflags_tests caller level flags)) differ.level
  table_same (SetLevel level) = ap (λ old. level_tests caller old level) differ.level
  table_same Sync = refl

  -- the rules say the same in both worlds
  decide_same : (request : Request) → decide w caller request ≡ decide v caller request
  decide_same request = ap first_failing (table_same request)

  -- ---- the answers

  read_granted : (path : List (List ℕ)) (off len : ℕ) → decide w caller (Read path off len) ≡ None
      → grants_of caller (attrs_at w.rows (reached w.rows root path)) bits.Read ≡ true
  read_granted path off len h = (met_first _ _ _
      (met_first _ _ _ (passes-append (walk w.rows caller 0 0 root path) _ h).1).1).0

  -- a call that they allow shows the same
  answer_same : (request : Request) → decide w caller request ≡ None → answer_of w request ≡ answer_of v request
  answer_same (Stat path) h = λ i. served.Stat (reached_same i root path) (attributes i (reached_same i root path))
  answer_same (Read path off len) h =
      let n = reached w.rows root path in
      let s = shown_law 0 w caller (Read path off len) (Served (answer_of w (Read path off len))) tree (
        h,
        (λ x. x),
        refl,
      ) in
      let up = subst (Reaches w.rows caller) (sym s.named) s.reaches in
      let here = alike_bytes caller (Reaches w.rows caller n) _ _ (differ.rows n) (read_granted path off len h) up in
      ap (λ bytes. served.Bytes (slice_of bytes off (min len read_max))) (here
      ∙ ap (λ m. (file_at (map.get v.rows m)).bytes) (reached_at root path))
  answer_same (Names path) h = λ i. served.Names
      (in_byte_order (lists.map (λ n. alike_name caller (Reaches w.rows caller n) _ _ (differ.rows n) i)
      (children_same i (reached_same i root path))))
  answer_same (Write path place bytes) h = refl
  answer_same (SetLength path len) h = refl
  answer_same (Create path mode) h = refl
  answer_same (Mkdir path mode) h = refl
  answer_same (Unlink path) h = refl
  answer_same (Rmdir path) h = refl
  answer_same (Rename from to) h = refl
  answer_same (Chmod path mode) h = refl
  answer_same (Chown path uid gid) h = refl
  answer_same (Chflags path flags) h = refl
  answer_same (SetLevel level) h = refl
  answer_same Sync h = refl

  -- ---- the refusals

  used_same : (reaches : Type 0) (o p : Option Row) → NumberLooksAlike caller reaches o p → IsSome o → IsSome p
  used_same reaches None None h used = used
  used_same reaches None (Some s) h used = absurd h
  used_same reaches (Some r) None h used = absurd h
  used_same reaches (Some r) (Some s) h used = refl

  used_back : (reaches : Type 0) (o p : Option Row) → NumberLooksAlike caller reaches o p → IsSome p → IsSome o
  used_back reaches None None h used = used
  used_back reaches None (Some s) h used = absurd h
  used_back reaches (Some r) None h used = absurd h
  used_back reaches (Some r) (Some s) h used = refl

  all_used : (numbers : ℕ) → AllUsed numbers w.rows → AllUsed numbers v.rows
  all_used numbers used n low high = used_same _ _ _ (differ.rows n) (used n low high)

  all_used_back : (numbers : ℕ) → AllUsed numbers v.rows → AllUsed numbers w.rows
  all_used_back numbers used n low high = used_back _ _ _ (differ.rows n) (used n low high)

  lacks_same : (numbers : ℕ) (request : Request) → LacksInodes numbers w request → LacksInodes numbers v request
  lacks_same numbers (Stat path) h = h
  lacks_same numbers (Read path off len) h = h
  lacks_same numbers (Names path) h = h
  lacks_same numbers (Write path place bytes) h = h
  lacks_same numbers (SetLength path len) h = h
  lacks_same numbers (Create path mode) h = all_used numbers h
  lacks_same numbers (Mkdir path mode) h = all_used numbers h
  lacks_same numbers (Unlink path) h = h
  lacks_same numbers (Rmdir path) h = h
  lacks_same numbers (Rename from to) h = h
  lacks_same numbers (Chmod path mode) h = h
  lacks_same numbers (Chown path uid gid) h = h
  lacks_same numbers (Chflags path flags) h = h
  lacks_same numbers (SetLevel level) h = h
  lacks_same numbers Sync h = h

  lacks_back : (numbers : ℕ) (request : Request) → LacksInodes numbers v request → LacksInodes numbers w request
  lacks_back numbers (Stat path) h = h
  lacks_back numbers (Read path off len) h = h
  lacks_back numbers (Names path) h = h
  lacks_back numbers (Write path place bytes) h = h
  lacks_back numbers (SetLength path len) h = h
  lacks_back numbers (Create path mode) h = all_used_back numbers h
  lacks_back numbers (Mkdir path mode) h = all_used_back numbers h
  lacks_back numbers (Unlink path) h = h
  lacks_back numbers (Rmdir path) h = h
  lacks_back numbers (Rename from to) h = h
  lacks_back numbers (Chmod path mode) h = h
  lacks_back numbers (Chown path uid gid) h = h
  lacks_back numbers (Chflags path flags) h = h
  lacks_back numbers (SetLevel level) h = h
  lacks_back numbers Sync h = h

  many_same : (path : List (List ℕ)) → FILE_BLOCKS ≤ length (children w.rows (reached w.rows root (front path)))
      → FILE_BLOCKS ≤ length (children v.rows (reached v.rows root (front path)))
  many_same path h =
      let count : length (children w.rows (reached w.rows root (front path)))
      ≡ length (children v.rows (reached v.rows root (front path))) =
      λ i. length (children_same i (reached_same i root (front path))) in
      omega (arith, count, h)

  crowded_same : (request : Request) → IsCrowded w request → IsCrowded v request
  crowded_same (Stat path) h = h
  crowded_same (Read path off len) h = h
  crowded_same (Names path) h = h
  crowded_same (Write path place bytes) h = h
  crowded_same (SetLength path len) h = h
  crowded_same (Create path mode) h = many_same path h
  crowded_same (Mkdir path mode) h = many_same path h
  crowded_same (Unlink path) h = h
  crowded_same (Rmdir path) h = h
  crowded_same (Rename from to) h = (sym (named_same to) ∙ h.0, many_same to h.1)
  crowded_same (Chmod path mode) h = h
  crowded_same (Chown path uid gid) h = h
  crowded_same (Chflags path flags) h = h
  crowded_same (SetLevel level) h = h
  crowded_same Sync h = h

  lack_same : (numbers : ℕ) (request : Request) (resource : Resource) → MayLack numbers w request resource
      → MayLack numbers v request resource
  lack_same numbers request NoInodes h = lacks_same numbers request h
  lack_same numbers request DirectoryFull h =
      (λ lacks. h.0 (lacks_back numbers request lacks), crowded_same request h.1)
  lack_same numbers request NoSpace h = (λ lacks. h.0 (lacks_back numbers request lacks), h.1)
  lack_same numbers request NoMemory h = h
  lack_same numbers request JournalFull h = h

  -- an answer that a call may have in one it may have in the other
  pub answers_alike : (numbers : ℕ) (request : Request) (answer : Answer) → IsAnswer numbers w caller request answer
      → IsAnswer numbers v caller request answer
  answers_alike numbers request (Served shown) is = (
    sym (decide_same request) ∙ is.0,
    λ lacks. is.1 (lacks_back numbers request lacks),
    is.2
        ∙ answer_same request is.0,
  )
  answers_alike numbers request (Denied denial) is = sym (decide_same request) ∙ is
  answers_alike numbers request (Refused resource) is =
      (sym (decide_same request) ∙ is.0, lack_same numbers request resource is.1)
