-- What decides nothing: levels -1 and 2 instead of 0 and 1 (`levels_alike`), the order of groups and being init
-- (`callers_alike`), and flags that lock nothing (`marks_alike`), each for the law `decides_nothing`. The first is seen
-- at once, the others are cases of SameTests: groups are asked only by whether they contain a number, and flags only by
-- their four locks (`by_locks`). The hard one is Chflags, which looks at the whole upper half of the old flags for all
-- but user 0 (`may_alike`); a new flag that a test asks for belongs in `HasSameLocks`.
use Rattle.std.proofs.Common.{◌≡◌, ◌≢◌, ◌↔◌, ℕ, ◌/◌, ◌==◌, ◌&&◌, ◌||◌, not, Bool, true, cond, List, Option, None, Some}
use Rattle.std.proofs.Common.{refl, sym, ap, ◌∙◌, ⊎_elim, eq-eqb, eqb-true}
use Rattle.std.proofs.lemmas.Bool.{cases_eq}
use Rattle.std.proofs.lemmas.Bool.Decides.{same_from_decides, Decides-like}
use Rattle.std.proofs.lemmas.Map.Made.{is_member-Decides}
use Rattle.std.specs.List.{list_any}
use Rattle.std.specs.Prelude.{Contains, Decides, find, filter, is_some}
use Rattle.std.specs.FinMap as map
use Rattle.lfs_types.specs.Caller.{Caller}
use Rattle.lfs_types.specs.Kinds.{is_directory_kind}
use Rattle.lfs_types.specs.Tree.{Row, World, attrs_of}
use Rattle.lfs_types.specs.declared.attrs.Attrs.{Attrs}
use Rattle.lfs_types.specs.declared.attrs.Bit.{Bit}
use Rattle.lfs_types.specs.declared.attrs.Bit.TheVariants as bits
use Rattle.lfs_types.specs.declared.request.Request.{Request}
use Rattle.lfs_types.specs.declared.request.Request.TheVariants.{Chflags, SetLevel}
use Rattle.lfs_rules.specs.Bits.{has_bit}
use Rattle.lfs_rules.specs.Grants.{grants_of, group_mask, other_mask, owner_mask}
use Rattle.lfs_rules.specs.Locks.{is_immutable, is_append_only, keeps_system_locks, may_set_flags}
use Rattle.lfs_rules.specs.Owners.{is_in_group, is_owner_or_superuser, may_set_owner}
use Rattle.lfs_rules.specs.Securelevel.{is_above_zero}
use Rattle.lfs_rules.specs.Sticky.{is_barred}
use Rattle.lfs_model.specs.World.{Rows, child, children, file_at, hangs_as, hangs_in}
use Rattle.lfs_model.specs.Rules.{attrs_at, decide, is_directory_row, level_tests, row_grants}
use Rattle.lfs_laws.specs.LawIdle.{CallersAlike, DifferInMarks, HasSameLocks, HaveSameSystemFlags, IsChflags}
use Rattle.lfs_laws.specs.LawIdle.{IsSetLevel, LevelsAlike, MarksAlike, NumberHasSameLocks}
use Rattle.lfs_laws.proofs.SameKeys.{same_keys}
use Rattle.lfs_laws.proofs.SameTests.{SameRest, SameTests, decided_same}

-- ---- levels

pub levels_alike : LevelsAlike
levels_alike rows caller (SetLevel level) h = absurd (h tt)
levels_alike rows caller request h = (refl, refl)

-- ---- callers

pub number_decides : (a b : ℕ) → Decides (b == a) (a ≡ b)
number_decides a b = (λ h. sym (eqb-true b a h), λ e. eq-eqb b a (sym e))

member_same : (gs hs : List ℕ) → ((g : ℕ) → Contains gs g ↔ Contains hs g) → (g : ℕ) → list_any (λ x. x == g) gs
    ≡ list_any (λ x. x == g) hs
member_same gs hs same g =
    same_from_decides _ _ (Decides-like _ (same g).0 (same g).1 (is_member-Decides number_decides gs g))
    (is_member-Decides number_decides hs g)

module _ (uid : ℕ) (gs hs : List ℕ) (i j : Bool) (member : (g : ℕ)
    → is_in_group (record { uid = uid; groups = gs; init = i }) g
    ≡ is_in_group (record { uid = uid; groups = hs; init = j }) g) where
  abbrev one : Caller
  one = record { uid = uid; groups = gs; init = i }

  abbrev two : Caller
  two = record { uid = uid; groups = hs; init = j }

  grants_alike : (a : Attrs) (bit : Bit) → grants_of one a bit ≡ grants_of two a bit
  grants_alike a bit = ap (λ m. cond (uid == 0) true (cond (uid == a.uid) (has_bit a.mode (owner_mask bit))
      (cond m (has_bit a.mode (group_mask bit)) (has_bit a.mode (other_mask bit))))) (member a.gid)

  row_alike : (bit : Bit) (o : Option Row) → row_grants one bit o ≡ row_grants two bit o
  row_alike bit None = refl
  row_alike bit (Some r) = grants_alike (attrs_of r.file) bit

  tests_alike : (rows : Rows) → SameTests rows rows one two
  tests_alike rows = record {
    child = refl;
    children = refl;
    is_directory = refl;
    searches = λ k n. row_alike bits.Search (map.get rows n) k;
    directory = refl;
    size = refl;
    grants = λ bit k n. grants_alike (attrs_at rows n) bit k;
    immutable = refl;
    append_only = refl;
    barred = refl;
    owner = refl;
    gives = λ u g k n. let a = attrs_at rows n in
        (uid == 0) || ((uid == a.uid) && (u == a.uid) && ((g == a.gid) || member g k));
  }

  rest_alike : (w : World) (request : Request) → (IsSetLevel request → i ≡ j)
      → SameRest w w one two (tests_alike w.rows) request
  rest_alike w (Chflags path flags) init = (refl, refl)
  rest_alike w (SetLevel level) init = λ k. level_tests
      (record { uid = uid; groups = gs; init = init tt k }) w.level level
  rest_alike w request init = tt

  alike : (w : World) (request : Request) → (IsSetLevel request → i ≡ j) → decide w one request ≡ decide w two request
  alike w request init = decided_same w w one two (tests_alike w.rows) request (rest_alike w request init)

pub callers_alike : CallersAlike
callers_alike w caller other request same init =
    let member = member_same caller.groups other.groups same.groups in
    alike caller.uid caller.groups other.groups caller.init other.init member w request init
    ∙ ap (λ u. decide w (record { uid = u; groups = other.groups; init = other.init }) request) same.uid

-- ---- marks

-- what doesn't ask of other flags says the same of rows that have the same locks
by_locks : {A : Type 0} (T : Option Row → A)
    → ((r s : Row) → HasSameLocks r s → T (Some r)
    ≡ T (Some (record r { file = record r.file { flags = s.file.flags } })))
    → (o p : Option Row) → NumberHasSameLocks o p → T o ≡ T p
by_locks T h None None same = refl
by_locks T h None (Some s) same = absurd same
by_locks T h (Some r) None same = absurd same
by_locks T h (Some r) (Some s) same = h r s same ∙ ap (λ x. T (Some x)) (sym same.rest)

immutable_alike : (r s : Row) → HasSameLocks r s → is_immutable (attrs_of r.file)
    ≡ is_immutable (attrs_of (record r.file { flags = s.file.flags }))
immutable_alike r s h = λ i. (h.user_immutable i == 1) || (h.system_immutable i == 1)

append_alike : (r s : Row) → HasSameLocks r s → is_append_only (attrs_of r.file)
    ≡ is_append_only (attrs_of (record r.file { flags = s.file.flags }))
append_alike r s h = λ i. (h.user_append i == 1) || (h.system_append i == 1)

module _ (w v : World) (caller : Caller) (differ : DifferInMarks w v) where
  by_number : {A : Type 0} (T : Option Row → A)
      → ((r s : Row) → HasSameLocks r s → T (Some r)
      ≡ T (Some (record r { file = record r.file { flags = s.file.flags } })))
      → (n : ℕ) → T (map.get w.rows n) ≡ T (map.get v.rows n)
  by_number T h n = by_locks T h (map.get w.rows n) (map.get v.rows n) (differ.rows n)

  keys_same : map.keys w.rows ≡ map.keys v.rows
  keys_same = same_keys w.rows v.rows (by_number is_some (λ r s h. refl))

  child_same : child w.rows ≡ child v.rows
  unfolding child
  child_same = λ i parent name. find (λ n. by_number (hangs_as parent name n) (λ r s h. refl) n i) (keys_same i)

  children_same : children w.rows ≡ children v.rows
  unfolding children
  children_same = λ i parent. filter (λ n. by_number (hangs_in parent n) (λ r s h. refl) n i) (keys_same i)

  barred_alike : (m n : ℕ) → is_barred caller (attrs_at w.rows m) (attrs_at w.rows n)
      ≡ is_barred caller (attrs_at v.rows m) (attrs_at v.rows n)
  barred_alike m n =
      by_number (λ o. is_barred caller (attrs_of (file_at o)) (attrs_at w.rows n)) (λ r s h. refl) m
      ∙ by_number (λ o. is_barred caller (attrs_at v.rows m) (attrs_of (file_at o))) (λ r s h. refl) n

  marks_tests : SameTests w.rows v.rows caller caller
  marks_tests = record {
    child = child_same;
    children = children_same;
    is_directory = λ i n. by_number is_directory_row (λ r s h. refl) n i;
    searches = λ i n. by_number (row_grants caller bits.Search) (λ r s h. refl) n i;
    directory = λ i n. by_number (λ o. is_directory_kind (file_at o).kind) (λ r s h. refl) n i;
    size = λ i n. by_number (λ o. (attrs_of (file_at o)).size) (λ r s h. refl) n i;
    grants = λ bit i n. by_number (λ o. grants_of caller (attrs_of (file_at o)) bit) (λ r s h. refl) n i;
    immutable = λ i n. by_number (λ o. is_immutable (attrs_of (file_at o))) immutable_alike n i;
    append_only = λ i n. by_number (λ o. is_append_only (attrs_of (file_at o))) append_alike n i;
    barred = λ i m n. barred_alike m n i;
    owner = λ i n. by_number (λ o. is_owner_or_superuser caller (attrs_of (file_at o))) (λ r s h. refl) n i;
    gives = λ uid gid i n. by_number (λ o. may_set_owner caller (attrs_of (file_at o)) uid gid) (λ r s h. refl) n i;
  }

  -- ---- flags that are set

  keeps_alike : (flags n : ℕ)
      → keeps_system_locks w.level (attrs_at w.rows n).flags flags
      ≡ keeps_system_locks v.level (attrs_at v.rows n).flags flags
  keeps_alike flags n =
      by_number (λ o. keeps_system_locks w.level (file_at o).flags flags)
      (λ r s h i. not (is_above_zero w.level &&
      (((h.system_immutable i == 1) && not (has_bit flags 0x2_0000)) ||
      ((h.system_append i == 1) && not (has_bit flags 0x4_0000))))) n
      ∙ ap (λ level. keeps_system_locks level (attrs_at v.rows n).flags flags) differ.level

  may_by : (flags : ℕ) (o p : Option Row) → NumberHasSameLocks o p
      → ((r s : Row) → o ≡ Some r → p ≡ Some s → r.file.flags / 0x1_0000 ≡ s.file.flags / 0x1_0000)
      → may_set_flags caller (file_at o).flags flags ≡ may_set_flags caller (file_at p).flags flags
  may_by flags None None h same = refl
  may_by flags None (Some s) h same = absurd h
  may_by flags (Some r) None h same = absurd h
  may_by flags (Some r) (Some s) h same =
      let upper = same r s refl refl in
      λ i. (caller.uid == 0) || not (not (upper i == flags / 0x1_0000) ||
      ((h.system_immutable i == 1) || (h.system_append i == 1)))

  super_may : (flags old : ℕ) → caller.uid ≡ 0 → may_set_flags caller old flags ≡ true
  super_may flags old super = ap (λ u. (u == 0) || not
      (not (old / 0x1_0000 == flags / 0x1_0000) || (has_bit old 0x2_0000 || has_bit old 0x4_0000))) super

  may_alike : (flags : ℕ) → (caller.uid ≢ 0 → HaveSameSystemFlags w v) → (n : ℕ)
      → may_set_flags caller (attrs_at w.rows n).flags flags ≡ may_set_flags caller (attrs_at v.rows n).flags flags
  may_alike flags system n = ⊎_elim
      (λ super. super_may flags (attrs_at w.rows n).flags super ∙ sym (super_may flags (attrs_at v.rows n).flags super))
      (λ other. may_by flags (map.get w.rows n) (map.get v.rows n) (differ.rows n) (λ r s. system other n r s))
      (cases_eq caller.uid 0)

  marks_rest : (request : Request) → (IsChflags request → caller.uid ≢ 0 → HaveSameSystemFlags w v)
      → SameRest w v caller caller marks_tests request
  marks_rest (Chflags path flags) system = (λ i n. may_alike flags (system tt) n i, λ i n. keeps_alike flags n i)
  marks_rest (SetLevel level) system = ap (λ old. level_tests caller old level) differ.level
  marks_rest request system = tt

pub marks_alike : MarksAlike
marks_alike w v caller request differ system =
    decided_same w v caller caller (marks_tests w v caller differ) request (marks_rest w v caller differ request system)
