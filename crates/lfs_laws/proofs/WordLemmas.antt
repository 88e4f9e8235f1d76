-- What a test of the rules means in bits and numbers: `read_by_bits` to `group_by_owner`, for the laws
-- `classes_by_bits` and `owners_by_number`; LockWords and PlaceWords build theirs from the same pieces. Where a Stat
-- shows the row, its walk passes, so a call on that path is decided by the tests of the shown attributes alone
-- (`decided`), and each test is a Bool that decides a plain statement (`granted`, `owner`, `on`, `off`). One name more,
-- for Create and search, is the walk of the path with one step behind it (`walk_last`, `made`); a test added to such a
-- call must be met where these laws apply, or their statement changes.
use Rattle.std.proofs.Common.{◌≡◌, ◌⊎◌, ◌↔◌, ◌<◌, ℕ, ◌+◌, ◌/◌, ◌%◌, ◌==◌, ◌||◌, not, Bool, true, false, cond, List, []}
use Rattle.std.proofs.Common.{◌∷◌, ◌++◌, length, Option, None, Some, refl, sym, ap, subst, ◌∙◌, ⊎_elim, arith, inl, inr}
use Rattle.std.proofs.Common.{append-nil, eq-eqb, ne_eqb}
use Rattle.std.proofs.lemmas.Bool.{cases_eq, not_from_false}
use Rattle.std.proofs.lemmas.Bool.Decides.{Decides-and, Decides-at, Decides-eqb, Decides-like, Decides-or}
use Rattle.std.proofs.lemmas.Map.Made.{is_member-Decides}
use Rattle.std.specs.Prelude.{Contains, Decides, is_none, is_some}
use Rattle.std.specs.FinMap as map
use Rattle.lfs_types.specs.Caller.{Caller}
use Rattle.lfs_types.specs.Kinds.{is_directory_kind}
use Rattle.lfs_types.specs.Tree.{World, root}
use Rattle.lfs_types.specs.declared.attrs.Attrs.{Attrs}
use Rattle.lfs_types.specs.declared.attrs.Bit.{Bit}
use Rattle.lfs_types.specs.declared.attrs.Bit.TheVariants as bits
use Rattle.lfs_types.specs.declared.attrs.Kind.TheVariants.{File as Regular, Directory}
use Rattle.lfs_types.specs.declared.rule.Denial.{Denial}
use Rattle.lfs_types.specs.declared.rule.Rule.TheVariants.{GrantsSearch, IsDirectory, IsNotAppendOnly, NameFree}
use Rattle.lfs_types.specs.declared.rule.Rule.TheVariants.{NameThere}
use Rattle.lfs_rules.specs.Bits.{has_bit}
use Rattle.lfs_rules.specs.Grants.{grants_of, group_mask, other_mask, owner_mask}
use Rattle.lfs_rules.specs.Locks.{is_immutable, is_append_only}
use Rattle.lfs_rules.specs.Owners.{is_in_group, is_owner_or_superuser, may_set_owner}
use Rattle.lfs_model.specs.World.{Rows, child, IsChild}
use Rattle.lfs_model.specs.Rules.{Check, asks, attrs_at, chmod_tests, chown_tests, first_failing, front}
use Rattle.lfs_model.specs.Rules.{is_directory_row, last, length_tests, list_tests, making, making_tests, next, reached}
use Rattle.lfs_model.specs.Rules.{reaching, read_tests, row_grants, stat_tests, walk}
use Rattle.lfs_laws.specs.LawClasses.{IsGranted, ListByBits, MakeByBits, ReadByBits, SearchByBits, WriteByBits}
use Rattle.lfs_laws.specs.LawOwners.{GroupByOwner, ModeByOwner}
use Rattle.lfs_laws.specs.LawSeen.{IsOff, Sees}
use Rattle.lfs_model.proofs.Allowed.{directory_attrs, grants_attrs, path_there}
use Rattle.lfs_model.proofs.Children.{child-is, child-none}
use Rattle.lfs_model.proofs.Deciding.{failing-behind, met_first, passes-append}
use Rattle.lfs_laws.proofs.IdleLemmas.{number_decides}

-- ---- tests

pub met_by : {P Q : Type 0} (met : Bool) (denial : Denial) (rest : Option Denial) → Decides met P → (rest ≡ None) ↔ Q
    → (cond met rest (Some denial) ≡ None) ↔ (P × Q)
met_by met denial rest d q = (
  λ h. let both = met_first met denial rest h in (d.0 both.0, q.0 both.1),
  λ h. ap (λ b. cond b rest (Some denial)) (d.1 h.0) ∙ q.1 h.1,
)

-- a test before others that are met
pub met_before : {P : Type 0} (met : Bool) (denial : Denial) (rest : Option Denial) → Decides met P → rest ≡ None
    → (cond met rest (Some denial) ≡ None) ↔ P
met_before met denial rest d e = (
  λ h. d.0 (met_first met denial rest h).0,
  λ h. ap (λ b. cond b rest (Some denial)) (d.1 h) ∙ e,
)

-- the last test of a call
pub met_last : {P : Type 0} (met : Bool) (denial : Denial) → Decides met P → (cond met None (Some denial) ≡ None) ↔ P
met_last met denial d = (
  λ h. d.0 (met_first met denial None h).0,
  λ h. ap (λ b. cond b None (Some denial)) (d.1 h),
)

-- a test that is met decides nothing
pub met_always : {Q : Type 0} (met : Bool) (denial : Denial) (rest : Option Denial) → met ≡ true → (rest ≡ None) ↔ Q
    → (cond met rest (Some denial) ≡ None) ↔ Q
met_always met denial rest e q = (
  λ h. q.0 (met_first met denial rest h).1,
  λ h. ap (λ b. cond b rest (Some denial)) e ∙ q.1 h,
)

pub same_iff : {Q : Type 0} (x y : Option Denial) → x ≡ y → (y ≡ None) ↔ Q → (x ≡ None) ↔ Q
same_iff x y e q = (λ h. q.0 (sym e ∙ h), λ h. e ∙ q.1 h)

-- the same said otherwise
pub said : {P Q : Type 0} (x : Option Denial) → (P → Q) → (Q → P) → (x ≡ None) ↔ P → (x ≡ None) ↔ Q
said x f g p = (λ h. f (p.0 h), λ h. p.1 (g h))

-- ---- bits

pub on : (n value : ℕ) → Decides (has_bit n value) (n / value % 2 ≡ 1)
on n value = Decides-eqb (n / value % 2) 1

pub off : (n value : ℕ) → Decides (not (has_bit n value)) (IsOff n value)
off n value = off_of (n / value % 2) (omega arith)
  where
    off_of : (k : ℕ) → k < 2 → Decides (not (k == 1)) (k ≡ 0)
    off_of k small = ⊎_elim
        (λ e. ((λ h. absurd (cc (ap not (eq-eqb k 1 e)))), (λ z. absurd (omega (arith, e, z)))))
        (λ n. ((λ h. omega (arith, small, n)), (λ z. ap not (ne_eqb k 1 n))))
        (cases_eq k 1)

pub neither : {P Q : Type 0} (x y : Bool) → Decides (not x) P → Decides (not y) Q → Decides (not (x || y)) (P × Q)
neither true y p q = (λ h. absurd (cc), λ h. p.1 h.0)
neither false y p q = (λ h. (p.0 refl, q.0 h), λ h. q.1 h.1)

-- no flag locks anything where there is none
pub no_locks : (attrs : Attrs) → attrs.flags ≡ 0 → (is_immutable attrs ≡ false) × (is_append_only attrs ≡ false)
no_locks attrs e = (
  ap (λ f. has_bit f 0x2 || has_bit f 0x2_0000) e,
  ap (λ f. has_bit f 0x4 || has_bit f 0x4_0000) e,
)

-- ---- classes

pub member : (caller : Caller) (gid : ℕ) → Decides (is_in_group caller gid) (Contains caller.groups gid)
member caller gid = is_member-Decides number_decides caller.groups gid

module _ {S O M X Y Z : Type 0} where
  class_of : (s o m x y z : Bool) → Decides s S → Decides o O → Decides m M → Decides x X → Decides y Y → Decides z Z
      → Decides (cond s true (cond o x (cond m y z))) (S ⊎ (O × X) ⊎ ((O → ⊥) × M × Y) ⊎ ((O → ⊥) × (M → ⊥) × Z))
  class_of true o m x y z ds dw dm dx dy dz = (λ h. inl (ds.0 refl), λ h. refl)
  class_of false true m x y z ds dw dm dx dy dz = (
    λ h. inr (inl (dw.0 refl, dx.0 h)),
    λ h. ⊎_elim (λ a. absurd (cc (ds.1 a))) (λ b. ⊎_elim (λ c. dx.1 c.1)
        (λ d. ⊎_elim (λ e. absurd (e.0 (dw.0 refl))) (λ e. absurd (e.0 (dw.0 refl))) d) b) h,
  )
  class_of false false true x y z ds dw dm dx dy dz = (
    λ h. inr (inr (inl ((λ a. cc (dw.1 a)), dm.0 refl, dy.0 h))),
    λ h. ⊎_elim (λ a. absurd (cc (ds.1 a))) (λ b. ⊎_elim (λ c. absurd (cc (dw.1 c.0)))
        (λ d. ⊎_elim (λ e. dy.1 e.2) (λ e. absurd (e.1 (dm.0 refl))) d) b) h,
  )
  class_of false false false x y z ds dw dm dx dy dz = (
    λ h. inr (inr (inr ((λ a. cc (dw.1 a)), (λ a. cc (dm.1 a)), dz.0 h))),
    λ h. ⊎_elim (λ a. absurd (cc (ds.1 a))) (λ b. ⊎_elim (λ c. absurd (cc (dw.1 c.0)))
        (λ d. ⊎_elim (λ e. absurd (cc (dm.1 e.1))) (λ e. dz.1 e.2) d) b) h,
  )

pub granted : (caller : Caller) (attrs : Attrs) (bit : Bit)
    → Decides (grants_of caller attrs bit) (IsGranted caller attrs (owner_mask bit) (group_mask bit) (other_mask bit))
granted caller attrs bit =
    class_of (caller.uid == 0) (caller.uid == attrs.uid) (is_in_group caller attrs.gid) _ _ _
    (Decides-eqb caller.uid 0) (Decides-eqb caller.uid attrs.uid) (member caller attrs.gid)
    (on attrs.mode (owner_mask bit)) (on attrs.mode (group_mask bit)) (on attrs.mode (other_mask bit))

-- ---- owners

pub owner : (caller : Caller) (attrs : Attrs)
    → Decides (is_owner_or_superuser caller attrs) ((caller.uid ≡ 0) ⊎ (caller.uid ≡ attrs.uid))
owner caller attrs = Decides-or _ _ (Decides-eqb caller.uid 0) (Decides-eqb caller.uid attrs.uid)

gives : (caller : Caller) (attrs : Attrs) (uid gid : ℕ)
    → Decides (may_set_owner caller attrs uid gid) ((caller.uid ≡ 0)
    ⊎ ((caller.uid ≡ attrs.uid) × (uid ≡ attrs.uid) × ((gid ≡ attrs.gid) ⊎ Contains caller.groups gid)))
gives caller attrs uid gid =
    Decides-or _ _ (Decides-eqb caller.uid 0)
    (Decides-like _ (λ p. (p.0.0, p.0.1, p.1)) (λ p. ((p.0, p.1), p.2))
    (Decides-and _ _ (Decides-and _ _ (Decides-eqb caller.uid attrs.uid) (Decides-eqb uid attrs.uid))
    (Decides-or _ _ (Decides-eqb gid attrs.gid) (member caller gid))))

-- ---- what a Stat shows

module _ (w : World) (caller : Caller) (path : List (List ℕ)) (n : ℕ) (attrs : Attrs)
    (sees : Sees w caller path n attrs) where
  pub number : reached w.rows root path ≡ n
  number = let e = sees.shows in cc

  pub shown : attrs_at w.rows (reached w.rows root path) ≡ attrs
  shown = let e = sees.shows in cc

  pub walks : first_failing (walk w.rows caller 0 0 root path) ≡ None
  walks = (passes-append (walk w.rows caller 0 0 root path) [] sees.allowed).0

  -- a call on it is decided by the tests of its attributes
  pub decided : {Q : Type 0} (tests : Attrs → ℕ → List Check) → (first_failing (tests attrs (length path)) ≡ None) ↔ Q
      → (first_failing (reaching w.rows caller path tests) ≡ None) ↔ Q
  decided tests q = same_iff _ _ (failing-behind (walk w.rows caller 0 0 root path) _ walks
      ∙ ap (λ a. first_failing (tests a (length path))) shown) q

  -- the row that it shows
  there : is_directory_row (map.get w.rows (reached w.rows root path)) ≡ is_directory_kind attrs.kind
  there = directory_attrs _ (path_there w.rows sees.tree caller 0 path walks)
      ∙ ap (λ (a : Attrs). is_directory_kind a.kind) shown

  searches : row_grants caller bits.Search (map.get w.rows (reached w.rows root path))
      ≡ grants_of caller attrs bits.Search
  searches = grants_attrs caller bits.Search _ (path_there w.rows sees.tree caller 0 path walks)
      ∙ ap (λ a. grants_of caller a bits.Search) shown

-- ---- one name more

walk_last : (rows : Rows) (caller : Caller) (index k at : ℕ) (path : List (List ℕ)) (name : List ℕ)
    → walk rows caller index k at (path ++ name ∷ []) ≡ walk rows caller index k at path
    ++ walk rows caller index (k + length path) (reached rows at path) (name ∷ [])
walk_last rows caller index k at [] name = let here : k ≡ k
    + length {A = List ℕ} [] = omega arith in ap (λ j. walk rows caller index j at (name ∷ [])) here
walk_last rows caller index k at (x ∷ xs) name =
    let on : (k + 1) + length xs ≡ k + length (x ∷ xs) = omega arith in
    ap (λ l. asks (is_directory_row (map.get rows at)) IsDirectory index k
    ∷ asks (row_grants caller bits.Search (map.get rows at)) GrantsSearch index k
    ∷ asks (is_some (child rows at x)) NameThere index (k + 1)
    ∷ l)
    (walk_last rows caller index (k + 1) (next rows at x) xs name
    ∙ ap (λ j. walk rows caller index (k + 1) (next rows at x) xs
    ++ walk rows caller index j (reached rows (next rows at x) xs) (name ∷ [])) on)

front_of : (path : List (List ℕ)) (name : List ℕ) → front (path ++ name ∷ []) ≡ path
front_of [] name = refl
front_of (x ∷ []) name = refl
front_of (x ∷ y ∷ ys) name = ap (λ l. x ∷ l) (front_of (y ∷ ys) name)

last_of : (path : List (List ℕ)) (name : List ℕ) → last (path ++ name ∷ []) ≡ name
last_of [] name = refl
last_of (x ∷ []) name = refl
last_of (x ∷ y ∷ ys) name = last_of (y ∷ ys) name

filled_of : (path : List (List ℕ)) (name : List ℕ) → (length (path ++ name ∷ []) == 0) ≡ false
filled_of [] name = refl
filled_of (x ∷ xs) name = ne_eqb (length (x ∷ (xs ++ name ∷ []))) 0 (omega arith)

named : (rows : Rows) (n : ℕ) (name : List ℕ) (m : ℕ) → IsChild rows n name m → (o : Option ℕ) → child rows n name ≡ o
    → is_some o ≡ true
named rows n name m hangs None e = absurd (child-none rows n name e m hangs)
named rows n name m hangs (Some k) e = refl

free : (rows : Rows) (n : ℕ) (name : List ℕ) → ((m : ℕ) → IsChild rows n name m → ⊥) → (o : Option ℕ)
    → child rows n name ≡ o → is_none o ≡ true
free rows n name none None e = refl
free rows n name none (Some m) e = absurd (none m (child-is rows n name m e))

module _ (w : World) (caller : Caller) (path : List (List ℕ)) (n : ℕ) (attrs : Attrs)
    (sees : Sees w caller path n attrs) (dir : is_directory_kind attrs.kind ≡ true) (name : List ℕ) where
  -- a Stat of a name that is there
  looked : {Q : Type 0} (m : ℕ) → IsChild w.rows n name m → Decides (grants_of caller attrs bits.Search) Q
      → (first_failing (reaching w.rows caller (path ++ name ∷ []) stat_tests) ≡ None) ↔ Q
  looked m hangs q =
      let at = number w caller path n attrs sees in
      let here = subst (λ k. IsChild w.rows k name m) (sym at) hangs in
      same_iff _ _
      (ap first_failing (append-nil (walk w.rows caller 0 0 root (path ++ name ∷ []))
      ∙ walk_last w.rows caller 0 0 root path name)
      ∙ failing-behind (walk w.rows caller 0 0 root path) _ (walks w caller path n attrs sees))
      (met_always _ _ _ (there w caller path n attrs sees ∙ dir)
      (met_before _ _ _ (Decides-at _ _ (searches w caller path n attrs sees) q)
      (ap (λ b. cond b None (Some (record { rule = NameThere; path = 0; at = (0 + length path) + 1 })))
      (named w.rows (reached w.rows root path) name m here _ refl))))

  abbrev made_tests : List (List ℕ) → List ℕ → Bool → List Check
  made_tests parents last filled =
      let at = reached w.rows root parents in
      asks (not filled) NameFree 0 0
      ∷ walk w.rows caller 0 0 root parents ++ making_tests caller (is_none (child w.rows at last)) (attrs_at w.rows at)
      (length parents)

  -- a call that makes a name that is free
  pub made : {P Q R : Type 0} → ((m : ℕ) → IsChild w.rows n name m → ⊥)
      → Decides (grants_of caller attrs bits.Search) P → Decides (not (is_immutable attrs)) Q
      → Decides (grants_of caller attrs bits.Write) R
      → (first_failing (making w.rows caller (path ++ name ∷ [])) ≡ None) ↔ (P × (Q × R))
  made none p q r =
      let at = number w caller path n attrs sees in
      let none_here = λ (m : ℕ) (hangs : IsChild w.rows (reached w.rows root path) name m). none m
      (subst (λ k. IsChild w.rows k name m) at hangs) in
      same_iff _ _
      ((λ i. first_failing (made_tests (front_of path name i) (last_of path name i) (filled_of path name i)))
      ∙ failing-behind (walk w.rows caller 0 0 root path) _ (walks w caller path n attrs sees)
      ∙ ap (λ a. first_failing (making_tests caller (is_none (child w.rows (reached w.rows root path) name)) a
      (length path))) (shown w caller path n attrs sees))
      (met_always _ _ _ dir
      (met_by _ _ _ p
      (met_always _ _ _ (free w.rows (reached w.rows root path) name none_here _ refl)
      (met_by _ _ _ q (met_last _ _ r)))))

-- ---- the laws of classes and owners

pub a_file : (attrs : Attrs) → attrs.kind ≡ Regular → not (is_directory_kind attrs.kind) ≡ true
a_file attrs e = ap (λ k. not (is_directory_kind k)) e

pub a_directory : (attrs : Attrs) → attrs.kind ≡ Directory → is_directory_kind attrs.kind ≡ true
a_directory attrs e = ap is_directory_kind e

pub read_by_bits : ReadByBits
read_by_bits w caller path n attrs off len sees file =
    decided w caller path n attrs sees (read_tests caller)
    (met_always _ _ _ (a_file attrs file) (met_last _ _ (granted caller attrs bits.Read)))

pub list_by_bits : ListByBits
list_by_bits w caller path n attrs sees dir =
    decided w caller path n attrs sees (list_tests caller)
    (met_always _ _ _ (a_directory attrs dir) (met_last _ _ (granted caller attrs bits.Read)))

pub write_by_bits : WriteByBits
write_by_bits w caller path n attrs sees file none =
    let locks = no_locks attrs none in
    decided w caller path n attrs sees (length_tests caller 0)
    (met_always _ _ _ (a_file attrs file)
    (met_always _ _ _ (not_from_false _ locks.0)
    (met_before _ _ _ (granted caller attrs bits.Write)
    (ap (λ b. cond (not b) None (Some (record { rule = IsNotAppendOnly; path = 0; at = length path }))) locks.1))))

pub search_by_bits : SearchByBits
search_by_bits w caller path name n m attrs sees dir hangs =
    looked w caller path n attrs sees (a_directory attrs dir) name m hangs (granted caller attrs bits.Search)

pub make_by_bits : MakeByBits
make_by_bits w caller path name n mode attrs sees dir none unused =
    let locks = no_locks attrs none in
    let unlocked : Decides (not (is_immutable attrs)) (true ≡ true) = (λ h. refl, λ e. not_from_false _ locks.0) in
    said _ (λ p. (p.0, p.1.1)) (λ p. (p.0, (refl, p.1)))
    (made w caller path n attrs sees (a_directory attrs dir) name unused (granted caller attrs bits.Search) unlocked
    (granted caller attrs bits.Write))

pub mode_by_owner : ModeByOwner
mode_by_owner w caller path n mode attrs sees none =
    let locks = no_locks attrs none in
    decided w caller path n attrs sees (chmod_tests caller)
    (met_always _ _ _ (not_from_false _ locks.0)
    (met_always _ _ _ (not_from_false _ locks.1) (met_last _ _ (owner caller attrs))))

pub group_by_owner : GroupByOwner
group_by_owner w caller path n uid gid attrs sees none =
    let locks = no_locks attrs none in
    decided w caller path n attrs sees (chown_tests caller uid gid)
    (met_always _ _ _ (not_from_false _ locks.0)
    (met_always _ _ _ (not_from_false _ locks.1) (met_last _ _ (gives caller attrs uid gid))))
