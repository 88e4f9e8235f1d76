-- What is known where a test of the rules isn't met, and ways of splitting lists of tests: for DeniedLemmas and
-- AskedLemmas. A denial is that of the first test that isn't met, so what holds of each denial of a list holds if each
-- unmet test brings it (`each`), and a list is split at a test or between two lists (`fails`, `fails-append`), the
-- later ones with all before them met. Each test is a Bool made of others, and that it is false says which of these are
-- true and which false: so a sticky bit that bars says who the caller isn't (`barred_by`), and a directory that isn't
-- empty is one (`full_directory`).
use Rattle.std.proofs.Common.{◌≡◌, ◌≢◌, ◌⊎◌, ◌<◌, ◌≤◌, ℕ, ◌==◌, ◌&&◌, ◌||◌, not, Bool, true, false, cond, List, []}
use Rattle.std.proofs.Common.{◌∷◌, ◌++◌, length, Option, None, Some, refl, sym, ap, subst, ◌∙◌, arith, eqb-true, eq-eqb}
use Rattle.std.proofs.Common.{inl, inr, ⊎_elim}
use Rattle.std.proofs.lemmas.Bool.{eqb-false, not-false, or_parts, or_right}
use Rattle.std.specs.Prelude.{is_none, nat_le}
use Rattle.std.specs.FinMap as map
use Rattle.lfs_types.specs.Caller.{Caller}
use Rattle.lfs_types.specs.Kinds.{is_directory_kind}
use Rattle.lfs_types.specs.Tree.{Row, World, attrs_of}
use Rattle.lfs_types.specs.declared.attrs.Attrs.{Attrs}
use Rattle.lfs_types.specs.declared.rule.Denial.{Denial}
use Rattle.lfs_model.proofs.Trees.{no_parent}
use Rattle.lfs_types.specs.declared.attrs.Kind.{Kind}
use Rattle.lfs_types.specs.declared.attrs.Kind.TheVariants.{File as Regular, Directory}
use Rattle.lfs_model.specs.World.{Rows, children, file_at, IsChild, IsTree}
use Rattle.lfs_model.specs.Rules.{Check, attrs_at, first_failing, front, is_directory_row}
use Rattle.lfs_laws.specs.LawDenied.{IsKept}
use Rattle.lfs_laws.specs.Rights.{IsGivable}
use Rattle.lfs_rules.specs.Bits.{has_bit}
use Rattle.lfs_rules.specs.Owners.{is_in_group, is_owner_or_superuser, may_set_owner}
use Rattle.lfs_rules.specs.Sticky.{is_barred}
use Rattle.lfs_model.proofs.Members.{children-none}
use Rattle.lfs_model.proofs.Deciding.{failing-behind, failing-front}
use Rattle.lfs_laws.proofs.ServedLemmas.{gives}

-- ---- tests one behind the other

-- a test that isn't met, or one behind it
pub fails : (D : Denial → Type 0) (met : Bool) (d : Denial) (rest : Option Denial) → (met ≡ false → D d)
    → (met ≡ true → (denial : Denial) → rest ≡ Some denial → D denial)
    → (denial : Denial) → cond met rest (Some d) ≡ Some denial → D denial
fails D true d rest first others denial h = others refl denial h
fails D false d rest first others denial h = let same : d ≡ denial = cc in subst D same (first refl)

pub none_fails : (D : Denial → Type 0) (denial : Denial) → None ≡ Some denial → D denial
none_fails D denial h = absurd (cc)

-- what each of some tests tells, where it isn't met
abbrev pub Each : (Denial → Type 0) → List Check → Type 0
Each D [] = Unit {0}
Each D (check ∷ checks) = (check.met ≡ false → D check.denial) × Each D checks

pub each : (D : Denial → Type 0) (checks : List Check) → Each D checks → (denial : Denial) → first_failing checks
    ≡ Some denial → D denial
each D [] all denial h = none_fails D denial h
each D (check ∷ checks) all denial h = fails D check.met check.denial (first_failing checks) all.0
    (λ on. each D checks all.1) denial h

by_first : (D : Denial → Type 0) (xs ys : List Check) → ((denial : Denial) → first_failing xs ≡ Some denial → D denial)
    → (first_failing xs ≡ None → (denial : Denial) → first_failing ys ≡ Some denial → D denial) → (denial : Denial)
    → first_failing (xs ++ ys) ≡ Some denial
    → (o : Option Denial) → first_failing xs ≡ o → D denial
by_first D xs ys front behind denial h None e = behind e denial (sym (failing-behind xs ys e) ∙ h)
by_first D xs ys front behind denial h (Some d) e = front denial (e ∙ sym (failing-front xs ys d e) ∙ h)

-- a denial by the first tests, or by those behind them
pub fails-append : (D : Denial → Type 0) (xs ys : List Check)
    → ((denial : Denial) → first_failing xs ≡ Some denial → D denial)
    → (first_failing xs ≡ None → (denial : Denial) → first_failing ys ≡ Some denial → D denial) → (denial : Denial)
    → first_failing (xs ++ ys) ≡ Some denial → D denial
fails-append D xs ys front behind denial h = by_first D xs ys front behind denial h (first_failing xs) refl

pub not_none : (o : Option ℕ) → is_none o ≡ false → (m : ℕ) × (o ≡ Some m)
not_none None h = absurd (cc)
not_none (Some m) h = (m, refl)

-- ---- tests that aren't met

pub no_names : (l : List (List ℕ)) → length l ≡ 0 → l ≡ []
no_names [] h = refl
no_names (x ∷ xs) h = absurd (omega (arith, h))

pub no_path : (path : List (List ℕ)) → not (length path == 0) ≡ false → path ≡ []
no_path path h = no_names path (eqb-true (length path) 0 (not-false _ h))

pub one_left : (behind : List (List ℕ)) (name : List ℕ) → behind ≡ name ∷ [] → length behind ≤ 1
one_left behind name e = let long = ap (length {A = List ℕ}) e in omega (arith, long)

pub nothing_left : (behind : List (List ℕ)) → behind ≡ [] → length behind ≤ 1
nothing_left behind e = let long = ap (length {A = List ℕ}) e in omega (arith, long)

-- what has children is a directory
pub full_directory : (rows : Rows) → Caller → IsTree rows → (m : ℕ) (r : Row) → map.get rows m ≡ Some r
    → (length (children rows m) == 0) ≡ false → r.file.kind ≡ Directory
full_directory rows caller tree m r there full = by_kind r.file.kind refl
  where
    by_kind : (k : Kind) → r.file.kind ≡ k → r.file.kind ≡ Directory
    by_kind Directory e = e
    by_kind Regular e =
        let file = ap is_directory_row there ∙ ap is_directory_kind e in
        let none = children-none rows m (no_parent rows tree m file) in
        absurd (cc (none, full))

-- what is known of the attributes at a number is known of its row's
pub of_row : (rows : Rows) (n : ℕ) (r : Row) → map.get rows n ≡ Some r → (P : Attrs → Type 0) → P (attrs_at rows n)
    → P (attrs_of r.file)
of_row rows n r there P h = subst P (ap (λ o. attrs_of (file_at o)) there) h

pub parent_of_row : (rows : Rows) (n : ℕ) (r : Row) → map.get rows n ≡ Some r → (dir : ℕ) → {name : List ℕ}
    → IsChild rows dir name n → dir ≡ r.parent
parent_of_row rows n r there dir hangs = let row : hangs.row ≡ r = cc (hangs.there, there) in sym hangs.hangs
    ∙ ap (λ (x : Row). x.parent) row

pub both_of : (a b : Bool) → not (a && b) ≡ false → (a ≡ true) × (b ≡ true)
both_of true b h = (refl, not-false _ h)
both_of false b h = absurd (cc)

-- of a test that holds also where something else doesn't
pub second_of : (a b : Bool) → (a || not b) ≡ false → b ≡ true
second_of a b h = not-false b (or_parts a (not b) h).1

pub last_of : (d stays granted : Bool) → (not d || stays || granted) ≡ false → granted ≡ false
last_of true stays granted h = (or_parts stays granted h).1
last_of false stays granted h = absurd (cc)

pub not_most : (a b : ℕ) → nat_le a b ≡ false → b < a
not_most a b h = grind (arith, h)

abbrev pub BarredBy : Caller → Attrs → Attrs → Type 0
BarredBy caller dir file = (has_bit dir.mode 0o1000 ≡ true) × (caller.uid ≢ 0) × (caller.uid ≢ file.uid)
    × (caller.uid ≢ dir.uid)

barred_of : (sticky s o d : Bool) → (sticky && not ((s || o) || d)) ≡ true → (sticky ≡ true) × (s ≡ false) × (o ≡ false)
    × (d ≡ false)
barred_of true false false false h = (refl, refl, refl, refl)
barred_of true true o d h = absurd (cc)
barred_of true false true d h = absurd (cc)
barred_of true false false true h = absurd (cc)
barred_of false s o d h = absurd (cc)

pub barred_by : (caller : Caller) (dir file : Attrs) → is_barred caller dir file ≡ true → BarredBy caller dir file
barred_by caller dir file h =
    let b = barred_of (has_bit dir.mode 0o1000) (caller.uid == 0) (caller.uid == file.uid) (caller.uid == dir.uid) h in
    (b.0, eqb-false caller.uid 0 b.1, eqb-false caller.uid file.uid b.2, eqb-false caller.uid dir.uid b.3)

pub kept : (w : World) (caller : Caller) (r : Row) → BarredBy caller (attrs_at w.rows r.parent) (attrs_of r.file)
    → IsKept w caller r
kept w caller r b = record { sticky = b.0; ordinary = b.1; row = b.2; parent = b.3 }

-- who is neither the superuser nor the owner
pub neither_owner : (caller : Caller) (attrs : Attrs) → is_owner_or_superuser caller attrs ≡ false → (caller.uid ≢ 0)
    × (caller.uid ≢ attrs.uid)
neither_owner caller attrs h =
    let b = or_parts (caller.uid == 0) (caller.uid == attrs.uid) h in
    (eqb-false caller.uid 0 b.0, eqb-false caller.uid attrs.uid b.1)

gives_not : (s o u g m : Bool) → (s || ((o && u) && (g || m))) ≡ false → o ≡ true → (s ≡ true)
    ⊎ ((u ≡ true) × ((g ≡ true) ⊎ (m ≡ true))) → ⊥
gives_not s o u g m h e may = wrong (sym h ∙ gives s o u g m (or_right s o e) may)
  where
    last_true : (b : Bool) → (b || true) ≡ true
    last_true true = refl
    last_true false = refl

    wrong : false ≡ true → ⊥
    wrong bad = cc (bad)

pub given_wrongly : (caller : Caller) (uid gid : ℕ) (r : Row) → may_set_owner caller (attrs_of r.file) uid gid ≡ false
    → caller.uid ≡ r.file.uid → IsGivable caller r.file uid gid → ⊥
given_wrongly caller uid gid r h own may =
    gives_not (caller.uid == 0) (caller.uid == r.file.uid) (uid == r.file.uid) (gid == r.file.gid)
    (is_in_group caller gid) h (eq-eqb caller.uid r.file.uid own)
    (⊎_elim (λ s. inl (eq-eqb caller.uid 0 s))
    (λ two. inr (eq-eqb uid r.file.uid two.0, ⊎_elim (λ g. inl (eq-eqb gid r.file.gid g)) (λ m. inr m) two.1)) may)

pub unless : (D : Denial → Type 0) (b : Bool) (checks : List Check)
    → ((denial : Denial) → first_failing checks ≡ Some denial → D denial)
    → (denial : Denial) → first_failing (cond b [] checks) ≡ Some denial → D denial
unless D true checks on denial h = none_fails D denial h
unless D false checks on denial h = on denial h
