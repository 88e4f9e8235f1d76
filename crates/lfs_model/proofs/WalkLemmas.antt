-- A walk takes a step only from a directory to its child, and goes on from there: `stepped-directory`, `stepped-child`,
-- `walked_on` and `walked_end` for `walk` and `judge_way`, `walked_last` for RemoveLemmas. A step is three tests in
-- order, so what it leads to is the child that was looked up, and a walk with one name more is the walk and one step
-- (induction on the names). The last step needs the count of the names before it, as denials tell the component;
-- another order of the three tests changes `stepped_row` alone.
use Rattle.std.proofs.Common.{◌≡◌, ℕ, ◌+◌, ◌<◌, Bool, true, false, cond, List, [], ◌∷◌, ◌++◌, length, get_or, drop}
use Rattle.std.proofs.Common.{Option, None, Some, Result, Ok, Err, refl, sym, ap, ◌∙◌, add-one, arith}
use Rattle.std.specs.Prelude.{ok_or}
use Rattle.std.proofs.Math.Seq.{drop-cons}
use Rattle.std.specs.FinMap as map
use Rattle.lfs_types.specs.Caller.{Caller}
use Rattle.lfs_types.specs.Kinds.{is_directory_kind}
use Rattle.lfs_types.specs.declared.attrs.Bit.TheVariants as bits
use Rattle.lfs_types.specs.declared.attrs.Kind.{Kind}
use Rattle.lfs_types.specs.declared.attrs.Kind.TheVariants.{File as Regular, Directory}
use Rattle.lfs_types.specs.declared.rule.Denial.{Denial}
use Rattle.lfs_types.specs.declared.rule.Rule.TheVariants.{NameThere}
use Rattle.lfs_model.specs.World.{Rows, child}
use Rattle.lfs_model.specs.Rules.{is_directory_row, row_grants}
use Rattle.lfs_model.specs.Walks.{stepped, found, and_then, walked}

-- a kind that tests as a directory's is it
pub directory_kind : (k : Kind) → is_directory_kind k ≡ true → k ≡ Directory
directory_kind Regular h = absurd (cc)
directory_kind Directory h = refl

-- and one that doesn't is a file's
pub regular_kind : (k : Kind) → is_directory_kind k ≡ false → k ≡ Regular
regular_kind Regular h = refl
regular_kind Directory h = absurd (cc)

-- a child that was looked up, or its denial
pub ok_found : (path k : ℕ) (o : Option ℕ) → ok_or o (record { rule = NameThere; path = path; at = k }) ≡ found path k o
ok_found path k None = refl
ok_found path k (Some n) = refl

stepped_row : (path k n : ℕ) (search kind : Denial) (d s : Bool) (o : Option ℕ)
    → cond d (cond s (found path k o) (Err search)) (Err kind) ≡ Ok n → (d ≡ true) × (o ≡ Some n)
stepped_row path k n search kind true true None h = absurd (cc)
stepped_row path k n search kind true true (Some m) h = (refl, cc)
stepped_row path k n search kind true false o h = absurd (cc)
stepped_row path k n search kind false s o h = absurd (cc)

-- a step that is taken starts at a directory
pub stepped-directory : (rows : Rows) (caller : Caller) (path k at : ℕ) (name : List ℕ) (n : ℕ) → Ok n
    ≡ stepped rows caller path k at name → is_directory_row (map.get rows at) ≡ true
stepped-directory rows caller path k at name n h =
    (stepped_row path (k + 1) n _ _ (is_directory_row (map.get rows at))
    (row_grants caller bits.Search (map.get rows at)) (child rows at name) (sym h)).0

-- and leads to a child
pub stepped-child : (rows : Rows) (caller : Caller) (path k at : ℕ) (name : List ℕ) (n : ℕ) → Ok n
    ≡ stepped rows caller path k at name → child rows at name ≡ Some n
stepped-child rows caller path k at name n h =
    (stepped_row path (k + 1) n _ _ (is_directory_row (map.get rows at))
    (row_grants caller bits.Search (map.get rows at)) (child rows at name) (sym h)).1

-- the names that are left, with the first of them
pub names_left : (names : List (List ℕ)) (at : ℕ) (name : List ℕ) → at < length names → name ≡ get_or names at name
    → drop at names ≡ name ∷ drop (at + 1) names
names_left names at name h is = drop-cons names at name h ∙ rw (← is, add-one) refl

-- a walk takes a step, and goes on from there
pub walked_on : (rows : Rows) (caller : Caller) (path k at : ℕ) (name : List ℕ) (names : List (List ℕ))
    (r : Result ℕ Denial) → r ≡ stepped rows caller path k at name
    → walked rows caller path k at (name ∷ names) ≡ and_then r (λ n. walked rows caller path (k + 1) n names)
unfolding walked
walked_on rows caller path k at name names r h =
    ap (λ x. and_then x (λ n. walked rows caller path (k + 1) n names)) (sym h)

-- a walk along no names ends where it is
pub walked_end : (rows : Rows) (caller : Caller) (path k at : ℕ) → walked rows caller path k at [] ≡ Ok at
unfolding walked
walked_end rows caller path k at = refl

-- ---- the last step

and_then-ok : (r : Result ℕ Denial) → and_then r (λ n. Ok n) ≡ r
and_then-ok (Ok n) = refl
and_then-ok (Err denial) = refl

and_then-twice : (r : Result ℕ Denial) (f g : ℕ → Result ℕ Denial) → and_then r (λ n. and_then (f n) g)
    ≡ and_then (and_then r f) g
and_then-twice (Ok n) f g = refl
and_then-twice (Err denial) f g = refl

-- a walk takes its last step from where the names before the last lead
pub walked_last : (rows : Rows) (caller : Caller) (path k at : ℕ) (names : List (List ℕ)) (name : List ℕ)
    → walked rows caller path k at (names ++ name ∷ [])
    ≡ and_then (walked rows caller path k at names) (λ n. stepped rows caller path (k + length names) n name)
unfolding walked
walked_last rows caller path k at [] name =
    let here : k ≡ k + length {A = List ℕ} [] = omega arith in
    and_then-ok (stepped rows caller path k at name) ∙ ap (λ j. stepped rows caller path j at name) here
walked_last rows caller path k at (x ∷ xs) name =
    let on : (k + 1) + length xs ≡ k + length (x ∷ xs) = omega arith in
    ap (λ (f : ℕ → Result ℕ Denial). and_then (stepped rows caller path k at x) f)
    (λ i n. walked_last rows caller path (k + 1) n xs name i)
    ∙ and_then-twice (stepped rows caller path k at x) (λ n. walked rows caller path (k + 1) n xs)
    (λ m. stepped rows caller path ((k + 1) + length xs) m name)
    ∙ ap (λ j. and_then (and_then (stepped rows caller path k at x) (λ n. walked rows caller path (k + 1) n xs))
    (λ m. stepped rows caller path j m name)) on
