-- The rows that names lead through tell all that a walk asks: `walk_told`, with `seat` (which row stands where),
-- `end_told` (what has the last name) and `visited_told` (the way as numbers), for TableLemmas and MoveLemmas. By
-- induction on the names: a trail goes on just where the next name is there, so its length answers NameThere, and the
-- attributes of its rows the two other tests. The hard side is the trail's end, where the walk would go on with row 0,
-- so all lemmas ask that the trail be long enough; a step that needed more than number and attributes breaks
-- `walk_told`.
use Rattle.std.proofs.Common.{◌≡◌, ℕ, zero, suc, ◌+◌, ◌<◌, ◌≤◌, true, List, [], ◌∷◌, ◌++◌, length, take, map, Option}
use Rattle.std.proofs.Common.{None, Some, refl, sym, ap, subst, ◌∙◌, arith}
use Rattle.std.specs.Prelude.{is_some, unwrap_or, option_map, slice_get}
use Rattle.std.specs.FinMap as fin
use Rattle.lfs_types.specs.Caller.{Caller}
use Rattle.lfs_types.specs.declared.attrs.Bit.TheVariants as bits
use Rattle.lfs_types.proofs.Somewhere.{There}
use Rattle.lfs_model.specs.World.{Rows, child}
use Rattle.lfs_model.specs.Rules.{Check, front, last, reached, visited, walk}
use Rattle.lfs_model.proofs.Children.{child-is}
use Rattle.lfs_explain.specs.Asked.{asked}
use Rattle.lfs_explain.specs.Tables.{goes_on, trail_tests}
use Rattle.lfs_explain.specs.Trails.{onward, shown_row, rows_along}
use Rattle.lfs_explain.specs.declared.trail.ShownRow.{ShownRow}
use Rattle.lfs_explain.proofs.Askings.{step_same}
use Rattle.lfs_model.proofs.Allowed.{directory_attrs, grants_attrs}

-- ---- a row that is there

-- the number of a row, if there is one
abbrev pub number_of : Option ShownRow → Option ℕ
number_of o = option_map (λ (row : ShownRow). row.number) o

-- the numbers of rows
abbrev pub numbers : List ShownRow → List ℕ
numbers rows = map (λ (row : ShownRow). row.number) rows

module _ (rows : Rows) where
  -- a trail has a row
  pub trail_goes : (at : ℕ) (names : List (List ℕ)) → goes_on (rows_along rows at names) ≡ true
  trail_goes at [] = refl
  trail_goes at (name ∷ names) = refl

  -- a child is there
  pub child_there : (at : ℕ) (name : List ℕ) (n : ℕ) → child rows at name ≡ Some n → There (fin.get rows n)
  child_there at name n e = let is = child-is rows at name n e in record { value = is.row; is = is.there }

  -- a name is there where the trail goes on
  goes_told : (o : Option ℕ) (names : List (List ℕ)) → is_some o ≡ goes_on (onward o (λ n. rows_along rows n names))
  goes_told None names = refl
  goes_told (Some n) names = sym (trail_goes n names)

  -- a trail is as long as that behind its first step, and one
  long_on : (o : Option ℕ) (names : List (List ℕ)) (n j : ℕ) → o ≡ Some n → j < length (rows_along rows n names)
      → suc j < suc (length (onward o (λ m. rows_along rows m names)))
  long_on None names n j e long = absurd (cc)
  long_on (Some m) names n j e long =
      let same : m ≡ n = cc in
      let here = subst (λ k. j < length (rows_along rows k names)) (sym same) long in
      omega (arith, here)

  -- ---- a walk

  module _ (caller : Caller) (path : ℕ) where
    after : (o : Option ℕ) (names : List (List ℕ)) (k j : ℕ) (xs ys : List Check)
        → ((n : ℕ) → o ≡ Some n → asked (walk rows caller path (k + 1) n (take j names) ++ xs)
        ≡ asked (trail_tests caller path (k + 1) j (rows_along rows n names) ++ ys))
        → goes_on (onward o (λ n. rows_along rows n names)) ≡ true
        → asked (walk rows caller path (k + 1) (unwrap_or o 0) (take j names) ++ xs)
        ≡ asked (trail_tests caller path (k + 1) j (onward o (λ n. rows_along rows n names)) ++ ys)
    after None names k j xs ys on h = absurd (cc)
    after (Some n) names k j xs ys on h = on n refl

    -- the tests of a walk are asked as those that are told from the trail; where all are met, so are those behind them
    pub walk_told : (names : List (List ℕ)) (k at j : ℕ) → There (fin.get rows at) → j ≤ length names
        → (xs ys : List Check)
        → (j < length (rows_along rows at names) → asked xs ≡ asked ys)
        → asked (walk rows caller path k at (take j names) ++ xs)
        ≡ asked (trail_tests caller path k j (rows_along rows at names) ++ ys)
    walk_told [] k at zero there few xs ys same = same (omega arith)
    walk_told [] k at (suc j) there few xs ys same = absurd (omega (arith, few))
    walk_told (name ∷ names) k at zero there few xs ys same = same (omega arith)
    walk_told (name ∷ names) k at (suc j) there few xs ys same =
        step_same _ _ _ _ _ _ _ _ _ _ _ (directory_attrs (fin.get rows at) there)
        (grants_attrs caller bits.Search (fin.get rows at) there) (goes_told (child rows at name) names)
        (after (child rows at name) names k j xs ys
        (λ n e. walk_told names (k + 1) n j (child_there at name n e) (omega (arith, few)) xs ys
        (λ long. same (long_on (child rows at name) names n j e long))))

  -- ---- a row of a trail

  seat_on : (o : Option ℕ) (names : List (List ℕ)) (j : ℕ)
      → ((n : ℕ) → o ≡ Some n → j < length (rows_along rows n names) → slice_get (rows_along rows n names) j
      ≡ Some (shown_row rows (reached rows n (take j names))))
      → suc j < suc (length (onward o (λ n. rows_along rows n names)))
      → slice_get (onward o (λ n. rows_along rows n names)) j
      ≡ Some (shown_row rows (reached rows (unwrap_or o 0) (take j names)))
  seat_on None names j on long = absurd (omega (arith, long))
  seat_on (Some n) names j on long = on n refl (omega (arith, long))

  -- at a component stands the row that as many names lead to
  pub seat : (names : List (List ℕ)) (at j : ℕ) → j ≤ length names → j < length (rows_along rows at names)
      → slice_get (rows_along rows at names) j ≡ Some (shown_row rows (reached rows at (take j names)))
  seat [] at zero few long = refl
  seat [] at (suc j) few long = absurd (omega (arith, few))
  seat (name ∷ names) at zero few long = refl
  seat (name ∷ names) at (suc j) few long =
      seat_on (child rows at name) names j (λ n e more. seat names n j (omega (arith, few)) more) long

  seen_on : (o : Option ℕ) (names : List (List ℕ)) (j : ℕ) (row : ShownRow)
      → ((n : ℕ) → o ≡ Some n → slice_get (rows_along rows n names) j ≡ Some row → row ≡ shown_row rows row.number)
      → slice_get (onward o (λ n. rows_along rows n names)) j ≡ Some row → row ≡ shown_row rows row.number
  seen_on None names j row on is = absurd (cc)
  seen_on (Some n) names j row on is = on n refl is

  first_seen : (at : ℕ) (row : ShownRow) → Some (shown_row rows at) ≡ Some row → row ≡ shown_row rows row.number
  first_seen at row is =
      let same : row ≡ shown_row rows at = cc in
      same ∙ ap (λ (r : ShownRow). shown_row rows r.number) (sym same)

  -- each row of a trail is as users see it
  pub each_seen : (names : List (List ℕ)) (at j : ℕ) (row : ShownRow) → slice_get (rows_along rows at names) j
      ≡ Some row → row ≡ shown_row rows row.number
  each_seen [] at zero row is = first_seen at row is
  each_seen [] at (suc j) row is = absurd (cc)
  each_seen (name ∷ names) at zero row is = first_seen at row is
  each_seen (name ∷ names) at (suc j) row is =
      seen_on (child rows at name) names j row (λ n e. each_seen names n j row) is

  used_on : (o : Option ℕ) (names : List (List ℕ)) (j : ℕ) (row : ShownRow)
      → ((n : ℕ) → o ≡ Some n → There (fin.get rows n))
      → ((n : ℕ) → There (fin.get rows n) → slice_get (rows_along rows n names) j ≡ Some row
      → There (fin.get rows row.number))
      → slice_get (onward o (λ n. rows_along rows n names)) j ≡ Some row → There (fin.get rows row.number)
  used_on None names j row there on is = absurd (cc)
  used_on (Some n) names j row there on is = on n (there n refl) is

  first_used : (at : ℕ) (row : ShownRow) → There (fin.get rows at) → Some (shown_row rows at) ≡ Some row
      → There (fin.get rows row.number)
  first_used at row there is =
      let same : row ≡ shown_row rows at = cc in
      subst (λ (r : ShownRow). There (fin.get rows r.number)) (sym same) there

  -- each row of a trail is there
  pub each_used : (names : List (List ℕ)) (at j : ℕ) (row : ShownRow) → There (fin.get rows at)
      → slice_get (rows_along rows at names) j ≡ Some row → There (fin.get rows row.number)
  each_used [] at zero row there is = first_used at row there is
  each_used [] at (suc j) row there is = absurd (cc)
  each_used (name ∷ names) at zero row there is = first_used at row there is
  each_used (name ∷ names) at (suc j) row there is =
      used_on (child rows at name) names j row (child_there at name) (λ n here. each_used names n j row here) is

  -- ---- a step of a trail

  -- one that goes on
  pub trail_on : (at : ℕ) (name : List ℕ) (names : List (List ℕ)) (n : ℕ) → child rows at name ≡ Some n
      → rows_along rows at (name ∷ names) ≡ shown_row rows at ∷ rows_along rows n names
  trail_on at name names n some = ap (λ o. shown_row rows at ∷ onward o (λ m. rows_along rows m names)) some

  -- ---- the last name

  end_there : (o : Option ℕ) → o ≡ number_of (slice_get (onward o (λ n. rows_along rows n [])) 0)
  end_there None = refl
  end_there (Some n) = refl

  end_on : (o : Option ℕ) (name : List ℕ) (names : List (List ℕ))
      → ((n : ℕ) → o ≡ Some n → length names < length (rows_along rows n (name ∷ names))
      → child rows (reached rows n (front (name ∷ names))) (last (name ∷ names))
      ≡ number_of (slice_get (rows_along rows n (name ∷ names)) (suc (length names))))
      → suc (length names) < suc (length (onward o (λ n. rows_along rows n (name ∷ names))))
      → child rows (reached rows (unwrap_or o 0) (front (name ∷ names))) (last (name ∷ names))
      ≡ number_of (slice_get (onward o (λ n. rows_along rows n (name ∷ names))) (suc (length names)))
  end_on None name names on long = absurd (omega (arith, long))
  end_on (Some n) name names on long = on n refl (omega (arith, long))

  -- what has the last name in the directory that the others lead to stands at the trail's end
  pub end_told : (names : List (List ℕ)) (name : List ℕ) (at : ℕ)
      → length names < length (rows_along rows at (name ∷ names))
      → child rows (reached rows at (front (name ∷ names))) (last (name ∷ names))
      ≡ number_of (slice_get (rows_along rows at (name ∷ names)) (suc (length names)))
  end_told [] name at long = end_there (child rows at name)
  end_told (second ∷ names) name at long =
      end_on (child rows at name) second names (λ n e. end_told names second n) long

  -- ---- the trail as numbers

  visited_on : (o : Option ℕ) (names : List (List ℕ)) (j : ℕ)
      → ((n : ℕ) → o ≡ Some n → j < length (rows_along rows n names) → visited rows n (take j names)
      ≡ numbers (take (suc j) (rows_along rows n names)))
      → suc j < suc (length (onward o (λ n. rows_along rows n names))) → visited rows (unwrap_or o 0) (take j names)
      ≡ numbers (take (suc j) (onward o (λ n. rows_along rows n names)))
  visited_on None names j on long = absurd (omega (arith, long))
  visited_on (Some n) names j on long = on n refl (omega (arith, long))

  -- the rows that some of the names lead through
  pub visited_told : (names : List (List ℕ)) (at j : ℕ) → j ≤ length names → j < length (rows_along rows at names)
      → visited rows at (take j names) ≡ numbers (take (suc j) (rows_along rows at names))
  visited_told [] at zero few long = refl
  visited_told [] at (suc j) few long = absurd (omega (arith, few))
  visited_told (name ∷ names) at zero few long = refl
  visited_told (name ∷ names) at (suc j) few long =
      ap (λ ns. at ∷ ns) (visited_on (child rows at name) names j
      (λ n e. visited_told names n j (omega (arith, few))) long)
