-- Changed rows are listed one by one, and a page is written part by part: `rows_kept` and `rows_more` for
-- `changed_rows`, `parts_written` for the writers of the page, `page_same` and `page_bounded` for `write_page`. The
-- rows so far are those that differ among the first ones, so a row more is added just if it differs from the old row in
-- its place. What stands round the frames is short and fixed (`told_short`), so the page is bounded where the frames
-- are; longer texts change the sum of `five_short`.
use Rattle.std.proofs.Common.{◌≡◌, ℕ, suc, ◌+◌, ◌≤◌, Bool, true, false, not, List, [], ◌∷◌, ◌++◌, length, map, bytes_eq}
use Rattle.std.proofs.Common.{Bor, Option, refl, sym, ◌∙◌, arith, append-nil, length-append, subst}
use Rattle.std.specs.Io.KnownBytes.{Appends}
use Rattle.std.proofs.KnownBytes.{Appends-trans}
use Rattle.std.proofs.lemmas.Bool.{leb-true}
use Rattle.std.proofs.lemmas.List.{map-append}
use Rattle.lfs_film.specs.Films.{Reel, page_of, page_text, seen_text, tail_text, told_of}
use Rattle.lfs_film.specs.Frames.{first_changed, row_at}
use Rattle.lfs_film.specs.declared.page.TheConstants.{FRAMES}

is_same : (test : Bool) → not test ≡ false → test ≡ true
is_same true e = refl
is_same false e = cc

is_other : (test : Bool) → not test ≡ true → test ≡ false
is_other true e = cc
is_other false e = refl

-- no row yet
pub rows_none : (old new : List (List ℕ)) → [] ≡ first_changed old new 0
unfolding first_changed
rows_none old new = refl

-- a row that is as before, and one that isn't
same_row : (old new rows : List (List ℕ)) (n : ℕ) → rows ≡ first_changed old new n
    → bytes_eq (row_at old n) (row_at new n) ≡ true
    → rows ≡ first_changed old new (n + 1)
unfolding first_changed
same_row old new rows n so_far same =
    let one : n + 1 ≡ suc n = omega arith in
    rw (one, same) (so_far ∙ sym (append-nil (first_changed old new n)))

other_row : (old new rows : List (List ℕ)) (n : ℕ) → rows ≡ first_changed old new n
    → bytes_eq (row_at old n) (row_at new n) ≡ false
    → rows ++ row_at new n ∷ [] ≡ first_changed old new (n + 1)
unfolding first_changed
other_row old new rows n so_far other =
    let one : n + 1 ≡ suc n = omega arith in
    rw (one, other, so_far) refl

-- the same of rows that are lent, by what a test said of them
pub rows_kept : (old new : List (List ℕ)) (rows : List (Bor (List ℕ))) (n : ℕ) (before now : List ℕ) (test : Bool)
    → map (λ x. x.now) rows ≡ first_changed old new n → before ≡ row_at old n → now ≡ row_at new n → test
    ≡ not (bytes_eq before now) → test ≡ false
    → map (λ x. x.now) rows ≡ first_changed old new (n + 1)
rows_kept old new rows n before now test so_far one two tells fails =
    same_row old new (map (λ x. x.now) rows) n so_far
    (rw (← one, ← two) (is_same (bytes_eq before now) (sym tells ∙ fails)))

pub rows_more : (old new : List (List ℕ)) (rows more : List (Bor (List ℕ))) (n : ℕ) (before : List ℕ)
    (row : Bor (List ℕ)) (test : Bool)
    → map (λ x. x.now) rows ≡ first_changed old new n → before ≡ row_at old n → row.now ≡ row_at new n → test
    ≡ not (bytes_eq before row.now) → test ≡ true
    → more ≡ rows ++ row ∷ [] → map (λ x. x.now) more ≡ first_changed old new (n + 1)
rows_more old new rows more n before row test so_far one two tells holds grown =
    let other : bytes_eq (row_at old n) (row_at new n)
    ≡ false = rw (← one, ← two) (is_other (bytes_eq before row.now) (sym tells ∙ holds)) in
    rw (grown, map-append, two) (other_row old new (map (λ x. x.now) rows) n so_far other)

-- three texts written one after another
pub parts_written : (start seen more out : Option (List ℕ)) (a told b c : List ℕ) → Appends start seen a → told ≡ b
    → Appends seen more told → Appends more out c
    → Appends start out ((a ++ b) ++ c)
parts_written start seen more out a told b c one is two three =
    Appends-trans start more out (a ++ b) c (Appends-trans start seen more a b one
    (subst (λ (t : List ℕ). Appends seen more t) is two)) three

-- the page of a film is that of what stands in it
pub page_same : (reel inside : Reel) (frames : List ℕ) → inside ≡ reel → frames ≡ inside.frames
    → page_of frames inside.is_full ≡ page_text reel
page_same reel inside frames is same = rw (same, is) refl

-- what stands round the frames is short
told_short : (is_full : Bool) → length (told_of is_full) ≤ 1000
told_short true = leb-true (length (told_of true)) 1000 refl
told_short false = leb-true (length (told_of false)) 1000 refl

five_short : (a b c d e : List ℕ) → length a ≤ 20000 → length b ≤ 1000 → length c ≤ 1000 → length d ≤ 19000000
    → length e ≤ 60000
    → length ((((a ++ b) ++ c) ++ d) ++ e) ≤ 20000000
five_short a b c d e one two three four five =
    rw (length-append, length-append, length-append, length-append) (omega arith)

-- so a page is bounded where its frames are
pub page_bounded : (reel inside : Reel) → inside ≡ reel → length inside.frames ≤ 19000000
    → length (page_text reel) ≤ 20000000
page_bounded reel inside is le =
    let seen : length seen_text ≤ 20000 = leb-true (length seen_text) 20000 refl in
    let before : length FRAMES.now ≤ 1000 = leb-true (length FRAMES.now) 1000 refl in
    let after : length tail_text ≤ 60000 = leb-true (length tail_text) 60000 refl in
    let frames : length reel.frames ≤ 19000000 = rw (← is) le in
    five_short seen_text (told_of reel.is_full) FRAMES.now reel.frames tail_text seen
    (told_short reel.is_full) before frames after
