-- The text of a frame, and which rows it has.
use Rattle.std.specs.Prelude.{ℕ, zero, suc, Bool, List, [], ◌∷◌, ◌++◌, length, drop, take, decimal, bytes_eq}
use Rattle.std.specs.Prelude.{nat_eq, slice_index_or, if◌then◌else◌}
use Rattle.std.specs.Cmp.Lexicographic.{pointwise}
use Rattle.std.specs.List.{flat_map}
use Rattle.lfs_film.specs.Quoting.{quoted}

-- the row of a number: empty where there is none
abbrev pub row_at : List (List ℕ) → ℕ → List ℕ
row_at rows n = slice_index_or rows n []

-- the new row of a number, where it isn't the old one
abbrev pub changed_row : List (List ℕ) → List (List ℕ) → ℕ → List (List ℕ)
changed_row old new n = if bytes_eq (row_at old n) (row_at new n) then [] else row_at new n ∷ []

-- those of the first n numbers
unfoldable pub first_changed : List (List ℕ) → List (List ℕ) → ℕ → List (List ℕ)
first_changed old new zero = []
first_changed old new (suc n) = first_changed old new n ++ changed_row old new n

-- the new rows that aren't the old ones, in order
abbrev pub changed_rows : List (List ℕ) → List (List ℕ) → List (List ℕ)
changed_rows old new = first_changed old new (length new)

-- whether a text goes on where another ends
abbrev pub runs_on : List ℕ → List ℕ → Bool
runs_on old new = pointwise nat_eq (take (length old) new) old

-- a sign, the number of a segment, and behind a space whose its blocks are
abbrev pub told_owners : ℕ → ℕ → List ℕ → List ℕ
told_owners sign number text = sign ∷ decimal number ++ 32 ∷ text

-- whose the blocks of the segment of a number are, where that isn't as before: what follows behind a plus sign, where
-- it goes on, else the whole behind an equals sign
abbrev pub changed_owner : ℕ → List ℕ → List ℕ → List (List ℕ)
changed_owner number old new =
    if bytes_eq old new then []
    else (if runs_on old new then told_owners 43 number (drop (length old) new)
    else told_owners 61 number new) ∷ []

-- those of the first n numbers
unfoldable pub first_changed_owners : List (List ℕ) → List (List ℕ) → ℕ → List (List ℕ)
first_changed_owners old new zero = []
first_changed_owners old new (suc n) =
    first_changed_owners old new n ++ changed_owner n (row_at old n) (row_at new n)

-- whose the blocks are of each segment where that isn't as before, in order
abbrev pub changed_owners : List (List ℕ) → List (List ℕ) → List (List ℕ)
changed_owners old new = first_changed_owners old new (length new)

-- a text in a frame: a comma, and it in quotation marks
abbrev pub item : List ℕ → List ℕ
item text = 44 ∷ quoted text

-- a frame up to its end
abbrev pub begun_text : ℕ → List (List ℕ) → List ℕ
begun_text number texts = 91 ∷ decimal number ++ flat_map item texts

-- the end of a frame
abbrev pub frame_end : List ℕ
frame_end = 93 ∷ 10 ∷ []

-- a frame, a line of JSON: a list of a number and texts
abbrev pub frame_text : ℕ → List (List ℕ) → List ℕ
frame_text number texts = begun_text number texts ++ frame_end
