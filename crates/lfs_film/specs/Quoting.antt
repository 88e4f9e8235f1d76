-- A text as a string of JSON that may stand in an element of HTML.
use Rattle.std.specs.Prelude.{ℕ, ◌-◌, ◌/◌, ◌%◌, ◌==◌, ◌&&◌, ◌||◌, nat_le, not, Bool, List, [], ◌∷◌, ◌++◌, length, take}
use Rattle.std.specs.Prelude.{codes, if◌then◌else◌}
use Rattle.std.specs.Char.{digit_char}
use Rattle.std.specs.List.{flat_map}

-- whether a byte is a quotation mark, an ampersand, less, greater or a backslash
abbrev pub is_mark : ℕ → Bool
is_mark b = b == 34 || b == 38 || b == 60 || b == 62 || b == 92

-- whether a byte stands for itself: from a space to a tilde, and no such mark
abbrev pub is_plain : ℕ → Bool
is_plain b = nat_le 32 b && nat_le b 126 && not (is_mark b)

-- a byte: itself, or a backslash, u00 and two digits
abbrev pub escaped : ℕ → List ℕ
escaped b = if is_plain b then b ∷ []
    else 92 ∷ 117 ∷ 48 ∷ 48 ∷ digit_char (b / 16) ∷ digit_char (b % 16) ∷ []

-- a text between quotation marks
abbrev pub quoted : List ℕ → List ℕ
quoted text = 34 ∷ flat_map escaped text ++ 34 ∷ []

-- at most so many bytes of a text; of a longer one three less, and then a space and two full stops
abbrev pub shortened : ℕ → List ℕ → List ℕ
shortened most text = if nat_le (length text) most then text
    else take (most - 3) text ++ codes " .."
