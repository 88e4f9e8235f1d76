-- Modes, flags and names as answers have them.
use Rattle.std.specs.Prelude.{ℕ, ◌/◌, ◌%◌, ◌==◌, ◌&&◌, not, Bool, nat_le, List, [], ◌∷◌, if◌then◌else◌}
use Rattle.std.specs.Char.{digit_char}
use Rattle.std.specs.Int.{w32, to_be_bytes}
use Rattle.std.specs.List.{flat_map}
use Rattle.lfs_words.specs.BytesText.{hex_text}

-- four octal digits
unfoldable pub mode_text : ℕ → List ℕ
mode_text bits =
    digit_char (bits / 512) ∷ digit_char (bits / 64 % 8) ∷ digit_char (bits / 8 % 8)
    ∷ digit_char (bits % 8) ∷ []

-- eight hexadecimal digits
unfoldable pub flags_text : ℕ → List ℕ
flags_text bits = hex_text (to_be_bytes w32 bits)

-- whether a byte of a name stands for itself
abbrev pub is_plain : ℕ → Bool
is_plain b = nat_le 33 b && nat_le b 126 && not (b == 37)

-- a byte of a name: itself, or a percent sign and two digits
abbrev pub byte_text : ℕ → List ℕ
byte_text b = if is_plain b then b ∷ [] else 37 ∷ hex_text (b ∷ [])

abbrev pub name_text : List ℕ → List ℕ
name_text name = flat_map byte_text name
