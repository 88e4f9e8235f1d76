-- Bytes as digits of 0-9 a-f.
use Rattle.std.specs.Prelude.{ℕ, ◌+◌, ◌*◌, ◌/◌, ◌%◌, ◌==◌, Bool, false, ◌&&◌, ◌||◌, nat_lt, nat_le, List, [], ◌∷◌}
use Rattle.std.specs.Prelude.{length, Result, Ok, Err, if◌then◌else◌}
use Rattle.std.specs.Char.{digit_char, digit_value}
use Rattle.std.specs.List.{list_all}
use Rattle.lfs_words.specs.declared.fault.FaultKind.{FaultKind}
use Rattle.lfs_words.specs.declared.fault.FaultKind.TheVariants.{Range, Hex}

-- two digits for each byte
abbrev pub hex_text : List ℕ → List ℕ
hex_text [] = []
hex_text (b ∷ bs) = digit_char (b / 16) ∷ digit_char (b % 16) ∷ hex_text bs

-- bytes as a script and an answer have them
abbrev pub bytes_text : List ℕ → List ℕ
bytes_text [] = 45 ∷ []
bytes_text (b ∷ bs) = hex_text (b ∷ bs)

-- the bytes of two digits each
abbrev pub hex_bytes : List ℕ → List ℕ
hex_bytes [] = []
hex_bytes (high ∷ []) = []
hex_bytes (high ∷ low ∷ digits) = (16 * digit_value high + digit_value low) ∷ hex_bytes digits

abbrev pub is_hex_digit : ℕ → Bool
is_hex_digit c = nat_le 48 c && nat_le c 57 || nat_le 97 c && nat_le c 102

-- an even, positive number of digits
abbrev pub is_hex : List ℕ → Bool
is_hex word = nat_lt 0 (length word) && (length word % 2 == 0) && list_all is_hex_digit word

-- the mark of no bytes
abbrev pub is_dash : List ℕ → Bool
is_dash [] = false
is_dash (c ∷ []) = c == 45
is_dash (c ∷ d ∷ cs) = false

-- the bytes that a word spells, or why it spells none
abbrev pub bytes_of : List ℕ → Result (List ℕ) FaultKind
bytes_of word =
    if is_dash word then Ok [] else
    if nat_lt 8192 (length word) then Err Range else
    if is_hex word then Ok (hex_bytes word) else Err Hex
