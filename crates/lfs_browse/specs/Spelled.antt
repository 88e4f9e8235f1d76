-- Bytes as text.
use Rattle.std.specs.Prelude.{ℕ, ◌-◌, ◌==◌, ◌&&◌, nat_le, not, Bool, true, false, List, [], ◌∷◌, ◌++◌, length, slice_get}
use Rattle.std.specs.Prelude.{Option, None, Some, if◌then◌else◌}
use Rattle.std.specs.List.{flat_map}
use Rattle.lfs_words.specs.BytesText.{hex_text}

-- whether a byte stands for itself: a line feed, and what is from a space to a tilde, but no backslash
abbrev pub is_plain : ℕ → Bool
is_plain b = if b == 92 then false else if b == 10 then true else nat_le 32 b && nat_le b 126

-- a byte: itself; a backslash twice; another as `\x` and two digits
abbrev pub char_text : ℕ → List ℕ
char_text b =
    if is_plain b then b ∷ [] else
    if b == 92 then 92 ∷ 92 ∷ [] else 92 ∷ 120 ∷ hex_text (b ∷ [])

-- whether there is a last byte that is no line feed
abbrev pub is_other : Option ℕ → Bool
is_other None = false
is_other (Some b) = not (b == 10)

-- whether bytes end within a line
abbrev pub is_unended : List ℕ → Bool
is_unended bytes = is_other (slice_get bytes (length bytes - 1))

-- bytes, of which the last line ends in a line feed: one that they lack stands behind a backslash
unfoldable pub spelled : List ℕ → List ℕ
spelled bytes = flat_map char_text bytes ++ (if is_unended bytes then 92 ∷ 10 ∷ [] else [])
