-- Numbers as bytes, the lowest first.
use Rattle.std.specs.Prelude.{ℕ, List}
use Rattle.std.specs.List.{flat_map}
use Rattle.byteorder.specs.Endian.{little_bytes}

-- a number's two, four and eight bytes
unfoldable pub half : ℕ → List ℕ
half number = little_bytes 2 number

unfoldable pub word : ℕ → List ℕ
word number = little_bytes 4 number

unfoldable pub long : ℕ → List ℕ
long number = little_bytes 8 number

-- numbers of four bytes, and of eight, one behind the other
abbrev pub words : List ℕ → List ℕ
words numbers = flat_map word numbers

abbrev pub longs : List ℕ → List ℕ
longs numbers = flat_map long numbers
