-- Numbers at places of a list of bytes, and bits of them.
use Rattle.std.specs.Prelude.{ℕ, ◌==◌, List, Bool, length, nat_lt, if◌then◌else◌, Option, Some, None}
use Rattle.std.specs.Int.RustNames.{bit_and}
use Rattle.byteorder.specs.Endian.{little_from}

-- the number in the `width` bytes from place `at`, the lowest byte first
unfoldable pub number_at : List ℕ → ℕ → ℕ → ℕ
number_at bytes at width = little_from at width bytes

-- whether all bits of a mask are set
abbrev pub has : ℕ → ℕ → Bool
has bits mask = bit_and bits mask == mask

-- what is read of a body that has at least so many bytes
abbrev pub at_least : {X : Type 0} → ℕ → (List ℕ → X) → List ℕ → Option X
at_least size read body = if nat_lt (length body) size then None else Some (read body)
