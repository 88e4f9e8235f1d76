-- File flags as numbers.
use Rattle.std.specs.Prelude.{◌≡◌, ◌==◌, ◌&&◌, not, ℕ, Bool}
use Rattle.std.specs.Int.RustNames.{bit_and}

-- no bit is set but those of UF_NODUMP, UF_IMMUTABLE, UF_APPEND, SF_ARCHIVED, SF_IMMUTABLE and SF_APPEND
abbrev pub IsKnown : ℕ → Type 0
IsKnown bits = bit_and bits 0x7_0007 ≡ bits

-- flags are some of others, and not all of them
abbrev pub is_part_of : ℕ → ℕ → Bool
is_part_of flags whole = (bit_and whole flags == flags) && not (flags == whole)
