-- The numbers that words of a script spell.
use Rattle.std.specs.Prelude.{ℕ, ◌-◌, ◌^◌, Bool, ◌&&◌, nat_lt, nat_le, List, length, Result, Ok, Err, if◌then◌else◌}
use Rattle.std.specs.Char.{is_digit}
use Rattle.std.specs.List.{list_all}
use Rattle.std.specs.Str.Parse.{digits_value}
use Rattle.lfs_words.specs.declared.fault.FaultKind.{FaultKind}
use Rattle.lfs_words.specs.declared.fault.FaultKind.TheVariants.{Number, Range}

-- 1 to `most` digits, counted as they are written
abbrev pub is_numeral : ℕ → ℕ → List ℕ → Bool
is_numeral radix most word = nat_lt 0 (length word) && nat_le (length word) most && list_all
    (λ c. is_digit c radix) word

-- the number that a word spells, or why it spells none
abbrev pub number_of : ℕ → ℕ → ℕ → List ℕ → Result ℕ FaultKind
number_of radix most limit word =
    if is_numeral radix most word then
    (if nat_le (digits_value radix word) limit then Ok (digits_value radix word) else Err Range)
    else Err Number

-- a number below 2^64
abbrev pub long_of : List ℕ → Result ℕ FaultKind
long_of word = number_of 10 20 (2 ^ 64 - 1) word

-- a number below 2^32
abbrev pub short_of : List ℕ → Result ℕ FaultKind
short_of word = number_of 10 20 (2 ^ 32 - 1) word

-- a mode
abbrev pub mode_of : List ℕ → Result ℕ FaultKind
mode_of word = number_of 8 6 4095 word
