-- File flags as digits of 0-9 a-f.
use Rattle.std.specs.Prelude.{ℕ, Bool, ◌&&◌, ◌==◌, nat_lt, nat_le, List, length, Result, Ok, Err, if◌then◌else◌}
use Rattle.std.specs.Int.RustNames.{bit_and}
use Rattle.std.specs.List.{list_all}
use Rattle.std.specs.Str.Parse.{digits_value}
use Rattle.lfs_words.specs.BytesText.{is_hex_digit}
use Rattle.lfs_words.specs.declared.fault.FaultKind.{FaultKind}
use Rattle.lfs_words.specs.declared.fault.FaultKind.TheVariants.{Number, Range}

-- 1 to 8 digits
abbrev pub is_flags : List ℕ → Bool
is_flags word = nat_lt 0 (length word) && nat_le (length word) 8 && list_all is_hex_digit word

-- whether no bit is set but those of known flags
abbrev pub are_known : ℕ → Bool
are_known bits = bit_and bits 0x7_0007 == bits

-- the flags that a word spells, or why it spells none
abbrev pub flags_of : List ℕ → Result ℕ FaultKind
flags_of word =
    if is_flags word then
    (if are_known (digits_value 16 word) then Ok (digits_value 16 word) else Err Range)
    else Err Number
