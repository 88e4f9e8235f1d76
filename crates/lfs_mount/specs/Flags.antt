-- The flags of a file, as control calls number them.
use Rattle.std.specs.Prelude.{ℕ, ◌+◌, ◌*◌, ◌/◌, ◌==◌, not, Bool, true, false}
use Rattle.std.specs.Int.RustNames.{bit_and}

-- whether all bits of a mask are set, and whether one is
abbrev pub has : ℕ → ℕ → Bool
has bits mask = bit_and bits mask == mask

abbrev pub has_any : ℕ → ℕ → Bool
has_any bits mask = not (bit_and bits mask == 0)

-- a number, or 0
abbrev pub number_if : Bool → ℕ → ℕ
number_if true number = number
number_if false number = 0

-- immutable, append-only and nodump, by the user's or the system's flag, as these three bits
abbrev pub flags_shown : ℕ → ℕ → ℕ → ℕ → ℕ
flags_shown flags immutable append nodump =
    number_if (has_any flags 0x20002) immutable + number_if (has_any flags 0x40004) append
    + number_if (has_any flags 0x1) nodump

-- the user's flags that FS_IOC_SETFLAGS asks for
abbrev pub user_flags : ℕ → ℕ
user_flags bits =
    number_if (has bits 0x40) 1 + number_if (has bits 0x10) 2 + number_if (has bits 0x20) 4

-- with those in place of the user's flags that there are
abbrev pub flags_wanted : ℕ → ℕ → ℕ
flags_wanted present bits = present / 8 * 8 + user_flags bits
