-- Single bits of a number.
use Rattle.std.specs.Prelude.{ℕ, ◌/◌, ◌%◌, ◌==◌, Bool}

-- whether the bit whose value is this power of two is set in a number
abbrev pub has_bit : ℕ → ℕ → Bool
has_bit n value = n / value % 2 == 1

-- ---- of a file's flags (4.4BSD's chflags(2)): the owner sets the first two, the superuser alone those from 0x10000 on

-- UF_IMMUTABLE and UF_APPEND
abbrev pub user_immutable : ℕ
user_immutable = 0x2

abbrev pub user_append : ℕ
user_append = 0x4

-- SF_IMMUTABLE and SF_APPEND
abbrev pub system_immutable : ℕ
system_immutable = 0x2_0000

abbrev pub system_append : ℕ
system_append = 0x4_0000

-- the first of the superuser's bits
abbrev pub first_system_flag : ℕ
first_system_flag = 0x1_0000

-- ---- of a mode (4.4BSD's chmod(2), sticky(8))

-- S_ISVTX
abbrev pub sticky_bit : ℕ
sticky_bit = 0o1000

-- S_ISUID and S_ISGID
abbrev pub set_user_id : ℕ
set_user_id = 0o4000

abbrev pub set_group_id : ℕ
set_group_id = 0o2000
