-- What a table says of inode numbers.
use Rattle.std.specs.Prelude.{◌≡◌, ◌≢◌, ℕ, Option, None, nat_lt, if◌then◌else◌, slice_index_or}
use Rattle.lfs_known.specs.declared.slots.Slots.{Slots}

-- the value that a table has for a number, if it has one
unfoldable pub says : {T : Type 0} → Slots T → ℕ → Option T
says table number = slice_index_or table.slots.items number None

-- what is kept of a number: of one that no volume has nothing
abbrev pub kept_of : {T : Type 0} → ℕ → Option T → Option T
kept_of number value = if nat_lt number 4096 then value else None

-- of each number but one a table says what another says
abbrev pub SaysTheSame : {T : Type 0} → Slots T → Slots T → ℕ → Type 0
SaysTheSame old new number = (n : ℕ) → n ≢ number → says new n ≡ says old n
