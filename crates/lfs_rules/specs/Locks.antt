-- What the flags of a file forbid, and who may change them.
use Rattle.std.specs.Prelude.{ℕ, ◌/◌, ◌==◌, ◌&&◌, ◌||◌, not, Bool, Option, None, Some, if◌then◌else◌}
use Rattle.lfs_types.specs.Caller.{Caller}
use Rattle.lfs_types.specs.declared.attrs.Attrs.{Attrs}
use Rattle.lfs_types.specs.declared.level.Level.{Level}
use Rattle.lfs_types.specs.declared.rule.Rule.{Rule}
use Rattle.lfs_types.specs.declared.rule.Rule.TheVariants.{IsOwner, MaySetFlags, KeepsSystemLocks}
use Rattle.lfs_rules.specs.Bits.{first_system_flag, has_bit, system_append, system_immutable, user_append}
use Rattle.lfs_rules.specs.Bits.{user_immutable}
use Rattle.lfs_rules.specs.Owners.{is_the_superuser, is_owner_or_superuser}
use Rattle.lfs_rules.specs.Securelevel.{is_above_zero}

-- chflags(2): what is immutable may not be changed, moved or deleted. UF_IMMUTABLE or SF_IMMUTABLE is set
abbrev pub is_immutable : Attrs → Bool
is_immutable attrs = has_bit attrs.flags user_immutable || has_bit attrs.flags system_immutable

-- chflags(2): what is append-only may only grow at its end. UF_APPEND or SF_APPEND is set
abbrev pub is_append_only : Attrs → Bool
is_append_only attrs = has_bit attrs.flags user_append || has_bit attrs.flags system_append

-- SF_IMMUTABLE or SF_APPEND is set
abbrev pub has_system_lock : ℕ → Bool
has_system_lock flags = has_bit flags system_immutable || has_bit flags system_append

-- a system flag would change: the bits from the first of them on differ
abbrev pub changes_system_flags : ℕ → ℕ → Bool
changes_system_flags old new = not (old / first_system_flag == new / first_system_flag)

-- a bit that is set would be cleared
abbrev pub clears_bit : ℕ → ℕ → ℕ → Bool
clears_bit old new value = has_bit old value && not (has_bit new value)

-- a set SF_IMMUTABLE or SF_APPEND would be cleared
abbrev pub clears_system_lock : ℕ → ℕ → Bool
clears_system_lock old new = clears_bit old new system_immutable || clears_bit old new system_append

-- chflags(2): only user 0 changes system flags, or any flag where SF_IMMUTABLE or SF_APPEND is set
abbrev pub may_set_flags : Caller → ℕ → ℕ → Bool
may_set_flags caller old new = is_the_superuser caller || not (changes_system_flags old new || has_system_lock old)

-- init(8): above level 0 a set SF_IMMUTABLE or SF_APPEND stays
abbrev pub keeps_system_locks : Level → ℕ → ℕ → Bool
keeps_system_locks level old new = not (is_above_zero level && clears_system_lock old new)

-- the first rule that denies a caller to give a file these flags at a level
abbrev pub flag_denial : Caller → Attrs → Level → ℕ → Option Rule
flag_denial caller attrs level new =
    if not (is_owner_or_superuser caller attrs) then Some IsOwner else
    if not (may_set_flags caller attrs.flags new) then Some MaySetFlags else
    if keeps_system_locks level attrs.flags new then None else Some KeepsSystemLocks
