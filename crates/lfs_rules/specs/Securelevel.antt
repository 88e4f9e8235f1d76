-- The securelevel, and who may set it.
use Rattle.std.specs.Prelude.{ℤ, pos, negsuc, int_lt, ◌&&◌, not, Bool, Option, None, Some, if◌then◌else◌}
use Rattle.lfs_types.specs.Caller.{Caller}
use Rattle.lfs_types.specs.declared.level.Level.{Level}
use Rattle.lfs_types.specs.declared.level.Level.TheVariants.{PermanentlyInsecure, Insecure, Secure, HighlySecure}
use Rattle.lfs_types.specs.declared.rule.Rule.{Rule}
use Rattle.lfs_types.specs.declared.rule.Rule.TheVariants.{IsSuperuser, MaySetLevel}
use Rattle.lfs_rules.specs.Owners.{is_the_superuser}

-- the number of a level
abbrev pub level_number : Level → ℤ
level_number PermanentlyInsecure = negsuc 0
level_number Insecure = pos 0
level_number Secure = pos 1
level_number HighlySecure = pos 2

abbrev pub is_above_zero : Level → Bool
is_above_zero level = int_lt (pos 0) (level_number level)

abbrev pub is_lower : Level → Level → Bool
is_lower new old = int_lt (level_number new) (level_number old)

-- init(8): whether a caller may lower, set anew or raise the level so: only init lowers it
abbrev pub may_set_level : Caller → Level → Level → Bool
may_set_level caller old new = not (is_lower new old && not caller.init)

-- the first rule that denies setting the level
abbrev pub level_denial : Caller → Level → Level → Option Rule
level_denial caller old new =
    if not (is_the_superuser caller) then Some IsSuperuser else
    if may_set_level caller old new then None else Some MaySetLevel
