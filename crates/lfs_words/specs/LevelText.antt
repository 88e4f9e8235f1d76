-- Securelevels in scripts.
use Rattle.std.specs.Prelude.{ℕ, ℤ, pos, neg_ℤ, codes, Option, None, Some, List, drop, Result, Ok, Err, if◌then◌else◌}
use Rattle.std.specs.Str.Parse.{digits_value, starts_with_minus}
use Rattle.lfs_types.specs.Levels.{level_of}
use Rattle.lfs_types.specs.declared.level.Level.{Level}
use Rattle.lfs_types.specs.declared.level.Level.TheVariants.{PermanentlyInsecure, Insecure, Secure, HighlySecure}
use Rattle.lfs_words.specs.Numbers.{is_numeral}
use Rattle.lfs_words.specs.declared.fault.FaultKind.{FaultKind}
use Rattle.lfs_words.specs.declared.fault.FaultKind.TheVariants.{Number, Range}

abbrev pub or_range : Option Level → Result Level FaultKind
or_range None = Err Range
or_range (Some level) = Ok level

-- the level of the number that 1 to 20 decimal digits and this sign spell
abbrev pub level_signed : (ℤ → ℤ) → List ℕ → Result Level FaultKind
level_signed sign digits =
    if is_numeral 10 20 digits then or_range (level_of (sign (pos (digits_value 10 digits))))
    else Err Number

-- the level that a word spells, or why it spells none
abbrev pub level_word : List ℕ → Result Level FaultKind
level_word word = if starts_with_minus word then level_signed neg_ℤ (drop 1 word)
    else level_signed (λ n. n) word

-- a level as a word
abbrev pub level_text : Level → List ℕ
level_text PermanentlyInsecure = codes "-1"
level_text Insecure = codes "0"
level_text Secure = codes "1"
level_text HighlySecure = codes "2"
