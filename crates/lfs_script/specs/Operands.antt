-- What stands behind a verb, word by word.
use Rattle.std.specs.Prelude.{ℕ, ◌==◌, Bool, true, false, List, [], ◌∷◌, codes, if◌then◌else◌}
use Rattle.std.specs.Result.{is_ok}
use Rattle.lfs_model.specs.declared.journal.CleanerKind.{CleanerKind}
use Rattle.lfs_model.specs.declared.journal.CleanerKind.TheVariants as clean
use Rattle.lfs_words.specs.BytesText.{bytes_of}
use Rattle.lfs_words.specs.Callers.{caller_said}
use Rattle.lfs_words.specs.FlagText.{flags_of}
use Rattle.lfs_words.specs.Infos.{infos_within}
use Rattle.lfs_words.specs.LevelText.{level_word}
use Rattle.lfs_words.specs.Numbers.{long_of, mode_of, number_of, short_of}
use Rattle.lfs_words.specs.PathText.{path_of}
use Rattle.lfs_script.specs.declared.operands.Operand.{Operand}
use Rattle.lfs_script.specs.declared.operands.Operand.TheVariants.{Path, Mode, Long, Short, Flags, Level, Session, Payload}
use Rattle.lfs_script.specs.declared.operands.Operand.TheVariants.{Groups, Init, Fixed, Info}
use Rattle.lfs_script.specs.declared.operands.Operands.{Operands}
use Rattle.lfs_script.specs.declared.verb.RequestKind.{RequestKind}
use Rattle.lfs_script.specs.declared.verb.RequestKind.TheVariants as kind
use Rattle.lfs_script.specs.declared.verb.Verb.{Verb}
use Rattle.lfs_script.specs.declared.verb.Verb.TheVariants as verb

-- the first three words behind a verb, and those that follow
abbrev pub in_order : Operand → Operand → Operand → Operand → Operands
in_order first second third rest = record { first = first; second = second; third = third; rest = rest }

-- what the words behind a Write are read as, of which there are so many
abbrev pub operands_of_write : ℕ → Operands
operands_of_write count = if count == 3 then in_order Path Fixed Payload Fixed else in_order Path Fixed Long Payload

-- the same of any user's call
abbrev pub operands_of_call : RequestKind → ℕ → Operands
operands_of_call kind.Stat count = in_order Path Fixed Fixed Fixed
operands_of_call kind.Read count = in_order Path Long Short Fixed
operands_of_call kind.Write count = operands_of_write count
operands_of_call kind.List count = in_order Path Fixed Fixed Fixed
operands_of_call kind.SetLength count = in_order Path Long Fixed Fixed
operands_of_call kind.Create count = in_order Path Mode Fixed Fixed
operands_of_call kind.Mkdir count = in_order Path Mode Fixed Fixed
operands_of_call kind.Unlink count = in_order Path Fixed Fixed Fixed
operands_of_call kind.Rmdir count = in_order Path Fixed Fixed Fixed
operands_of_call kind.Rename count = in_order Path Path Fixed Fixed
operands_of_call kind.Chmod count = in_order Path Mode Fixed Fixed
operands_of_call kind.Chown count = in_order Path Short Short Fixed
operands_of_call kind.Chflags count = in_order Path Flags Fixed Fixed
operands_of_call kind.SetLevel count = in_order Level Fixed Fixed Fixed
operands_of_call kind.Sync count = in_order Fixed Fixed Fixed Fixed

-- the same of a call of the cleaner
abbrev pub operands_of_cleaning : CleanerKind → Operands
operands_of_cleaning clean.Ifile = in_order Fixed Fixed Fixed Fixed
operands_of_cleaning clean.Infos = in_order Short Fixed Fixed Fixed
operands_of_cleaning clean.Bmapv = in_order Info Info Info Info
operands_of_cleaning clean.Markv = in_order Info Info Info Info
operands_of_cleaning clean.Segclean = in_order Short Fixed Fixed Fixed
operands_of_cleaning clean.Gain = in_order Fixed Fixed Fixed Fixed

-- the same of any verb
abbrev pub operands_of : Verb → ℕ → Operands
operands_of verb.Session count = in_order Session Fixed Fixed Fixed
operands_of verb.As count = in_order Short Groups Init Fixed
operands_of (verb.User kind) count = operands_of_call kind count
operands_of (verb.Cleaner kind) count = operands_of_cleaning kind
operands_of verb.Pass count = in_order Fixed Fixed Fixed Fixed

-- what the word at this place is read as, counted from 0
abbrev pub operand_at : Operands → ℕ → Operand
operand_at operands place =
    if place == 0 then operands.first else if place == 1 then operands.second else
    if place == 2 then operands.third else operands.rest

-- whether a word is read as this, by the readings of a line's words
abbrev pub fits : Operand → List ℕ → Bool
fits Path word = is_ok (path_of word)
fits Mode word = is_ok (mode_of word)
fits Long word = is_ok (long_of word)
fits Short word = is_ok (short_of word)
fits Flags word = is_ok (flags_of word)
fits Level word = is_ok (level_word word)
fits Session word = is_ok (number_of 10 20 8 word)
fits Payload word = is_ok (bytes_of word)
fits Groups word = is_ok (caller_said (codes "0" ∷ word ∷ []))
fits Init word = false
fits Fixed word = true
fits Info word = is_ok (infos_within 1 (word ∷ []))

-- what a word is to be that is read as this
abbrev pub operand_text : Operand → List ℕ
operand_text Path = codes "a path begins with a slash and has at most 1024 bytes, its names 1 to 255, and none is . or .."
operand_text Mode = codes "a mode is 1 to 6 octal digits, at most 7777, as 0644"
operand_text Long = codes "a number is 1 to 20 decimal digits and below 2^64"
operand_text Short = codes "a number is 1 to 20 decimal digits and below 2^32"
operand_text Flags = codes "flags are 1 to 8 digits of 0-9 a-f, and set known flags alone"
operand_text Level = codes "a level is -1, 0, 1 or 2"
operand_text Session = codes "a session is 0 to 8"
operand_text Payload = codes "bytes are two digits of 0-9 a-f each, at most 4096 bytes, or - for none"
operand_text Groups = codes "groups are at most 16 numbers below 2^32, with a comma between"
operand_text Init = codes "init is user 0"
operand_text Fixed = codes ""
operand_text Info = codes "an info is NUMBER:VERSION:BLOCK:ADDRESS, each below 2^32"
