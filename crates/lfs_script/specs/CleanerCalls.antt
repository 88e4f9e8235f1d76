-- What the words of cleaner calls ask.
use Rattle.std.specs.Prelude.{ℕ, List, Result, Ok}
use Rattle.lfs_model.specs.declared.journal.CleanerKind.{CleanerKind}
use Rattle.lfs_model.specs.declared.journal.CleanerKind.TheVariants as kind
use Rattle.lfs_types.specs.declared.cleaner.CleanerCall.{CleanerCall}
use Rattle.lfs_types.specs.declared.cleaner.CleanerCall.TheVariants.{Ifile, Infos, Bmapv, Markv, Segclean, Gain}
use Rattle.lfs_words.specs.Faults.{◌>>=◌}
use Rattle.lfs_words.specs.Infos.{infos_within}
use Rattle.lfs_words.specs.Numbers.{short_of}
use Rattle.lfs_words.specs.Wording.{no_word, one_word}
use Rattle.lfs_words.specs.declared.fault.FaultKind.{FaultKind}

-- a segment
abbrev pub segment_of : List (List ℕ) → Result ℕ FaultKind
segment_of words = do
  word ← one_word words
  short_of word

-- what the words behind the name of a cleaner call ask, or their first fault
abbrev pub cleaner_said : CleanerKind → List (List ℕ) → Result CleanerCall FaultKind
cleaner_said kind.Ifile words = do
  none ← no_word words
  Ok Ifile
cleaner_said kind.Infos words = do
  segment ← segment_of words
  Ok (Infos segment)
cleaner_said kind.Bmapv words = do
  infos ← infos_within 248 words
  Ok (Bmapv infos)
cleaner_said kind.Markv words = do
  infos ← infos_within 8 words
  Ok (Markv infos)
cleaner_said kind.Segclean words = do
  segment ← segment_of words
  Ok (Segclean segment)
cleaner_said kind.Gain words = do
  none ← no_word words
  Ok Gain
