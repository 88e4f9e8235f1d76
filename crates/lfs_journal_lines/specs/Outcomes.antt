-- What came of the cleaner's calls, read back.
use Rattle.std.specs.Prelude.{ℕ, List, [], ◌∷◌, codes, Option, None, Some, Result, Ok, Err, if◌then◌else◌}
use Rattle.std.specs.Str.{bytes_eq}
use Rattle.lfs_types.specs.declared.cleaner.CleanFault.{CleanFault}
use Rattle.lfs_types.specs.declared.cleaner.CleanFault.TheVariants.{NoSuchSegment, Active, NotDirty, Live, NoSpace, NotGainful}
use Rattle.lfs_model.specs.declared.journal.CleanerOutcome.{CleanerOutcome}
use Rattle.lfs_model.specs.declared.journal.CleanerOutcome.TheVariants.{Denied, Fault, Done}
use Rattle.lfs_words.specs.Faults.{◌>>=◌}
use Rattle.lfs_words.specs.Numbers.{short_of}
use Rattle.lfs_words.specs.Wording.{no_word, one_word}
use Rattle.lfs_words.specs.declared.fault.FaultKind.{FaultKind}
use Rattle.lfs_words.specs.declared.fault.FaultKind.TheVariants.{Words}
use Rattle.lfs_journal_lines.specs.Asked.{or_words}

-- the fault that a lone word names
abbrev pub fault_named : List ℕ → Option CleanFault
fault_named word =
    if bytes_eq word (codes "NoSuchSegment") then Some NoSuchSegment else
    if bytes_eq word (codes "Active") then Some Active else
    if bytes_eq word (codes "NotDirty") then Some NotDirty else
    if bytes_eq word (codes "NoSpace") then Some NoSpace else
    if bytes_eq word (codes "NotGainful") then Some NotGainful else None

-- why a call of the cleaner did nothing
abbrev pub fault_told : List (List ℕ) → Result CleanFault FaultKind
fault_told [] = Err Words
fault_told (word ∷ []) = or_words (fault_named word)
fault_told (word ∷ bytes ∷ []) =
    if bytes_eq word (codes "Live") then (short_of bytes >>= (λ n. Ok (Live n))) else Err Words
fault_told (word ∷ bytes ∷ third ∷ more) = Err Words

-- what words tell that came of a call of the cleaner
abbrev pub outcome_told : List (List ℕ) → Result CleanerOutcome FaultKind
outcome_told [] = Err Words
outcome_told (first ∷ words) =
    if bytes_eq first (codes "denied") then (no_word words >>= (λ none. Ok Denied)) else
    if bytes_eq first (codes "ok") then (one_word words >>= (λ word. short_of word >>= (λ n. Ok (Done n)))) else
    if bytes_eq first (codes "fault") then (fault_told words >>= (λ fault. Ok (Fault fault))) else Err Words
