-- The line of a fault.
use Rattle.std.specs.Prelude.{ℕ, List, ◌∷◌, [], ◌++◌, codes, decimal}
use Rattle.lfs_words.specs.declared.fault.FaultKind.{FaultKind}
use Rattle.lfs_words.specs.declared.fault.FaultKind.TheVariants.{Cut, Bytes, Words, Many, Number, Range, Path, Hex}
use Rattle.lfs_words.specs.declared.fault.FaultKind.TheVariants.{Cred, Memory}
use Rattle.lfs_hearing.specs.declared.fault.LineFault.{LineFault}
use Rattle.lfs_hearing.specs.declared.fault.LineFault.TheVariants.{TooLong, Kind, NoImage, Unsynced, Unsaved}

-- the word of what is wrong with a line of a script
abbrev pub kind_word : FaultKind → List ℕ
kind_word Cut = codes "Cut"
kind_word Bytes = codes "Bytes"
kind_word Words = codes "Words"
kind_word Many = codes "Many"
kind_word Number = codes "Number"
kind_word Range = codes "Range"
kind_word (Path fault) = codes "Path"
kind_word Hex = codes "Hex"
kind_word (Cred fault) = codes "Cred"
kind_word Memory = codes "Memory"

-- the word of a fault
abbrev pub fault_word : LineFault → List ℕ
fault_word TooLong = codes "TooLong"
fault_word (Kind kind) = kind_word kind
fault_word NoImage = codes "NoImage"
fault_word Unsynced = codes "Unsynced"
fault_word Unsaved = codes "Unsaved"

-- the line of a fault: its word, the number of the line that has it, and where it stands there
unfoldable pub fault_line : ℕ → LineFault → List ℕ → List ℕ
fault_line number fault place =
    codes "fault" ++ 32 ∷ fault_word fault ++ codes " line " ++ decimal number ++ place ++ 10 ∷ []
