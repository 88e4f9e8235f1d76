-- Bytes of names, read back as answers have them.
use Rattle.std.specs.Prelude.{ℕ, ◌+◌, ◌*◌, ◌==◌, List, [], ◌∷◌, Option, None, Some, Result, Ok, Err, if◌then◌else◌}
use Rattle.std.specs.Char.{digit_value}
use Rattle.lfs_types.specs.Naming.{name_fault}
use Rattle.lfs_types.specs.declared.name.BadName.{BadName}
use Rattle.lfs_types.specs.declared.path.BadPath.TheVariants.{Name}
use Rattle.lfs_words.specs.BytesText.{is_hex_digit}
use Rattle.lfs_words.specs.Faults.{◌>>=◌}
use Rattle.lfs_words.specs.PathText.{path_of, unless}
use Rattle.lfs_words.specs.declared.fault.FaultKind.{FaultKind}
use Rattle.lfs_words.specs.declared.fault.FaultKind.TheVariants.{Path, Hex}

-- the value of a digit of 0-9 a-f
abbrev pub digit_told : ℕ → Result ℕ FaultKind
digit_told c = if is_hex_digit c then Ok (digit_value c) else Err Hex

-- the byte of two digits
abbrev pub byte_told : ℕ → ℕ → Result ℕ FaultKind
byte_told high low = digit_told high >>= (λ h. digit_told low >>= (λ l. Ok (16 * h + l)))

-- the byte that the two digits at the head of a text tell, and the text behind them
abbrev pub escaped_byte : List ℕ → Result (ℕ × List ℕ) FaultKind
escaped_byte [] = Err Hex
escaped_byte (high ∷ []) = Err Hex
escaped_byte (high ∷ low ∷ cs) = byte_told high low >>= (λ b. Ok (b, cs))

-- a byte before those that are read
abbrev pub before : ℕ → Result (List ℕ) FaultKind → Result (List ℕ) FaultKind
before b read = read >>= (λ bytes. Ok (b ∷ bytes))

-- the bytes that a text tells, in which a percent sign and two digits are a byte
unfoldable pub bytes_told : List ℕ → Result (List ℕ) FaultKind
bytes_told [] = Ok []
bytes_told (c ∷ []) = if c == 37 then Err Hex else Ok (c ∷ [])
bytes_told (c ∷ d ∷ []) = if c == 37 then Err Hex else before c (bytes_told (d ∷ []))
bytes_told (c ∷ d ∷ e ∷ cs) =
    if c == 37 then byte_told d e >>= (λ b. before b (bytes_told cs)) else before c (bytes_told (d ∷ e ∷ cs))

abbrev pub or_name : Option BadName → Option FaultKind
or_name None = None
or_name (Some fault) = Some (Path (Name 1 fault))

-- the name that a word tells
abbrev pub name_told : List ℕ → Result (List ℕ) FaultKind
name_told word = do
  bytes ← bytes_told word
  unless (or_name (name_fault bytes)) bytes

-- the names that words tell
unfoldable pub names_told : List (List ℕ) → Result (List (List ℕ)) FaultKind
names_told [] = Ok []
names_told (word ∷ words) = do
  name ← name_told word
  names ← names_told words
  Ok (name ∷ names)

-- the path that a text tells, which stands behind a percent sign
abbrev pub escaped_path : List ℕ → Result (List (List ℕ)) FaultKind
escaped_path text = do
  path ← bytes_told text
  path_of path
