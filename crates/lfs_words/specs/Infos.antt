-- The block infos that words of a script spell.
use Rattle.std.specs.Prelude.{◌≡◌, ℕ, ◌^◌, ◌<◌, Bool, true, ◌==◌, ◌&&◌, nat_lt, List, [], ◌∷◌, decimal, length}
use Rattle.std.specs.Prelude.{map, Result, Ok, Err, if◌then◌else◌}
use Rattle.std.specs.List.{join_with_byte, list_all, slice_split}
use Rattle.lfs_types.specs.declared.cleaner.BlockInfo.{BlockInfo}
use Rattle.lfs_words.specs.Callers.{is_decimal}
use Rattle.lfs_words.specs.Faults.{◌>>=◌}
use Rattle.lfs_words.specs.Numbers.{short_of}
use Rattle.lfs_words.specs.Wording.{is_word}
use Rattle.lfs_words.specs.declared.fault.FaultKind.{FaultKind}
use Rattle.lfs_words.specs.declared.fault.FaultKind.TheVariants.{Many, Number}

-- the parts of an info
abbrev pub info_parts : List ℕ → List (List ℕ)
info_parts word = slice_split (λ b. b == 58) word

-- whether each of four parts is a decimal
abbrev pub are_decimals : List ℕ → List ℕ → List ℕ → List ℕ → Bool
are_decimals first second third fourth =
    is_decimal first && is_decimal second && is_decimal third && is_decimal fourth

-- the info of four parts, number, version, logical block and address: that each is a decimal is asked before any range
abbrev pub info_from : List ℕ → List ℕ → List ℕ → List ℕ → Result BlockInfo FaultKind
info_from first second third fourth =
    if are_decimals first second third fourth then
    (short_of first >>= (λ ino. short_of second >>= (λ version.
    short_of third >>= (λ lbn. short_of fourth >>= (λ addr.
    Ok (record { ino = ino; version = version; lbn = lbn; addr = addr }))))))
    else Err Number

-- the info of parts that are to be four
abbrev pub info_of_parts : List (List ℕ) → Result BlockInfo FaultKind
info_of_parts [] = Err Number
info_of_parts (first ∷ []) = Err Number
info_of_parts (first ∷ second ∷ []) = Err Number
info_of_parts (first ∷ second ∷ third ∷ []) = Err Number
info_of_parts (first ∷ second ∷ third ∷ fourth ∷ []) = info_from first second third fourth
info_of_parts (first ∷ second ∷ third ∷ fourth ∷ fifth ∷ more) = Err Number

-- the info that a word spells
abbrev pub info_of : List ℕ → Result BlockInfo FaultKind
info_of word = info_of_parts (info_parts word)

-- infos, one a word
unfoldable pub infos_of : List (List ℕ) → Result (List BlockInfo) FaultKind
infos_of [] = Ok []
infos_of (word ∷ words) = do
  info ← info_of word
  infos ← infos_of words
  Ok (info ∷ infos)

-- at most `most` infos
abbrev pub infos_within : ℕ → List (List ℕ) → Result (List BlockInfo) FaultKind
infos_within most words = if nat_lt most (length words) then Err Many else infos_of words

-- an info as a word: its number, version, logical block and address, with a colon between
abbrev pub info_text : BlockInfo → List ℕ
info_text info = join_with_byte 58
    (map decimal (info.ino ∷ info.version ∷ info.lbn ∷ info.addr ∷ []))

-- each part of an info is below 2^32
pub record IsShortInfo (info : BlockInfo) : Type 0 where
  pub ino : info.ino < 2 ^ 32
  pub version : info.version < 2 ^ 32
  pub lbn : info.lbn < 2 ^ 32
  pub addr : info.addr < 2 ^ 32

-- infos are words of a line, and are read as they are
pub record AreReadBack (infos : List BlockInfo) : Type 0 where
  pub words : list_all is_word (map info_text infos) ≡ true
  pub back : infos_of (map info_text infos) ≡ Ok infos
