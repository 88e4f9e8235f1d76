-- Infos that are spelled are read back: `info_more`, `infos_spelled` and `infos_back` for `spell_infos`, `info_back`
-- for lfs_journal_lines. An info is four numerals with colons between them, and a numeral has only digits, so the cut
-- at colons gives these four (`parts_back`), and each of a number below 2^32 is read as this number. Digits and colons
-- are bytes of words, so an info is one word (`info_word`), and infos with spaces before them are as many words.
use Rattle.std.proofs.Common.{◌≡◌, ℕ, zero, suc, ◌+◌, ◌^◌, ◌<◌, ◌≤◌, ◌==◌, true, false, List, [], ◌∷◌, ◌++◌, length}
use Rattle.std.proofs.Common.{map, take, get_or, Ok, refl, ap, ◌∙◌, arith, length-append, rules, tests}
use Rattle.std.specs.Prelude.{decimal}
use Rattle.std.specs.Char.{digit_value}
use Rattle.std.specs.List.{All, join_with_byte, list_all}
use Rattle.std.specs.Str.Parse.{AllDigits}
use Rattle.std.proofs.lemmas.Fmt.{decimal_is_IsNumeral}
use Rattle.std.proofs.lemmas.List.{flat_map_more, map-append, take_all, take_more}
use Rattle.std.proofs.lemmas.List.Folds.{list_all-append}
use Rattle.std.proofs.lemmas.List.Splits.{slice_split_at, slice_split_none}
use Rattle.lfs_types.specs.declared.cleaner.BlockInfo.{BlockInfo}
use Rattle.lfs_words.proofs.CallerBack.{decimal_is, short_is, value_is}
use Rattle.lfs_words.proofs.WordBytes.{digits_bytes, word_there}
use Rattle.lfs_words.specs.Infos.{AreReadBack, IsShortInfo, info_of, info_parts, info_text, infos_of}
use Rattle.lfs_words.specs.Wording.{is_word, is_word_byte, spaced}

-- ---- what is appended

-- one more info
pub info_more : (out done new : List ℕ) (infos : List BlockInfo) (i : ℕ) (d : BlockInfo) → i < length infos → done ≡ out
    ++ spaced (map info_text (take i infos))
    → new ≡ done ++ 32 ∷ info_text (get_or infos i d) → new ≡ out ++ spaced (map info_text (take (i + 1) infos))
info_more out done new infos i d lt so_far grown =
    rw (grown, so_far, take_more infos i d lt, map-append)
    (flat_map_more (λ word. 32 ∷ word) out (map info_text (take i infos)) (info_text (get_or infos i d)))

-- all infos
pub infos_spelled : (out done : List ℕ) (infos : List BlockInfo) (i : ℕ) → length infos ≤ i → done ≡ out
    ++ spaced (map info_text (take i infos)) → done ≡ out ++ spaced (map info_text infos)
infos_spelled out done infos i le so_far = so_far ∙ ap (λ xs. out ++ spaced (map info_text xs)) (take_all i infos le)

-- ---- what is read

far : (c : ℕ) → digit_value c < 10 → (c == 58) ≡ false
far c lt = search (rules, tests)

no_colon : (cs : List ℕ) → AllDigits 10 cs → (k d : ℕ) → k < length cs → (get_or cs k d == 58) ≡ false
no_colon [] h k d lt = absurd (omega arith)
no_colon (c ∷ cs) h zero d lt = far c h.0
no_colon (c ∷ cs) h (suc k) d lt = no_colon cs h.1 k d (omega arith)

no_colons : (n : ℕ) → n < 2 ^ 32 → All (λ b. (b == 58) ≡ false) (decimal n)
no_colons n lt = λ k d within. no_colon (decimal n) (decimal_is_IsNumeral n (omega arith)).0.1 k d within

-- parts with a colon between
abbrev pub coloned : List ℕ → List ℕ
coloned parts = join_with_byte 58 (map decimal parts)

split_last : (n : ℕ) → n < 2 ^ 32 → info_parts (coloned (n ∷ [])) ≡ decimal n ∷ []
split_last n lt = slice_split_none (λ b. b == 58) (decimal n) (no_colons n lt)

split_first : (n m : ℕ) (parts : List ℕ) → n < 2 ^ 32
    → info_parts (coloned (n ∷ m ∷ parts)) ≡ decimal n ∷ info_parts (coloned (m ∷ parts))
split_first n m parts lt = slice_split_at (λ b. b == 58) (decimal n) 58 (coloned (m ∷ parts)) (no_colons n lt) refl

parts_back : (info : BlockInfo) → IsShortInfo info → info_parts (info_text info)
    ≡ decimal info.ino ∷ decimal info.version ∷ decimal info.lbn ∷ decimal info.addr ∷ []
parts_back info is =
    rw (
      split_first info.ino info.version (info.lbn ∷ info.addr ∷ []) is.ino,
      split_first info.version info.lbn (info.addr ∷ []) is.version,
      split_first info.lbn info.addr [] is.lbn,
      split_last info.addr is.addr,
    )
    refl

-- an info is read back
pub info_back : (info : BlockInfo) → IsShortInfo info → info_of (info_text info) ≡ Ok info
info_back info is =
    rw (
      parts_back info is,
      decimal_is info.ino is.ino,
      decimal_is info.version is.version,
      decimal_is info.lbn is.lbn,
      decimal_is info.addr is.addr,
      short_is info.ino is.ino,
      value_is info.ino is.ino,
      short_is info.version is.version,
      value_is info.version is.version,
      short_is info.lbn is.lbn,
      value_is info.lbn is.lbn,
      short_is info.addr is.addr,
      value_is info.addr is.addr,
    )
    refl

pub first_info : (info : BlockInfo) (infos : List BlockInfo) → All IsShortInfo (info ∷ infos) → IsShortInfo info
first_info info infos all = all 0 info (omega arith)

pub more_infos : (info : BlockInfo) (infos : List BlockInfo) → All IsShortInfo (info ∷ infos) → All IsShortInfo infos
more_infos info infos all = λ k d lt. all (suc k) d (omega arith)

all_back : (infos : List BlockInfo) → All IsShortInfo infos → infos_of (map info_text infos) ≡ Ok infos
unfolding infos_of
all_back [] all = refl
all_back (info ∷ infos) all =
    rw (info_back info (first_info info infos all), all_back infos (more_infos info infos all)) refl

-- ---- words

part_bytes : (n : ℕ) → n < 2 ^ 32 → list_all is_word_byte (decimal n) ≡ true
part_bytes n lt = digits_bytes 10 (decimal n) (omega arith) (decimal_is_IsNumeral n (omega arith)).0.1

-- a part and a colon behind it
parted : (n m : ℕ) (parts : List ℕ) → n < 2 ^ 32 → list_all is_word_byte (coloned (m ∷ parts)) ≡ true
    → list_all is_word_byte (coloned (n ∷ m ∷ parts)) ≡ true
parted n m parts lt all =
    list_all-append is_word_byte (decimal n) (58 ∷ coloned (m ∷ parts)) ∙ rw (part_bytes n lt, all) refl

some_part : (n : ℕ) (rest : List ℕ) → n < 2 ^ 32 → 0 < length (decimal n ++ rest)
some_part n rest lt =
    let full : 0 < length (decimal n) = (decimal_is_IsNumeral n (omega arith)).0.0 in
    omega (arith, length-append (decimal n) rest)

-- an info is a word
pub info_word : (info : BlockInfo) → IsShortInfo info → is_word (info_text info) ≡ true
info_word info is =
    word_there (info_text info) (some_part info.ino (58 ∷ coloned (info.version ∷ info.lbn ∷ info.addr ∷ [])) is.ino)
    (parted info.ino info.version (info.lbn ∷ info.addr ∷ []) is.ino
    (parted info.version info.lbn (info.addr ∷ []) is.version
    (parted info.lbn info.addr [] is.lbn (part_bytes info.addr is.addr))))

all_words : (infos : List BlockInfo) → All IsShortInfo infos → list_all is_word (map info_text infos) ≡ true
all_words [] all = refl
all_words (info ∷ infos) all =
    rw (info_word info (first_info info infos all), all_words infos (more_infos info infos all)) refl

-- infos are read back
pub infos_back : (infos : List BlockInfo) → All IsShortInfo infos → AreReadBack infos
infos_back infos all = record { words = all_words infos all; back = all_back infos all }
