-- Numbers, modes, flags, bytes, levels and paths are words, so they may stand in a line: `decimal_word`, `mode_word`,
-- `bytes_word`, `flags_word`, `level_word_is` and `path_text_word`, for the functions of `spelling` and
-- `lfs_journal_lines`. Each is made of digits, or of bytes that a script can spell, which are printable and no spaces,
-- and has one at least (`word_there`). No bytes are spelled as a dash for that reason; a spelling that could be empty
-- or have a space would be read as another count of words.
use Rattle.std.proofs.Common.{◌≡◌, ℕ, ◌/◌, ◌%◌, ◌^◌, ◌<◌, ◌≤◌, ◌==◌, true, false, List, [], ◌∷◌, length, refl, arith}
use Rattle.std.proofs.Common.{rules, tests}
use Rattle.std.specs.Prelude.{decimal}
use Rattle.std.specs.Char.{digit_char, digit_value}
use Rattle.std.specs.Int.{w32, to_be_bytes}
use Rattle.std.specs.List.{list_all}
use Rattle.std.specs.Str.Parse.{AllDigits}
use Rattle.std.proofs.lemmas.Bool.{and_parts, ne_eqb}
use Rattle.std.proofs.lemmas.Fmt.{decimal_is_IsNumeral}
use Rattle.std.proofs.lemmas.List.Folds.{list_all-append}
use Rattle.lfs_types.specs.Paths.{path_text, slashed}
use Rattle.lfs_types.specs.declared.level.Level.{Level}
use Rattle.lfs_types.specs.declared.level.Level.TheVariants.{PermanentlyInsecure, Insecure, Secure, HighlySecure}
use Rattle.lfs_words.specs.BytesText.{bytes_text, hex_text, is_hex_digit}
use Rattle.lfs_words.specs.LevelText.{level_text}
use Rattle.lfs_words.specs.NameText.{flags_text, mode_text}
use Rattle.lfs_words.specs.PathText.{can_spell}
use Rattle.lfs_words.specs.Wording.{is_word, is_word_byte}
use Rattle.lfs_words.proofs.ReadBack.{AreBytes, flags_bytes, hex_digits_all}

digit_byte : (c : ℕ) → digit_value c < 36 → is_word_byte c ≡ true
digit_byte c h = search (rules, tests)

pub digits_bytes : (radix : ℕ) (cs : List ℕ) → radix ≤ 36 → AllDigits radix cs → list_all is_word_byte cs ≡ true
digits_bytes radix [] le h = refl
digits_bytes radix (c ∷ cs) le h =
    let first : is_word_byte c ≡ true = digit_byte c (omega (arith, h.0)) in
    rw (first, digits_bytes radix cs le h.1) refl

-- bytes that may stand in a word, of which there is one
pub word_there : (text : List ℕ) → 0 < length text → list_all is_word_byte text ≡ true → is_word text ≡ true
word_there text some bytes =
    let full : (length text == 0) ≡ false = ne_eqb (length text) 0 (λ e. omega arith) in
    rw (full, bytes) refl

pub decimal_word : (n : ℕ) → n < 2 ^ 64 → is_word (decimal n) ≡ true
decimal_word n lt =
    let numeral = decimal_is_IsNumeral n lt in
    word_there (decimal n) numeral.0.0 (digits_bytes 10 (decimal n) (omega arith) numeral.0.1)

octal_byte : (d : ℕ) → d < 8 → is_word_byte (digit_char d) ≡ true
octal_byte d lt = search (rules, tests)

pub mode_word : (m : ℕ) → m < 4096 → is_word (mode_text m) ≡ true
unfolding mode_text
mode_word m lt =
    let a : is_word_byte (digit_char (m / 512)) ≡ true = octal_byte (m / 512) (omega arith) in
    let b : is_word_byte (digit_char (m / 64 % 8)) ≡ true = octal_byte (m / 64 % 8) (omega arith) in
    let c : is_word_byte (digit_char (m / 8 % 8)) ≡ true = octal_byte (m / 8 % 8) (omega arith) in
    let d : is_word_byte (digit_char (m % 8)) ≡ true = octal_byte (m % 8) (omega arith) in
    rw (a, b, c, d) refl

hex_byte : (c : ℕ) → is_hex_digit c ≡ true → is_word_byte c ≡ true
hex_byte c h = search (rules, tests)

hex_all : (cs : List ℕ) → list_all is_hex_digit cs ≡ true → list_all is_word_byte cs ≡ true
hex_all [] h = refl
hex_all (c ∷ cs) h =
    let parts = and_parts (is_hex_digit c) (list_all is_hex_digit cs) h in
    rw (hex_byte c parts.0, hex_all cs parts.1) refl

pub bytes_word : (bs : List ℕ) → AreBytes bs → is_word (bytes_text bs) ≡ true
bytes_word [] are = refl
bytes_word (b ∷ bs) are = word_there (hex_text (b ∷ bs)) (omega arith)
    (hex_all (hex_text (b ∷ bs)) (hex_digits_all (b ∷ bs) are))

pub flags_word : (f : ℕ) → is_word (flags_text f) ≡ true
unfolding flags_text
flags_word f = hex_all (hex_text (to_be_bytes w32 f)) (hex_digits_all (to_be_bytes w32 f) (flags_bytes f))

pub level_word_is : (level : Level) → is_word (level_text level) ≡ true
level_word_is PermanentlyInsecure = refl
level_word_is Insecure = refl
level_word_is Secure = refl
level_word_is HighlySecure = refl

slashed_bytes : (names : List (List ℕ)) → can_spell names ≡ true → list_all is_word_byte (slashed names) ≡ true
slashed_bytes [] h = refl
slashed_bytes (name ∷ names) h =
    let parts = and_parts (list_all is_word_byte name) (can_spell names) h in
    rw (list_all-append is_word_byte name (slashed names), parts.0, slashed_bytes names parts.1) refl

pub path_text_word : (names : List (List ℕ)) → can_spell names ≡ true → is_word (path_text names) ≡ true
path_text_word [] h = refl
path_text_word (name ∷ names) h = word_there (slashed (name ∷ names)) (omega arith) (slashed_bytes (name ∷ names) h)
