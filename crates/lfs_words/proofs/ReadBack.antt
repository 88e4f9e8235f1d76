-- Numbers, modes, flags, bytes and levels are read back from their words: `long_read`, `short_read`, `mode_read`,
-- `flags_read_back`, `bytes_read_back` and `level_read_back`, for the functions of `spelling` and the law of
-- `lfs_journal_lines`. Each digit has its value again and the digits' sum is the number, so what is left is that the
-- word has at most as many digits as a reader takes and the number is within its limit (`number_read`). Flags are
-- spelled as four bytes of two digits (`four_bytes`) and read as one number, so they need IsKnown; a wider limit in a
-- speller than in its reader would show here first.
use Rattle.std.proofs.Common.{◌≡◌, ℕ, zero, suc, ◌+◌, ◌-◌, ◌*◌, ◌/◌, ◌%◌, ◌^◌, ◌<◌, ◌≤◌, ◌==◌, true, false, List, []}
use Rattle.std.proofs.Common.{◌∷◌, length, get_or, Some, Ok, refl, ap, sym, ◌∙◌, arith, rules, tests}
use Rattle.std.specs.Prelude.{decimal, nat_le, nat_lt}
use Rattle.std.specs.Char.{digit_char, digit_value, is_digit}
use Rattle.std.specs.Int.{w32, to_be_bytes}
use Rattle.std.specs.List.{list_all}
use Rattle.std.specs.Str.Parse.{AllDigits, IsNumeral, digits_value, digits_value_after}
use Rattle.std.proofs.lemmas.Bool.{eq-eqb, le-leb, le-ltb, lt-ltb}
use Rattle.std.proofs.lemmas.Fmt.{decimal_is_IsNumeral, length-decimal-le}
use Rattle.std.proofs.lemmas.Str.{digit_value-digit_char}
use Rattle.lfs_types.specs.FlagNumbers.{IsKnown}
use Rattle.lfs_types.specs.declared.level.Level.{Level}
use Rattle.lfs_types.specs.declared.level.Level.TheVariants.{PermanentlyInsecure, Insecure, Secure, HighlySecure}
use Rattle.lfs_words.proofs.Parts.{flags_there}
use Rattle.lfs_words.specs.BytesText.{bytes_of, bytes_text, hex_bytes, hex_text, is_hex, is_hex_digit}
use Rattle.lfs_words.specs.FlagText.{flags_of, is_flags}
use Rattle.lfs_words.specs.LevelText.{level_text, level_word}
use Rattle.lfs_words.specs.NameText.{flags_text, mode_text}
use Rattle.lfs_words.specs.Numbers.{long_of, mode_of, number_of, short_of}
use Rattle.lfs_words.proofs.HexDigits.{length-hex_text}

pub digits_pass : (radix : ℕ) (cs : List ℕ) → AllDigits radix cs → list_all (λ c. is_digit c radix) cs ≡ true
digits_pass radix [] h = refl
digits_pass radix (c ∷ cs) h = rw (lt-ltb (digit_value c) radix h.0, digits_pass radix cs h.1) refl

-- digits are read as their number, where it is within the limit
pub number_read : (radix most limit n : ℕ) (word : List ℕ) → IsNumeral radix word → length word ≤ most
    → digits_value radix word ≡ n → n ≤ limit → number_of radix most limit word ≡ Ok n
number_read radix most limit n word numeral short value le =
    let some : nat_lt 0 (length word) ≡ true = lt-ltb 0 (length word) numeral.0 in
    let few : nat_le (length word) most ≡ true = le-leb (length word) most short in
    let low : nat_le n limit ≡ true = le-leb n limit le in
    rw (some, few, digits_pass radix word numeral.1, value, low) refl

decimal_read : (limit n : ℕ) → n < 2 ^ 64 → n ≤ limit → number_of 10 20 limit (decimal n) ≡ Ok n
decimal_read limit n lt le =
    let numeral = decimal_is_IsNumeral n lt in
    number_read 10 20 limit n (decimal n) numeral.0 (length-decimal-le 20 n (omega arith) (omega arith) lt) numeral.1 le

pub long_read : (n : ℕ) → n < 2 ^ 64 → long_of (decimal n) ≡ Ok n
long_read n lt = decimal_read (2 ^ 64 - 1) n lt (omega arith)

pub short_read : (n : ℕ) → n < 2 ^ 32 → short_of (decimal n) ≡ Ok n
short_read n lt = decimal_read (2 ^ 32 - 1) n (omega arith) (omega arith)

digit_read : (d : ℕ) → d < 8 → digit_value (digit_char d) ≡ d
digit_read d lt = digit_value-digit_char d (omega arith)

pub mode_read : (m : ℕ) → m < 4096 → mode_of (mode_text m) ≡ Ok m
unfolding mode_text
mode_read m lt =
    let a : digit_value (digit_char (m / 512)) ≡ m / 512 = digit_read (m / 512) (omega arith) in
    let b : digit_value (digit_char (m / 64 % 8)) ≡ m / 64 % 8 = digit_read (m / 64 % 8) (omega arith) in
    let c : digit_value (digit_char (m / 8 % 8)) ≡ m / 8 % 8 = digit_read (m / 8 % 8) (omega arith) in
    let d : digit_value (digit_char (m % 8)) ≡ m % 8 = digit_read (m % 8) (omega arith) in
    number_read 8 6 4095 m (mode_text m) (omega arith, (omega arith, (omega arith, (omega arith, (omega arith, tt)))))
    (omega arith) (omega arith) (omega arith)

hex_char : (d : ℕ) → d < 16 → is_hex_digit (digit_char d) ≡ true
hex_char d lt = search (rules, tests)

-- bytes that fit a byte
abbrev pub AreBytes : List ℕ → Type 0
AreBytes bytes = (k : ℕ) → get_or bytes k 0 < 256

first_byte : (b : ℕ) (bs : List ℕ) → AreBytes (b ∷ bs) → b < 256
first_byte b bs are = are 0

more_bytes : (b : ℕ) (bs : List ℕ) → AreBytes (b ∷ bs) → AreBytes bs
more_bytes b bs are = λ k. are (suc k)

pub hex_digits_all : (bs : List ℕ) → AreBytes bs → list_all is_hex_digit (hex_text bs) ≡ true
hex_digits_all [] are = refl
hex_digits_all (b ∷ bs) are =
    let lt : b < 256 = first_byte b bs are in
    let high : is_hex_digit (digit_char (b / 16)) ≡ true = hex_char (b / 16) (omega arith) in
    let low : is_hex_digit (digit_char (b % 16)) ≡ true = hex_char (b % 16) (omega arith) in
    rw (high, low, hex_digits_all bs (more_bytes b bs are)) refl

hex_bytes-hex_text : (bs : List ℕ) → AreBytes bs → hex_bytes (hex_text bs) ≡ bs
hex_bytes-hex_text [] are = refl
hex_bytes-hex_text (b ∷ bs) are =
    let lt : b < 256 = first_byte b bs are in
    let high : digit_value (digit_char (b / 16)) ≡ b / 16 = digit_value-digit_char (b / 16) (omega arith) in
    let low : digit_value (digit_char (b % 16)) ≡ b % 16 = digit_value-digit_char (b % 16) (omega arith) in
    let whole : 16 * (b / 16) + b % 16 ≡ b = omega arith in
    rw (high, low, whole, hex_bytes-hex_text bs (more_bytes b bs are)) refl

pub bytes_read_back : (bs : List ℕ) → AreBytes bs → length bs ≤ 4096 → bytes_of (bytes_text bs) ≡ Ok bs
bytes_read_back [] are few = refl
bytes_read_back (b ∷ bs) are few =
    let long : length (hex_text (b ∷ bs)) ≡ 2 * length (b ∷ bs) = length-hex_text (b ∷ bs) in
    let fits : nat_lt 8192 (length (hex_text (b ∷ bs)))
    ≡ false = le-ltb 8192 (length (hex_text (b ∷ bs))) (omega arith) in
    let some : nat_lt 0 (length (hex_text (b ∷ bs))) ≡ true = lt-ltb 0 (length (hex_text (b ∷ bs))) (omega arith) in
    let even : (length (hex_text (b ∷ bs)) % 2 == 0) ≡ true = eq-eqb (length (hex_text (b ∷ bs)) % 2) 0 (omega arith) in
    let hex : is_hex (hex_text (b ∷ bs)) ≡ true = rw (some, even, hex_digits_all (b ∷ bs) are) refl in
    rw (fits, hex, hex_bytes-hex_text (b ∷ bs) are) refl

pub level_read_back : (level : Level) → level_word (level_text level) ≡ Ok level
level_read_back PermanentlyInsecure = refl
level_read_back Insecure = refl
level_read_back Secure = refl
level_read_back HighlySecure = refl

-- two digits of a byte
byte_digits : (n b : ℕ) (rest : List ℕ) → b < 256
    → digits_value_after 16 n (digit_char (b / 16) ∷ digit_char (b % 16) ∷ rest)
    ≡ digits_value_after 16 (n * 256 + b) rest
byte_digits n b rest lt =
    let high : digit_value (digit_char (b / 16)) ≡ b / 16 = digit_value-digit_char (b / 16) (omega arith) in
    let low : digit_value (digit_char (b % 16)) ≡ b % 16 = digit_value-digit_char (b % 16) (omega arith) in
    let whole : (n * 16 + b / 16) * 16 + b % 16 ≡ n * 256 + b = omega arith in
    rw (high, low, whole) refl

-- the digits of four bytes
four_bytes : (a b c d : ℕ) → a < 256 → b < 256 → c < 256 → d < 256
    → digits_value 16 (hex_text (a ∷ b ∷ c ∷ d ∷ [])) ≡ ((a * 256 + b) * 256 + c) * 256 + d
four_bytes a b c d p q r s =
    let first : 0 * 256 + a ≡ a = omega arith in
    byte_digits 0 a (hex_text (b ∷ c ∷ d ∷ [])) p
    ∙ ap (λ n. digits_value_after 16 n (hex_text (b ∷ c ∷ d ∷ []))) first
    ∙ byte_digits a b (hex_text (c ∷ d ∷ [])) q
    ∙ byte_digits (a * 256 + b) c (hex_text (d ∷ [])) r
    ∙ byte_digits ((a * 256 + b) * 256 + c) d [] s

are_four : (a b c d : ℕ) → a < 256 → b < 256 → c < 256 → d < 256 → AreBytes (a ∷ b ∷ c ∷ d ∷ [])
are_four a b c d p q r s zero = p
are_four a b c d p q r s (suc zero) = q
are_four a b c d p q r s (suc (suc zero)) = r
are_four a b c d p q r s (suc (suc (suc zero))) = s
are_four a b c d p q r s (suc (suc (suc (suc k)))) = omega arith

pub flags_bytes : (f : ℕ) → AreBytes (to_be_bytes w32 f)
flags_bytes f = are_four (f / 256 ^ 3 % 256) (f / 256 ^ 2 % 256) (f / 256 ^ 1 % 256) (f % 256) (omega arith)
    (omega arith) (omega arith) (omega arith)

flags_value : (f : ℕ) → f < 2 ^ 32 → digits_value 16 (hex_text (to_be_bytes w32 f)) ≡ f
flags_value f lt =
    four_bytes (f / 256 ^ 3 % 256) (f / 256 ^ 2 % 256) (f / 256 ^ 1 % 256) (f % 256) (omega arith) (omega arith)
    (omega arith) (omega arith)
    ∙ omega arith

pub flags_read_back : (f : ℕ) → f < 2 ^ 32 → IsKnown f → flags_of (flags_text f) ≡ Ok f
unfolding flags_text
flags_read_back f lt known =
    let value : digits_value 16 (hex_text (to_be_bytes w32 f)) ≡ f = flags_value f lt in
    let digits : list_all is_hex_digit (hex_text (to_be_bytes w32 f))
    ≡ true = hex_digits_all (to_be_bytes w32 f) (flags_bytes f) in
    let is : is_flags (hex_text (to_be_bytes w32 f)) ≡ true = digits in
    sym (flags_there (hex_text (to_be_bytes w32 f)) f (Some f) is (sym value) (known, refl))
