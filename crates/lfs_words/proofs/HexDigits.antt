-- Bytes are read from and written as two digits each, one by one: `hex_step` and `hex_read` for `decode`, `hex_written`
-- for `write_hex`, `bytes_read` for `payload`. What was read so far spells the front of the digits, and the next byte
-- spells the two behind (`take_two`; HexPairs). Each byte takes two digits (`length-hex_text`), by which room is
-- reckoned; capital digits would be read back as others than were written.
use Rattle.std.proofs.Common.{◌≡◌, ℕ, ◌≤◌, Ok, false, ◌+◌, ◌*◌, ◌/◌, ◌%◌, ◌<◌, List, [], ◌∷◌, ◌++◌, length, take}
use Rattle.std.proofs.Common.{get_or, refl, ap, sym, ◌∙◌, arith, append_assoc, true}
use Rattle.std.specs.Char.{digit_char, digit_value}
use Rattle.std.specs.Prelude.{slice_set}
use Rattle.std.proofs.lemmas.List.{length-set, take_more, take_more_set}
use Rattle.std.proofs.lemmas.Str.{digit_value-digit_char}
use Rattle.std.proofs.lemmas.Bool.{le-ltb}
use Rattle.lfs_words.specs.BytesText.{hex_text, hex_bytes, bytes_of, is_dash, is_hex}

pub hex_text-push : (bs : List ℕ) (b : ℕ) → hex_text (bs ++ b ∷ []) ≡ hex_text bs
    ++ (digit_char (b / 16) ∷ digit_char (b % 16) ∷ [])
hex_text-push [] b = refl
hex_text-push (x ∷ bs) b = ap (λ xs. digit_char (x / 16) ∷ digit_char (x % 16) ∷ xs) (hex_text-push bs b)

take_two : (digits : List ℕ) (j : ℕ) → j + 1 < length digits → take (j + 2) digits ≡ take j digits
    ++ (get_or digits j 0 ∷ get_or digits (j + 1) 0 ∷ [])
take_two digits j lt =
    let first = take_more digits j 0 (omega arith) in
    let second = take_more digits (j + 1) 0 lt in
    let both : j + 2 ≡ j + 1 + 1 = omega arith in
    rw (both, second, first, append_assoc) refl

-- one more byte has its two digits
pub hex_step : (digits bs : List ℕ) (k b : ℕ) → 2 * k + 1 < length digits → hex_text bs ≡ take (2 * k) digits
    → hex_text (b ∷ []) ≡ get_or digits (2 * k) 0 ∷ get_or digits (2 * k + 1) 0 ∷ [] → hex_text (bs ++ b ∷ [])
    ≡ take (2 * (k + 1)) digits
hex_step digits bs k b lt so_far spelled =
    let two = take_two digits (2 * k) lt in
    let there : 2 * (k + 1) ≡ 2 * k + 2 = omega arith in
    let taken : take (2 * (k + 1)) digits ≡ take (2 * k + 2) digits = ap (λ n. take n digits) there in
    hex_text-push bs b
    ∙ ap (λ (xs : List ℕ). hex_text bs ++ xs) spelled
    ∙ ap (λ (xs : List ℕ). xs ++ (get_or digits (2 * k) 0 ∷ get_or digits (2 * k + 1) 0 ∷ [])) so_far
    ∙ sym (taken ∙ two)

hex_bytes-hex_push : (bs : List ℕ) (b : ℕ) → hex_bytes (hex_text (bs ++ b ∷ [])) ≡ hex_bytes (hex_text bs)
    ++ (16 * digit_value (digit_char (b / 16)) + digit_value (digit_char (b % 16))) ∷ []
hex_bytes-hex_push [] b = refl
hex_bytes-hex_push (x ∷ bs) b =
    ap (λ xs. (16 * digit_value (digit_char (x / 16)) + digit_value (digit_char (x % 16))) ∷ xs)
    (hex_bytes-hex_push bs b)

-- one more byte is read from its two digits
pub hex_read : (bs : List ℕ) (b : ℕ) → b < 256 → hex_bytes (hex_text bs) ≡ bs → hex_bytes (hex_text (bs ++ b ∷ [])) ≡ bs
    ++ b ∷ []
hex_read bs b lt so_far =
    let first : digit_value (digit_char (b / 16)) ≡ b / 16 = digit_value-digit_char (b / 16) (omega arith) in
    let second : digit_value (digit_char (b % 16)) ≡ b % 16 = digit_value-digit_char (b % 16) (omega arith) in
    let whole : 16 * (b / 16) + b % 16 ≡ b = omega arith in
    hex_bytes-hex_push bs b ∙ rw (first, second, whole, so_far) refl

-- the bytes of digits that are as they are to be
pub bytes_read : (word bs : List ℕ) → is_dash word ≡ false → length word ≤ 8192 → is_hex word ≡ true → hex_bytes word
    ≡ bs → bytes_of word ≡ Ok bs
bytes_read word bs dash few hex read = rw (dash, le-ltb 8192 (length word) few, hex, read) refl

-- each byte has two digits
pub length-hex_text : (bs : List ℕ) → length (hex_text bs) ≡ 2 * length bs
length-hex_text [] = refl
length-hex_text (b ∷ bs) = omega (arith, length-hex_text bs)

-- one more byte is spelled
pub hex_text_more : (bytes : List ℕ) (i d : ℕ) → i < length bytes → hex_text (take (i + 1) bytes)
    ≡ hex_text (take i bytes) ++ (digit_char (get_or bytes i d / 16) ∷ digit_char (get_or bytes i d % 16) ∷ [])
hex_text_more bytes i d lt = rw (take_more bytes i d lt) (hex_text-push (take i bytes) (get_or bytes i d))

set_two : (xs : List ℕ) (j h l : ℕ) → j + 1 < length xs → take (j + 2) (slice_set (slice_set xs j h) (j + 1) l)
    ≡ take j xs ++ (h ∷ l ∷ [])
set_two xs j h l lt =
    let first = take_more_set xs j h (omega arith) in
    let second = take_more_set (slice_set xs j h) (j + 1) l (rw (length-set xs j h) lt) in
    let both : j + 2 ≡ j + 1 + 1 = omega arith in
    rw (both, second, first, append_assoc) refl

-- one more byte has its two digits written at their place
pub hex_written : (digits bytes : List ℕ) (k high low : ℕ) → k < length bytes → length digits ≡ 2 * length bytes
    → take (2 * k) digits ≡ hex_text (take k bytes) → high ≡ digit_char (get_or bytes k 0 / 16) → low
    ≡ digit_char (get_or bytes k 0 % 16) → take (2 * (k + 1))
    (slice_set (slice_set digits (2 * k) high) (2 * k + 1) low) ≡ hex_text (take (k + 1) bytes)
hex_written digits bytes k high low lt room so_far first second =
    let there : 2 * (k + 1) ≡ 2 * k + 2 = omega arith in
    ap (λ n. take n (slice_set (slice_set digits (2 * k) high) (2 * k + 1) low)) there
    ∙ set_two digits (2 * k) high low (omega arith)
    ∙ rw (so_far, first, second, hex_text_more bytes k 0 lt) refl
