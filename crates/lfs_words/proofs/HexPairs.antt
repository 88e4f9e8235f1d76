-- The byte of two digits is worked on in one word: `pair_spelled` for `byte_of`. There are 256 times 256 pairs of bytes,
-- and each of which both are digits is tried (`all_tried`).
use Rattle.std.proofs.Common.{◌≡◌, ℕ, zero, suc, ◌+◌, ◌*◌, ◌/◌, ◌%◌, ◌<◌, ◌==◌, ◌&&◌, Bool, true, false, [], ◌∷◌}
use Rattle.std.proofs.Common.{ap, arith, bit_and, bit_or, if◌then◌else◌, refl, subst, sym, ◌∙◌}
use Rattle.std.proofs.lemmas.Bool.{eqb-false, eqb-true}
use Rattle.std.specs.Char.{digit_char}
use Rattle.lfs_words.specs.BytesText.{hex_text, is_hex_digit}

-- the values of the digits of a word, each in its byte
abbrev word_values : ℕ → ℕ
word_values w = (bit_and w 3855 + bit_and (w / 64) 257 * 9 % 65536) % 65536

-- the byte of them
abbrev word_byte : ℕ → ℕ
word_byte v = bit_and (bit_or (v * 16 % 65536) (v / 256)) 255

-- whether a byte is spelled by these digits
abbrev is_spelled : ℕ → ℕ → ℕ → Bool
is_spelled b high low = (digit_char (b / 16) == high) && (digit_char (b % 16) == low)

-- whether this is so of a pair, if both are digits
abbrev pair_tried : ℕ → ℕ → Bool
pair_tried high low =
    if is_hex_digit high && is_hex_digit low then is_spelled (word_byte (word_values (high + 256 * low))) high low else true

abbrev lows_tried : ℕ → ℕ → Bool
lows_tried high zero = true
lows_tried high (suc n) = pair_tried high n && lows_tried high n

abbrev highs_tried : ℕ → Bool
highs_tried zero = true
highs_tried (suc n) = lows_tried n 256 && highs_tried n

all_tried : highs_tried 256 ≡ true
all_tried = refl

first_true : (a b : Bool) → (a && b) ≡ true → a ≡ true
first_true true b both = refl
first_true false b both = absurd (cc)

second_true : (a b : Bool) → (a && b) ≡ true → b ≡ true
second_true true b both = both
second_true false b both = absurd (cc)

-- a place is the last or one before
last_or : (P : ℕ → Type 0) (n k : ℕ) → k < suc n → P n → (k < n → P k) → P k
last_or P n k less last before = here (k == n) refl
  where
    here : (b : Bool) → (k == n) ≡ b → P k
    here true is = subst P (sym (eqb-true k n is)) last
    here false is = before (omega (arith, less, eqb-false k n is))

low_at : (high n low : ℕ) → lows_tried high n ≡ true → low < n → pair_tried high low ≡ true
low_at high zero low tried less = absurd (omega (arith, less))
low_at high (suc n) low tried less =
    last_or (λ k. pair_tried high k ≡ true) n low less (first_true _ _ tried) (low_at high n low (second_true _ _ tried))

high_at : (n high : ℕ) → highs_tried n ≡ true → high < n → lows_tried high 256 ≡ true
high_at zero high tried less = absurd (omega (arith, less))
high_at (suc n) high tried less =
    last_or (λ k. lows_tried k 256 ≡ true) n high less (first_true _ _ tried) (high_at n high (second_true _ _ tried))

spelled_so : (b high low : ℕ) → is_spelled b high low ≡ true → hex_text (b ∷ []) ≡ high ∷ low ∷ []
spelled_so b high low is =
    ap (λ d. d ∷ digit_char (b % 16) ∷ []) (eqb-true (digit_char (b / 16)) high (first_true _ _ is))
    ∙ ap (λ d. high ∷ d ∷ []) (eqb-true (digit_char (b % 16)) low (second_true _ _ is))

-- the byte of two digits is spelled by them
pub pair_spelled : (word high low : ℕ) → word ≡ high + 256 * low → high < 256 → low < 256 → is_hex_digit high ≡ true
    → is_hex_digit low ≡ true
    → hex_text (bit_and (bit_or ((bit_and word 3855 + bit_and (word / 64) 257 * 9 % 65536) % 65536 * 16 % 65536)
    ((bit_and word 3855 + bit_and (word / 64) 257 * 9 % 65536) % 65536 / 256)) 255 ∷ []) ≡ high ∷ low ∷ []
pair_spelled word high low is few less first second =
    let tried : pair_tried high low ≡ true = low_at high 256 low (high_at 256 high all_tried few) less in
    let byte : is_spelled (word_byte (word_values (high + 256 * low))) high low ≡ true = rw (first, second) at tried in
    spelled_so (word_byte (word_values word)) high low
    (subst (λ w. is_spelled (word_byte (word_values w)) high low ≡ true) (sym is) byte)
