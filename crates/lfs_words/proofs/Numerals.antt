-- What std reads of a word of digits alone: `numeral_parts`, `number_past` and `reads_err`, for `number`; FlagDigits
-- takes `plain`. No digit is a plus, so std takes none off (`no_plus`), and the word is a numeral. So std has only one
-- reason to refuse it, a value of 2^64 or more, which is past each limit.
use Rattle.std.proofs.Common.{◌≡◌, ℕ, ◌^◌, ◌<◌, ◌≤◌, nat_lt, true, List, [], ◌∷◌, length, get_or, Err, refl}
use Rattle.std.proofs.Common.{subst, arith, ◌≢◌, inl, inr}
use Rattle.std.specs.Prelude.{nat_le, ◌&&◌}
use Rattle.std.specs.Char.{is_digit, digit_value}
use Rattle.std.specs.List.{list_all}
use Rattle.std.specs.Str.Parse.{AllDigits, IsNumeral, digits_value, without_leading_plus, ParsesUnsigned}
use Rattle.std.proofs.lemmas.Str.Parse.{without_leading_plus_none}
use Rattle.std.proofs.lemmas.Bool.{ltb-true, lt-leb, and_parts, cases_lt}
use Rattle.lfs_words.specs.declared.fault.FaultKind.TheVariants.{Range}
use Rattle.lfs_words.specs.Numbers.{is_numeral, number_of}

abbrev pub AreDigits : ℕ → List ℕ → Type 0
AreDigits radix word = list_all (λ c. is_digit c radix) word ≡ true

all_digits : (radix : ℕ) (cs : List ℕ) → AreDigits radix cs → AllDigits radix cs
all_digits radix [] h = tt
all_digits radix (c ∷ cs) h =
    let parts = and_parts (is_digit c radix) (list_all (λ d. is_digit d radix) cs) h in
    (ltb-true (digit_value c) radix parts.0, all_digits radix cs parts.1)

no_plus : (radix : ℕ) (cs : List ℕ) → radix ≤ 36 → AllDigits radix cs → get_or cs 0 0 ≢ 43
no_plus radix [] low digits plus = absurd (cc)
no_plus radix (c ∷ cs) low digits plus =
    let lt : digit_value 43 < radix = subst (λ x. digit_value x < radix) plus digits.0 in absurd (omega arith)

-- digits have no plus before them
pub plain : (radix : ℕ) (word : List ℕ) → radix ≤ 36 → AllDigits radix word → without_leading_plus word ≡ word
plain radix word low digits = without_leading_plus_none word (no_plus radix word low digits)

same : (radix : ℕ) (word : List ℕ) → radix ≤ 10 → AreDigits radix word → without_leading_plus word ≡ word
same radix word low alone = plain radix word (omega arith) (all_digits radix word alone)

pub reads_err : (E : Type 0) (radix : ℕ) (word : List ℕ) (e : E) → radix ≤ 10 → 0 < length word → AreDigits radix word
    → ParsesUnsigned {E = E} 64 radix word (Err e) → 2 ^ 64 ≤ digits_value radix word
reads_err E radix word e low some alone h =
    let plain = same radix word low alone in
    let clash : digits_value radix word < 2 ^ 64
    → ⊥ = λ lt. subst (λ bs. (IsNumeral radix bs × (digits_value radix bs < 2 ^ 64)) → ⊥) plain h
    ((some, all_digits radix word alone), lt) in
    elim (cases_lt (digits_value radix word) (2 ^ 64)) [ inl lt ↦ absurd (clash lt) | inr le ↦ le ]

pub numeral_parts : (radix most : ℕ) (word : List ℕ) → is_numeral radix most word ≡ true → (0 < length word)
    × AreDigits radix word
numeral_parts radix most word h =
    let outer = and_parts (nat_lt 0 (length word) && nat_le (length word) most)
    (list_all (λ c. is_digit c radix) word) h in
    let inner = and_parts (nat_lt 0 (length word)) (nat_le (length word) most) outer.0 in
    (ltb-true 0 (length word) inner.0, outer.1)

pub number_past : (radix most limit : ℕ) (word : List ℕ) → is_numeral radix most word ≡ true
    → limit < digits_value radix word → number_of radix most limit word ≡ Err Range
number_past radix most limit word numeral lt = rw (numeral, lt-leb (digits_value radix word) limit lt) refl
