-- Flags are read from their digits: `flag_digits`, for `hex::flags`. A word of one to eight hexadecimal digits is a
-- numeral without a plus, and its value is below 16^8, which is 2^32; so std reads it as this number, and never as too
-- big.
use Rattle.std.proofs.Common.{◌≡◌, ℕ, ◌^◌, ◌<◌, ◌≤◌, nat_lt, true, List, [], ◌∷◌, length, arith, rules, tests, lit<}
use Rattle.std.proofs.Common.{lit≤}
use Rattle.std.specs.Prelude.{nat_le, ◌&&◌}
use Rattle.std.specs.Char.{digit_value}
use Rattle.std.specs.List.{list_all}
use Rattle.std.specs.Str.Parse.{AllDigits, IsNumeral, digits_value, without_leading_plus}
use Rattle.std.proofs.Math.Nat.{pow-le-pow_right}
use Rattle.std.proofs.lemmas.Bool.{ltb-true, leb-true, and_parts}
use Rattle.std.proofs.lemmas.Int.Digits.{digits_value-lt}
use Rattle.lfs_words.proofs.Numerals.{plain}
use Rattle.lfs_words.specs.BytesText.{is_hex_digit}
use Rattle.lfs_words.specs.FlagText.{is_flags}

hex_value : (c : ℕ) → is_hex_digit c ≡ true → digit_value c < 16
hex_value c h = search (rules, tests)

hex_digits : (cs : List ℕ) → list_all is_hex_digit cs ≡ true → AllDigits 16 cs
hex_digits [] h = tt
hex_digits (c ∷ cs) h =
    let parts = and_parts (is_hex_digit c) (list_all is_hex_digit cs) h in
    (hex_value c parts.0, hex_digits cs parts.1)

pub record FlagDigits (word : List ℕ) : Type 0 where
  pub same : without_leading_plus word ≡ word
  pub numeral : IsNumeral 16 word
  pub short : digits_value 16 word < 2 ^ 32

-- up to eight digits are below 2^32
pub flag_digits : (word : List ℕ) → is_flags word ≡ true → FlagDigits word
flag_digits word h =
    let outer = and_parts (nat_lt 0 (length word) && nat_le (length word) 8) (list_all is_hex_digit word) h in
    let inner = and_parts (nat_lt 0 (length word)) (nat_le (length word) 8) outer.0 in
    let digits = hex_digits word outer.1 in
    let few : length word ≤ 8 = leb-true (length word) 8 inner.1 in
    let most : 16 ^ length word ≤ 16 ^ 8 = pow-le-pow_right (lit< tt) few in
    record {
      same = plain 16 word (lit≤ tt) digits;
      numeral = (ltb-true 0 (length word) inner.0, digits);
      short = omega (arith, digits_value-lt 16 word digits, most);
    }
