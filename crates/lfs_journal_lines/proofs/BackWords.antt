-- The words of an entry may stand in a line and none is a bar: `long_operand`, `mode_operand`, `flags_operand`,
-- `bytes_operand` and `level_operand` for BackCalls, `field_more` and AreField for BackLine. A word that is read as
-- something is no bar, since a bar is read as nothing of that kind (`no_bar`), so reading back gives it for free.
-- Digits are no percent sign, so no operand looks like an escaped path (`plain`); an operand spelled otherwise must
-- exclude both signs.
use Rattle.std.proofs.Common.{◌≡◌, ℕ, ◌/◌, ◌%◌, ◌^◌, ◌<◌, ◌==◌, true, false, List, [], ◌∷◌, codes, Result, Ok, Err}
use Rattle.std.proofs.Common.{refl, ap, inl, inr, arith, rules, tests}
use Rattle.std.specs.Prelude.{decimal}
use Rattle.std.specs.Char.{digit_char, digit_value}
use Rattle.std.specs.List.{list_all, list_any}
use Rattle.std.specs.Str.{bytes_eq}
use Rattle.std.specs.Str.Parse.{AllDigits}
use Rattle.std.proofs.lemmas.Bool.{cases_Bool}
use Rattle.std.proofs.lemmas.Fmt.{decimal_is_IsNumeral}
use Rattle.std.proofs.lemmas.Slice.Eq.{bytes_eq-Decides}
use Rattle.lfs_types.specs.declared.level.Level.{Level}
use Rattle.lfs_types.specs.declared.level.Level.TheVariants.{PermanentlyInsecure, Insecure, Secure, HighlySecure}
use Rattle.lfs_words.proofs.ReadBack.{bytes_read_back, flags_read_back, long_read, mode_read}
use Rattle.lfs_words.proofs.WordBytes.{bytes_word, decimal_word, flags_word, mode_word}
use Rattle.lfs_words.specs.BytesText.{bytes_of, bytes_text}
use Rattle.lfs_words.specs.FlagText.{flags_of}
use Rattle.lfs_words.specs.LevelText.{level_text}
use Rattle.lfs_words.specs.NameText.{flags_text, mode_text}
use Rattle.lfs_words.specs.Numbers.{long_of, mode_of}
use Rattle.lfs_words.specs.Wording.{is_word}
use Rattle.lfs_words.specs.declared.fault.FaultKind.{FaultKind}
use Rattle.lfs_journal_lines.specs.Asked.{is_escaped}
use Rattle.lfs_journal_lines.specs.Ranges.{AreBytes, AreFlags, IsPayload}
use Rattle.lfs_journal_lines.specs.Reading.{is_bar}

-- words of a field: each may stand in a line, and none is a bar
pub record AreField (words : List (List ℕ)) : Type 0 where
  pub word : list_all is_word words ≡ true
  pub bars : list_any is_bar words ≡ false

pub field_none : AreField []
field_none = record { word = refl; bars = refl }

pub field_more : (word : List ℕ) (words : List (List ℕ)) → is_word word ≡ true → is_bar word ≡ false → AreField words
    → AreField (word ∷ words)
field_more word words one differs more =
    record { word = rw (one, more.word) refl; bars = rw (differs, more.bars) refl }

-- a word that is read is no bar, where a bar isn't
pub no_bar : {A : Type 0} (read : List ℕ → Result A FaultKind) (word : List ℕ) (value : A) (kind : FaultKind)
    → read word ≡ Ok value → read (codes "|") ≡ Err kind → is_bar word ≡ false
no_bar read word value kind good bad =
    elim (cases_Bool (bytes_eq word (codes "|"))) [
      | inl same ↦ let e : word ≡ codes "|" = (bytes_eq-Decides word (codes "|")).0 same in let f : read word
          ≡ read (codes "|") = ap read e in absurd (cc)
      | inr differs ↦ differs
    ]

-- an operand that is no path
pub record IsOperand (word : List ℕ) : Type 0 where
  pub word_is : is_word word ≡ true
  pub bar : is_bar word ≡ false
  pub plain : is_escaped word ≡ false

pub no_percent : (c : ℕ) → digit_value c < 36 → (c == 37) ≡ false
no_percent c h = search (rules, tests)

digits_plain : (cs : List ℕ) → AllDigits 10 cs → is_escaped cs ≡ false
digits_plain [] h = refl
digits_plain (c ∷ cs) h = no_percent c (omega (arith, h.0))

digit_plain : (d : ℕ) → d < 16 → (digit_char d == 37) ≡ false
digit_plain d lt = search (rules, tests)

pub long_operand : (n : ℕ) → n < 2 ^ 64 → IsOperand (decimal n)
long_operand n lt = record {
  word_is = decimal_word n lt;
  bar = no_bar long_of (decimal n) n _ (long_read n lt) refl;
  plain = digits_plain (decimal n) (decimal_is_IsNumeral n lt).0.1;
}

pub short_operand : (n : ℕ) → n < 2 ^ 32 → IsOperand (decimal n)
short_operand n lt = long_operand n (omega arith)

pub mode_operand : (m : ℕ) → m < 4096 → IsOperand (mode_text m)
unfolding mode_text
mode_operand m lt = record {
  word_is = mode_word m lt;
  bar = no_bar mode_of (mode_text m) m _ (mode_read m lt) refl;
  plain = digit_plain (m / 512) (omega arith);
}

pub flags_operand : (f : ℕ) → AreFlags f → IsOperand (flags_text f)
unfolding flags_text
flags_operand f fine = record {
  word_is = flags_word f;
  bar = no_bar flags_of (flags_text f) f _ (flags_read_back f fine.0 fine.1) refl;
  plain = digit_plain (f / 256 ^ 3 % 256 / 16) (omega arith);
}

bytes_plain : (bs : List ℕ) → AreBytes bs → is_escaped (bytes_text bs) ≡ false
bytes_plain [] are = refl
bytes_plain (b ∷ bs) are = let lt : b < 256 = are 0 in digit_plain (b / 16) (omega arith)

pub bytes_operand : (bs : List ℕ) → IsPayload bs → IsOperand (bytes_text bs)
bytes_operand bs fine = record {
  word_is = bytes_word bs fine.bytes;
  bar = no_bar bytes_of (bytes_text bs) bs _ (bytes_read_back bs fine.bytes fine.few) refl;
  plain = bytes_plain bs fine.bytes;
}

pub level_operand : (level : Level) → IsOperand (level_text level)
level_operand PermanentlyInsecure = record { word_is = refl; bar = refl; plain = refl }
level_operand Insecure = record { word_is = refl; bar = refl; plain = refl }
level_operand Secure = record { word_is = refl; bar = refl; plain = refl }
level_operand HighlySecure = record { word_is = refl; bar = refl; plain = refl }
