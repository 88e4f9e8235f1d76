-- A text is cut at its first line feed, and printable bytes are text: `cut_some` and `cut_none` for `cut_line`,
-- `skipped` for `is_skipped`, `printable_utf8` for `text_of`. A search for a byte finds the first of it, so none stands
-- before that place, and where nothing is found none stands anywhere. A printable byte is below 128, and such bytes are
-- UTF-8 as they are.
use Rattle.std.proofs.Common.{◌≡◌, ℕ, ◌+◌, ◌<◌, ◌≤◌, ◌==◌, nat_lt, Bool, true, false, List, [], ◌∷◌, ◌++◌, length, take}
use Rattle.std.proofs.Common.{drop, get_or, None, Some, refl, sym, ap, ◌∙◌, inl, inr, arith, length-take}
use Rattle.std.specs.Prelude.{nat_le, ◌&&◌}
use Rattle.std.specs.List.{position, position_or_len}
use Rattle.std.specs.Str.{IsUtf8}
use Rattle.std.proofs.lemmas.List.{get_or_past}
use Rattle.std.proofs.lemmas.List.Quantifiers.{position-Some}
use Rattle.std.proofs.lemmas.List.Sums.{fails_before_first}
use Rattle.std.proofs.lemmas.Str.{IsUtf8-from_ascii}
use Rattle.std.proofs.lemmas.Bool.{ltb-false, leb-true, eqb-true, eqb-false, and_parts, cases_lt}
use Rattle.std.proofs.lemmas.Grind.{common_steps}
use Rattle.lfs_words.proofs.WordLists.{passes_at}
use Rattle.lfs_words.specs.Lines.{HasNoLineFeed, IsFirstLine, is_printable, is_skipped}

abbrev feed : ℕ → Bool
feed b = b == 10

-- a text is cut around the byte at an index
pub cut_at : (text : List ℕ) (at b : ℕ) → at < length text → get_or text at 0 ≡ b → text ≡ take at text ++ b
    ∷ drop (at + 1) text
cut_at text at b lt e = grind (arith, common_steps)

before : (text : List ℕ) (at : ℕ) → ((k : ℕ) → k < at → feed (get_or text k 0) ≡ false) → HasNoLineFeed (take at text)
before text at earlier k d lt =
    let below : k < at = omega (arith, length-take {A = ℕ}) in
    let here : get_or (take at text) k d ≡ get_or text k 0 = grind (arith, common_steps) in
    λ e. eqb-false _ _ (earlier k below) (sym here ∙ e)

pub cut_some : (text : List ℕ) (at : ℕ) → position feed text ≡ Some at
    → IsFirstLine text (take at text) (drop (at + 1) text)
cut_some text at e =
    let found = position-Some feed text at 0 e in
    record {
      whole = cut_at text at 10 found.0 (eqb-true _ _ found.1);
      first = before text at (found.2);
    }

cut_none_at : (text : List ℕ) (b : Bool) → nat_lt (position_or_len feed text) (length text) ≡ b → position feed text
    ≡ None → HasNoLineFeed text
cut_none_at text true h e = absurd (cc)
cut_none_at text false h e =
    let le : length text ≤ position_or_len feed text = ltb-false _ _ h in
    λ k d lt. eqb-false _ _ (fails_before_first feed text k d (omega arith))

pub cut_none : (text : List ℕ) → position feed text ≡ None → HasNoLineFeed text
cut_none text e = cut_none_at text _ refl e

ascii_at : (line : List ℕ) (k : ℕ) → is_printable line ≡ true → get_or line k 0 < 128
ascii_at line k all =
    elim (cases_lt k (length line)) [
      | inl lt ↦
          let within = and_parts (nat_le 32 (get_or line k 0)) (nat_le (get_or line k 0) 126)
          (passes_at (λ b. nat_le 32 b && nat_le b 126) line k 0 all lt) in
          let le : get_or line k 0 ≤ 126 = leb-true (get_or line k 0) 126 within.1 in omega arith
      | inr le ↦ rw (get_or_past line k 0 le) (omega arith)
    ]

pub printable_utf8 : (line : List ℕ) → is_printable line ≡ true → IsUtf8 line
printable_utf8 line all = IsUtf8-from_ascii line (λ k. ascii_at line k all)

-- a line that is not empty says nothing where its first byte is the mark of a comment
pub skipped : (line bytes : List ℕ) → bytes ≡ line → 1 ≤ length bytes → (get_or bytes 0 0 == 35) ≡ is_skipped line
skipped line [] e le = absurd (omega arith)
skipped line (b ∷ bytes) e le = ap is_skipped e
