-- A line is found behind its number: `marked_read`, `unmarked_read` and `none_read` for `unnumbered`, `line_found` and
-- `entry_stays` for the law `finds_line`. A number is a `#`, its digits and a space, which are taken off byte by byte
-- (`mark_found`). The text of an entry begins with its session's digits, and no digit is a `#`; so a line without a
-- number is the line itself, and the two can't be mixed up.
use Rattle.std.proofs.Common.{◌≡◌, ℕ, ◌-◌, ◌<◌, ◌≤◌, ◌==◌, true, false, List, [], ◌∷◌, ◌++◌, length, take, drop, get_or}
use Rattle.std.proofs.Common.{Option, Some}
use Rattle.std.proofs.Common.{refl, ap, sym, ◌∙◌, arith, rules, tests}
use Rattle.std.specs.Prelude.{decimal, option_and_then}
use Rattle.std.specs.Char.{digit_value}
use Rattle.std.specs.Str.Parse.{AllDigits}
use Rattle.std.proofs.lemmas.Bool.{eq-eqb}
use Rattle.std.proofs.lemmas.List.{take_all}
use Rattle.std.proofs.lemmas.Fmt.{decimal_is_IsNumeral}
use Rattle.lfs_model.specs.declared.journal.Entry.{Entry}
use Rattle.lfs_journal_lines.specs.EntryText.{entry_text}
use Rattle.lfs_journal_lines.specs.Numbering.{behind, numbered, unnumbered}

-- what stands behind a mark is found
pub mark_found : (mark text : List ℕ) → behind mark (mark ++ text) ≡ Some text
mark_found [] text = refl
mark_found (c ∷ mark) text = rw (eq-eqb c c refl) (mark_found mark text)

pub line_found : (number : ℕ) (line : List ℕ) → unnumbered number (numbered number line) ≡ Some line
unfolding unnumbered
line_found number line = rw (mark_found (decimal number) (32 ∷ line)) refl

no_mark : (c : ℕ) → digit_value c < 36 → (c == 35) ≡ false
no_mark c h = search (rules, tests)

digits_stay : (number : ℕ) (ds a b c d e : List ℕ) → 0 < length ds → AllDigits 10 ds
    → unnumbered number (ds ++ a ++ b ++ c ++ d ++ e) ≡ Some (ds ++ a ++ b ++ c ++ d ++ e)
unfolding unnumbered
digits_stay number [] a b c d e some all = absurd (omega arith)
digits_stay number (x ∷ xs) a b c d e some all = rw (no_mark x (omega (arith, all.0))) refl

-- what tells an entry has no number before it
pub entry_stays : (number : ℕ) (entry : Entry) → entry.session < 256 → unnumbered number (entry_text entry)
    ≡ Some (entry_text entry)
unfolding entry_text
entry_stays number entry lt =
    let is = decimal_is_IsNumeral entry.session (omega (arith, lt)) in
    digits_stay number (decimal entry.session) _ _ _ _ _ is.0.0 is.0.1

-- a line that is read: without a byte, without a number, and with one
pub none_read : (number : ℕ) (line : List ℕ) → length line < 1 → unnumbered number line ≡ Some line
unfolding unnumbered
none_read number [] few = refl
none_read number (c ∷ cs) few = absurd (omega arith)

pub unmarked_read : (number : ℕ) (line : List ℕ) → 1 ≤ length line → (get_or line 0 0 == 35) ≡ false
    → unnumbered number line ≡ Some line
unfolding unnumbered
unmarked_read number [] some differs = absurd (omega arith)
unmarked_read number (c ∷ cs) some differs = rw differs refl

pub marked_read : (number : ℕ) (line mark : List ℕ) (found : Option (List ℕ)) → 1 ≤ length line
    → (get_or line 0 0 == 35) ≡ true → mark ≡ decimal number
    → behind mark (take (length line - 1) (drop 1 line)) ≡ found
    → unnumbered number line ≡ option_and_then (behind (32 ∷ [])) found
unfolding unnumbered
marked_read number [] mark found some same is there = absurd (omega arith)
marked_read number (c ∷ cs) mark found some same is there =
    let rest : take (length (c ∷ cs) - 1) (drop 1 (c ∷ cs)) ≡ cs = take_all (length (c ∷ cs) - 1) cs (omega arith) in
    rw same (ap (option_and_then (behind (32 ∷ [])))
    (ap (λ m. behind m cs) (sym is) ∙ ap (behind mark) (sym rest) ∙ there))
