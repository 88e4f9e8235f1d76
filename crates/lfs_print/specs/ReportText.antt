-- The report over a journal.
use Rattle.std.specs.Prelude.{ℕ, ◌+◌, ◌==◌, List, [], ◌∷◌, ◌++◌, codes, count_by, decimal, length, if◌then◌else◌}
use Rattle.std.specs.List.{flat_map, zip}
use Rattle.lfs_model.specs.Counts.{denials, is_cleaner, is_denied, is_refused, is_served}
use Rattle.lfs_model.specs.declared.counts.Counts.{Counts}
use Rattle.lfs_model.specs.declared.journal.Entry.{Entry}
use Rattle.lfs_types.specs.RuleCodes.{rule_code, rules}
use Rattle.lfs_types.specs.declared.rule.Rule.{Rule}

-- a line of a word and a number
unfoldable pub count_line : List ℕ → ℕ → List ℕ
count_line word number = word ++ 32 ∷ decimal number ++ 10 ∷ []

-- how many users' calls were served, denied and refused
abbrev pub users_lines : List Entry → List ℕ
users_lines entries =
    count_line (codes "served") (count_by (λ entry. is_served entry.event) entries)
    ++ count_line (codes "denied") (count_by (λ entry. is_denied entry.event) entries)
    ++ count_line (codes "refused") (count_by (λ entry. is_refused entry.event) entries)

-- the line of a rule and of how many calls it denied; none where it denied no call
unfoldable pub denials_line : Rule × ℕ → List ℕ
denials_line (rule, number) =
    if number == 0 then [] else
    codes "rule" ++ 32 ∷ rule_code rule ++ 32 ∷ decimal number ++ 10 ∷ []

-- the line of a rule over a journal
abbrev pub rule_line : List Entry → Rule → List ℕ
rule_line entries rule = denials_line (rule, denials rule entries)

-- the report over a journal
abbrev pub report_text : List Entry → List ℕ
report_text entries =
    count_line (codes "entries") (length entries)
    ++ users_lines entries
    ++ count_line (codes "cleaner") (count_by (λ entry. is_cleaner entry.event) entries)
    ++ flat_map (rule_line entries) rules

-- the report of counts: the sum of the four, the four, and a line for each rule that denied a call
abbrev pub counts_text : Counts → List ℕ
counts_text c =
    count_line (codes "entries") (c.served + c.denied + c.refused + c.cleaner)
    ++ count_line (codes "served") c.served
    ++ count_line (codes "denied") c.denied
    ++ count_line (codes "refused") c.refused
    ++ count_line (codes "cleaner") c.cleaner
    ++ flat_map denials_line (zip rules c.rules)
