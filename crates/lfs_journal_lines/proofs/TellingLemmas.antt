-- The lines of entries, one after another: `entry_more` and `entries_all` for `push_entries`, `entry_added` for
-- `push_entry`, `who_added` for `push_who`. The code pushes who called, a bar, what was asked, a bar, what came of it
-- and a line feed, and each push adds to what is there; so the line is these parts in order. Of the first i + 1 entries
-- the lines are those of the first i and one more.
use Rattle.std.proofs.Common.{◌≡◌, ℕ, ◌+◌, ◌<◌, ◌≤◌, List, [], ◌∷◌, ◌++◌, length, take, get_or, codes, ap, ◌∙◌}
use Rattle.std.proofs.Common.{append_assoc}
use Rattle.std.proofs.lemmas.List.{flat_map_more, take_all, take_more}
use Rattle.std.specs.Prelude.{decimal}
use Rattle.lfs_words.specs.Wording.{spaced}
use Rattle.lfs_journal_lines.specs.EntryText.{asked_text, came_words, entries_text, entry_line, entry_text, who_text}
use Rattle.lfs_model.specs.declared.journal.Entry.{Entry}

-- one more entry
pub entry_more : (out done new : List ℕ) (entries : List Entry) (i : ℕ) (entry : Entry) → i < length entries → entry
    ≡ get_or entries i entry
    → done ≡ out ++ entries_text (take i entries) → new ≡ done ++ entry_line entry → new ≡ out
    ++ entries_text (take (i + 1) entries)
entry_more out done new entries i entry lt is so_far grown =
    rw (grown, so_far, take_more entries i entry lt, ← is) (flat_map_more entry_line out (take i entries) entry)

-- all entries
pub entries_all : (out done : List ℕ) (entries : List Entry) (i : ℕ) → length entries ≤ i → done ≡ out
    ++ entries_text (take i entries) → done ≡ out ++ entries_text entries
entries_all out done entries i le so_far = so_far ∙ ap (λ xs. out ++ entries_text xs) (take_all i entries le)

line_added : (out a b c d e f new who asked came : List ℕ) → a ≡ out ++ who → b ≡ a ++ 32 ∷ codes "|" → c ≡ b ++ 32 ∷ []
    → d ≡ c ++ asked
    → e ≡ d ++ 32 ∷ codes "|" → f ≡ e ++ came → new ≡ f ++ 10 ∷ []
    → new ≡ out ++ (who ++ 32 ∷ codes "|" ++ 32 ∷ asked ++ 32 ∷ codes "|" ++ came ++ 10 ∷ [])
line_added out a b c d e f new who asked came one two three four five six seven =
    rw (seven, six, five, four, three, two, one) (simp append_assoc)

-- the line of an entry, part by part
pub entry_added : (out a b c d e f new : List ℕ) (entry : Entry) → a ≡ out ++ who_text entry → b ≡ a ++ 32 ∷ codes "|"
    → c ≡ b ++ 32 ∷ []
    → d ≡ c ++ asked_text entry.event → e ≡ d ++ 32 ∷ codes "|" → f ≡ e ++ spaced (came_words entry.event) → new ≡ f
    ++ 10 ∷ []
    → new ≡ out ++ entry_line entry
unfolding entry_line entry_text
entry_added out a b c d e f new entry one two three four five six seven =
    line_added out a b c d e f new (who_text entry) (asked_text entry.event)
    (spaced (came_words entry.event)) one two three four five six seven

-- who called, part by part
pub who_added : (out a b new : List ℕ) (n session : ℕ) (words : List ℕ) → n ≡ session → a ≡ out ++ decimal n → b ≡ a
    ++ 32 ∷ codes "as" → new ≡ b ++ words
    → new ≡ out ++ (decimal session ++ ((32 ∷ codes "as") ++ words))
who_added out a b new n session words same one two three = rw (three, two, one, same) (simp append_assoc)
