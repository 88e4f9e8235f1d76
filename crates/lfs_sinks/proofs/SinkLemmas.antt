-- The lines of entries are collected, and written piece by piece: `lines_more`, for `write_entries`. What is known to
-- be written and what is collected are together the lines so far; a further entry's line has the next number and is put
-- behind what is collected (`numbered-more`, `collected`), and a piece that is written goes from the one to the other.
use Rattle.std.proofs.Common.{◌≡◌, ℕ, ◌+◌, ◌<◌, List, [], ◌∷◌, ◌++◌, length, take, get_or, Option, None, Some, sym}
use Rattle.std.proofs.Common.{ap, subst, ◌∙◌, append_assoc, append-nil, arith}
use Rattle.std.specs.Io.KnownBytes.{Appends, Keeps, append_known}
use Rattle.std.proofs.KnownBytes.{Appends-kept}
use Rattle.std.proofs.lemmas.List.{length-take, take_more}
use Rattle.lfs_model.specs.declared.journal.Entry.{Entry}
use Rattle.lfs_sinks.specs.Numbered.{numbered_line, numbered_text}
use Rattle.lfs_sinks.proofs.NumberedLemmas.{numbered-joined}

collected : (start known : Option (List ℕ)) (old new lines line : List ℕ) → Appends start (append_known known old) lines
    → new ≡ old ++ line → Appends start (append_known known new) (lines ++ line)
collected None known old new lines line p grown = tt
collected (Some x) None old new lines line p grown = absurd p
collected (Some x) (Some y) old new lines line p grown =
    rw grown (sym (append_assoc y old line) ∙ ap (λ (xs : List ℕ). xs ++ line) p ∙ append_assoc x lines line)

numbered-more : (number i : ℕ) (entries : List Entry) (d : Entry) → i < length entries
    → numbered_text number (take (i + 1) entries) ≡ numbered_text number (take i entries)
    ++ numbered_line (number + i) (get_or entries i d)
numbered-more number i entries d lt =
    let count : length (take i entries) ≡ i = length-take i entries ∙ omega (arith, lt) in
    ap (numbered_text number) (take_more entries i d lt)
    ∙ numbered-joined number (take i entries) (get_or entries i d ∷ [])
    ∙ ap (λ (n : ℕ). numbered_text number (take i entries)
    ++ numbered_text (number + n) (get_or entries i d ∷ [])) count
    ∙ ap (λ (l : List ℕ). numbered_text number (take i entries) ++ l)
    (append-nil (numbered_line (number + i) (get_or entries i d)))

-- one more line was collected, and perhaps a piece was written
pub lines_more : (start known left : Option (List ℕ)) (text grown after : List ℕ) (number i at : ℕ)
    (entries : List Entry) (d : Entry) → i < length entries
    → Appends start (append_known known text) (numbered_text number (take i entries)) → at ≡ number + i → grown ≡ text
    ++ numbered_line at (get_or entries i d)
    → Keeps (append_known known grown) (append_known left after)
    → Appends start (append_known left after) (numbered_text number (take (i + 1) entries))
lines_more start known left text grown after number i at entries d lt so_far is grew keeps =
    let line = numbered_line (number + i) (get_or entries i d) in
    let lines = numbered_text number (take i entries) in
    subst (λ (l : List ℕ). Appends start (append_known left after) l) (sym (numbered-more number i entries d lt))
    (Appends-kept start (append_known known grown) (append_known left after) (lines ++ line)
    (collected start known text grown lines line so_far (grew
    ∙ ap (λ (n : ℕ). text ++ numbered_line n (get_or entries i d)) is)) keeps)
