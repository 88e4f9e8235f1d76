-- Lines of entries, numbered one behind another: `numbered-joined`, for all who hand entries out in turns. Further
-- entries' lines go on counting behind as many as there were.
use Rattle.std.proofs.Common.{◌≡◌, ℕ, ◌+◌, List, [], ◌∷◌, ◌++◌, length, sym, ap, ◌∙◌, arith, append_assoc}
use Rattle.lfs_model.specs.declared.journal.Entry.{Entry}
use Rattle.lfs_sinks.specs.Numbered.{numbered_line, numbered_text}

-- the lines of further entries
pub numbered-joined : (number : ℕ) (entries more : List Entry) → numbered_text number (entries ++ more)
    ≡ numbered_text number entries ++ numbered_text (number + length entries) more
numbered-joined number [] more =
    let none : number ≡ number + 0 = omega arith in
    ap (λ (n : ℕ). numbered_text n more) none
numbered-joined number (e ∷ entries) more =
    let line = numbered_line number e in
    let behind = numbered_text (number + 1) entries in
    let count : (number + 1) + length entries ≡ number + length (e ∷ entries) = omega arith in
    ap (λ (l : List ℕ). line ++ l) (numbered-joined (number + 1) entries more)
    ∙ ap (λ (n : ℕ). line ++ (behind ++ numbered_text n more)) count
    ∙ sym (append_assoc line behind (numbered_text (number + length (e ∷ entries)) more))
