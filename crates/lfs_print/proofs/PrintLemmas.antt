-- Lines grow by their words: `cleaner_added` for `append_cleaner`, `denial_added` for `push_denial`, `name_more` and
-- `names_all` for `push_names`. The code pushes a space and a word at a time, and the line is a list of words with a
-- space before each, so the pushes are put together by associativity; a denial's words are its rule's code, the error
-- of that, the path and the place.
use Rattle.std.proofs.Common.{◌≡◌, ℕ, ◌+◌, ◌<◌, ◌≤◌, List, [], ◌∷◌, ◌++◌, length, map, take, get_or, codes, ap, ◌∙◌}
use Rattle.std.proofs.Common.{append_assoc}
use Rattle.std.proofs.lemmas.List.{append-nil, flat_map_more, map-append, take_all, take_more}
use Rattle.std.specs.Prelude.{decimal}
use Rattle.lfs_model.specs.declared.journal.CleanerAnswer.{CleanerAnswer}
use Rattle.lfs_model.specs.declared.journal.CleanerKind.{CleanerKind}
use Rattle.lfs_types.specs.RuleCodes.{rule_code, rule_error, error_name}
use Rattle.lfs_types.specs.declared.rule.Denial.{Denial}
use Rattle.lfs_types.specs.declared.rule.Errno.{Errno}
use Rattle.lfs_print.specs.AnswerText.{denial_words}
use Rattle.lfs_words.specs.Wording.{spaced}
use Rattle.lfs_words.specs.NameText.{name_text}
use Rattle.lfs_print.specs.CleanerText.{cleaner_line, cleaner_words}
use Rattle.lfs_print.specs.CleanerWords.{cleaner_word}

-- the line of an answer to a cleaner's call, part by part
pub cleaner_added : (out a b d e f word : List ℕ) (session : ℕ) (kind : CleanerKind) (answer : CleanerAnswer)
    → a ≡ out ++ decimal session → b ≡ a ++ 32 ∷ codes "cleaner" → word ≡ cleaner_word kind → d ≡ b ++ 32 ∷ word
    → e ≡ d ++ spaced (cleaner_words answer) → f ≡ e ++ 10 ∷ []
    → f ≡ out ++ cleaner_line session kind answer
cleaner_added out a b d e f word session kind answer one two said three four five =
    rw (five, four, three, said, two, one) (simp append_assoc)

-- the words of a denial, one by one
pub denial_added : (out a b d e f code : List ℕ) (error : Errno) (name : List ℕ) (path at : ℕ) (denial : Denial)
    → a ≡ out ++ 32 ∷ codes "denied" → code ≡ rule_code denial.rule → b ≡ a ++ 32 ∷ code
    → error ≡ rule_error denial.rule → name ≡ error_name error → d ≡ b ++ 32 ∷ name
    → path ≡ denial.path → e ≡ d ++ 32 ∷ decimal path → at ≡ denial.at
    → f ≡ e ++ 32 ∷ decimal at
    → f ≡ out ++ spaced (denial_words denial)
denial_added out a b d e f code error name path at denial one coded two errs named three goes four place five =
    rw (five, place, four, goes, three, named, errs, two, coded, one) (simp (append_assoc, append-nil))

-- one more name
pub name_more : (out done new : List ℕ) (names : List (List ℕ)) (i : ℕ) (name : List ℕ) → i < length names → name
    ≡ get_or names i name
    → done ≡ out ++ spaced (map name_text (take i names)) → new ≡ done ++ 32 ∷ name_text name → new ≡ out
    ++ spaced (map name_text (take (i + 1) names))
name_more out done new names i name lt is so_far grown =
    rw (grown, so_far, take_more names i name lt, ← is, map-append)
    (flat_map_more (λ word. 32 ∷ word) out (map name_text (take i names)) (name_text name))

-- all names
pub names_all : (out done : List ℕ) (names : List (List ℕ)) (i : ℕ) → length names ≤ i → done ≡ out
    ++ spaced (map name_text (take i names)) → done ≡ out ++ spaced (map name_text names)
names_all out done names i le so_far = so_far ∙ ap (λ xs. out ++ spaced (map name_text xs)) (take_all i names le)
