-- A line of words is read as its words, so a call that is spelled is the one said: `line_back` for `push_request` and
-- BackCalls of `lfs_journal_lines`, `words_split` and `line_printable` for BackLine. No word has a space and none is
-- empty, so the line is split into just these words (induction), and it's printable, so it's no fault. No verb begins
-- as a comment does, and each is found in the table by its own name (`is_verb`); a new call needs its line there, and a
-- verb like `#` would be skipped.
use Rattle.std.proofs.Common.{◌≡◌, ℕ, ◌==◌, true, false, List, [], ◌∷◌, ◌++◌, length, get_or}
use Rattle.std.proofs.Common.{Some, Ok, refl, ap, ◌∙◌, arith, rules, tests}
use Rattle.std.specs.Prelude.{nat_le, not, ◌&&◌}
use Rattle.std.specs.List.{All, list_all, list_any}
use Rattle.std.proofs.lemmas.Bool.{and_parts, ne_eqb}
use Rattle.std.proofs.lemmas.List.{append-nil}
use Rattle.std.proofs.lemmas.List.Folds.{list_all-append}
use Rattle.std.proofs.lemmas.List.Splits.{slice_split_at, slice_split_none}
use Rattle.lfs_types.specs.declared.request.Request.{Request}
use Rattle.lfs_words.proofs.WordLists.{passes_at}
use Rattle.lfs_words.specs.Lines.{is_printable, is_skipped}
use Rattle.lfs_words.specs.Wording.{is_bare, is_word, is_word_byte, spaced, words_of}
use Rattle.lfs_script.specs.Plans.{line_said, words_said}
use Rattle.lfs_script.specs.Requests.{request_said}
use Rattle.lfs_script.specs.Spelling.{IsSaid, kind_of, operands, request_line}
use Rattle.lfs_script.specs.Verbs.{request_word, verb_of}
use Rattle.lfs_script.specs.declared.plan.Act.TheVariants.{User}
use Rattle.lfs_script.specs.declared.plan.Line.TheVariants.{Act}
use Rattle.lfs_script.specs.declared.verb.RequestKind.{RequestKind}
use Rattle.lfs_script.specs.declared.verb.RequestKind.TheVariants as kind
use Rattle.lfs_script.specs.declared.verb.Verb.TheVariants as verb

no_space : (c : ℕ) → is_word_byte c ≡ true → (c == 32) ≡ false
no_space c h = search (rules, tests)

visible : (c : ℕ) → is_word_byte c ≡ true → (nat_le 32 c && nat_le c 126) ≡ true
visible c h = search (rules, tests)

bytes_in : (word : List ℕ) → is_word word ≡ true → list_all is_word_byte word ≡ true
bytes_in word h = (and_parts (not (is_bare word)) (list_all is_word_byte word) h).1

full_in : (word : List ℕ) → is_word word ≡ true → is_bare word ≡ false
full_in [] h = absurd (cc)
full_in (c ∷ cs) h = ne_eqb (length (c ∷ cs)) 0 (λ e. omega arith)

no_spaces : (word : List ℕ) → is_word word ≡ true → All (λ b. (b == 32) ≡ false) word
no_spaces word h = λ k d lt. no_space (get_or word k d) (passes_at is_word_byte word k d (bytes_in word h) lt)

-- words that stand behind one another are the words of their line
pub words_split : (first : List ℕ) (words : List (List ℕ)) → is_word first ≡ true → list_all is_word words ≡ true
    → words_of (first ++ spaced words) ≡ first ∷ words
words_split first [] one all =
    rw (append-nil first) (slice_split_none (λ b. b == 32) first (no_spaces first one))
words_split first (word ∷ words) one all =
    let parts = and_parts (is_word word) (list_all is_word words) all in
    slice_split_at (λ b. b == 32) first 32 (word ++ spaced words) (no_spaces first one) refl
    ∙ ap (λ ws. first ∷ ws) (words_split word words parts.0 parts.1)

none_bare : (words : List (List ℕ)) → list_all is_word words ≡ true → list_any is_bare words ≡ false
none_bare [] all = refl
none_bare (word ∷ words) all =
    let parts = and_parts (is_word word) (list_all is_word words) all in
    let full : is_bare word ≡ false = full_in word parts.0 in
    rw (full, none_bare words parts.1) refl

visible_all : (cs : List ℕ) → list_all is_word_byte cs ≡ true → is_printable cs ≡ true
visible_all [] h = refl
visible_all (c ∷ cs) h =
    let parts = and_parts (is_word_byte c) (list_all is_word_byte cs) h in
    rw (visible c parts.0, visible_all cs parts.1) refl

spaced_printable : (words : List (List ℕ)) → list_all is_word words ≡ true → is_printable (spaced words) ≡ true
spaced_printable [] all = refl
spaced_printable (word ∷ words) all =
    let parts = and_parts (is_word word) (list_all is_word words) all in
    let here : is_printable word ≡ true = visible_all word (bytes_in word parts.0) in
    list_all-append (λ b. nat_le 32 b && nat_le b 126) word (spaced words)
    ∙ rw (here, spaced_printable words parts.1) refl

pub line_printable : (first : List ℕ) (words : List (List ℕ)) → is_word first ≡ true → list_all is_word words ≡ true
    → is_printable (first ++ spaced words) ≡ true
line_printable first words one all =
    let here : is_printable first ≡ true = visible_all first (bytes_in first one) in
    list_all-append (λ b. nat_le 32 b && nat_le b 126) first (spaced words)
    ∙ rw (here, spaced_printable words all) refl

-- a line of words says what its words say
pub line_of_words : (first : List ℕ) (words : List (List ℕ)) → is_word first ≡ true → list_all is_word words ≡ true
    → is_skipped (first ++ spaced words) ≡ false → line_said (first ++ spaced words) ≡ words_said (first ∷ words)
unfolding line_said
line_of_words first words one all said =
    let split : words_of (first ++ spaced words) ≡ first ∷ words = words_split first words one all in
    let bare : list_any is_bare (first ∷ words) ≡ false = rw (full_in first one, none_bare words all) refl in
    rw (line_printable first words one all, said, split, bare) refl

-- the name of a call is a word, is no comment, and is found
pub record IsVerb (asked : RequestKind) : Type 0 where
  pub word : is_word (request_word asked) ≡ true
  pub found : verb_of (request_word asked) ≡ Some (verb.User asked)
  pub says : (more : List ℕ) → is_skipped (request_word asked ++ more) ≡ false

pub is_verb : (asked : RequestKind) → IsVerb asked
is_verb kind.Stat = record { word = refl; found = refl; says = λ more. refl }
is_verb kind.Read = record { word = refl; found = refl; says = λ more. refl }
is_verb kind.Write = record { word = refl; found = refl; says = λ more. refl }
is_verb kind.List = record { word = refl; found = refl; says = λ more. refl }
is_verb kind.SetLength = record { word = refl; found = refl; says = λ more. refl }
is_verb kind.Create = record { word = refl; found = refl; says = λ more. refl }
is_verb kind.Mkdir = record { word = refl; found = refl; says = λ more. refl }
is_verb kind.Unlink = record { word = refl; found = refl; says = λ more. refl }
is_verb kind.Rmdir = record { word = refl; found = refl; says = λ more. refl }
is_verb kind.Rename = record { word = refl; found = refl; says = λ more. refl }
is_verb kind.Chmod = record { word = refl; found = refl; says = λ more. refl }
is_verb kind.Chown = record { word = refl; found = refl; says = λ more. refl }
is_verb kind.Chflags = record { word = refl; found = refl; says = λ more. refl }
is_verb kind.SetLevel = record { word = refl; found = refl; says = λ more. refl }
is_verb kind.Sync = record { word = refl; found = refl; says = λ more. refl }

words_asked : (asked : RequestKind) (words : List (List ℕ)) (request : Request) → request_said asked words ≡ Ok request
    → words_said (request_word asked ∷ words) ≡ Ok (Act (User request))
words_asked asked words request said =
    let found : verb_of (request_word asked) ≡ Some (verb.User asked) = (is_verb asked).found in
    rw (found, said) refl

-- a call that is said is what its line says
pub line_back : (request : Request) → IsSaid request → line_said (request_line request) ≡ Ok (Act (User request))
line_back request said =
    let word = is_verb (kind_of request) in
    line_of_words (request_word (kind_of request)) (operands request) word.word said.words
    (word.says (spaced (operands request)))
    ∙ words_asked (kind_of request) (operands request) request said.said
