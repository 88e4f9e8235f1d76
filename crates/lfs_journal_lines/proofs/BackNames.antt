-- Names and paths are read back: `names_back` and `names_words` for BackAnswers, `spelled` for BackCalls. A byte that
-- may stand in a word stands for itself, and each other is a percent sign with two digits, so the text is read byte by
-- byte from the front (`byte_back`, `bytes_back`); a percent sign itself is one of the others, so no name is read as an
-- escape. A path is spelled as in a script if it can be (`as_script`) and else behind a percent sign (`as_escape`),
-- which begins no path of a script; if a script's path could begin with that sign, `text_plain` fails.
use Rattle.std.proofs.Common.{◌≡◌, ℕ, zero, suc, ◌+◌, ◌*◌, ◌/◌, ◌%◌, ◌<◌, ◌==◌, true, false, List, [], ◌∷◌, ◌++◌}
use Rattle.std.proofs.Common.{length, map, Option, None, Some, Result, Ok, Err, refl, ap, sym, subst, ◌∙◌, inl, inr}
use Rattle.std.proofs.Common.{arith, append_assoc, length-append, rules, tests}
use Rattle.std.specs.Prelude.{not}
use Rattle.std.specs.Char.{digit_char, digit_value}
use Rattle.std.specs.List.{All, list_all}
use Rattle.std.proofs.lemmas.Bool.{and_parts, cases_Bool}
use Rattle.std.proofs.lemmas.List.{append-nil}
use Rattle.std.proofs.lemmas.List.Folds.{list_all-append}
use Rattle.std.proofs.lemmas.Str.{digit_value-digit_char}
use Rattle.lfs_types.specs.Naming.{name_fault}
use Rattle.lfs_types.specs.Paths.{names_fault, or_later, path_text, slashed}
use Rattle.lfs_words.proofs.PathBack.{path_back, path_read_back}
use Rattle.lfs_words.proofs.ReadBack.{hex_digits_all}
use Rattle.lfs_words.proofs.WordBytes.{bytes_word, word_there}
use Rattle.lfs_words.specs.BytesText.{hex_text, is_hex_digit}
use Rattle.lfs_words.specs.Faults.{◌>>=◌}
use Rattle.lfs_words.specs.NameText.{byte_text, is_plain, name_text}
use Rattle.lfs_words.specs.PathText.{can_spell, path_of, path_word}
use Rattle.lfs_words.specs.Wording.{is_bare, is_word, is_word_byte}
use Rattle.lfs_words.specs.declared.fault.FaultKind.{FaultKind}
use Rattle.lfs_journal_lines.proofs.BackWords.{no_bar}
use Rattle.lfs_journal_lines.proofs.ReadingLemmas.{escape_told, plain_told}
use Rattle.lfs_journal_lines.specs.Asked.{is_escaped, or_old, path_told, plain_word}
use Rattle.lfs_journal_lines.specs.Escapes.{before, byte_told, bytes_told, escaped_path, name_told, names_told}
use Rattle.lfs_journal_lines.specs.Ranges.{AreBytes, IsName, IsPath}
use Rattle.lfs_journal_lines.specs.Reading.{is_bar}

-- ---- bytes

more_bytes : (b : ℕ) (bs : List ℕ) → AreBytes (b ∷ bs) → AreBytes bs
more_bytes b bs are = λ k. are (suc k)

one_byte : (b : ℕ) → b < 256 → AreBytes (b ∷ [])
one_byte b lt zero = lt
one_byte b lt (suc k) = omega arith

-- a byte that stands for itself is no percent sign
plain_differs : (b : ℕ) → is_plain b ≡ true → (b == 37) ≡ false
plain_differs b h = search (rules, tests)

plain_visible : (b : ℕ) → is_plain b ≡ true → is_word_byte b ≡ true
plain_visible b h = search (rules, tests)

-- the two digits of a byte are read as it
digits_back : (b : ℕ) → b < 256 → byte_told (digit_char (b / 16)) (digit_char (b % 16)) ≡ Ok b
digits_back b lt =
    let hex = hex_digits_all (b ∷ []) (one_byte b lt) in
    let both = and_parts (is_hex_digit (digit_char (b / 16))) (list_all is_hex_digit (digit_char (b % 16) ∷ [])) hex in
    let last = and_parts (is_hex_digit (digit_char (b % 16))) true both.1 in
    let high : digit_value (digit_char (b / 16)) ≡ b / 16 = digit_value-digit_char (b / 16) (omega arith) in
    let low : digit_value (digit_char (b % 16)) ≡ b % 16 = digit_value-digit_char (b % 16) (omega arith) in
    let whole : 16 * (b / 16) + b % 16 ≡ b = omega arith in
    rw (both.0, last.0, high, low, whole) refl

-- what is read, behind bytes
abbrev behind : List ℕ → Result (List ℕ) FaultKind → Result (List ℕ) FaultKind
behind done read = read >>= (λ more. Ok (done ++ more))

behind_none : (read : Result (List ℕ) FaultKind) → read ≡ behind [] read
behind_none (Ok more) = refl
behind_none (Err kind) = refl

before_behind : (b : ℕ) (bs : List ℕ) (read : Result (List ℕ) FaultKind) → before b (behind bs read)
    ≡ behind (b ∷ bs) read
before_behind b bs (Ok more) = refl
before_behind b bs (Err kind) = refl

-- one byte of a name is read
byte_back : (b : ℕ) (rest : List ℕ) → b < 256 → bytes_told (byte_text b ++ rest) ≡ before b (bytes_told rest)
byte_back b rest lt =
    elim (cases_Bool (is_plain b)) [
      | inl plain ↦ rw plain (plain_told b rest (plain_differs b plain))
      | inr odd ↦ rw odd (escape_told 37 (digit_char (b / 16) ∷ digit_char (b % 16) ∷ rest) refl
          ∙ rw (digits_back b lt) refl)
    ]

-- the bytes of a name are read, and then what is behind them
bytes_back : (bs rest : List ℕ) → AreBytes bs → bytes_told (name_text bs ++ rest) ≡ behind bs (bytes_told rest)
bytes_back [] rest are = behind_none (bytes_told rest)
bytes_back (b ∷ bs) rest are =
    ap bytes_told (append_assoc (byte_text b) (name_text bs) rest)
    ∙ byte_back b (name_text bs ++ rest) (are 0)
    ∙ ap (before b) (bytes_back bs rest (more_bytes b bs are))
    ∙ before_behind b bs (bytes_told rest)

no_bytes : bytes_told [] ≡ Ok []
unfolding bytes_told
no_bytes = refl

-- ---- names

-- a name is read back
pub name_back : (name : List ℕ) → IsName name → name_told (name_text name) ≡ Ok name
name_back name is =
    let whole : bytes_told (name_text name) ≡ Ok name =
    ap bytes_told (sym (append-nil (name_text name))) ∙ bytes_back name [] is.bytes ∙ ap (behind name) no_bytes
    ∙ ap Ok (append-nil name) in
    rw (whole, is.fine) refl

visible_byte : (b : ℕ) → b < 256 → list_all is_word_byte (byte_text b) ≡ true
visible_byte b lt =
    elim (cases_Bool (is_plain b)) [
      | inl plain ↦ rw (plain, plain_visible b plain) refl
      | inr odd ↦
          let digits = and_parts (not (is_bare (hex_text (b ∷ [])))) (list_all is_word_byte (hex_text (b ∷ [])))
          (bytes_word (b ∷ []) (one_byte b lt)) in
          rw odd digits.1
    ]

visible_name : (bs : List ℕ) → AreBytes bs → list_all is_word_byte (name_text bs) ≡ true
visible_name [] are = refl
visible_name (b ∷ bs) are =
    list_all-append is_word_byte (byte_text b) (name_text bs)
    ∙ rw (visible_byte b (are 0), visible_name bs (more_bytes b bs are)) refl

byte_some : (b : ℕ) → 0 < length (byte_text b)
byte_some b = elim (cases_Bool (is_plain b)) [ inl plain ↦ rw plain (omega arith) | inr odd ↦ rw odd (omega arith) ]

-- a name is a word
pub name_word : (name : List ℕ) → IsName name → is_word (name_text name) ≡ true
name_word [] is = absurd (let h : name_fault [] ≡ None = is.fine in cc)
name_word (b ∷ bs) is =
    word_there (name_text (b ∷ bs)) (omega (arith, byte_some b, length-append (byte_text b) (name_text bs)))
    (visible_name (b ∷ bs) is.bytes)

first_name : (name : List ℕ) (names : List (List ℕ)) → All IsName (name ∷ names) → IsName name
first_name name names all = all 0 [] (omega arith)

more_names : (name : List ℕ) (names : List (List ℕ)) → All IsName (name ∷ names) → All IsName names
more_names name names all = λ k d lt. all (suc k) d (omega arith)

-- names are read back
pub names_back : (names : List (List ℕ)) → All IsName names → names_told (map name_text names) ≡ Ok names
unfolding names_told
names_back [] all = refl
names_back (name ∷ names) all =
    rw (name_back name (first_name name names all), names_back names (more_names name names all)) refl

pub names_words : (names : List (List ℕ)) → All IsName names → list_all is_word (map name_text names) ≡ true
names_words [] all = refl
names_words (name ∷ names) all =
    rw (name_word name (first_name name names all), names_words names (more_names name names all)) refl

-- ---- paths

no_fault : (k : ℕ) (names : List (List ℕ)) → All IsName names → names_fault k names ≡ None
no_fault k [] all = refl
no_fault k (name ∷ names) all =
    ap (λ f. or_later k f (names_fault (k + 1) names)) (first_name name names all).fine
    ∙ no_fault (k + 1) names (more_names name names all)

slashed_back : (names : List (List ℕ)) → All IsName names → bytes_told (slashed (map name_text names))
    ≡ Ok (slashed names)
slashed_back [] all = no_bytes
slashed_back (name ∷ names) all =
    plain_told 47 (name_text name ++ slashed (map name_text names)) refl
    ∙ ap (before 47) (bytes_back name (slashed (map name_text names)) (first_name name names all).bytes)
    ∙ ap (λ read. before 47 (behind name read)) (slashed_back names (more_names name names all))

visible_slashed : (names : List (List ℕ)) → All IsName names → list_all is_word_byte (slashed (map name_text names))
    ≡ true
visible_slashed [] all = refl
visible_slashed (name ∷ names) all =
    list_all-append is_word_byte (name_text name) (slashed (map name_text names))
    ∙ rw (visible_name name (first_name name names all).bytes, visible_slashed names (more_names name names all)) refl

-- a path as it stands in a line: the path that stands there for a script, and the one that is put in its place
pub record Spelled (path : List (List ℕ)) : Type 0 where
  pub root : List (List ℕ)
  pub escape : Option (List (List ℕ))
  pub word : is_word (path_word path) ≡ true
  pub bar : is_bar (path_word path) ≡ false
  pub plain : plain_word (path_word path) ≡ path_word root
  pub root_word : is_word (path_word root) ≡ true
  pub read : path_of (path_word root) ≡ Ok root
  pub told : path_told (path_word path) ≡ Ok escape
  pub whole : or_old escape root ≡ path

text_plain : (path : List (List ℕ)) → is_escaped (path_text path) ≡ false
text_plain [] = refl
text_plain (name ∷ names) = refl

as_script : (path : List (List ℕ)) → IsPath path → can_spell path ≡ true → Spelled path
as_script path is spells =
    let back = path_back path (no_fault 1 path is.each) is.few spells in
    let e : path_word path ≡ path_text path = rw spells refl in
    let plain : is_escaped (path_word path) ≡ false = ap is_escaped e ∙ text_plain path in
    record {
      root = path;
      escape = None;
      word = back.word;
      bar = no_bar path_of (path_word path) path _ back.back refl;
      plain = rw plain refl;
      root_word = back.word;
      read = back.back;
      told = rw plain refl;
      whole = refl;
    }

named_text : (path : List (List ℕ)) → can_spell path ≡ false → path_text path ≡ slashed path
named_text [] odd = absurd (cc)
named_text (name ∷ names) odd = refl

-- a path that no script can spell
as_escape : (path : List (List ℕ)) → IsPath path → can_spell path ≡ false → Spelled path
as_escape path is odd =
    let e : path_word path ≡ 37 ∷ slashed (map name_text path) = rw odd refl in
    let read : path_of (slashed path) ≡ Ok path =
    subst (λ bs. path_of bs ≡ Ok path) (named_text path odd) (path_read_back path (no_fault 1 path is.each) is.few) in
    let escaped : escaped_path (slashed (map name_text path)) ≡ Ok path = rw (slashed_back path is.each) read in
    record {
      root = [];
      escape = Some path;
      word = subst (λ w. is_word w ≡ true) (sym e)
          (word_there (37 ∷ slashed (map name_text path)) (omega arith) (visible_slashed path is.each));
      bar = rw e refl;
      plain = rw e refl;
      root_word = refl;
      read = refl;
      told = rw (e, escaped) refl;
      whole = refl;
    }

pub spelled : (path : List (List ℕ)) → IsPath path → Spelled path
spelled path is =
    elim (cases_Bool (can_spell path)) [ inl spells ↦ as_script path is spells | inr odd ↦ as_escape path is odd ]
