-- What the code reads of words by index is what the specification reads by taking the list apart: `two_there`,
-- `three_there`, `caller_there`, `info_there`, `mode_there` and `flags_there`, for the functions of `lfs_words`. A list
-- with a known count is taken apart into so many words, and each word has its index; other counts are excluded by the
-- bound. Modes and flags have a type with its own bound, which is the reader's limit (`mode_there`, `flags_there`);
-- another bound of either makes the two differ.
use Rattle.std.proofs.Common.{◌≡◌, ℕ, ◌<◌, ◌≤◌, Bool, true, false, cond, List, [], ◌∷◌, length, map, get_or, Option}
use Rattle.std.proofs.Common.{None, Some, Result, Ok, Err, refl, ap, sym, ◌∙◌, arith}
use Rattle.std.specs.Prelude.{MatchResult, codes, nat_le}
use Rattle.std.specs.Option.{SomeIff, ok_or}
use Rattle.std.specs.Int.RustNames.{bit_and}
use Rattle.std.specs.Str.{bytes_eq}
use Rattle.std.specs.Str.Parse.{digits_value}
use Rattle.std.proofs.lemmas.Bool.{eq-eqb, leb-true, lt-ltb, ne_eqb}
use Rattle.std.proofs.lemmas.List.{length-map}
use Rattle.lfs_types.specs.Caller.{Caller}
use Rattle.lfs_types.specs.declared.cleaner.BlockInfo.{BlockInfo}
use Rattle.lfs_types.specs.Paths.{names_of_text, path_fault}
use Rattle.lfs_words.specs.Callers.{caller_fault, caller_said, decimal_value, groups_of}
use Rattle.lfs_types.specs.FlagNumbers.{IsKnown}
use Rattle.lfs_words.specs.FlagText.{flags_of, is_flags}
use Rattle.lfs_words.specs.Infos.{info_from, info_of_parts, infos_within}
use Rattle.lfs_words.specs.Numbers.{is_numeral, number_of}
use Rattle.lfs_words.specs.PathText.{path_of}
use Rattle.lfs_words.specs.Wording.{two_words, three_words}
use Rattle.lfs_words.specs.declared.fault.FaultKind.{FaultKind}
use Rattle.lfs_words.specs.declared.fault.FaultKind.TheVariants.{Many, Number, Range, Words}

-- two words
pub two_there : {A : Type 0} (f : A → List ℕ) (words : List A) (d : A) → 2 ≤ length words → length words < 3
    → two_words (map f words) ≡ Ok (f (get_or words 0 d), f (get_or words 1 d))
two_there f [] d least most = absurd (omega arith)
two_there f (a ∷ []) d least most = absurd (omega arith)
two_there f (a ∷ b ∷ []) d least most = refl
two_there f (a ∷ b ∷ c ∷ more) d least most = absurd (omega arith)

-- three words
pub three_there : {A : Type 0} (f : A → List ℕ) (words : List A) (d : A) → 3 ≤ length words → length words < 4
    → three_words (map f words) ≡ Ok (f (get_or words 0 d), f (get_or words 1 d), f (get_or words 2 d))
three_there f [] d least most = absurd (omega arith)
three_there f (a ∷ []) d least most = absurd (omega arith)
three_there f (a ∷ b ∷ []) d least most = absurd (omega arith)
three_there f (a ∷ b ∷ c ∷ []) d least most = refl
three_there f (a ∷ b ∷ c ∷ e ∷ more) d least most = absurd (omega arith)

-- a user and groups
pub caller_there : {A : Type 0} (f : A → List ℕ) (words : List A) (d : A) (result : Result Caller FaultKind)
    → 2 ≤ length words → length words < 3
    → MatchResult result
    (λ cred. (caller_fault (f (get_or words 0 d)) (f (get_or words 1 d)) false ≡ None)
    × (cred ≡ record {
      uid = decimal_value (f (get_or words 0 d));
      groups = map decimal_value (groups_of (f (get_or words 1 d)));
      init = false;
    }))
    (λ kind. caller_fault (f (get_or words 0 d)) (f (get_or words 1 d)) false ≡ Some kind)
    → result ≡ caller_said (map f words)
caller_there f [] d result least most e = absurd (omega arith)
caller_there f (a ∷ []) d result least most e = absurd (omega arith)
caller_there f (a ∷ b ∷ []) d (Ok cred) least most e = rw e.0 (ap Ok e.1)
caller_there f (a ∷ b ∷ []) d (Err kind) least most e = rw e refl
caller_there f (a ∷ b ∷ c ∷ more) d result least most e = absurd (omega arith)

-- a user, groups and the mark of init
pub marked_there : {A : Type 0} (f : A → List ℕ) (words : List A) (d : A) (result : Result Caller FaultKind)
    → 3 ≤ length words → length words < 4
    → bytes_eq (f (get_or words 2 d)) (codes "init") ≡ true
    → MatchResult result
    (λ cred. (caller_fault (f (get_or words 0 d)) (f (get_or words 1 d)) true ≡ None)
    × (cred ≡ record {
      uid = decimal_value (f (get_or words 0 d));
      groups = map decimal_value (groups_of (f (get_or words 1 d)));
      init = true;
    }))
    (λ kind. caller_fault (f (get_or words 0 d)) (f (get_or words 1 d)) true ≡ Some kind)
    → result ≡ caller_said (map f words)
marked_there f [] d result least most mark e = absurd (omega arith)
marked_there f (a ∷ []) d result least most mark e = absurd (omega arith)
marked_there f (a ∷ b ∷ []) d result least most mark e = absurd (omega arith)
marked_there f (a ∷ b ∷ c ∷ []) d (Ok cred) least most mark e = rw (mark, e.0) (ap Ok e.1)
marked_there f (a ∷ b ∷ c ∷ []) d (Err kind) least most mark e = rw (mark, e) refl
marked_there f (a ∷ b ∷ c ∷ g ∷ more) d result least most mark e = absurd (omega arith)

-- a third word that is not the mark of init
pub unmarked_there : {A : Type 0} (f : A → List ℕ) (words : List A) (d : A) → 3 ≤ length words → length words < 4
    → bytes_eq (f (get_or words 2 d)) (codes "init") ≡ false → Err Words ≡ caller_said (map f words)
unmarked_there f [] d least most mark = absurd (omega arith)
unmarked_there f (a ∷ []) d least most mark = absurd (omega arith)
unmarked_there f (a ∷ b ∷ []) d least most mark = absurd (omega arith)
unmarked_there f (a ∷ b ∷ c ∷ []) d least most mark = rw mark refl
unmarked_there f (a ∷ b ∷ c ∷ g ∷ more) d least most mark = absurd (omega arith)

-- an info of four parts
pub info_there : {A : Type 0} (f : A → List ℕ) (parts : List A) (d : A) (result : Result BlockInfo FaultKind)
    → 4 ≤ length parts → length parts < 5
    → result ≡ info_from (f (get_or parts 0 d)) (f (get_or parts 1 d)) (f (get_or parts 2 d)) (f (get_or parts 3 d))
    → result ≡ info_of_parts (map f parts)
info_there f [] d result least most e = absurd (omega arith)
info_there f (a ∷ []) d result least most e = absurd (omega arith)
info_there f (a ∷ b ∷ []) d result least most e = absurd (omega arith)
info_there f (a ∷ b ∷ c ∷ []) d result least most e = absurd (omega arith)
info_there f (a ∷ b ∷ c ∷ g ∷ []) d result least most e = e
info_there f (a ∷ b ∷ c ∷ g ∷ h ∷ more) d result least most e = absurd (omega arith)

-- there are too many words for a list of infos
pub infos_many : {A : Type 0} (f : A → List ℕ) (words : List A) (most : ℕ) → most < length words
    → infos_within most (map f words) ≡ Err Many
infos_many f words most lt =
    let many : most < length (map f words) = rw length-map lt in
    rw (lt-ltb most (length (map f words)) many) refl

-- a path
pub path_there : (word : List ℕ) (names : List (List ℕ)) → path_fault word ≡ None → names ≡ names_of_text word
    → path_of word ≡ Ok names
path_there word names none e = rw none (ap Ok (sym e))

-- what a word says whose value has been reckoned: is it a numeral, and is it in range
abbrev pub the_number : Bool → Bool → ℕ → Result ℕ FaultKind
the_number n s v = cond n (cond s (Ok v) (Err Range)) (Err Number)

within : (n s : Bool) (v limit value : ℕ) → nat_le v limit ≡ s → the_number n s v ≡ Ok value → value ≤ limit
within true true v limit value le e =
    let same : v ≡ value = cc in omega (arith, leb-true v limit le)
within true false v limit value le e = absurd (cc)
within false s v limit value le e = absurd (cc)

-- a mode
pub mode_there : (word : List ℕ) (value : ℕ) (made : Option ℕ) → number_of 8 6 4095 word ≡ Ok value
    → SomeIff made (value < 4096) value → ok_or made Range ≡ number_of 8 6 4095 word
mode_there word value None read other =
    let le = within (is_numeral 8 6 word) (nat_le (digits_value 8 word) 4095) (digits_value 8 word) 4095 value refl read
    in absurd (other (omega (arith, le)))
mode_there word value (Some x) read known = ap Ok known.1 ∙ sym read

-- flags
pub flags_there : (word : List ℕ) (bits : ℕ) (made : Option ℕ) → is_flags word ≡ true → bits ≡ digits_value 16 word
    → SomeIff made (IsKnown bits) bits → ok_or made Range ≡ flags_of word
flags_there word bits None flags e other = rw (flags, ← e, ne_eqb (bit_and bits 0x7_0007) bits other) refl
flags_there word bits (Some x) flags e known =
    rw (flags, ← e, eq-eqb (bit_and bits 0x7_0007) bits known.0) (ap Ok known.1)
