-- What is appended to a text: `added`, `word_added`, `mode_added`, `flags_added`, `name_more` and `name_all`, for
-- `append`'s functions. Each says that the pieces which the code pushes one by one, a space first, are the text of the
-- whole: a mode's four octal digits, flags' eight hexadecimal ones, a name's bytes with those escaped that have to be.
-- Of a push that lacks memory nothing is claimed.
use Rattle.std.proofs.Common.{◌≡◌, ℕ, ◌+◌, ◌/◌, ◌%◌, ◌<◌, ◌≤◌, ◌==◌, true, List, [], ◌∷◌, ◌++◌, length, take, get_or}
use Rattle.std.proofs.Common.{codes, Result, Ok, Err, OnOk, refl, ap, subst, ◌∙◌, append_assoc}
use Rattle.std.specs.List.{flat_map}
use Rattle.std.specs.Bool.{if◌then◌else◌}
use Rattle.std.specs.Result.{is_ok}
use Rattle.std.specs.Char.{digit_char}
use Rattle.std.specs.Int.{w32, to_be_bytes}
use Rattle.std.proofs.lemmas.Bool.{eqb-true}
use Rattle.std.proofs.lemmas.List.{flat_map_more, nil_from_length, take_all, take_more}
use Rattle.lfs_words.specs.BytesText.{bytes_text, hex_text}
use Rattle.lfs_words.specs.NameText.{byte_text, flags_text, mode_text, name_text}

-- a text to which bytes were added, where memory was there
pub added : {T E : Type 0} (result : Result T E) (new old bytes other wanted : List ℕ) → new
    ≡ (if is_ok result then old ++ bytes else other) → old ++ bytes ≡ wanted → OnOk result (new ≡ wanted)
added (Ok x) new old bytes other wanted e same = e ∙ same
added (Err y) new old bytes other wanted e same = tt

-- a word behind a space
pub word_added : (out spaced bytes word : List ℕ) → spaced ≡ out ++ 32 ∷ [] → bytes ≡ word → spaced ++ bytes ≡ out ++ 32
    ∷ word
word_added out spaced bytes word e same = rw (e, same, append_assoc) refl

-- the four digits of a mode behind a space
pub mode_added : (out spaced : List ℕ) (bits mode first second third fourth : ℕ) → spaced ≡ out ++ 32 ∷ [] → bits ≡ mode
    → first ≡ digit_char (bits / 512) → second ≡ digit_char (bits / 64 % 8) → third ≡ digit_char (bits / 8 % 8) → fourth
    ≡ digit_char (bits % 8)
    → spaced ++ (first ∷ second ∷ third ∷ fourth ∷ []) ≡ out ++ 32 ∷ mode_text mode
unfolding mode_text
mode_added out spaced bits mode first second third fourth e same one two three four =
    rw (one, two, three, four, same, e, append_assoc) refl

-- no bytes are a dash
pub none_added : (new out bytes : List ℕ) → (length bytes == 0) ≡ true → new ≡ out ++ 32 ∷ codes "-" → new ≡ out ++ 32
    ∷ bytes_text bytes
none_added new out bytes none e = rw (nil_from_length bytes (eqb-true (length bytes) 0 none)) e

-- flags behind a space, whose digits are those of their bytes
pub flags_added : (new out spaced bytes : List ℕ) (bits flags : ℕ) → spaced ≡ out ++ 32 ∷ [] → bits ≡ flags → bytes
    ≡ to_be_bytes w32 bits
    → new ≡ spaced ++ hex_text bytes → new ≡ out ++ 32 ∷ flags_text flags
unfolding flags_text
flags_added new out spaced bytes bits flags e same told grown = rw (grown, told, same, e, append_assoc) refl

-- one more byte of a name
pub name_more : (out done name shown new : List ℕ) (i : ℕ) → shown ≡ name → i < length shown → done ≡ out
    ++ flat_map byte_text (take i name)
    → new ≡ done ++ byte_text (get_or shown i 0) → new ≡ out ++ flat_map byte_text (take (i + 1) name)
name_more out done name shown new i same lt so_far grown =
    let within : i < length name = subst (λ xs. i < length xs) same lt in
    rw (grown, so_far, same, take_more name i 0 within) (flat_map_more byte_text out (take i name) (get_or name i 0))

-- all bytes of a name
pub name_all : (out done name shown : List ℕ) (i : ℕ) → shown ≡ name → length shown ≤ i → done ≡ out
    ++ flat_map byte_text (take i name)
    → done ≡ out ++ name_text name
name_all out done name shown i same le so_far =
    let past : length name ≤ i = subst (λ xs. length xs ≤ i) same le in so_far
    ∙ ap (λ xs. out ++ flat_map byte_text xs) (take_all i name past)
