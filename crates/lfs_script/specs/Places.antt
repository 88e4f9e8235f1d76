-- Where the fault of a line stands, and what was expected there, as text.
use Rattle.std.specs.Prelude.{ℕ, ◌+◌, ◌-◌, ◌^◌, min, ◌==◌, ◌&&◌, nat_le, Bool, List, [], ◌∷◌, ◌++◌, codes, decimal}
use Rattle.std.specs.Prelude.{length, take, Option, None, Some, if◌then◌else◌}
use Rattle.std.specs.List.{list_any}
use Rattle.std.specs.Result.{is_ok}
use Rattle.lfs_words.specs.Callers.{caller_said}
use Rattle.lfs_words.specs.Lines.{is_printable, is_skipped}
use Rattle.lfs_words.specs.Wording.{is_bare, words_of}
use Rattle.lfs_script.specs.Forms.{form_text, is_formed}
use Rattle.lfs_script.specs.Operands.{fits, operand_at, operand_text, operands_of}
use Rattle.lfs_script.specs.Verbs.{verb_of}
use Rattle.lfs_script.specs.declared.operands.Operands.{Operands}
use Rattle.lfs_script.specs.declared.verb.Verb.{Verb}
use Rattle.lfs_script.specs.declared.verb.Verb.TheVariants as verb

-- so many columns on; they are counted up to 2^64 - 1
abbrev pub further : ℕ → ℕ → ℕ
further column bytes = min (column + bytes) (2 ^ 64 - 1)

-- the column behind a word and a space that begin at this one
abbrev pub beyond : ℕ → List ℕ → ℕ
beyond column word = further column (length word + 1)

-- the bytes of a word that are told
abbrev pub shown : List ℕ → List ℕ
shown word = if nat_le (length word) 40 then word else take 40 word ++ codes ".."

-- a word, its column and what was expected there
abbrev pub word_text : ℕ → List ℕ → List ℕ → List ℕ
word_text column word expected =
    codes " '" ++ shown word ++ codes "' at" ++ 32 ∷ decimal column ++ codes ": " ++ expected

-- a byte that is not printable
abbrev pub byte_name : ℕ → List ℕ
byte_name byte =
    if byte == 9 then codes ": a tab, where one space stands between words" else
    if byte == 13 then codes ": a carriage return, where a line feed alone ends a line" else
    codes ": a byte outside 20 to 7e"

abbrev pub byte_text : ℕ → ℕ → List ℕ
byte_text column byte = codes " at" ++ 32 ∷ decimal column ++ byte_name byte

-- whether a byte is printable
abbrev pub is_printable_byte : ℕ → Bool
is_printable_byte byte = nat_le 32 byte && nat_le byte 126

-- the first byte that is not printable, of bytes that begin at this column
unfoldable pub byte_place : ℕ → List ℕ → List ℕ
byte_place column [] = []
byte_place column (byte ∷ bytes) =
    if is_printable_byte byte then byte_place (further column 1) bytes else byte_text column byte

-- the first word that has no bytes, of words that begin at this column
unfoldable pub bare_place : ℕ → List (List ℕ) → List ℕ
bare_place column [] = []
bare_place column (word ∷ words) =
    if is_bare word then word_text column word (codes "one space stands between words, none elsewhere")
    else bare_place (beyond column word) words

-- the first word that is not read as what stands at its place behind a verb, where the first of these is this one
unfoldable pub unread_place : Operands → ℕ → ℕ → List (List ℕ) → List ℕ
unread_place operands place column [] = []
unread_place operands place column (word ∷ words) =
    if fits (operand_at operands place) word then unread_place operands (place + 1) (beyond column word) words
    else word_text column word (operand_text (operand_at operands place))

-- the fault of the words behind `as`
abbrev pub caller_place : ℕ → List (List ℕ) → List ℕ
caller_place column words =
    if is_ok (caller_said words) then [] else unread_place (operands_of verb.As (length words)) 0 column words

-- the fault of the words behind a verb, which are as many as stand there
abbrev pub behind_place : ℕ → Verb → List (List ℕ) → List ℕ
behind_place column verb.As words = caller_place column words
behind_place column verb.Session words = unread_place (operands_of verb.Session (length words)) 0 column words
behind_place column (verb.User kind) words = unread_place (operands_of (verb.User kind) (length words)) 0 column words
behind_place column (verb.Cleaner kind) words =
    unread_place (operands_of (verb.Cleaner kind) (length words)) 0 column words
behind_place column verb.Pass words = unread_place (operands_of verb.Pass (length words)) 0 column words

-- the fault of words, of which the first may be a verb
abbrev pub found_place : ℕ → List ℕ → Option Verb → List (List ℕ) → List ℕ
found_place column first None words = word_text column first (codes "no line begins so")
found_place column first (Some verb) words =
    if is_formed verb words then behind_place (beyond column first) verb words
    else word_text column first (form_text verb)

abbrev pub verb_place : ℕ → List (List ℕ) → List ℕ
verb_place column [] = []
verb_place column (first ∷ words) = found_place column first (verb_of first) words

-- the fault of words
abbrev pub words_place : ℕ → List (List ℕ) → List ℕ
words_place column words = if list_any is_bare words then bare_place column words else verb_place column words

-- the fault of a line of printable bytes
abbrev pub text_place : ℕ → List ℕ → List ℕ
text_place column line = if is_skipped line then [] else words_place column (words_of line)

-- Where the fault of a line stands, which is given without its line feed and behind so many bytes: a word, its column,
-- counted from 1, and what was expected there. Nothing of a line without a fault.
unfoldable pub place_text : ℕ → List ℕ → List ℕ
place_text before line =
    if is_printable line then text_place (further before 1) line else byte_place (further before 1) line
