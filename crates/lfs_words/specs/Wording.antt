-- The words of a line.
use Rattle.std.specs.Prelude.{ℕ, ◌==◌, ◌&&◌, nat_le, not, Bool, List, [], ◌∷◌, length, Result, Ok, Err}
use Rattle.std.specs.List.{flat_map, list_all, slice_split}
use Rattle.lfs_words.specs.declared.fault.FaultKind.{FaultKind}
use Rattle.lfs_words.specs.declared.fault.FaultKind.TheVariants.{Words}

-- what stands between the spaces of a line
abbrev pub words_of : List ℕ → List (List ℕ)
words_of line = slice_split (λ b. b == 32) line

-- words, each behind a space
abbrev pub spaced : List (List ℕ) → List ℕ
spaced words = flat_map (λ word. 32 ∷ word) words

-- whether a word has no bytes
abbrev pub is_bare : List ℕ → Bool
is_bare word = length word == 0

-- whether a byte may stand in a word: from an exclamation mark to a tilde
abbrev pub is_word_byte : ℕ → Bool
is_word_byte b = nat_le 33 b && nat_le b 126

-- whether bytes may be a word of a line
abbrev pub is_word : List ℕ → Bool
is_word word = not (is_bare word) && list_all is_word_byte word

-- no word
abbrev pub no_word : List (List ℕ) → Result (List (List ℕ)) FaultKind
no_word [] = Ok []
no_word (first ∷ more) = Err Words

-- a lone word
abbrev pub one_word : List (List ℕ) → Result (List ℕ) FaultKind
one_word [] = Err Words
one_word (first ∷ []) = Ok first
one_word (first ∷ second ∷ more) = Err Words

-- two words
abbrev pub two_words : List (List ℕ) → Result (List ℕ × List ℕ) FaultKind
two_words [] = Err Words
two_words (first ∷ []) = Err Words
two_words (first ∷ second ∷ []) = Ok (first, second)
two_words (first ∷ second ∷ third ∷ more) = Err Words

-- three words
abbrev pub three_words : List (List ℕ) → Result (List ℕ × List ℕ × List ℕ) FaultKind
three_words [] = Err Words
three_words (first ∷ []) = Err Words
three_words (first ∷ second ∷ []) = Err Words
three_words (first ∷ second ∷ third ∷ []) = Ok (first, second, third)
three_words (first ∷ second ∷ third ∷ fourth ∷ more) = Err Words
