-- The place of a fault in a line is found from one byte or word to the next: `byte_on` and `byte_here`, `bare_on` and
-- `bare_here`, `unread_on` and `unread_here`, each for the loop of its function (`push_byte_place`, `push_bare_place`,
-- `push_unread_place`). What is told of the rest of the line from here is what is told of the whole, so each step
-- passes what is good, with its column, and stops at the first that isn't. Where none is found nothing is told
-- (`byte_none` and its like); a text that told two places would need another invariant.
use Rattle.std.proofs.Common.{◌≡◌, ℕ, ◌+◌, ◌<◌, ◌≤◌, true, false, List, [], ◌∷◌, ◌++◌, length, map, drop, get_or, Bor, refl}
use Rattle.std.proofs.Common.{◌∙◌, OnOk, Result}
use Rattle.std.proofs.Math.ListN.{drop_of_length-le}
use Rattle.std.proofs.lemmas.List.{append-nil, drop_more, get_or-map, length-map}
use Rattle.std.specs.Prelude.{codes}
use Rattle.lfs_words.specs.Wording.{is_bare}
use Rattle.lfs_script.specs.Operands.{fits, operand_at, operand_text}
use Rattle.lfs_script.specs.Places.{bare_place, beyond, byte_place, byte_text, further, is_printable_byte, unread_place}
use Rattle.lfs_script.specs.Places.{word_text}
use Rattle.lfs_script.specs.declared.operands.Operand.{Operand}
use Rattle.lfs_script.specs.declared.operands.Operands.{Operands}

-- a text that is appended to what was there is the whole that is asked for
pub appended : {T E : Type 0} (result : Result T E) (new was old text whole : List ℕ) → was ≡ old → whole ≡ text
    → OnOk result (new ≡ was ++ text) → OnOk result (new ≡ old ++ whole)
appended result new was old text whole same is grown = rw (is, ← same) grown

-- nothing is appended
pub unchanged : (now old whole : List ℕ) → now ≡ old → whole ≡ [] → now ≡ old ++ whole
unchanged now old whole same is = rw (is, append-nil) same

-- a byte that is printable
pub byte_on : (line : List ℕ) (i column d : ℕ) → i < length line → is_printable_byte (get_or line i d) ≡ true
    → byte_place column (drop i line) ≡ byte_place (further column 1) (drop (i + 1) line)
unfolding byte_place
byte_on line i column d lt printable = rw (drop_more line i d lt, printable) refl

-- the first that isn't
pub byte_here : (line : List ℕ) (i column d : ℕ) → i < length line → is_printable_byte (get_or line i d) ≡ false
    → byte_place column (drop i line) ≡ byte_text column (get_or line i d)
unfolding byte_place
byte_here line i column d lt printable = rw (drop_more line i d lt, printable) refl

-- none
pub byte_none : (line : List ℕ) (i column : ℕ) → length line ≤ i → byte_place column (drop i line) ≡ []
unfolding byte_place
byte_none line i column le = rw (drop_of_length-le line le) refl

-- the words behind references
abbrev pub seen : List (Bor (List ℕ)) → List (List ℕ)
seen refs = map (λ x. x.now) refs

first_of : (refs : List (Bor (List ℕ))) (i : ℕ) (d : Bor (List ℕ)) → i < length refs → drop i (seen refs)
    ≡ (get_or refs i d).now ∷ drop (i + 1) (seen refs)
first_of refs i d lt =
    let within : i < length (seen refs) = rw length-map lt in
    drop_more (seen refs) i [] within ∙ rw (get_or-map (λ (x : Bor (List ℕ)). x.now) refs i d [] lt) refl

none_of : (refs : List (Bor (List ℕ))) (i : ℕ) → length refs ≤ i → drop i (seen refs) ≡ []
none_of refs i le =
    let past : length (seen refs) ≤ i = rw length-map le in
    drop_of_length-le (seen refs) past

-- a word that has bytes
pub bare_on : (refs : List (Bor (List ℕ))) (i column : ℕ) (d : Bor (List ℕ)) → i < length refs
    → is_bare ((get_or refs i d).now) ≡ false
    → bare_place column (drop i (seen refs)) ≡ bare_place (beyond column ((get_or refs i d).now)) (drop (i + 1) (seen refs))
unfolding bare_place
bare_on refs i column d lt bare = rw (first_of refs i d lt, bare) refl

-- the first that has none
pub bare_here : (refs : List (Bor (List ℕ))) (i column : ℕ) (d : Bor (List ℕ)) → i < length refs
    → is_bare ((get_or refs i d).now) ≡ true
    → bare_place column (drop i (seen refs))
    ≡ word_text column ((get_or refs i d).now) (codes "one space stands between words, none elsewhere")
unfolding bare_place
bare_here refs i column d lt bare = rw (first_of refs i d lt, bare) refl

-- none
pub bare_none : (refs : List (Bor (List ℕ))) (i column : ℕ) → length refs ≤ i → bare_place column (drop i (seen refs)) ≡ []
unfolding bare_place
bare_none refs i column le = rw (none_of refs i le) refl

-- a word that is read
pub unread_on : (operands : Operands) (refs : List (Bor (List ℕ))) (i column : ℕ) (d : Bor (List ℕ)) (operand : Operand)
    → i < length refs → operand ≡ operand_at operands i → fits operand ((get_or refs i d).now) ≡ true
    → unread_place operands i column (drop i (seen refs))
    ≡ unread_place operands (i + 1) (beyond column ((get_or refs i d).now)) (drop (i + 1) (seen refs))
unfolding unread_place
unread_on operands refs i column d operand lt there read = rw (first_of refs i d lt, ← there, read) refl

-- the first that isn't
pub unread_here : (operands : Operands) (refs : List (Bor (List ℕ))) (i column : ℕ) (d : Bor (List ℕ)) (operand : Operand)
    (text : List ℕ) → i < length refs → operand ≡ operand_at operands i → fits operand ((get_or refs i d).now) ≡ false
    → text ≡ operand_text operand
    → unread_place operands i column (drop i (seen refs)) ≡ word_text column ((get_or refs i d).now) text
unfolding unread_place
unread_here operands refs i column d operand text lt there read told =
    rw (told, first_of refs i d lt, ← there, read) refl

-- none
pub unread_none : (operands : Operands) (refs : List (Bor (List ℕ))) (i column : ℕ) → length refs ≤ i
    → unread_place operands i column (drop i (seen refs)) ≡ []
unfolding unread_place
unread_none operands refs i column le = rw (none_of refs i le) refl
