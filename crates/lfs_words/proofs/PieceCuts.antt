-- The pieces of a text: the first ends where the separator stands first: `pieces_some`, `pieces_none` and
-- `behind_separator`, for `words::cut_at`. No separator stands before the place that the search gives (`none_before`),
-- so the first piece is the text up to there, and the others are the pieces of what is behind; without one the text is
-- a single piece.
use Rattle.std.proofs.Common.{◌≡◌, ℕ, ◌+◌, ◌<◌, ◌≤◌, ◌==◌, nat_lt, Bool, true, false, List, [], ◌∷◌, length, take, drop}
use Rattle.std.proofs.Common.{get_or, None, Some, refl, sym, ap, ◌∙◌, arith, length-take}
use Rattle.std.specs.List.{All, position, position_or_len, slice_range, slice_split}
use Rattle.std.proofs.lemmas.Bool.{ltb-false, eqb-true}
use Rattle.std.proofs.lemmas.Grind.{common_steps}
use Rattle.std.proofs.lemmas.List.Quantifiers.{position-Some}
use Rattle.std.proofs.lemmas.List.Splits.{slice_split_at, slice_split_none}
use Rattle.std.proofs.lemmas.List.Sums.{fails_before_first}
use Rattle.std.proofs.lemmas.Str.{IsCharBoundary-after_ascii}
use Rattle.std.specs.Str.{IsCharBoundary, IsUtf8}
use Rattle.lfs_words.proofs.LineCuts.{cut_at}

none_before : (p : ℕ → Bool) (text : List ℕ) (at : ℕ) → ((k : ℕ) → k < at → p (get_or text k 0) ≡ false)
    → All (λ b. p b ≡ false) (take at text)
none_before p text at earlier k d lt =
    let below : k < at = omega (arith, length-take {A = ℕ}) in
    let here : get_or (take at text) k d ≡ get_or text k 0 = grind (arith, common_steps) in
    ap p here ∙ earlier k below

-- the first piece and those behind it
pub pieces_some : (b : ℕ) (text first rest : List ℕ) (at : ℕ) → position (λ x. x == b) text ≡ Some at
    → first ≡ slice_range text 0 at → rest ≡ drop (at + 1) text
    → slice_split (λ x. x == b) text ≡ first ∷ slice_split (λ x. x == b) rest
pieces_some b text first rest at e is_first is_rest =
    let found = position-Some (λ x. x == b) text at 0 e in
    let whole = cut_at text at b found.0 (eqb-true _ _ found.1) in
    let front : take at text ≡ first = grind (arith, common_steps) in
    ap (slice_split (λ x. x == b)) whole
    ∙ slice_split_at (λ x. x == b) (take at text) b (drop (at + 1) text) (none_before (λ x. x == b) text at found.2)
    (ap (λ c. c == b) (sym (eqb-true _ _ found.1)) ∙ found.1)
    ∙ ap (λ w. w ∷ slice_split (λ x. x == b) (drop (at + 1) text)) front
    ∙ ap (λ w. first ∷ slice_split (λ x. x == b) w) (sym is_rest)

none_at : (b : ℕ) (text : List ℕ) (c : Bool) → nat_lt (position_or_len (λ x. x == b) text) (length text) ≡ c
    → position (λ x. x == b) text ≡ None → All (λ x. (x == b) ≡ false) text
none_at b text true h e = absurd (cc)
none_at b text false h e =
    let le : length text ≤ position_or_len (λ x. x == b) text = ltb-false _ _ h in
    λ k d lt. fails_before_first (λ x. x == b) text k d (omega arith)

-- a text without a separator is one piece
pub pieces_none : (b : ℕ) (text : List ℕ) → position (λ x. x == b) text ≡ None → slice_split (λ x. x == b) text ≡ text
    ∷ []
pieces_none b text e = slice_split_none (λ x. x == b) text (none_at b text _ refl e)

-- behind a separator that is a character of one byte a character begins
pub behind_separator : (b : ℕ) (text : List ℕ) (at : ℕ) → IsUtf8 text → b < 128 → position (λ x. x == b) text ≡ Some at
    → IsCharBoundary text (at + 1)
behind_separator b text at utf8 low e =
    let found = position-Some (λ x. x == b) text at 0 e in
    let here : get_or text at 0 ≡ b = eqb-true _ _ found.1 in
    IsCharBoundary-after_ascii text at utf8 found.0 (omega arith)
