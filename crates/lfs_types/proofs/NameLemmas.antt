-- Names read one after another: `reads_on`, for the loop of `path::names_of`. The names so far and those of the rest
-- are the text's names, and the first fault of these is the first of the rest with the components counted on, as none
-- of those so far has one. A name more is the rest's first part, cut at its slash, which leaves a shorter rest
-- (`bounded`). The first name has no fault (`StartsWellOrNone`).
use Rattle.std.proofs.Common.{◌≤◌, ◌+◌, length, arith, append_assoc, ◌≡◌, ◌++◌, ◌∷◌, [], List, ℕ, None, Some}
use Rattle.std.proofs.Common.{ap, sym, subst, ◌∙◌}
use Rattle.lfs_types.specs.Naming.{name_fault}
use Rattle.lfs_types.specs.Paths.{IsCut, TakesName, names_fault, or_later, parts}

-- there is no name yet, or the first has no fault
abbrev pub StartsWellOrNone : List (List ℕ) → Type 0
StartsWellOrNone [] = Unit {0}
StartsWellOrNone (name ∷ names) = name_fault name ≡ None

pub starts_append : (names : List (List ℕ)) (name : List ℕ) → StartsWellOrNone names → name_fault name ≡ None
    → StartsWellOrNone (names ++ name ∷ [])
starts_append [] name before fine = fine
starts_append (first ∷ names) name before fine = before

-- the names so far and those of the rest are those of the text, and neither has had a fault
pub record Reading (text rest : List ℕ) (names : List (List ℕ)) (component : ℕ) : Type 0 where
  pub all : parts text ≡ names ++ parts rest
  pub faults : names_fault 1 (parts text) ≡ names_fault component (parts rest)
  pub bounded : component + length rest ≤ length text + 1

-- one more name is read
pub reads_on : (text rest part behind : List ℕ) (names more : List (List ℕ)) (k : ℕ) → Reading text rest names k
    × StartsWellOrNone names
    → IsCut rest part (Some behind) → name_fault part ≡ None → more ≡ names ++ part ∷ []
    → Reading text behind more (k + 1) × StartsWellOrNone more
reads_on text rest part behind names more k (r, before) cut fine same = (
  record {
    all = r.all ∙ ap (λ ps. names ++ ps) cut.0 ∙ sym (append_assoc names (part ∷ []) (parts behind))
        ∙ ap (λ xs. xs ++ parts behind) (sym same);
    faults = r.faults ∙ ap (names_fault k) cut.0 ∙ later fine;
    bounded = let cutting : length part + 1 + length behind ≡ length rest = cut.1 in let far : k
        + length rest ≤ length text + 1 = r.bounded in omega arith;
  },
  subst StartsWellOrNone (sym same) (starts_append names part before fine),
)
  where
    later : name_fault part ≡ None → names_fault k (part ∷ parts behind) ≡ names_fault (k + 1) (parts behind)
    later fine = ap (λ f. or_later k f (names_fault (k + 1) (parts behind))) fine

-- a name that is taken goes on the reading
pub takes_on : (text rest behind : List ℕ) (names more : List (List ℕ)) (k : ℕ) → Reading text rest names k
    × StartsWellOrNone names → TakesName rest names more (Some behind)
    → Reading text behind more (k + 1) × StartsWellOrNone more
takes_on text rest behind names more k reading taken =
    reads_on text rest taken.0 behind names more k reading taken.1 taken.2 taken.3
