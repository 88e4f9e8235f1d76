-- A path is read back from its text: `path_back` for `spell_path`, `path_read_back` for BackNames of
-- `lfs_journal_lines`; `spells_more`, `slashed_added` and `escaped_added` carry the loops that write it. A name without
-- a fault has no slash and isn't empty (`fine_name`), so the text is split at slashes into just the names
-- (`parts_slashed`, induction on the names), and the root is the one path without names. The limit of 1,024 bytes is
-- asked of the whole text, as its reader does; a name that might have a slash would break the split.
use Rattle.std.proofs.Common.{◌≡◌, ℕ, ◌+◌, ◌<◌, ◌≤◌, ◌==◌, Bool, true, false, cond, List, [], ◌∷◌, ◌++◌, length, map}
use Rattle.std.proofs.Common.{take, get_or, Option, None, Some, Ok, refl, ap, sym, subst, ◌∙◌, inl, inr, arith}
use Rattle.std.proofs.Common.{length-append, append_assoc}
use Rattle.std.specs.Prelude.{nat_lt}
use Rattle.std.specs.List.{All, list_all, list_any, slice_split}
use Rattle.std.proofs.lemmas.Bool.{both_ways, cases_Bool, le-ltb, ne_eqb, eqb-false}
use Rattle.std.proofs.lemmas.List.{append-nil, take_more, map-append}
use Rattle.std.proofs.lemmas.List.Folds.{list_all-append, list_any_at}
use Rattle.std.proofs.lemmas.List.Splits.{slice_split_at, slice_split_none}
use Rattle.lfs_types.specs.Naming.{is_dots, name_fault}
use Rattle.lfs_types.specs.declared.name.BadName.{BadName}
use Rattle.lfs_types.specs.declared.name.BadName.TheVariants.{Empty, Long, Slash, Nul, Dot}
use Rattle.lfs_types.specs.Paths.{names_fault, names_of_text, or_later, parts, path_fault, path_text, slashed}
use Rattle.lfs_words.proofs.Parts.{path_there}
use Rattle.lfs_words.specs.NameText.{name_text}
use Rattle.lfs_words.specs.PathText.{can_spell, path_of, path_word}
use Rattle.lfs_words.specs.Spelling.{ReadsBack}
use Rattle.lfs_words.specs.Wording.{is_word_byte}
use Rattle.lfs_words.proofs.WordBytes.{path_text_word}

-- the tests of a name, one after another
faults : (e l s n d : Bool) → cond e (Some Empty)
    (cond l (Some Long) (cond s (Some Slash) (cond n (Some Nul) (cond d (Some Dot) None)))) ≡ None → (e ≡ false)
    × (s ≡ false)
faults true l s n d h = absurd (cc)
faults false true s n d h = absurd (cc)
faults false false true n d h = absurd (cc)
faults false false false n d h = (refl, refl)

fine_name : (name : List ℕ) → name_fault name ≡ None → ((length name == 0) ≡ false)
    × (list_any (λ b. b == 47) name ≡ false)
fine_name name h = faults (length name == 0) (nat_lt 255 (length name)) (list_any (λ b. b == 47) name)
    (list_any (λ b. b == 0) name) (is_dots name) h

none_passes : (p : ℕ → Bool) (xs : List ℕ) → list_any p xs ≡ false → All (λ x. p x ≡ false) xs
none_passes p xs h =
    λ k d lt.
    elim (cases_Bool (p (get_or xs k d))) [
      | inl passes ↦ absurd (both_ways (list_any p xs) h (list_any_at p xs k d lt passes))
      | inr fails ↦ fails
    ]

names_parts : (k : ℕ) (name : List ℕ) (names : List (List ℕ)) → names_fault k (name ∷ names) ≡ None
    → (name_fault name ≡ None) × (names_fault (k + 1) names ≡ None)
names_parts k name names h = first (name_fault name) refl h
  where
    first : (fault : Option BadName) → name_fault name ≡ fault → names_fault k (name ∷ names) ≡ None
        → (name_fault name ≡ None) × (names_fault (k + 1) names ≡ None)
    first None e h = (e, ap (λ f. or_later k f (names_fault (k + 1) names)) (sym e) ∙ h)
    first (Some fault) e h =
        let bad : or_later k (Some fault) (names_fault (k + 1) names)
        ≡ None = ap (λ f. or_later k f (names_fault (k + 1) names)) (sym e) ∙ h in
        absurd (cc)

parts_slashed : (k : ℕ) (name : List ℕ) (names : List (List ℕ)) → names_fault k (name ∷ names) ≡ None
    → parts (name ++ slashed names) ≡ name ∷ names
parts_slashed k name [] h =
    let fine = fine_name name (names_parts k name [] h).0 in
    rw (append-nil name) (slice_split_none (λ b. b == 47) name (none_passes (λ b. b == 47) name fine.1))
parts_slashed k name (next ∷ names) h =
    let both = names_parts k name (next ∷ names) h in
    let fine = fine_name name both.0 in
    slice_split_at (λ b. b == 47) name 47 (next ++ slashed names) (none_passes (λ b. b == 47) name fine.1) refl
    ∙ ap (λ xs. name ∷ xs) (parts_slashed (k + 1) next names both.1)

pub path_read_back : (names : List (List ℕ)) → names_fault 1 names ≡ None → length (slashed names) ≤ 1024
    → path_of (path_text names) ≡ Ok names
path_read_back [] fine few = refl
path_read_back (name ∷ names) fine few =
    let some = (fine_name name (names_parts 1 name names fine).0).0 in
    let full : length name ≡ 0 → ⊥ = eqb-false (length name) 0 some in
    let long : length (name ++ slashed names) ≡ length name
    + length (slashed names) = length-append name (slashed names) in
    let fits : nat_lt 1024 (length (slashed (name ∷ names)))
    ≡ false = le-ltb 1024 (length (slashed (name ∷ names))) few in
    let one : (length (slashed (name ∷ names)) == 1)
    ≡ false = ne_eqb (length (slashed (name ∷ names))) 1 (λ e. full (omega arith)) in
    let split : slice_split (λ b. b == 47) (name ++ slashed names) ≡ name ∷ names = parts_slashed 1 name names fine in
    let named : names_of_text (slashed (name ∷ names)) ≡ name ∷ names = rw one split in
    let fault : path_fault (slashed (name ∷ names))
    ≡ None = rw fits (subst (λ xs. names_fault 1 xs ≡ None) (sym named) fine) in
    path_there (slashed (name ∷ names)) (name ∷ names) fault (sym named)

-- one more name has no fault
pub names_more : (k : ℕ) (names : List (List ℕ)) (name : List ℕ) → names_fault k names ≡ None → name_fault name ≡ None
    → names_fault k (names ++ name ∷ []) ≡ None
names_more k [] name before fine = ap (λ f. or_later k f None) fine
names_more k (first ∷ names) name before fine =
    let both = names_parts k first names before in
    ap (λ f. or_later k f (names_fault (k + 1) (names ++ name ∷ []))) both.0 ∙ names_more (k + 1) names name both.1 fine

pub slashed_more : (names : List (List ℕ)) (name : List ℕ) → slashed (names ++ name ∷ []) ≡ slashed names ++ 47 ∷ name
slashed_more [] name = ap (λ xs. 47 ∷ xs) (append-nil name)
slashed_more (first ∷ names) name =
    ap (λ xs. 47 ∷ (first ++ xs)) (slashed_more names name)
    ∙ ap (λ xs. 47 ∷ xs) (sym (append_assoc first (slashed names) (47 ∷ name)))

-- one more name that a script can spell, without a fault
pub spells_more : (names : List (List ℕ)) (i : ℕ) (name : List ℕ) (result : Bool) → i < length names → name
    ≡ get_or names i name
    → (can_spell (take i names) ≡ true) × (names_fault 1 (take i names) ≡ None)
    → result ≡ list_all is_word_byte name → result ≡ true → name_fault name ≡ None
    → (can_spell (take (i + 1) names) ≡ true) × (names_fault 1 (take (i + 1) names) ≡ None)
spells_more names i name result lt here so_far said passes fine =
    let more : take (i + 1) names ≡ take i names ++ name ∷ [] = take_more names i name lt
    ∙ ap (λ n. take i names ++ n ∷ []) (sym here) in
    let one : can_spell (name ∷ []) ≡ true = rw (sym said ∙ passes) refl in
    let all : can_spell (take i names ++ name ∷ []) ≡ true =
    list_all-append (λ n. list_all is_word_byte n) (take i names) (name ∷ []) ∙ rw (so_far.0, one) refl in
    rw more (all, names_more 1 (take i names) name so_far.1 fine)

-- one more name is appended
pub slashed_added : (out done middle new : List ℕ) (mark : List ℕ) (names : List (List ℕ)) (i : ℕ) (name text : List ℕ)
    → i < length names → name ≡ get_or names i name
    → text ≡ name → done ≡ out ++ (mark ++ slashed (take i names)) → middle ≡ done ++ 47 ∷ [] → new ≡ middle ++ text
    → new ≡ out ++ (mark ++ slashed (take (i + 1) names))
slashed_added out done middle new mark names i name text lt here same so_far slash grown =
    let more : take (i + 1) names ≡ take i names ++ name ∷ [] = take_more names i name lt
    ∙ ap (λ n. take i names ++ n ∷ []) (sym here) in
    rw (grown, slash, so_far, same, more, slashed_more (take i names) name) (simp append_assoc)

-- and one as a List's answer has it
pub escaped_added : (out done middle new : List ℕ) (mark : List ℕ) (names : List (List ℕ)) (i : ℕ) (name : List ℕ)
    → i < length names → name ≡ get_or names i name
    → done ≡ out ++ (mark ++ slashed (map name_text (take i names))) → middle ≡ done ++ 47 ∷ [] → new ≡ middle
    ++ name_text name
    → new ≡ out ++ (mark ++ slashed (map name_text (take (i + 1) names)))
escaped_added out done middle new mark names i name lt here so_far slash grown =
    let more : take (i + 1) names ≡ take i names ++ name ∷ [] = take_more names i name lt
    ∙ ap (λ n. take i names ++ n ∷ []) (sym here) in
    rw (grown, slash, so_far, more, map-append, slashed_more (map name_text (take i names)) (name_text name))
    (simp append_assoc)

-- a path that a script can spell is read back
pub path_back : (names : List (List ℕ)) → names_fault 1 names ≡ None → length (slashed names) ≤ 1024 → can_spell names
    ≡ true
    → ReadsBack path_of (path_word names) names
path_back names fine few spells =
    let e : path_word names ≡ path_text names = rw spells refl in
    let P : List ℕ → Type 0 = λ w. ReadsBack path_of w names in
    subst P (sym e) (record { word = path_text_word names spells; back = path_read_back names fine few })
