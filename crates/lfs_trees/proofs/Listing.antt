-- Entries of a directory, one after another: `below_further`, `by_block` and `none_at_first` for the loops over a
-- directory's blocks, `again_twice` for Refuting, `found_behind`, `other_behind` and `named_behind` for Entering and
-- Parts. A search takes the first entry with the name; so an entry behind others is found if none of them has its name,
-- and changes nothing for any other name. A list in which names differ has no entry whose name stood before.
use Rattle.std.proofs.Common.{◌≡◌, ℕ, ◌+◌, ◌/◌, ◌%◌, ◌<◌, Bool, true, false, List, [], ◌∷◌, ◌++◌, length, replicate}
use Rattle.std.proofs.Common.{None, Some, refl, sym, ap, subst, ◌∙◌, ⊎_elim, arith, add-one}
use Rattle.std.specs.Prelude.{is_some, bytes_eq, ◌||◌}
use Rattle.std.proofs.lemmas.Bool.{cases_Bool}
use Rattle.lfs_dirs.specs.Directory.{Entry, AreEntries, has_name, number_in}
use Rattle.lfs_dirs.specs.Reading.{entries_of}
use Rattle.lfs_dirs.proofs.Changes.{AreEntries-middle, number_in-here, number_in-later, number_in-append, has_name-same}
use Rattle.lfs_dirs.proofs.Changes.{has_name-other}
use Rattle.lfs_calls.specs.Content.{all_entries, block_at, entries_below}
use Rattle.lfs_calls.proofs.Listings.{entries_from, old_listed, behind}
use Rattle.lfs_trees.specs.Faults.{StandsAgain}

-- an entry of which the name stood before is none of a list whose names differ
pub again_twice : (es : List Entry) (number : ℕ) → StandsAgain es number → AreEntries es → ⊥
again_twice es number h are =
    let none = (AreEntries-middle h.before (number, h.name) h.behind (subst AreEntries h.parts are)).1 in
    let some = h.again in
    absurd (cc (ap is_some none))

-- an entry behind others is found under its name, if none of them has it
pub found_behind : (e : Entry) (xs ys : List Entry) → number_in e.1 xs ≡ None → number_in e.1 (xs ++ e ∷ ys) ≡ Some e.0
found_behind e xs ys none = number_in-append e.1 xs (e ∷ ys) none ∙ number_in-here e.1 e ys (has_name-same e.1 e refl)

-- with an entry behind others, other names have the numbers that they had
pub other_behind : (name : List ℕ) (e : Entry) (xs : List Entry) → (e.1 ≡ name → ⊥) → number_in name (xs ++ e ∷ [])
    ≡ number_in name xs
other_behind name e [] apart = number_in-later name e [] (has_name-other name e apart)
other_behind name e (x ∷ xs) apart = ⊎_elim
    (λ t. number_in-here name x (xs ++ e ∷ []) t ∙ sym (number_in-here name x xs t))
    (λ t. number_in-later name x (xs ++ e ∷ []) t ∙ other_behind name e xs apart ∙ sym (number_in-later name x xs t))
    (cases_Bool (has_name name x))

-- the names with one more
pub named_behind : (name : List ℕ) (e : Entry) (xs : List Entry)
    → is_some (number_in name (xs ++ e ∷ [])) ≡ (bytes_eq e.1 name || is_some (number_in name xs))
named_behind name e [] = ⊎_elim
    (λ t. ap is_some (number_in-here name e [] t) ∙ sym (ap (λ b. b || is_some (number_in name [])) t))
    (λ t. ap is_some (number_in-later name e [] t) ∙ sym (ap (λ b. b || is_some (number_in name [])) t))
    (cases_Bool (has_name name e))
named_behind name e (x ∷ xs) = ⊎_elim
    (λ t. ap is_some (number_in-here name x (xs ++ e ∷ []) t)
    ∙ sym (or_true _ _ (ap is_some (number_in-here name x xs t))))
    (λ t. ap is_some (number_in-later name x (xs ++ e ∷ []) t) ∙ named_behind name e xs
    ∙ ap (λ o. bytes_eq e.1 name || is_some o) (sym (number_in-later name x xs t)))
    (cases_Bool (has_name name x))
  where
    or_true : (a b : Bool) → b ≡ true → (a || b) ≡ true
    or_true true b h = refl
    or_true false b h = h

-- the entries of one block more
pub below_further : (bytes : List ℕ) (k : ℕ) → entries_below bytes (k + 1) ≡ entries_below bytes k
    ++ entries_of (block_at bytes k)
unfolding entries_below
below_further bytes k = rw add-one refl

pub none_at_first : (bytes : List ℕ) → entries_below bytes 0 ≡ []
unfolding entries_below
none_at_first bytes = refl

-- all entries, by those before a block, in it and behind it
pub by_block : (bytes : List ℕ) (k : ℕ) → length bytes % 512 ≡ 0 → k < length bytes / 512
    → (behind : List Entry) × (all_entries bytes ≡ entries_below bytes (k + 1) ++ behind)
by_block bytes k whole within =
    let block : List ℕ = replicate 512 0 in (
      entries_from bytes (k + 1) (behind bytes k block refl whole (omega arith)),
      old_listed bytes k block refl whole (omega arith)
          ∙ ap (λ es. es ++ entries_from bytes (k + 1) (behind bytes k block refl whole (omega arith)))
          (sym (below_further bytes k)),
    )
