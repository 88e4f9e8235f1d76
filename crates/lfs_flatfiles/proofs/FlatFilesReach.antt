-- Changes that may be asked for name places of the list and end within a file's limit: `all_in_reach` for `apply`,
-- `content_below`, `end_of_file` and `used_within` for `make_change`. Each file of the content is at a place of the
-- list, and each change keeps it so, by induction on the changes as they are made (`below_changed`). A Put ends where
-- the spliced bytes end or before (`end_within`), so the room made for it is within the limit; a change that named a
-- number without a file, other than Make, would have to say that it's below the count.
use Rattle.std.proofs.Common.{◌≡◌, ℕ, zero, suc, ◌<◌, ◌≤◌, List, [], ◌∷◌, length, Option, None, Some, is_some, IsSome}
use Rattle.std.proofs.Common.{IsSomeAnd, All, refl, sym, ap, ◌∙◌, inl, inr, arith}
use Rattle.std.specs.FinMap as map
use Rattle.std.specs.FinMap.{get-empty}
use Rattle.std.specs.Ordering.{nat_cmp}
use Rattle.std.proofs.lemmas.Bool.{cases_eq, cases_lt}
use Rattle.std.proofs.lemmas.List.{length-append, length-take, length-replicate}
use Rattle.lfs_types.specs.Splicing.{splice}
use Rattle.lfs_types.specs.Tree.{File, Content, fresh_root, opening_content}
use Rattle.lfs_types.specs.Changes.{CanChange, CanChangeAll, changed, changed_at, IsLength}
use Rattle.lfs_types.specs.declared.store.Change.{Change}
use Rattle.lfs_types.specs.declared.store.Change.TheVariants.{Make, Remove, SetAttrs, Put, SetLength}
use Rattle.lfs_flatfiles.specs.declared.flat_files.place.Place.{Place}
use Rattle.lfs_flatfiles.specs.FlatFiles.{file_in, content_of, end_of, IsInReach}
use Rattle.lfs_flatfiles.proofs.FlatFilesContent.{get-content_of, file_in_past}
use Rattle.lfs_types.specs.declared.limits.TheConstants.{FILE_BYTES}
use Rattle.lfs_types.proofs.Maps.{get-insert_other, get-remove_same, get-remove_other}
use Rattle.lfs_types.proofs.Somewhere.{some_from}
use Rattle.lfs_types.proofs.Contents.{length_limit, length_of_file}

-- each number in use is below this one
abbrev pub IsBelow : ℕ → Content → Type 0
IsBelow numbers c = (ino : ℕ) → IsSome (map.get c ino) → ino < numbers

some_past : (ps : List Place) (ino : ℕ) → length ps ≤ ino → IsSome (map.get (content_of ps) ino) → ino < length ps
some_past ps ino past some =
    let gone : map.get (content_of ps) ino ≡ None = get-content_of ps ino ∙ file_in_past ps ino past in
    absurd (cc)

-- each file is at a place of the list
pub content_below : (ps : List Place) → IsBelow (length ps) (content_of ps)
content_below ps ino some =
    elim (cases_lt ino (length ps)) [ inl below ↦ below | inr past ↦ some_past ps ino past some ]

end_within : (old : List ℕ) (off : ℕ) (bytes : List ℕ) → length (splice old off bytes) ≤ FILE_BYTES
    → end_of off bytes ≤ FILE_BYTES
end_within old off [] h = omega arith
end_within old off (b ∷ bs) h =
    let all = simp (length-append, length-take, length-replicate) at h in
    omega arith

pub end_of_file : (o : Option File) (off : ℕ) (bytes : List ℕ)
    → IsSomeAnd o (λ f. IsLength f.kind (length (splice f.bytes off bytes))) → end_of off bytes ≤ FILE_BYTES
end_of_file None off bytes h = absurd h
end_of_file (Some f) off bytes h = end_within f.bytes off bytes (length_limit f.kind _ h)

in_reach : (numbers : ℕ) (change : Change) (c : Content) → IsBelow numbers c → CanChange numbers change c
    → IsInReach numbers change
in_reach numbers (Make ino attrs) c below can = can.1
in_reach numbers (Remove ino) c below can = below ino can
in_reach numbers (SetAttrs ino attrs) c below can = below ino (some_from _ _ can)
in_reach numbers (Put ino off bytes) c below can = (below ino (some_from _ _ can), end_of_file _ off bytes.now can)
in_reach numbers (SetLength ino len) c below can = (below ino (some_from _ _ can), length_of_file _ len can)

below_inserted : (numbers : ℕ) (c : Content) (k : ℕ) (f : File) → IsBelow numbers c → k < numbers
    → IsBelow numbers (map.insert c k f)
below_inserted numbers c k f below h ino some =
    elim (cases_eq ino k) [
      | inl e ↦ omega arith
      | inr apart ↦ below ino (ap is_some (sym (get-insert_other c k f ino apart)) ∙ some)
    ]

below_removed : (numbers : ℕ) (c : Content) (k : ℕ) → IsBelow numbers c → IsBelow numbers (map.remove c k)
below_removed numbers c k below ino some =
    elim (cases_eq ino k) [
      | inl e ↦ let gone : map.get (map.remove c k) ino ≡ None = rw e (get-remove_same c k) in absurd (cc)
      | inr apart ↦ below ino (ap is_some (sym (get-remove_other c k ino apart)) ∙ some)
    ]

below_changed_at : (numbers : ℕ) (c : Content) (k : ℕ) (o : Option File) (change : File → File) → IsBelow numbers c
    → (IsSome o → k < numbers) → IsBelow numbers (changed_at o k change c)
below_changed_at numbers c k None change below h = below
below_changed_at numbers c k (Some f) change below h = below_inserted numbers c k (change f) below (h refl)

below_changed : (numbers : ℕ) (change : Change) (c : Content) → IsBelow numbers c → CanChange numbers change c
    → IsBelow numbers (changed change c)
below_changed numbers (Make ino attrs) c below can = below_inserted numbers c ino _ below can.1
below_changed numbers (Remove ino) c below can = below_removed numbers c ino below
below_changed numbers (SetAttrs ino attrs) c below can = below_changed_at numbers c ino _ _ below (below ino)
below_changed numbers (Put ino off bytes) c below can = below_changed_at numbers c ino _ _ below (below ino)
below_changed numbers (SetLength ino len) c below can = below_changed_at numbers c ino _ _ below (below ino)

-- changes that may be made are of numbers in reach
pub all_in_reach : (numbers : ℕ) (changes : List Change) (c : Content) → IsBelow numbers c
    → CanChangeAll numbers changes c → All (IsInReach numbers) changes
all_in_reach numbers [] c below can k d h = absurd (omega arith)
all_in_reach numbers (change ∷ changes) c below can zero d h = in_reach numbers change c below can.0
all_in_reach numbers (change ∷ changes) c below can (suc k) d h =
    all_in_reach numbers changes (changed change c) (below_changed numbers change c below can.0) can.1 k d (omega arith)

-- ---- a number that a change names has a file
pub file_used : (ps : List Place) (ino : ℕ) (P : File → Type 0) → IsSomeAnd (map.get (content_of ps) ino) P
    → IsSome (file_in ps ino)
file_used ps ino P can = ap is_some (sym (get-content_of ps ino)) ∙ some_from _ P can

-- a number with a file is a place of the list
pub used_within : (ps : List Place) (ino : ℕ) (P : File → Type 0) → IsSomeAnd (map.get (content_of ps) ino) P
    → ino < length ps
used_within ps ino P can = content_below ps ino (some_from _ P can)

-- a fresh volume has no file but the root
pub free_at_opening : (ino : ℕ) → 4 ≤ ino → map.get opening_content ino ≡ None
free_at_opening ino h = get-insert_other map.empty 2 fresh_root ino (λ e. omega arith) ∙ get-empty nat_cmp ino
