-- The content of a list of places is a map with the file at each place (`get-content_of`), so a place written is an
-- insertion, one emptied a removal, one changed a change (`content_of-set`, `content_of-gone`, `content_of-changed`):
-- for each call of `FlatFiles`. By induction on the list, whose places are numbered from 0 in order; two maps are the
-- same where each number has the same (`same_map`). Room goes the same way (`grows_at`): no place loses any, which is
-- why a change that had room has it still.
use Rattle.std.proofs.Common.{◌≡◌, ◌≢◌, ℕ, zero, suc, ◌+◌, ◌<◌, ◌≤◌, List, [], ◌∷◌, ◌++◌, length, set, get_or, Option}
use Rattle.std.proofs.Common.{None, Some, option_map, is_some, IsSome, IsFalse, refl, sym, ap, ◌∙◌, inl, inr}
use Rattle.std.proofs.Common.{arith}
use Rattle.std.specs.Ordering.{nat_cmp}
use Rattle.std.specs.Cmp.{nat_cmp_total}
use Rattle.std.specs.FinMap as map
use Rattle.std.specs.FinMap.{get-empty, same_map, nat_cmp-IsAntisymmetric}
use Rattle.std.proofs.lemmas.Bool.{cases_eq, cases_lt}
use Rattle.std.specs.Vec.{vec_capacity}
use Rattle.lfs_types.specs.Tree.{File, file_of}
use Rattle.lfs_types.specs.Stored.{bytes_of_file}
use Rattle.lfs_types.specs.declared.attrs.Attrs.{Attrs}
use Rattle.lfs_types.specs.Changes.{changed_at}
use Rattle.lfs_flatfiles.specs.declared.flat_files.place.Place.{Place}
use Rattle.lfs_flatfiles.specs.FlatFiles.{file_at, file_in, room_in, content_from, content_of, KeepsRoom}
use Rattle.lfs_types.proofs.Maps.{get-insert_same, get-insert_other, get-remove_same, get-remove_other}
use Rattle.lfs_types.proofs.Contents.{get-content_with, get-content_with_apart}

-- ---- the files at places
get_below : (ps : List Place) (first q : ℕ) → q < first → map.get (content_from first ps) q ≡ None
get_below [] first q h = get-empty nat_cmp q
get_below (p ∷ ps) first q h =
    get-content_with_apart first q (file_at p) (content_from (first + 1) ps) (λ e. omega arith)
    ∙ get_below ps (first + 1) q (omega arith)

get_from : (ps : List Place) (first k : ℕ) → map.get (content_from first ps) (first + k) ≡ file_in ps k
get_from [] first k = get-empty nat_cmp (first + k)
get_from (p ∷ ps) first zero =
    let here : first + 0 ≡ first = omega arith in
    rw here (get-content_with first (file_at p) (content_from (first + 1) ps)
    (get_below ps (first + 1) first (omega arith)))
get_from (p ∷ ps) first (suc k) =
    let next : first + suc k ≡ first + 1 + k = omega arith in
    rw next (get-content_with_apart first (first + 1 + k) (file_at p) (content_from (first + 1) ps) (λ e. omega arith)
    ∙ get_from ps (first + 1) k)

-- what the content has at a number is the file at its place
pub get-content_of : (ps : List Place) (ino : ℕ) → map.get (content_of ps) ino ≡ file_in ps ino
get-content_of ps ino =
    let start : ino ≡ 0 + ino = omega arith in
    ap (λ k. map.get (content_of ps) k) start ∙ get_from ps 0 ino

-- places with the same files have the same content
pub same_content : (ps qs : List Place) → ((k : ℕ) → file_in qs k ≡ file_in ps k) → content_of qs ≡ content_of ps
same_content ps qs same = same_map nat_cmp_total nat_cmp-IsAntisymmetric (content_of qs) (content_of ps) (λ k.
    get-content_of qs k ∙ same k ∙ sym (get-content_of ps k))

-- ---- a change of one place
pub file_in-set_same : (ps : List Place) (k : ℕ) (p : Place) → k < length ps → file_in (set ps k p) k ≡ file_at p
file_in-set_same [] k p h = absurd (omega arith)
file_in-set_same (q ∷ ps) zero p h = refl
file_in-set_same (q ∷ ps) (suc k) p h = file_in-set_same ps k p (omega arith)

-- the other places have the files that they had
pub file_in-set_other : (ps : List Place) (k q : ℕ) (p : Place) → q ≢ k → file_in (set ps k p) q ≡ file_in ps q
file_in-set_other [] k q p apart = refl
file_in-set_other (x ∷ ps) zero zero p apart = absurd (apart refl)
file_in-set_other (x ∷ ps) zero (suc q) p apart = refl
file_in-set_other (x ∷ ps) (suc k) zero p apart = refl
file_in-set_other (x ∷ ps) (suc k) (suc q) p apart = file_in-set_other ps k q p (λ e. apart (ap suc e))

-- the file at a place of the list
pub file_in-get_or : (ps : List Place) (k : ℕ) (d : Place) → k < length ps → file_in ps k ≡ file_at (get_or ps k d)
file_in-get_or [] k d h = absurd (omega arith)
file_in-get_or (p ∷ ps) zero d h = refl
file_in-get_or (p ∷ ps) (suc k) d h = file_in-get_or ps k d (omega arith)

-- past the list is no file
pub file_in_past : (ps : List Place) (k : ℕ) → length ps ≤ k → file_in ps k ≡ None
file_in_past [] k h = refl
file_in_past (p ∷ ps) zero h = absurd (omega arith)
file_in_past (p ∷ ps) (suc k) h = file_in_past ps k (omega arith)

-- a file at a place of the list is a file of the content
pub content_of-set : (ps : List Place) (k : ℕ) (p : Place) (f : File) → k < length ps → file_at p ≡ Some f
    → content_of (set ps k p) ≡ map.insert (content_of ps) k f
content_of-set ps k p f h is = same_map nat_cmp_total nat_cmp-IsAntisymmetric _ _ (λ q.
    elim (cases_eq q k) [
      | inl e ↦ rw e (get-content_of (set ps k p) k ∙ file_in-set_same ps k p h ∙ is
          ∙ sym (get-insert_same (content_of ps) k f))
      | inr apart ↦ get-content_of (set ps k p) q ∙ file_in-set_other ps k q p apart ∙ sym (get-content_of ps q)
          ∙ sym (get-insert_other (content_of ps) k f q apart)
    ])

-- a place with no file takes its file from the content
pub content_of-gone : (ps : List Place) (k : ℕ) (p : Place) → k < length ps → file_at p ≡ None → content_of (set ps k p)
    ≡ map.remove (content_of ps) k
content_of-gone ps k p h is = same_map nat_cmp_total nat_cmp-IsAntisymmetric _ _ (λ q.
    elim (cases_eq q k) [
      | inl e ↦ rw e (get-content_of (set ps k p) k ∙ file_in-set_same ps k p h ∙ is
          ∙ sym (get-remove_same (content_of ps) k))
      | inr apart ↦ get-content_of (set ps k p) q ∙ file_in-set_other ps k q p apart ∙ sym (get-content_of ps q)
          ∙ sym (get-remove_other (content_of ps) k q apart)
    ])

-- ---- a place that was read, and another put there
pub file_in_read : (ps : List Place) (k : ℕ) (p : Place) → k < length ps → p ≡ get_or ps k p → file_in ps k ≡ file_at p
file_in_read ps k p h is = file_in-get_or ps k p h ∙ ap file_at (sym is)

-- a place with the same file in its stead
pub same_files : (ps : List Place) (k : ℕ) (p q : Place) → k < length ps → p ≡ get_or ps k p → file_at q ≡ file_at p
    → (j : ℕ) → file_in (set ps k q) j ≡ file_in ps j
same_files ps k p q h is same j =
    elim (cases_eq j k) [
      | inl e ↦ rw e (file_in-set_same ps k q h ∙ same ∙ sym (file_in_read ps k p h is))
      | inr apart ↦ file_in-set_other ps k j q apart
    ]

some_mapped : (change : File → File) (o : Option File) → is_some (option_map change o) ≡ is_some o
some_mapped change None = refl
some_mapped change (Some f) = refl

-- the file at a place changed
pub same_use : (change : File → File) (ps : List Place) (k : ℕ) (p q : Place) → k < length ps → p ≡ get_or ps k p
    → file_at q ≡ option_map change (file_at p) → (j : ℕ) → is_some (file_in (set ps k q) j) ≡ is_some (file_in ps j)
same_use change ps k p q h is new j =
    elim (cases_eq j k) [
      | inl e ↦ rw e (ap is_some (file_in-set_same ps k q h ∙ new) ∙ some_mapped change (file_at p)
          ∙ ap is_some (sym (file_in_read ps k p h is)))
      | inr apart ↦ ap is_some (file_in-set_other ps k j q apart)
    ]

changed_by : (change : File → File) (ps : List Place) (k : ℕ) (q : Place) (o : Option File) → k < length ps
    → file_in ps k ≡ o → IsSome o → file_at q ≡ option_map change o → content_of (set ps k q)
    ≡ changed_at o k change (content_of ps)
changed_by change ps k q None h is some new = absurd (cc)
changed_by change ps k q (Some f) h is some new = content_of-set ps k q (change f) h new

-- a place whose file is changed changes the content so
pub content_of-changed : (change : File → File) (ps : List Place) (k : ℕ) (p q : Place) → k < length ps → p
    ≡ get_or ps k p → IsSome (file_in ps k) → file_at q ≡ option_map change (file_at p) → content_of (set ps k q)
    ≡ changed_at (map.get (content_of ps) k) k change (content_of ps)
content_of-changed change ps k p q h is some new =
    rw (get-content_of ps k) (changed_by change ps k q (file_in ps k) h refl some (new
    ∙ ap (option_map change) (sym (file_in_read ps k p h is))))

-- ---- room
pub room_in-set_same : (ps : List Place) (k : ℕ) (p : Place) → k < length ps → room_in (set ps k p) k
    ≡ vec_capacity p.bytes
room_in-set_same [] k p h = absurd (omega arith)
room_in-set_same (q ∷ ps) zero p h = refl
room_in-set_same (q ∷ ps) (suc k) p h = room_in-set_same ps k p (omega arith)

-- the other places have the room that they had
pub room_in-set_other : (ps : List Place) (k q : ℕ) (p : Place) → q ≢ k → room_in (set ps k p) q ≡ room_in ps q
room_in-set_other [] k q p apart = refl
room_in-set_other (x ∷ ps) zero zero p apart = absurd (apart refl)
room_in-set_other (x ∷ ps) zero (suc q) p apart = refl
room_in-set_other (x ∷ ps) (suc k) zero p apart = refl
room_in-set_other (x ∷ ps) (suc k) (suc q) p apart = room_in-set_other ps k q p (λ e. apart (ap suc e))

room_in-get_or : (ps : List Place) (k : ℕ) (d : Place) → k < length ps → room_in ps k
    ≡ vec_capacity (get_or ps k d).bytes
room_in-get_or [] k d h = absurd (omega arith)
room_in-get_or (p ∷ ps) zero d h = refl
room_in-get_or (p ∷ ps) (suc k) d h = room_in-get_or ps k d (omega arith)

-- the room at a place of the list
pub room_in_read : (ps : List Place) (k : ℕ) (p : Place) → k < length ps → p ≡ get_or ps k p → room_in ps k
    ≡ vec_capacity p.bytes
room_in_read ps k p h is = room_in-get_or ps k p h ∙ ap (λ (x : Place). vec_capacity x.bytes) (sym is)

-- a place with as much room in its stead
pub grows_at : (ps : List Place) (k : ℕ) (p q : Place) → k < length ps → p ≡ get_or ps k p
    → vec_capacity p.bytes ≤ vec_capacity q.bytes → KeepsRoom ps (set ps k q)
grows_at ps k p q h is more j =
    elim (cases_eq j k) [
      | inl e ↦ rw e (rw (room_in-set_same ps k q h, room_in_read ps k p h is) more)
      | inr apart ↦ rw (room_in-set_other ps k j q apart) (omega arith)
    ]

bytes_of_used : (attrs : Option Attrs) (bytes : List ℕ) → IsSome (option_map (λ a. file_of a bytes) attrs)
    → bytes_of_file (option_map (λ a. file_of a bytes) attrs) ≡ bytes
bytes_of_used None bytes used = absurd (cc)
bytes_of_used (Some a) bytes used = refl

-- a file's bytes are those of its place
pub bytes_of_place : (p : Place) → IsSome (file_at p) → bytes_of_file (file_at p) ≡ p.bytes.items
bytes_of_place p used = bytes_of_used p.attrs p.bytes.items used

-- ---- a file at a free place
pub used_still : (ps : List Place) (ino : ℕ) (p : Place) (f : File) (k : ℕ) → ino < length ps → file_at p ≡ Some f
    → (k ≢ ino → IsSome (file_in ps k)) → IsSome (file_in (set ps ino p) k)
used_still ps ino p f k h is others =
    elim (cases_eq k ino) [
      | inl e ↦ rw e (ap is_some (file_in-set_same ps ino p h ∙ is))
      | inr apart ↦ ap is_some (file_in-set_other ps ino k p apart) ∙ others apart
    ]

-- where a place and all before it are used, those below the next are
pub used_further : (ps : List Place) (ino : ℕ) (p : Place) (f : File) (next : ℕ) → ino < length ps → file_at p ≡ Some f
    → ((k : ℕ) → 4 ≤ k → k < ino → IsSome (file_in ps k))
    → ((k : ℕ) → ino + 1 ≤ k → k < next → IsSome (file_in (set ps ino p) k)) → (k : ℕ) → 4 ≤ k → k < next
    → IsSome (file_in (set ps ino p) k)
used_further ps ino p f next h is before after k low high =
    elim (cases_lt ino k) [
      | inl lt ↦ after k (omega arith) high
      | inr le ↦ used_still ps ino p f k h is (λ apart. before k low (omega arith))
    ]

-- ---- a place whose file was taken away
pub used_besides : (ps : List Place) (ino : ℕ) (p : Place) (k : ℕ) → k ≢ ino → IsSome (file_in ps k)
    → IsSome (file_in (set ps ino p) k)
used_besides ps ino p k apart h = ap is_some (file_in-set_other ps ino k p apart) ∙ h

-- a place without a file leaves the free ones free
pub free_still : (ps : List Place) (ino : ℕ) (p : Place) (k : ℕ) → ino < length ps → file_at p ≡ None
    → (k ≢ ino → IsFalse (is_some (file_in ps k))) → IsFalse (is_some (file_in (set ps ino p) k))
free_still ps ino p k h is others =
    elim (cases_eq k ino) [
      | inl e ↦ rw e (ap is_some (file_in-set_same ps ino p h ∙ is))
      | inr apart ↦ ap is_some (file_in-set_other ps ino k p apart) ∙ others apart
    ]

-- ---- places with no file
pub none_pushed : (ps : List Place) (p : Place) → file_at p ≡ None → ((k : ℕ) → file_in ps k ≡ None) → (k : ℕ)
    → file_in (ps ++ p ∷ []) k ≡ None
none_pushed [] p is none zero = is
none_pushed [] p is none (suc k) = refl
none_pushed (q ∷ ps) p is none zero = none 0
none_pushed (q ∷ ps) p is none (suc k) = none_pushed ps p is (λ j. none (suc j)) k

-- places without files have no content
pub content_of-none : (ps : List Place) → ((k : ℕ) → file_in ps k ≡ None) → content_of ps ≡ map.empty
content_of-none ps none = same_map nat_cmp_total nat_cmp-IsAntisymmetric (content_of ps) map.empty (λ k.
    get-content_of ps k ∙ none k ∙ sym (get-empty nat_cmp k))
