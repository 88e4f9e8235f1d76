-- Changes that may be asked for of a fresh store, one after another at one number: `made_and_put`, for the tests that
-- make file 4 and put bytes into it. Each change has to be one that may be asked for in the content that those before
-- it leave; that is computed as far as the file at this number is known, which each of them has just put there
-- (`at_file`, `after`).
use Rattle.std.proofs.Common.{◌≡◌, ℕ, ◌≤◌, Bor, List, [], ◌∷◌, length, IsSomeAnd, sym, ap, subst, ◌∙◌, arith}
use Rattle.std.specs.FinMap as map
use Rattle.lfs_types.specs.Changes.{CanChangeAll, changed_at, IsLength}
use Rattle.lfs_types.specs.Splicing.{splice}
use Rattle.lfs_types.specs.Tree.{File, Content, file_of, opening_content}
use Rattle.lfs_types.specs.declared.attrs.Attrs.{Attrs}
use Rattle.lfs_types.specs.declared.attrs.Kind.TheVariants.{File as Regular}
use Rattle.lfs_types.specs.StoreStates.{StoreState}
use Rattle.lfs_types.specs.declared.store.Change.{Change}
use Rattle.lfs_types.specs.declared.store.Change.TheVariants.{Make, Put}
use Rattle.lfs_flatfiles.specs.FlatFiles.{with_bytes}
use Rattle.lfs_flatfiles.proofs.FlatFilesReach.{free_at_opening}
use Rattle.lfs_types.proofs.Maps.{get-insert_same}

-- how many inode numbers a store has, and what it contains
abbrev pub numbers_of : StoreState → ℕ
numbers_of s = s.shape.numbers

abbrev pub contents_of : StoreState → Content
contents_of s = s.content

-- what holds of a file that was put at a number
pub at_file : (c : Content) (ino : ℕ) (f : File) (P : File → Type 0) → P f
    → IsSomeAnd (map.get (map.insert c ino f) ino) P
at_file c ino f P h = rw (get-insert_same c ino f) h

-- the file changed, and then the rest
pub after : (numbers : ℕ) (c : Content) (ino : ℕ) (f : File) (change : File → File) (rest : List Change)
    → CanChangeAll numbers rest (map.insert (map.insert c ino f) ino (change f))
    → CanChangeAll numbers rest (changed_at (map.get (map.insert c ino f) ino) ino change (map.insert c ino f))
after numbers c ino f change rest h = rw (get-insert_same c ino f) h

-- file 4 with these bytes
abbrev pub first_file : Attrs → List ℕ → File
first_file a bytes = with_bytes 0 bytes (file_of a [])

-- a content with that file
abbrev pub with_first : Content → Attrs → List ℕ → Content
with_first c a bytes = map.insert (map.insert c 4 (file_of a [])) 4 (first_file a bytes)

-- file 4 made, bytes put into it, and then the rest
pub made_and_put : (n : ℕ) (c : Content) (a : Attrs) (p : Bor (List ℕ)) → n ≡ 16 → c ≡ opening_content → a.kind
    ≡ Regular → length (splice [] 0 p.now) ≤ 8460288
    → (rest : List Change) → CanChangeAll n rest (with_first c a p.now) → CanChangeAll n (Make 4 a ∷ Put 4 0 p ∷ rest) c
made_and_put n c a p is_n is_c is_a fits rest h = (
  (omega arith, omega arith, ap (λ m. map.get m 4) is_c ∙ free_at_opening 4 (omega arith)),
  (
    at_file c 4 (file_of a []) (λ f. IsLength f.kind (length (splice f.bytes 0 p.now)))
        (subst (λ k. IsLength k (length (splice [] 0 p.now))) (sym is_a) fits),
    after n c 4 (file_of a []) (with_bytes 0 p.now) rest h,
  ),
)
