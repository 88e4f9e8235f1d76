-- The classes of callers, by the bits of a mode.
use Rattle.std.specs.Prelude.{◌≡◌, ◌≢◌, ◌⊎◌, ◌↔◌, ℕ, List, [], ◌∷◌, ◌++◌, Contains, None}
use Rattle.lfs_types.specs.Caller.{Caller}
use Rattle.lfs_types.specs.Tree.{World}
use Rattle.lfs_types.specs.declared.attrs.Attrs.{Attrs}
use Rattle.lfs_types.specs.declared.attrs.Kind.TheVariants.{File as Regular, Directory}
use Rattle.lfs_types.specs.declared.request.Request.TheVariants.{Stat, Read, List as Names, SetLength, Mkdir}
use Rattle.lfs_model.specs.World.{IsChild}
use Rattle.lfs_model.specs.Rules.{decide}
use Rattle.lfs_laws.specs.LawSeen.{IsOn, Sees}

-- User 0 is granted all. The owner is by the first of three bits alone; else who is in the group, by the second alone;
-- else, by the third.
abbrev pub IsGranted : Caller → Attrs → ℕ → ℕ → ℕ → Type 0
IsGranted caller attrs owner group others =
    (caller.uid ≡ 0)
    ⊎ ((caller.uid ≡ attrs.uid) × IsOn attrs.mode owner)
    ⊎ ((caller.uid ≢ attrs.uid) × Contains caller.groups attrs.gid × IsOn attrs.mode group)
    ⊎ ((caller.uid ≢ attrs.uid) × (Contains caller.groups attrs.gid → ⊥) × IsOn attrs.mode others)

-- to read a file: 0400, 040, 04
abbrev pub ReadByBits : Type 0
ReadByBits =
    (w : World) (caller : Caller) (path : List (List ℕ)) (n : ℕ) (attrs : Attrs) (off len : ℕ)
    → Sees w caller path n attrs
    → attrs.kind ≡ Regular
    → (decide w caller (Read path off len) ≡ None) ↔ IsGranted caller attrs 0o400 0o40 0o4

-- to list a directory: the same
abbrev pub ListByBits : Type 0
ListByBits =
    (w : World) (caller : Caller) (path : List (List ℕ)) (n : ℕ) (attrs : Attrs)
    → Sees w caller path n attrs
    → attrs.kind ≡ Directory
    → (decide w caller (Names path) ≡ None) ↔ IsGranted caller attrs 0o400 0o40 0o4

-- to write a file that no flag locks, as to cut it to no bytes: 0200, 020, 02
abbrev pub WriteByBits : Type 0
WriteByBits =
    (w : World) (caller : Caller) (path : List (List ℕ)) (n : ℕ) (attrs : Attrs)
    → Sees w caller path n attrs
    → attrs.kind ≡ Regular
    → attrs.flags ≡ 0
    → (decide w caller (SetLength path 0) ≡ None) ↔ IsGranted caller attrs 0o200 0o20 0o2

-- to look for a name that is there in a directory: 0100, 010, 01
abbrev pub SearchByBits : Type 0
SearchByBits =
    (w : World) (caller : Caller) (path : List (List ℕ)) (name : List ℕ) (n m : ℕ) (attrs : Attrs)
    → Sees w caller path n attrs
    → attrs.kind ≡ Directory
    → IsChild w.rows n name m
    → (decide w caller (Stat (path ++ name ∷ [])) ≡ None) ↔ IsGranted caller attrs 0o100 0o10 0o1

-- to make a free name in a directory that no flag locks: both of these
abbrev pub MakeByBits : Type 0
MakeByBits =
    (w : World) (caller : Caller) (path : List (List ℕ)) (name : List ℕ) (n mode : ℕ) (attrs : Attrs)
    → Sees w caller path n attrs
    → attrs.kind ≡ Directory
    → attrs.flags ≡ 0
    → ((m : ℕ) → IsChild w.rows n name m → ⊥)
    → (decide w caller (Mkdir (path ++ name ∷ []) mode) ≡ None)
    ↔ (IsGranted caller attrs 0o100 0o10 0o1 × IsGranted caller attrs 0o200 0o20 0o2)
