-- What each flag locks, by bits: UF_IMMUTABLE is 0x2, SF_IMMUTABLE 0x20000, UF_APPEND 0x4, SF_APPEND 0x40000.
-- UF_NODUMP, 0x1, and SF_ARCHIVED, 0x10000, lock nothing. User 0, whom no mode stops, is stopped by them.
use Rattle.std.specs.Prelude.{◌≡◌, ◌↔◌, ℕ, ◌<◌, List, [], ◌∷◌, ◌++◌, None}
use Rattle.lfs_types.specs.Caller.{Caller}
use Rattle.lfs_types.specs.Tree.{World}
use Rattle.lfs_types.specs.declared.attrs.Attrs.{Attrs}
use Rattle.lfs_types.specs.declared.attrs.Kind.TheVariants.{File as Regular, Directory}
use Rattle.lfs_types.specs.declared.request.Place.TheVariants.{At, End}
use Rattle.lfs_types.specs.declared.request.Request.TheVariants.{Write, Mkdir, Chmod}
use Rattle.lfs_model.specs.World.{IsChild}
use Rattle.lfs_model.specs.Rules.{decide}
use Rattle.lfs_laws.specs.LawSeen.{IsOff, Sees}

-- neither immutable bit is set
abbrev pub IsUnlocked : ℕ → Type 0
IsUnlocked flags = IsOff flags 0x2 × IsOff flags 0x2_0000

-- nor an append-only one
abbrev pub IsLoose : ℕ → Type 0
IsLoose flags = IsUnlocked flags × (IsOff flags 0x4 × IsOff flags 0x4_0000)

-- a short file takes a byte at its end where no immutable bit is set
abbrev pub AppendByFlags : Type 0
AppendByFlags =
    (w : World) (caller : Caller) (path : List (List ℕ)) (n byte : ℕ) (attrs : Attrs)
    → Sees w caller path n attrs
    → caller.uid ≡ 0
    → attrs.kind ≡ Regular
    → attrs.size < 8_460_288
    → (decide w caller (Write path End (byte ∷ [])) ≡ None) ↔ IsUnlocked attrs.flags

-- and at its beginning where none of the four is
abbrev pub WriteByFlags : Type 0
WriteByFlags =
    (w : World) (caller : Caller) (path : List (List ℕ)) (n byte : ℕ) (attrs : Attrs)
    → Sees w caller path n attrs
    → caller.uid ≡ 0
    → attrs.kind ≡ Regular
    → (decide w caller (Write path (At 0) (byte ∷ [])) ≡ None) ↔ IsLoose attrs.flags

-- a directory takes a name where no immutable bit is set
abbrev pub MakeByFlags : Type 0
MakeByFlags =
    (w : World) (caller : Caller) (path : List (List ℕ)) (name : List ℕ) (n mode : ℕ) (attrs : Attrs)
    → Sees w caller path n attrs
    → caller.uid ≡ 0
    → attrs.kind ≡ Directory
    → ((m : ℕ) → IsChild w.rows n name m → ⊥)
    → (decide w caller (Mkdir (path ++ name ∷ []) mode) ≡ None) ↔ IsUnlocked attrs.flags

-- a file or a directory takes a mode where none of the four is
abbrev pub ModeByFlags : Type 0
ModeByFlags =
    (w : World) (caller : Caller) (path : List (List ℕ)) (n mode : ℕ) (attrs : Attrs)
    → Sees w caller path n attrs
    → caller.uid ≡ 0
    → (decide w caller (Chmod path mode) ≡ None) ↔ IsLoose attrs.flags
