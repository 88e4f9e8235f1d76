-- Which segment a cleaner takes.
use Rattle.std.specs.Prelude.{◌≡◌, ℕ, ◌<◌, ◌≤◌, ◌⊎◌, List, Option, None, Some}
use Rattle.lfs_ifile.specs.Layout.{ReadsUse}
use Rattle.lfs_ifile.specs.declared.segment.SegState.TheVariants.{Dirty}
use Rattle.lfs_cleaner.specs.declared.choosing.Candidate.{Candidate}

-- the segment is dirty by an ifile's bytes, and has so many live bytes
abbrev pub IsDirty : List ℕ → ℕ → ℕ → Type 0
IsDirty bytes segment live = ReadsUse bytes segment (record { live = live; state = Dirty })

-- no segment is dirty
abbrev pub HasNoDirty : List ℕ → Type 0
HasNoDirty bytes = (segment live : ℕ) → IsDirty bytes segment live → ⊥

-- a segment comes before another, or is that: it has less live bytes, or as many and no higher number
abbrev pub IsFirst : ℕ → ℕ → ℕ → ℕ → Type 0
IsFirst live segment other_live other = (live < other_live) ⊎ ((live ≡ other_live) × (segment ≤ other))

-- the segment is the dirty one of least live bytes, and of these that of the lowest number
pub record IsChosen (bytes : List ℕ) (segment : ℕ) : Type 0 where
  pub live : ℕ
  pub dirty : IsDirty bytes segment live
  pub first : (other other_live : ℕ) → IsDirty bytes other other_live → IsFirst live segment other_live other

-- the same of the segments below a number, of which none may be dirty
abbrev pub IsBestBelow : List ℕ → ℕ → Option Candidate → Type 0
IsBestBelow bytes bound None = (other : ℕ) → other < bound → (live : ℕ) → IsDirty bytes other live → ⊥
IsBestBelow bytes bound (Some best) =
    IsDirty bytes best.segment best.live × (best.segment < bound)
    × ((other : ℕ) → other < bound → (live : ℕ) → IsDirty bytes other live → IsFirst best.live best.segment live other)
