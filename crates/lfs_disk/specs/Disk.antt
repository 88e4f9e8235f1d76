-- What the calls of a disk of blocks do, and what a crash at any moment may leave.
use Rattle.std.specs.Prelude.{◌≡◌, ◌⊎◌, ℕ, ◌≤◌, List, slice_set}

-- Each list of blocks that a crash may leave behind a write is one that it might have left before, as it was or with
-- the block that is written at its address.
abbrev pub LandsOrNot : ℕ → List ℕ → (List (List ℕ) → Type 0) → (List (List ℕ) → Type 0) → Type 0
LandsOrNot address block old new = (c : List (List ℕ)) → new c
    → old c ⊎ ((d : List (List ℕ)) × old d × (c ≡ slice_set d address block))

-- a crash leaves these blocks, and nothing else
abbrev pub Only : List (List ℕ) → (List (List ℕ) → Type 0) → Type 0
Only blocks may_leave = (c : List (List ℕ)) → may_leave c → c ≡ blocks

-- Time goes on: a crash since t might have left what it might have left before, or what it may leave now.
pub record Elapses (before now : ℕ) (past since : ℕ → List (List ℕ) → Type 0)
    (may_leave : List (List ℕ) → Type 0) : Type 0 where
  pub later : before ≤ now
  pub nothing_else : (t : ℕ) (c : List (List ℕ)) → t ≤ before → since t c → past t c ⊎ may_leave c
  pub keeps : (t : ℕ) (c : List (List ℕ)) → t ≤ before → past t c → since t c

-- A crash at any moment since a disk was as it was leaves blocks that have P.
pub record LeavesOnly {D : Type 0} (time : D → ℕ) (left_since : D → ℕ → List (List ℕ) → Type 0)
    (old new : D) (P : List (List ℕ) → Type 0) : Type 0 where
  pub later : time old ≤ time new
  pub each : (c : List (List ℕ)) → left_since new (time old) c → P c
  -- for a run that began earlier
  pub before : (t : ℕ) (c : List (List ℕ)) → t ≤ time old → left_since new t c → left_since old t c ⊎ P c
