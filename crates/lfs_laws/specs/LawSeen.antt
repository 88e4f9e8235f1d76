-- What the laws of words say of a tree: only what a Stat shows of it, and bits and numbers.
use Rattle.std.specs.Prelude.{◌≡◌, ℕ, ◌/◌, ◌%◌, List, None}
use Rattle.lfs_types.specs.Caller.{Caller}
use Rattle.lfs_types.specs.Tree.{World}
use Rattle.lfs_types.specs.declared.answer.Served.TheVariants as served
use Rattle.lfs_types.specs.declared.attrs.Attrs.{Attrs}
use Rattle.lfs_types.specs.declared.request.Request.TheVariants.{Stat}
use Rattle.lfs_model.specs.World.{IsTree}
use Rattle.lfs_model.specs.Rules.{decide}
use Rattle.lfs_model.specs.Effects.{answer_of}

-- In a tree a Stat of this path is allowed to the caller, and shows him this number and these attributes.
pub record Sees (w : World) (caller : Caller) (path : List (List ℕ)) (number : ℕ) (attrs : Attrs) : Type 0 where
  pub tree : IsTree w.rows
  pub allowed : decide w caller (Stat path) ≡ None
  pub shows : answer_of w (Stat path) ≡ served.Stat number attrs

-- the bit of this value is set in a number, as 0400 in a mode: the value goes into the number an odd number of times
abbrev pub IsOn : ℕ → ℕ → Type 0
IsOn number value = number / value % 2 ≡ 1

-- it isn't
abbrev pub IsOff : ℕ → ℕ → Type 0
IsOff number value = number / value % 2 ≡ 0
