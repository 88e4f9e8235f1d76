-- Where a path leads, name by name.
use Rattle.std.specs.Prelude.{◌≡◌, ◌↔◌, ℕ, List, [], ◌∷◌, length, Some}
use Rattle.std.specs.FinMap as map
use Rattle.lfs_types.specs.Tree.{Row, World}
use Rattle.lfs_types.specs.declared.answer.Served.TheVariants as served
use Rattle.lfs_types.specs.declared.request.Request.TheVariants.{Stat}
use Rattle.lfs_model.specs.World.{Rows, IsChild, IsTree}
use Rattle.lfs_model.specs.Effects.{answer_of}
use Rattle.lfs_laws.specs.LawDenied.{led}

-- names lead from a row to a row: each is that of a row that hangs in the one before
abbrev pub Leads : Rows → ℕ → List (List ℕ) → ℕ → Type 0
Leads rows at [] n = at ≡ n
Leads rows at (name ∷ names) n = (m : ℕ) × IsChild rows at name m × Leads rows m names n

-- a path leads so from the root, whose number is 2
abbrev pub LeadsByNames : Type 0
LeadsByNames =
    (w : World) (path : List (List ℕ)) (n : ℕ)
    → IsTree w.rows
    → (led w.rows (Some 2) path ≡ Some n) ↔ Leads w.rows 2 path n

-- and a Stat of it shows that row
abbrev pub ShowsByNames : Type 0
ShowsByNames =
    (w : World) (path : List (List ℕ)) (n : ℕ) (r : Row)
    → IsTree w.rows
    → Leads w.rows 2 path n
    → map.get w.rows n ≡ Some r
    → answer_of w (Stat path)
    ≡ served.Stat n (record {
      kind = r.file.kind;
      uid = r.file.uid;
      gid = r.file.gid;
      mode = r.file.mode;
      flags = r.file.flags;
      size = length r.file.bytes;
    })
