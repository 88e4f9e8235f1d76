-- A closed door: what stands beneath a directory that grants search to none of the callers of a run stays as it is.
use Rattle.std.specs.Prelude.{◌≡◌, ◌≢◌, ℕ, suc, false, List, [], ◌∷◌, Some}
use Rattle.std.specs.FinMap as map
use Rattle.lfs_types.specs.Caller.{Caller}
use Rattle.lfs_types.specs.Tree.{Row, World, root, attrs_of}
use Rattle.lfs_types.specs.declared.attrs.Bit.TheVariants as bits
use Rattle.lfs_rules.specs.Grants.{grants_of}
use Rattle.lfs_model.specs.declared.journal.Entry.{Entry}
use Rattle.lfs_model.specs.declared.journal.Event.{Event}
use Rattle.lfs_model.specs.declared.journal.Event.TheVariants.{User, Cleaner}
use Rattle.lfs_model.specs.World.{ancestor, IsTree}
use Rattle.lfs_model.specs.Steps.{IsLegal, world_after}

-- a user's call is made by one whom the directory doesn't grant search, and who doesn't own it; the superuser is
-- granted all
abbrev pub IsOutside : Row → Caller → Event → Type 0
IsOutside dir caller (User request answer) = (grants_of caller (attrs_of dir.file) bits.Search ≡ false)
    × (caller.uid ≢ dir.file.uid)
IsOutside dir caller (Cleaner act outcome) = Unit {0}

-- so is each
abbrev pub AreOutside : Row → List Entry → Type 0
AreOutside dir [] = Unit {0}
AreOutside dir (entry ∷ entries) = IsOutside dir entry.cred entry.event × AreOutside dir entries

-- a row somewhere beneath the directory stays what it is, with its place, its bytes and its attributes
abbrev pub ClosedDoor : Type 0
ClosedDoor =
    (numbers segments : ℕ) (entries : List Entry) (w : World) (d : ℕ) (dir : Row) (k n : ℕ) (r : Row)
    → IsTree w.rows
    → IsLegal numbers segments entries w
    → map.get w.rows d ≡ Some dir
    → d ≢ root
    → AreOutside dir entries
    → map.get w.rows n ≡ Some r
    → ancestor w.rows (suc k) n ≡ d
    → map.get (world_after numbers entries w).rows n ≡ Some r
