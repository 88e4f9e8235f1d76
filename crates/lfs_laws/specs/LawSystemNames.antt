-- What the system's locks keep of names, above level 0: against user 0 too.
use Rattle.std.specs.Prelude.{◌≡◌, ℕ, true, List, [], ◌∷◌, Some, IsSomeAnd}
use Rattle.std.specs.FinMap as map
use Rattle.lfs_types.specs.Tree.{Row, World, root}
use Rattle.lfs_rules.specs.Bits.{has_bit}
use Rattle.lfs_rules.specs.Locks.{has_system_lock}
use Rattle.lfs_rules.specs.Securelevel.{is_above_zero}
use Rattle.lfs_model.specs.declared.journal.Entry.{Entry}
use Rattle.lfs_model.specs.World.{Rows, IsChild, IsTree}
use Rattle.lfs_model.specs.Rules.{next}
use Rattle.lfs_model.specs.Steps.{IsLegal, world_after}
use Rattle.lfs_laws.specs.LawDenied.{led}
use Rattle.lfs_laws.specs.LawsFlags.{DropsLevel}
use Rattle.lfs_laws.specs.LawsRuns.{NoneServed}

-- above level 0 what hangs in a directory with a system lock hangs there under its name, through any calls of which
-- none is served to init and lets the level fall to 0 or below
abbrev pub SystemNamesStay : Type 0
SystemNamesStay =
    (numbers segments : ℕ) (entries : List Entry) (w : World) (d : ℕ) (dir : Row) (name : List ℕ) (n : ℕ)
    → IsTree w.rows
    → IsLegal numbers segments entries w
    → NoneServed DropsLevel numbers entries w
    → is_above_zero w.level ≡ true
    → map.get w.rows d ≡ Some dir
    → has_system_lock dir.file.flags ≡ true
    → IsChild w.rows d name n
    → IsChild (world_after numbers entries w).rows d name n

-- and nothing else comes to hang in one with SF_IMMUTABLE
abbrev pub NoSystemNameComes : Type 0
NoSystemNameComes =
    (numbers segments : ℕ) (entries : List Entry) (w : World) (d : ℕ) (dir : Row) (name : List ℕ) (n : ℕ)
    → IsTree w.rows
    → IsLegal numbers segments entries w
    → NoneServed DropsLevel numbers entries w
    → is_above_zero w.level ≡ true
    → map.get w.rows d ≡ Some dir
    → has_bit dir.file.flags 0x2_0000 ≡ true
    → IsChild (world_after numbers entries w).rows d name n
    → IsChild w.rows d name n

-- each row that names lead through from a row, but the last, has a system lock
abbrev pub IsLockedWay : Rows → ℕ → List (List ℕ) → Type 0
IsLockedWay rows at [] = Unit {0}
IsLockedWay rows at (name ∷ names) =
    IsSomeAnd (map.get rows at) (λ r. has_system_lock r.file.flags ≡ true) × IsLockedWay rows (next rows at name) names

-- so a path through directories with system locks leads to the same row
abbrev pub SystemPathStays : Type 0
SystemPathStays =
    (numbers segments : ℕ) (entries : List Entry) (w : World) (path : List (List ℕ)) (n : ℕ)
    → IsTree w.rows
    → IsLegal numbers segments entries w
    → NoneServed DropsLevel numbers entries w
    → is_above_zero w.level ≡ true
    → led w.rows (Some root) path ≡ Some n
    → IsLockedWay w.rows root path
    → led (world_after numbers entries w).rows (Some root) path ≡ Some n
