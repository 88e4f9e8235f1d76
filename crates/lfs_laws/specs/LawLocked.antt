-- What flags of a directory keep: its names, through any list of calls.
use Rattle.std.specs.Prelude.{◌≡◌, ℕ, true, List, Some}
use Rattle.std.specs.FinMap as map
use Rattle.lfs_types.specs.Tree.{Row, World, attrs_of}
use Rattle.lfs_rules.specs.Locks.{is_immutable}
use Rattle.lfs_model.specs.declared.journal.Entry.{Entry}
use Rattle.lfs_model.specs.World.{IsChild, IsTree}
use Rattle.lfs_laws.specs.LawsFlags.{SetsFlags}
use Rattle.lfs_laws.specs.LawsRuns.{NoneServed}
use Rattle.lfs_laws.specs.Rights.{is_fixed}
use Rattle.lfs_model.specs.Steps.{IsLegal, world_after}

-- what hangs in an immutable or append-only directory hangs there under its name, until the directory's flags are set
abbrev pub NamesStay : Type 0
NamesStay =
    (numbers segments : ℕ) (entries : List Entry) (w : World) (d : ℕ) (dir : Row) (name : List ℕ) (n : ℕ)
    → IsTree w.rows
    → IsLegal numbers segments entries w
    → NoneServed (SetsFlags d) numbers entries w
    → map.get w.rows d ≡ Some dir
    → is_fixed (attrs_of dir.file) ≡ true
    → IsChild w.rows d name n
    → IsChild (world_after numbers entries w).rows d name n

-- nothing else comes to hang in an immutable one
abbrev pub NoNameComes : Type 0
NoNameComes =
    (numbers segments : ℕ) (entries : List Entry) (w : World) (d : ℕ) (dir : Row) (name : List ℕ) (n : ℕ)
    → IsTree w.rows
    → IsLegal numbers segments entries w
    → NoneServed (SetsFlags d) numbers entries w
    → map.get w.rows d ≡ Some dir
    → is_immutable (attrs_of dir.file) ≡ true
    → IsChild (world_after numbers entries w).rows d name n
    → IsChild w.rows d name n
