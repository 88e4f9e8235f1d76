-- A row stays in its directory, whatever happens above: where the directory keeps all who call from taking it away.
use Rattle.std.specs.Prelude.{◌≡◌, ◌≢◌, ◌⊎◌, ℕ, true, false, List, [], ◌∷◌, Some, IsSomeAnd}
use Rattle.std.specs.FinMap as map
use Rattle.lfs_types.specs.Caller.{Caller}
use Rattle.lfs_types.specs.Tree.{Row, World, root, attrs_of}
use Rattle.lfs_types.specs.declared.attrs.Bit.TheVariants as bits
use Rattle.lfs_rules.specs.Bits.{has_bit}
use Rattle.lfs_rules.specs.Grants.{grants_of}
use Rattle.lfs_model.specs.declared.journal.Entry.{Entry}
use Rattle.lfs_model.specs.declared.journal.Event.{Event}
use Rattle.lfs_model.specs.declared.journal.Event.TheVariants.{User, Cleaner}
use Rattle.lfs_model.specs.World.{IsTree}
use Rattle.lfs_model.specs.Steps.{IsLegal, world_after}
use Rattle.lfs_laws.specs.LawMoved.{HangsStill}
use Rattle.lfs_laws.specs.LawOneThing.{KeepsMode}
use Rattle.lfs_laws.specs.Rights.{is_fixed}

-- a caller is kept from a row in a directory: the directory grants him no write or no search, or is sticky, or fixed by
-- a flag; or the row is fixed by one
abbrev pub Guards : Row → Row → Caller → Type 0
Guards dir row caller =
    (grants_of caller (attrs_of dir.file) bits.Write ≡ false)
    ⊎ (grants_of caller (attrs_of dir.file) bits.Search ≡ false)
    ⊎ (has_bit dir.file.mode 0o1000 ≡ true)
    ⊎ (is_fixed (attrs_of dir.file) ≡ true)
    ⊎ (is_fixed (attrs_of row.file) ≡ true)

-- a user's call is made by a stranger to both rows: he is not user 0, owns neither, and is kept from the row
abbrev pub IsStranger : Row → Row → Caller → Event → Type 0
IsStranger dir row caller (User request answer) =
    (caller.uid ≢ 0) × (caller.uid ≢ dir.file.uid) × (caller.uid ≢ row.file.uid) × Guards dir row caller
IsStranger dir row caller (Cleaner act outcome) = Unit {0}

-- so is each
abbrev pub AreStrangers : Row → Row → List Entry → Type 0
AreStrangers dir row [] = Unit {0}
AreStrangers dir row (entry ∷ entries) = IsStranger dir row entry.cred entry.event × AreStrangers dir row entries

-- a row hangs where it hung, and is what it was but for the bytes of a file, and the set-id bits that may go with them
pub record IsStillHere (old new : Row) : Type 0 where
  pub hangs : HangsStill old new
  pub kind : new.file.kind ≡ old.file.kind
  pub uid : new.file.uid ≡ old.file.uid
  pub gid : new.file.gid ≡ old.file.gid
  pub flags : new.file.flags ≡ old.file.flags
  pub mode : KeepsMode old.file.mode new.file.mode

-- Through any calls of such strangers a row stays in its directory under its name; of both nothing changes but the
-- bytes of a file and the directory's own place, whatever becomes of the directories above.
abbrev pub RowIsKept : Type 0
RowIsKept =
    (numbers segments : ℕ) (entries : List Entry) (w : World) (n : ℕ) (row dir : Row)
    → IsTree w.rows
    → IsLegal numbers segments entries w
    → n ≢ root
    → map.get w.rows n ≡ Some row
    → map.get w.rows row.parent ≡ Some dir
    → AreStrangers dir row entries
    → IsSomeAnd (map.get (world_after numbers entries w).rows n) (IsStillHere row)
    × IsSomeAnd (map.get (world_after numbers entries w).rows row.parent) (λ d. d.file ≡ dir.file)
