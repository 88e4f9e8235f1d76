-- A row gets another parent or another name only by a Rename of a caller who may take it away and may place it there.
use Rattle.std.specs.Prelude.{◌≡◌, ◌≢◌, ℕ, true, List, Some}
use Rattle.std.specs.FinMap as map
use Rattle.lfs_types.specs.Caller.{Caller}
use Rattle.lfs_types.specs.Tree.{Row, World, root}
use Rattle.lfs_types.specs.declared.attrs.Bit.TheVariants as bits
use Rattle.lfs_types.specs.declared.attrs.Kind.TheVariants.{Directory}
use Rattle.lfs_types.specs.declared.request.Request.{Request}
use Rattle.lfs_types.specs.declared.request.Request.TheVariants.{Rename}
use Rattle.lfs_model.specs.Rules.{reached, row_grants}
use Rattle.lfs_laws.specs.Rights.{Law, LeadsTo, MayTakePlace, MayTakeAway}

-- the call is to move the row of this number to this parent and this name
abbrev pub Renames : World → ℕ → ℕ → List ℕ → Request → Type 0
Renames w n parent name (Rename from to) = (reached w.rows root from ≡ n) × LeadsTo w.rows to parent name
Renames w n parent name request = ⊥

-- a row hangs where another hung, under the same name
pub record HangsStill (old new : Row) : Type 0 where
  pub parents : new.parent ≡ old.parent
  pub names : new.name ≡ old.name

-- a caller may move a row to this parent and this name by this call; a directory that gets another parent grants him
-- write
pub record MayMove (w : World) (caller : Caller) (request : Request) (n : ℕ) (r : Row) (parent : ℕ) (name : List ℕ)
    : Type 0 where
  pub taken : MayTakeAway w.rows caller n r.parent
  pub placed : MayTakePlace w.rows caller r.file.kind parent name
  pub directory : r.file.kind ≡ Directory → parent ≢ r.parent → row_grants caller bits.Write (map.get w.rows n) ≡ true
  pub asked : Renames w n parent name request

-- a row that hangs elsewhere, or under another name, was moved by whoever may
abbrev pub Moved : Law
Moved numbers w caller request answer after =
    (n : ℕ) (r s : Row) → map.get w.rows n ≡ Some r → map.get after.rows n ≡ Some s
    → (HangsStill r s → ⊥) → MayMove w caller request n r s.parent s.name
