-- A call changes one thing at most: one row, or the level; a Rename two rows, where one gets the place of the other,
-- which is gone. Of a row that stays it changes only its bytes, or parent and name, or mode, or owner and group, or
-- flags. A call that only looks, a Sync, and a call that isn't served change nothing.
use Rattle.std.specs.Prelude.{◌≡◌, ◌≢◌, ◌⊎◌, ℕ, None, Some}
use Rattle.std.specs.FinMap as map
use Rattle.lfs_types.specs.Tree.{Row, World, root}
use Rattle.lfs_types.specs.declared.answer.Answer.{Answer}
use Rattle.lfs_types.specs.declared.request.Request.{Request}
use Rattle.lfs_types.specs.declared.request.Request.TheVariants.{Stat, Read, List as Names, Rename, Sync}
use Rattle.lfs_rules.specs.SetId.{set_id_cleared}
use Rattle.lfs_model.specs.Rules.{reached}
use Rattle.lfs_laws.specs.Rights.{Law}
use Rattle.lfs_model.specs.Runs.{IsUnserved}

-- a number has the row that it had, or none still
abbrev pub IsAsBefore : World → World → ℕ → Type 0
IsAsBefore w after n = map.get after.rows n ≡ map.get w.rows n

-- a row is what it was in all but its parent and its name
abbrev pub DiffersInPlace : Row → Row → Type 0
DiffersInPlace old new = new ≡ record old { parent = new.parent; name = new.name }

-- a mode is what it was, or has lost its set-id bits
abbrev pub KeepsMode : ℕ → ℕ → Type 0
KeepsMode old new = (new ≡ old) ⊎ (new ≡ set_id_cleared old)

-- in all but its bytes, and the set-id bits that may go with them
abbrev pub DiffersInBytes : Row → Row → Type 0
DiffersInBytes old new =
    (new ≡ record old { file = record old.file { mode = new.file.mode; bytes = new.file.bytes } })
    × KeepsMode old.file.mode new.file.mode

-- in all but its mode
abbrev pub DiffersInMode : Row → Row → Type 0
DiffersInMode old new = new ≡ record old { file = record old.file { mode = new.file.mode } }

-- in all but its owner and its group, and the set-id bits that may go with them
abbrev pub DiffersInOwner : Row → Row → Type 0
DiffersInOwner old new =
    (new ≡ record old { file = record old.file { uid = new.file.uid; gid = new.file.gid; mode = new.file.mode } })
    × KeepsMode old.file.mode new.file.mode

-- in all but its flags
abbrev pub DiffersInFlags : Row → Row → Type 0
DiffersInFlags old new = new ≡ record old { file = record old.file { flags = new.file.flags } }

-- a call that only looks, or writes what waits
abbrev pub IsLooking : Request → Type 0
IsLooking (Stat path) = Unit {0}
IsLooking (Read path off len) = Unit {0}
IsLooking (Names path) = Unit {0}
IsLooking Sync = Unit {0}
IsLooking request = ⊥

-- by a Rename the row at its first path, m, gets the place of that at its second, n, which is gone
abbrev pub TakesPlace : World → Request → World → ℕ → ℕ → Type 0
TakesPlace w (Rename from to) after m n =
    (reached w.rows root from ≡ m) × (reached w.rows root to ≡ n) × (map.get after.rows n ≡ None)
TakesPlace w request after m n = ⊥

-- what a call changed is one thing
pub record IsOneThing (w : World) (request : Request) (answer : Answer) (after : World) : Type 0 where
  pub row : (m n : ℕ) → (IsAsBefore w after m → ⊥) → (IsAsBefore w after n → ⊥)
      → (m ≡ n) ⊎ TakesPlace w request after m n ⊎ TakesPlace w request after n m
  pub level : after.level ≢ w.level → after.rows ≡ w.rows
  pub part : (n : ℕ) (r s : Row) → map.get w.rows n ≡ Some r → map.get after.rows n ≡ Some s
      → DiffersInPlace r s ⊎ DiffersInBytes r s ⊎ DiffersInMode r s ⊎ DiffersInOwner r s ⊎ DiffersInFlags r s
  pub looking : IsLooking request → after ≡ w
  pub unserved : IsUnserved answer → after ≡ w

-- each call changes one thing
abbrev pub OneThing : Law
OneThing numbers w caller request answer after = IsOneThing w request answer after
