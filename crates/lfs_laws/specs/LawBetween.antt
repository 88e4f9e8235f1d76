-- A row whose bytes or whose place differ between two points of a run was changed so in between by whoever might, then.
use Rattle.std.specs.Prelude.{◌≡◌, ◌≢◌, ◌⊎◌, ◌<◌, ◌≤◌, ℕ, List, ◌∷◌, ◌++◌, None, Some, IsSomeAnd}
use Rattle.std.specs.FinMap as map
use Rattle.lfs_types.specs.Caller.{Caller}
use Rattle.lfs_types.specs.Tree.{Row, World}
use Rattle.lfs_types.specs.declared.answer.Answer.TheVariants.{Served}
use Rattle.lfs_types.specs.declared.answer.Served as shows
use Rattle.lfs_types.specs.declared.request.Request.{Request}
use Rattle.lfs_model.specs.declared.journal.Entry.{Entry}
use Rattle.lfs_model.specs.declared.journal.Event.TheVariants.{User}
use Rattle.lfs_model.specs.World.{IsTree}
use Rattle.lfs_laws.specs.LawGone.{MayRemove}
use Rattle.lfs_laws.specs.LawFlagged.{MayReflag}
use Rattle.lfs_laws.specs.LawLevel.{MayRelevel}
use Rattle.lfs_laws.specs.LawMode.{IsChmod, LosesSetId}
use Rattle.lfs_laws.specs.LawMoved.{HangsStill, MayMove}
use Rattle.lfs_laws.specs.LawNew.{MayMake}
use Rattle.lfs_laws.specs.LawOwner.{MayGive, SameOwner}
use Rattle.lfs_laws.specs.LawRewritten.{MayRewrite}
use Rattle.lfs_model.specs.Steps.{IsLegal, after_event, world_after}

-- what a call made of a row that was there: it is gone, by a caller who might remove it; or it differs, by one who
-- might change it so
abbrev pub IsTurn : (Row → Row → Type 0) → (World → Caller → Request → Row → Row → Type 0)
    → World → Caller → Request → World → ℕ → Row → Type 0
IsTurn Differs MayChange w caller request after n row =
    ((map.get after.rows n ≡ None) × MayRemove w caller request n row)
    ⊎ ((new : Row) × (map.get after.rows n ≡ Some new) × Differs row new × MayChange w caller request row new)

-- One of the entries is a user's call that was served, and that removed or changed the row of a number so, in the world
-- that the entries before it leave.
pub record IsChangedBy (numbers : ℕ) (entries : List Entry) (w : World) (n : ℕ) (Differs : Row → Row → Type 0)
    (MayChange : World → Caller → Request → Row → Row → Type 0) : Type 0 where
  pub before : List Entry
  pub entry : Entry
  pub later : List Entry
  pub split : before ++ entry ∷ later ≡ entries
  pub request : Request
  pub shown : shows.Served
  pub event : entry.event ≡ User request (Served shown)
  pub row : Row
  pub there : map.get (world_after numbers before w).rows n ≡ Some row
  pub turn : IsTurn Differs MayChange (world_after numbers before w) entry.cred request
      (after_event numbers (world_after numbers before w) entry.cred entry.event) n row

-- a row differs at a later point of a run only where one of the entries changed it so
abbrev pub Between : (Row → Row → Type 0) → (ℕ → World → Caller → Request → Row → Row → Type 0) → Type 0
Between Differs MayChange =
    (numbers segments : ℕ) (entries : List Entry) (w : World) (n : ℕ) (r s : Row)
    → IsTree w.rows
    → IsLegal numbers segments entries w
    → map.get w.rows n ≡ Some r
    → map.get (world_after numbers entries w).rows n ≡ Some s
    → Differs r s
    → IsChangedBy numbers entries w n Differs (λ v caller request row new. MayChange n v caller request row new)

-- other bytes
abbrev pub BytesBetween : Type 0
BytesBetween = Between
    (λ old new. new.file.bytes ≢ old.file.bytes)
    (λ n w caller request row new. MayRewrite w caller request n row new.file.bytes)

-- another parent or another name
abbrev pub PlaceBetween : Type 0
PlaceBetween = Between
    (λ old new. HangsStill old new → ⊥)
    (λ n w caller request row new. MayMove w caller request n row new.parent new.name)

-- another mode
abbrev pub ModeBetween : Type 0
ModeBetween = Between
    (λ old new. new.file.mode ≢ old.file.mode)
    (λ n w caller request row new. IsChmod w caller request n row new ⊎ LosesSetId w caller request n row new)

-- another owner or another group
abbrev pub OwnerBetween : Type 0
OwnerBetween = Between
    (λ old new. SameOwner old.file new.file → ⊥)
    (λ n w caller request row new. MayGive w caller request n row new.file.uid new.file.gid)

-- other flags
abbrev pub FlagsBetween : Type 0
FlagsBetween = Between
    (λ old new. new.file.flags ≢ old.file.flags)
    (λ n w caller request row new. MayReflag w caller request n row new.file.flags)

-- a set-id bit where none was: of a mode, which is below 010000, 04000 or 02000 is on where it is 02000 or more
abbrev pub SetIdBetween : Type 0
SetIdBetween = Between
    (λ old new. (old.file.mode < 0o2000) × (0o2000 ≤ new.file.mode))
    (λ n w caller request row new. IsChmod w caller request n row new)

-- One of the entries is a user's call that was served, and of which this holds in the worlds around it.
pub record IsDoneBy (numbers : ℕ) (entries : List Entry) (w : World) (P : World → Caller → Request → World
    → Type 0) : Type 0 where
  pub before : List Entry
  pub entry : Entry
  pub later : List Entry
  pub split : before ++ entry ∷ later ≡ entries
  pub request : Request
  pub shown : shows.Served
  pub event : entry.event ≡ User request (Served shown)
  pub holds : P (world_after numbers before w) entry.cred request
      (after_event numbers (world_after numbers before w) entry.cred entry.event)

-- another level at a later point of a run: one of the entries changed it, by whoever might then
abbrev pub LevelBetween : Type 0
LevelBetween =
    (numbers segments : ℕ) (entries : List Entry) (w : World)
    → IsTree w.rows
    → IsLegal numbers segments entries w
    → (world_after numbers entries w).level ≢ w.level
    → IsDoneBy numbers entries w (λ v caller request after. (after.level ≢ v.level)
    × MayRelevel caller request v.level after.level)

-- a row that wasn't there and is at a later point: one of the entries made it, of whoever might then
abbrev pub MadeBetween : Type 0
MadeBetween =
    (numbers segments : ℕ) (entries : List Entry) (w : World) (n : ℕ) (s : Row)
    → IsTree w.rows
    → IsLegal numbers segments entries w
    → map.get w.rows n ≡ None
    → map.get (world_after numbers entries w).rows n ≡ Some s
    → IsDoneBy numbers entries w (λ v caller request after. IsSomeAnd (map.get after.rows n)
    (MayMake numbers v caller request n))

-- one that was there and isn't: one of the entries removed it, of whoever might then
abbrev pub GoneBetween : Type 0
GoneBetween =
    (numbers segments : ℕ) (entries : List Entry) (w : World) (n : ℕ) (r : Row)
    → IsTree w.rows
    → IsLegal numbers segments entries w
    → map.get w.rows n ≡ Some r
    → map.get (world_after numbers entries w).rows n ≡ None
    → IsDoneBy numbers entries w (λ v caller request after. IsSomeAnd (map.get v.rows n) (MayRemove v caller request n))
