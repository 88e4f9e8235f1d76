-- A set-id bit is fresh: since a row was written or given by another than user 0, somebody who might set it anew.
use Rattle.std.specs.Prelude.{◌≡◌, ◌≢◌, ◌<◌, ◌≤◌, ℕ, List, ◌∷◌, ◌++◌, Some}
use Rattle.std.specs.FinMap as map
use Rattle.lfs_types.specs.Tree.{Row, World, root}
use Rattle.lfs_types.specs.declared.answer.Answer.TheVariants.{Served}
use Rattle.lfs_types.specs.declared.answer.Served as shows
use Rattle.lfs_types.specs.declared.request.Request.{Request}
use Rattle.lfs_types.specs.declared.request.Request.TheVariants.{Write, SetLength, Chown}
use Rattle.lfs_model.specs.declared.journal.Entry.{Entry}
use Rattle.lfs_model.specs.declared.journal.Event.TheVariants.{User}
use Rattle.lfs_model.specs.World.{IsTree}
use Rattle.lfs_model.specs.Rules.{reached}
use Rattle.lfs_model.specs.Steps.{IsLegal, after_event, world_after}
use Rattle.lfs_laws.specs.LawBetween.{IsChangedBy}
use Rattle.lfs_laws.specs.LawMode.{IsChmod}

-- the call writes a byte to the row of this number, gives it a length, or an owner and a group
abbrev pub Wears : World → ℕ → Request → Type 0
Wears w n (Write path place (b ∷ bs)) = reached w.rows root path ≡ n
Wears w n (SetLength path len) = reached w.rows root path ≡ n
Wears w n (Chown path uid gid) = reached w.rows root path ≡ n
Wears w n request = ⊥

-- Where a served call of another than user 0 did so, and the row of this number has a set-id bit at the end of a run
-- (04000 or 02000 of a mode, which is below 010000), one of the entries behind set it, by a Chmod of whoever might
-- then; or removed the row, of whoever might.
abbrev pub SetIdsAreFresh : Type 0
SetIdsAreFresh =
    (numbers segments : ℕ) (before : List Entry) (entry : Entry) (later : List Entry) (w : World) (request : Request)
    (shown : shows.Served) (n : ℕ) (s : Row)
    → IsTree w.rows
    → IsLegal numbers segments (before ++ entry ∷ later) w
    → entry.event ≡ User request (Served shown)
    → entry.cred.uid ≢ 0
    → Wears (world_after numbers before w) n request
    → map.get (world_after numbers later (after_event numbers
    (world_after numbers before w) entry.cred entry.event)).rows n ≡ Some s
    → 0o2000 ≤ s.file.mode
    → IsChangedBy numbers later (after_event numbers (world_after numbers before w) entry.cred entry.event) n
    (λ old new. (old.file.mode < 0o2000) × (0o2000 ≤ new.file.mode))
    (λ v caller request row new. IsChmod v caller request n row new)
