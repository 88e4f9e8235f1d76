-- A path leads on: nowhere only after a removal or a Rename, and to another row only after a Rename onto it.
use Rattle.std.specs.Prelude.{◌≡◌, ◌⊎◌, ℕ, true, List, ◌∷◌, ◌++◌, None, Some, IsSomeAnd}
use Rattle.std.specs.FinMap as map
use Rattle.lfs_types.specs.Caller.{Caller}
use Rattle.lfs_types.specs.Tree.{World, root}
use Rattle.lfs_types.specs.declared.request.Request.{Request}
use Rattle.lfs_types.specs.declared.request.Request.TheVariants.{Unlink, Rmdir, Rename}
use Rattle.lfs_model.specs.declared.journal.Entry.{Entry}
use Rattle.lfs_model.specs.declared.journal.Event.{Event}
use Rattle.lfs_model.specs.World.{IsTree}
use Rattle.lfs_model.specs.Rules.{reached}
use Rattle.lfs_model.specs.Steps.{IsLegal, after_event, world_after}
use Rattle.lfs_model.specs.Walks.{is_on_way}
use Rattle.lfs_laws.specs.LawDenied.{led}
use Rattle.lfs_laws.specs.LawOneThing.{DiffersInPlace}
use Rattle.lfs_laws.specs.LawsRuns.{IsServed, NoneServed}

-- the call removes the row to which a path leads, or moves a row on the path
abbrev pub CutsOff : World → List (List ℕ) → ℕ → Request → Type 0
CutsOff w path n (Unlink other) = reached w.rows root other ≡ n
CutsOff w path n (Rmdir other) = reached w.rows root other ≡ n
CutsOff w path n (Rename from to) = is_on_way w.rows path (reached w.rows root from) ≡ true
CutsOff w path n request = ⊥

-- the call moves another row, m, into the place of this one; of m nothing changes but its place
abbrev pub Replaces : World → World → ℕ → ℕ → Request → Type 0
Replaces w after n m (Rename from to) =
    (reached w.rows root to ≡ n)
    × (reached w.rows root from ≡ m)
    × IsSomeAnd (map.get w.rows m) (λ r. IsSomeAnd (map.get after.rows m) (DiffersInPlace r))
Replaces w after n m request = ⊥

-- after an event a path that led to a row leads to it still; or nowhere, as a served call cut it off; or, after a
-- served Rename, to the row that was moved, whole, into the place of the first
abbrev pub LeadsAfter : World → List (List ℕ) → ℕ → Event → World → Type 0
LeadsAfter w path n event after =
    (led after.rows (Some root) path ≡ Some n)
    ⊎ ((led after.rows (Some root) path ≡ None) × IsServed (CutsOff w path n) event)
    ⊎ ((m : ℕ) × (led after.rows (Some root) path ≡ Some m) × IsServed (Replaces w after n m) event)

-- so at each point of a run from any tree
abbrev pub PathLeadsOn : Type 0
PathLeadsOn =
    (numbers segments : ℕ) (before : List Entry) (entry : Entry) (later : List Entry) (w : World) (path : List (List ℕ))
    (n : ℕ)
    → IsTree w.rows
    → IsLegal numbers segments (before ++ entry ∷ later) w
    → led (world_after numbers before w).rows (Some root) path ≡ Some n
    → LeadsAfter (world_after numbers before w) path n entry.event
    (after_event numbers (world_after numbers before w) entry.cred entry.event)

-- the call cuts off a path where it leads to now
abbrev pub CutsOffNow : List (List ℕ) → World → Caller → Request → Type 0
CutsOffNow path w caller request = (n : ℕ) × (led w.rows (Some root) path ≡ Some n) × CutsOff w path n request

-- a path that leads to a row leads to one after each run in which no served call cuts it off
abbrev pub PathLeadsThrough : Type 0
PathLeadsThrough =
    (numbers segments : ℕ) (entries : List Entry) (w : World) (path : List (List ℕ)) (n : ℕ)
    → IsTree w.rows
    → IsLegal numbers segments entries w
    → NoneServed (CutsOffNow path) numbers entries w
    → led w.rows (Some root) path ≡ Some n
    → (m : ℕ) × (led (world_after numbers entries w).rows (Some root) path ≡ Some m)
