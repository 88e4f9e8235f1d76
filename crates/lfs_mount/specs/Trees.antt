-- When the nodes of a mount are true of the tree that its volume shows, and what keeps them so.
use Rattle.std.specs.Prelude.{◌≡◌, ◌≢◌, ℕ, List, [], Option, None, Some, IfSome, IsSomeAnd}
use Rattle.std.specs.FinMap as map
use Rattle.lfs_types.specs.Caller.{Caller}
use Rattle.lfs_types.specs.StoreStates.{StoreState}
use Rattle.lfs_types.specs.Tree.{World}
use Rattle.lfs_types.specs.declared.answer.Answer.{Answer}
use Rattle.lfs_model.specs.World.{Rows, IsChild, IsTree, child, children}
use Rattle.lfs_model.specs.Effects.{after_rename}
use Rattle.lfs_volume.specs.Journals.{AtPresent}
use Rattle.lfs_volume.specs.Seen.{Seen}
use Rattle.lfs_nodes.specs.declared.parts.Parts.{Parts}
use Rattle.lfs_nodes.specs.Nodes.{AreNodes, known, live_row}
use Rattle.lfs_fuse_wire.specs.Said.{Said, lookup, mknod, mkdir, create, unlink, rmdir}
use Rattle.lfs_fuse_reply.specs.declared.errno.Errno.{Errno}
use Rattle.lfs_fuse_calls.specs.Asked.{asked}
use Rattle.lfs_fuse_calls.specs.Paths.{LeadsToRow}
use Rattle.lfs_fuse_calls.specs.Telling.{named_in}
use Rattle.lfs_fuse_calls.specs.declared.telling.Seen.{Seen as Stat}
use Rattle.lfs_mount.specs.Making.{AreMade}

-- nodes are true of the tree that a volume shows
abbrev pub AreTrue : {F : Type 0} → (F → StoreState) → Seen F → Parts → Type 0
AreTrue state volume nodes = AtPresent state volume (λ w. AreNodes w.rows (known nodes))

-- where nodes were true of the tree that a volume showed, those that there are now are true of the one that it shows now
abbrev pub StayTrue : {F : Type 0} → (F → StoreState) → Seen F → Parts → Seen F → Parts → Type 0
StayTrue state old before new after = AreTrue state old before → AreTrue state new after

-- The calls that a message asks for were made, of a path that leads to its node's row, or to the name that it tells
-- there, in each tree that nodes are true of.
pub record AreLedAndMade {F : Type 0} (state : F → StoreState) (is_flushed : F → Type 0)
    (caller : Caller)
    (nodes : Parts) (node : ℕ) (message : Said) (answers : List Answer)
    (old new : Seen F) : Type 0 where
  pub path : List (List ℕ)
  pub leads : LeadsToRow (known nodes) node (named_in message) path
  pub made : AreMade state is_flushed caller (asked message path) answers old new

-- ---- behind calls that were served

-- nodes stay true of each tree in which a name, if one is told, leads from the row of a directory to what was seen
abbrev pub FindsRow : Option (List ℕ) → Option Stat → ℕ → Parts → Parts → Type 0
FindsRow name seen directory before after =
    (rows : Rows) (p : ℕ) → IsTree rows → AreNodes rows (known before)
    → live_row (known before directory) ≡ Some p
    → IfSome name (λ name. IfSome seen (λ seen. IsChild rows p name seen.number))
    → AreNodes rows (known after)

-- nodes are true of each tree, in which they were, without the row of a name in a directory
abbrev pub LosesRow : Option (List ℕ) → ℕ → Parts → Parts → Type 0
LosesRow name directory before after =
    (rows : Rows) (p n : ℕ) → IsTree rows → AreNodes rows (known before)
    → live_row (known before directory) ≡ Some p
    → IsSomeAnd name (λ name. IsChild rows p name n) → children rows n ≡ []
    → AreNodes (map.remove rows n) (known after)

-- nodes are true of each tree, in which they were, with the row of a name in a directory at another place
abbrev pub MovesRow : ℕ → List ℕ → ℕ → List ℕ → Parts → Parts → Type 0
MovesRow from name to new_name before after =
    (w : World) (p t n : ℕ) → IsTree w.rows → AreNodes w.rows (known before)
    → live_row (known before from) ≡ Some p
    → live_row (known before to) ≡ Some t → IsChild w.rows p name n
    → ((m : ℕ) → child w.rows t new_name ≡ Some m → m ≢ n → children w.rows m ≡ [])
    → AreNodes (after_rename w n (child w.rows t new_name) t new_name).rows (known after)

-- what becomes of nodes behind the calls of a message, which were served
abbrev pub LeavesNodes : Said → ℕ → Option Stat → Parts → Parts → Type 0
LeavesNodes (lookup name) directory seen before after =
    FindsRow (Some name) seen directory before after
LeavesNodes (mknod fields name) directory seen before after =
    FindsRow (Some name) seen directory before after
LeavesNodes (mkdir fields name) directory seen before after =
    FindsRow (Some name) seen directory before after
LeavesNodes (create fields name) directory seen before after =
    FindsRow (Some name) seen directory before after
LeavesNodes (unlink name) directory seen before after = LosesRow (Some name) directory before after
LeavesNodes (rmdir name) directory seen before after = LosesRow (Some name) directory before after
LeavesNodes message directory seen before after = after ≡ before

-- behind a call that was refused nodes stay as they are
abbrev pub UnlessRefused : Option Errno → Type 0 → Parts → Parts → Type 0
UnlessRefused None Goes before after = Goes
UnlessRefused (Some error) Goes before after = after ≡ before
