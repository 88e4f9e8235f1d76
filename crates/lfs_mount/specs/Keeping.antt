-- What becomes of files that were removed while they were open, through whatever message comes.
use Rattle.std.specs.Prelude.{◌≡◌, ℕ, ◌==◌, Bool, true, false, List, Option, None, Some, slice_index_or}
use Rattle.lfs_types.specs.Caller.{Caller}
use Rattle.lfs_nodes.specs.declared.node.Hang.TheVariants.{Gone}
use Rattle.lfs_nodes.specs.declared.parts.Parts.{Parts}
use Rattle.lfs_nodes.specs.Nodes.{known}
use Rattle.lfs_nodes.specs.Reads.{hang_in}
use Rattle.lfs_fuse_wire.specs.Said.{Said, release}
use Rattle.lfs_fuse_wire.specs.declared.attributes.Time.{Time}
use Rattle.lfs_fuse_calls.specs.declared.told.Told.{Told}
use Rattle.lfs_opens.specs.Opens.{slot_of}
use Rattle.lfs_mount.specs.Leaving.{kept_for}
use Rattle.lfs_opens.specs.Rewritten.{Shown, file_behind, is_rewrite, kept_behind, shown_file, shown_slot}
use Rattle.lfs_opens.specs.declared.kept.Kept.{Kept}
use Rattle.lfs_opens.specs.declared.kept.OpenFile.{OpenFile}

abbrev pub is_slot : Option ℕ → ℕ → Bool
is_slot None slot = false
is_slot (Some closed) slot = closed == slot

-- whether a message closes the file of a slot
abbrev pub is_closed : Said → ℕ → Bool
is_closed (release fields) slot = is_slot (slot_of fields.handle) slot
is_closed message slot = false

-- a file that is closed is open no more, and any other is as it was, with what is kept of it
abbrev pub StaysUnless : Bool → OpenFile → Option OpenFile → Type 0
StaysUnless true file after = after ≡ None
StaysUnless false file after = after ≡ Some file

-- a file is as it was, but for what is kept of it where it is open on a node, if that changes
abbrev pub ChangesIf : Bool → (Shown → Shown) → ℕ → OpenFile → Option OpenFile → Type 0
ChangesIf true change node file after =
    shown_slot after ≡ file_behind change node (Some (shown_file file))
ChangesIf false change node file after = shown_slot after ≡ Some (shown_file file)

-- a message that is answered by what is kept of its node's file may change that; any other changes nothing that is kept
abbrev pub IsStillKept : Time → Caller → ℕ → Said → Told → Option Kept → ℕ → OpenFile
    → Option OpenFile
    → Type 0
IsStillKept now caller node message reply (Some own) slot file after =
    ChangesIf (is_rewrite message reply) (kept_behind now caller message) node file after
IsStillKept now caller node message reply None slot file after =
    StaysUnless (is_closed message slot) file after

-- Files whose nodes are gone, through a message: what is kept of them is what was kept before, with what who opened them
-- writes in its place, for each who opened them; nothing else changes it; and it goes when its handle is closed.
abbrev pub AreStillKept : Time → Caller → Parts → ℕ → Said → Told → List (Option OpenFile)
    → List (Option OpenFile) → Type 0
AreStillKept now caller nodes node message reply before after =
    (slot : ℕ) (file : OpenFile) → slice_index_or before slot None ≡ Some file
    → hang_in (known nodes file.node) ≡ Some Gone
    → IsStillKept now caller node message reply
    (kept_for nodes message before node caller) slot file
    (slice_index_or after slot None)
