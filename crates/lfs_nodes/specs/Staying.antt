-- Node ids through changes.
use Rattle.std.specs.Prelude.{◌≡◌, ℕ, ◌<◌, ◌≤◌, Option, Some}
use Rattle.lfs_nodes.specs.declared.node.Node.{Node}
use Rattle.lfs_nodes.specs.declared.parts.Parts.{Parts}
use Rattle.lfs_nodes.specs.Nodes.{known, live_row}

-- An id that was given out leads to no other row than before. So one whose node is gone, or was dropped, leads to none
-- for ever: what is given out later are other ids.
pub record IdsStay (before after : Parts) : Type 0 where
  pub given : before.next ≤ after.next
  pub rows : (id n : ℕ) → id < before.next → live_row (known after id) ≡ Some n
      → live_row (known before id) ≡ Some n
