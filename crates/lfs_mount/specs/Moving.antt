-- What becomes of nodes behind any message: a served Rename moves one, and what looks, sets or closes leaves all.
use Rattle.std.specs.Prelude.{◌≡◌, ◌≢◌, ⊤, ℕ, Bool, true, false, Option, None, Some}
use Rattle.std.specs.Option.{option_map}
use Rattle.lfs_nodes.specs.Changes.{hung}
use Rattle.lfs_nodes.specs.Maps.{id_at, same_place}
use Rattle.lfs_nodes.specs.Nodes.{known, place_at}
use Rattle.lfs_nodes.specs.declared.node.Hang.TheVariants.{At, Gone}
use Rattle.lfs_nodes.specs.declared.parts.Parts.{Parts}
use Rattle.lfs_nodes.specs.declared.place.Place.{Place}
use Rattle.lfs_fuse_wire.specs.Said.{Said, lookup, forget, batch_forget, mknod, mkdir, create, unlink, rmdir, rename}
use Rattle.lfs_fuse_wire.specs.declared.header.Header.{Header}
use Rattle.lfs_fuse_wire.specs.declared.kind.FileKind.{FileKind}
use Rattle.lfs_fuse_wire.specs.declared.kind.FileKind.TheVariants.{Regular}
use Rattle.lfs_fuse_calls.specs.declared.told.Told.{Told}
use Rattle.lfs_fuse_calls.specs.declared.told.Told.TheVariants as told

-- Each node is as it was, and no id was given out.
pub record StandStill (before after : Parts) : Type 0 where
  pub nodes : (q : ℕ) → known after q ≡ known before q
  pub next : after.next ≡ before.next

-- The node at one place hangs at another, under its id, with its row and all by which it is held. What hung there is
-- gone, each other node is as it was, and no id was given out.
pub record MovesNode (from to : Place) (before after : Parts) : Type 0 where
  pub moved : (id : ℕ) → id_at before.index from ≡ Some id
      → known after id ≡ option_map (hung (At to)) (known before id)
  pub replaced : (id : ℕ) → id_at before.index to ≡ Some id → id_at before.index from ≢ Some id
      → known after id ≡ option_map (hung Gone) (known before id)
  pub others : (q : ℕ) → id_at before.index from ≢ Some q → id_at before.index to ≢ Some q
      → known after q ≡ known before q
  pub next : after.next ≡ before.next

-- what is moved to the place that it has stays as it is
abbrev pub MovesUnless : Bool → Place → Place → Parts → Parts → Type 0
MovesUnless true from to before after = StandStill before after
MovesUnless false from to before after = MovesNode from to before after

-- A Rename is told as done where it was served, and its node moves then; behind any other reply none does.
abbrev pub MovesIfDone : Told → Place → Place → Parts → Parts → Type 0
MovesIfDone told.Done from to before after = MovesUnless (same_place from to) from to before after
MovesIfDone reply from to before after = StandStill before after

-- a node that isn't made for its kind leaves all
abbrev pub UnlessRegular : Option FileKind → Parts → Parts → Type 0
UnlessRegular (Some Regular) before after = ⊤
UnlessRegular kind before after = after ≡ before

-- What becomes of nodes behind a message that is told so. What an entry's node is, what is removed and what is forgotten
-- other definitions say; by all other messages but a Rename nodes are the same as before.
abbrev pub NodesBehind : Said → ℕ → Told → Parts → Parts → Type 0
NodesBehind (lookup name) directory reply before after = ⊤
NodesBehind (mkdir fields name) directory reply before after = ⊤
NodesBehind (create fields name) directory reply before after = ⊤
NodesBehind (unlink name) directory reply before after = ⊤
NodesBehind (rmdir name) directory reply before after = ⊤
NodesBehind (forget fields) node reply before after = ⊤
NodesBehind (batch_forget bytes) node reply before after = ⊤
NodesBehind (mknod fields name) directory reply before after =
    UnlessRegular fields.kind before after
NodesBehind (rename fields name new_name) directory reply before after =
    MovesIfDone reply (place_at directory name) (place_at fields.directory new_name) before after
NodesBehind message node reply before after = after ≡ before

-- the same of bytes, which leave nodes where they are no message
abbrev pub NodesBehindOf : Option Said → ℕ → Told → Parts → Parts → Type 0
NodesBehindOf None node reply before after = after ≡ before
NodesBehindOf (Some message) node reply before after = NodesBehind message node reply before after

-- What becomes of nodes behind bytes, whatever the message is told, and if no reply could be made.
abbrev pub NodesBehindIn : Option Header → Option Said → Parts → Parts → Type 0
NodesBehindIn None message before after = after ≡ before
NodesBehindIn (Some header) message before after =
    (reply : Told) × NodesBehindOf message header.node reply before after
