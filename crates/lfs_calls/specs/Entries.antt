-- How a served call leaves the entries of directories, as their bytes have them.
use Rattle.lfs_types.specs.Tree.{Content, root}
use Rattle.lfs_types.specs.declared.answer.Answer.{Answer}
use Rattle.lfs_types.specs.declared.answer.Answer.TheVariants.{Served, Denied, Refused}
use Rattle.lfs_types.specs.declared.request.Request.{Request}
use Rattle.lfs_types.specs.declared.request.Request.TheVariants.{Stat, Read, Write, List as Names, SetLength, Create}
use Rattle.lfs_types.specs.declared.request.Request.TheVariants.{Mkdir, Unlink, Rmdir, Rename, Chmod, Chown, Chflags}
use Rattle.lfs_types.specs.declared.request.Request.TheVariants.{SetLevel, Sync}
use Rattle.lfs_model.specs.Rules.{front, last, reached}
use Rattle.lfs_model.specs.World.{Rows, child}
use Rattle.lfs_calls.specs.Content.{KeepsDirectories}
use Rattle.lfs_calls.specs.Makes.{EntersFirst}
use Rattle.lfs_calls.specs.Removes.{ClosesUp}
use Rattle.lfs_calls.specs.Renames.{PlacesName}

-- what a served call does to the bytes of directories: a new name goes to the first block where it fits, a removal
-- closes its block up and gives none back, a Rename does both or swaps a number, and no other call writes one
abbrev pub LeavesEntries : Request → Content → Content → Rows → Type 0
LeavesEntries (Create path mode) old new rows = EntersFirst old new rows path
LeavesEntries (Mkdir path mode) old new rows = EntersFirst old new rows path
LeavesEntries (Unlink path) old new rows = ClosesUp old new rows path
LeavesEntries (Rmdir path) old new rows = ClosesUp old new rows path
LeavesEntries (Rename from to) old new rows =
    PlacesName old new rows from to (child rows (reached rows root (front to)) (last to))
LeavesEntries (Stat path) old new rows = KeepsDirectories old new
LeavesEntries (Read path off len) old new rows = KeepsDirectories old new
LeavesEntries (Names path) old new rows = KeepsDirectories old new
LeavesEntries (Write path place bytes) old new rows = KeepsDirectories old new
LeavesEntries (SetLength path len) old new rows = KeepsDirectories old new
LeavesEntries (Chmod path mode) old new rows = KeepsDirectories old new
LeavesEntries (Chown path uid gid) old new rows = KeepsDirectories old new
LeavesEntries (Chflags path flags) old new rows = KeepsDirectories old new
LeavesEntries (SetLevel level) old new rows = KeepsDirectories old new
LeavesEntries Sync old new rows = KeepsDirectories old new

-- what holds where an answer serves a call
abbrev pub OnServed : Answer → Type 0 → Type 0
OnServed (Served shown) P = P
OnServed (Denied denial) P = Unit {0}
OnServed (Refused resource) P = Unit {0}
