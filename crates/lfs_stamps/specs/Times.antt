-- The times of each inode number, and what messages make of them.
use Rattle.std.specs.Prelude.{ℕ, List, Option, None, Some, slice_index_or, slice_set}
use Rattle.lfs_fuse_reply.specs.declared.attr.Attr.{Attr}
use Rattle.lfs_fuse_reply.specs.declared.attr.Entry.{Entry}
use Rattle.lfs_fuse_wire.specs.declared.attributes.Time.{Time}
use Rattle.lfs_fuse_calls.specs.declared.told.Told.{Told}
use Rattle.lfs_fuse_calls.specs.declared.told.Told.TheVariants as told
use Rattle.lfs_stamps.specs.declared.change.Change.{Change}
use Rattle.lfs_stamps.specs.declared.change.Change.TheVariants.{Nothing, Node, Made, Moved}
use Rattle.lfs_stamps.specs.declared.change.Mark.{Mark}
use Rattle.lfs_stamps.specs.declared.change.Mark.TheVariants.{Written, Restated, Set}
use Rattle.lfs_stamps.specs.declared.stamps.Stamps.{Stamps}
use Rattle.lfs_stamps.specs.Stamps.{born, epoch, restated, set, written}

-- those of a number; where 1970 begins, of a number that there isn't
abbrev pub stamps_of : List Stamps → ℕ → Stamps
stamps_of times number = slice_index_or times number (born epoch)

-- what a change of a node makes of its times
abbrev pub marked_by : Mark → Time → Stamps → Stamps
marked_by Written now s = written now s
marked_by Restated now s = restated now s
marked_by (Set fields) now s = set now fields s

-- of one number, if there is one: the others keep theirs
abbrev pub marked : Time → Option ℕ → Mark → List Stamps → List Stamps
marked now None mark times = times
marked now (Some number) mark times = slice_set times number (marked_by mark now (stamps_of times number))

-- What a change makes of the times: of a node's row, of a new number and the directory that it is in, of two
-- directories between which a name moved.
abbrev pub stamped : Time → Option ℕ → Option ℕ → Change → List Stamps → List Stamps
stamped now row other Nothing times = times
stamped now row other (Node mark) times = marked now row mark times
stamped now row other (Made number) times = marked now row Written (slice_set times number (born now))
stamped now row other Moved times = marked now other Written (marked now row Written times)

abbrev pub with_times : Attr → Stamps → Attr
with_times attr s = record attr { accessed = s.accessed; modified = s.modified; changed = s.changed }

-- attributes and an entry with the times of their number
abbrev pub dated_attr : List Stamps → Attr → Attr
dated_attr times attr = with_times attr (stamps_of times attr.inode)

abbrev pub dated_entry : List Stamps → Entry → Entry
dated_entry times entry = record entry { attr = dated_attr times entry.attr }

-- what is told, with the times of the files whose attributes it tells
abbrev pub dated : List Stamps → Told → Told
dated times (told.Attr attr) = told.Attr (dated_attr times attr)
dated times (told.Entry entry) = told.Entry (dated_entry times entry)
dated times (told.Create entry opened) = told.Create (dated_entry times entry) opened
dated times reply = reply
