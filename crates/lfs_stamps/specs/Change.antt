-- What a message changes, by what is told of it.
use Rattle.std.specs.Prelude.{ℕ, ◌==◌, not, Bool, true, false}
use Rattle.lfs_fuse_wire.specs.Said.{Said, mknod, mkdir, create, unlink, rmdir, rename, opening, write, setattr, ioctl}
use Rattle.lfs_fuse_wire.specs.declared.attributes.SetAttr.{SetAttr}
use Rattle.lfs_fuse_calls.specs.declared.told.Told.{Told}
use Rattle.lfs_fuse_calls.specs.declared.told.Told.TheVariants as told
use Rattle.lfs_stamps.specs.declared.change.Change.{Change}
use Rattle.lfs_stamps.specs.declared.change.Change.TheVariants.{Nothing, Node, Made, Moved}
use Rattle.lfs_stamps.specs.declared.change.Mark.{Mark}
use Rattle.lfs_stamps.specs.declared.change.Mark.TheVariants.{Written, Restated, Set}

abbrev pub node_if : Bool → Mark → Change
node_if true mark = Node mark
node_if false mark = Nothing

-- a file was made, where an entry is told
abbrev pub made_by : Told → Change
made_by (told.Entry entry) = Made entry.attr.inode
made_by (told.Create entry opened) = Made entry.attr.inode
made_by reply = Nothing

abbrev pub if_done : Change → Told → Change
if_done change told.Done = change
if_done change told.Ioctl = change
if_done change reply = Nothing

-- a file was cut, where it is told that it is open
abbrev pub cut_by : Bool → Told → Change
cut_by truncates (told.Open opened) = node_if truncates Written
cut_by truncates reply = Nothing

-- bytes were written, where some are told
abbrev pub wrote : Told → Change
wrote (told.Written count) = node_if (not (count == 0)) Written
wrote reply = Nothing

-- attributes were set, where they are told
abbrev pub set_by : SetAttr → Told → Change
set_by fields (told.Attr attr) = Node (Set fields)
set_by fields reply = Nothing

-- What a message changes: a file or a directory that it made, with the names of the directory; the names of the
-- directory from which it took one, or of both between which it moved one; the bytes of a file that it wrote or cut;
-- attributes that it set. What is refused changes nothing.
abbrev pub change_of : Said → Told → Change
change_of (mknod fields name) reply = made_by reply
change_of (mkdir fields name) reply = made_by reply
change_of (create fields name) reply = made_by reply
change_of (unlink name) reply = if_done (Node Written) reply
change_of (rmdir name) reply = if_done (Node Written) reply
change_of (rename fields name new_name) reply = if_done Moved reply
change_of (opening fields) reply = cut_by fields.flags.truncate reply
change_of (write fields bytes) reply = wrote reply
change_of (setattr fields) reply = set_by fields reply
change_of (ioctl fields) reply = if_done (Node Restated) reply
change_of message reply = Nothing

-- the node of a message's second directory, or 0, which is none
abbrev pub other_node : Said → ℕ
other_node (rename fields name new_name) = fields.directory
other_node message = 0
