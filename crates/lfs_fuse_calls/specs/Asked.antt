-- The calls that a message asks for, of a path, in order.
use Rattle.std.specs.Prelude.{ℕ, ◌+◌, ◌/◌, ◌%◌, ◌==◌, if◌then◌else◌, Bool, true, false, List, [], ◌∷◌, ◌++◌, length}
use Rattle.std.specs.Prelude.{Option, None, Some}
use Rattle.lfs_types.specs.declared.attrs.Attrs.{Attrs}
use Rattle.lfs_types.specs.declared.request.Request.{Request}
use Rattle.lfs_types.specs.declared.request.Request.TheVariants.{Stat, Read, Write, List as Names, SetLength, Create}
use Rattle.lfs_types.specs.declared.request.Request.TheVariants.{Mkdir, Unlink, Rmdir, Chmod, Chown}
use Rattle.lfs_fuse_wire.specs.declared.attributes.SetAttr.{SetAttr}
use Rattle.lfs_fuse_wire.specs.declared.flags.AccessMode.{AccessMode}
use Rattle.lfs_fuse_wire.specs.declared.flags.AccessMode.TheVariants.{ReadOnly, WriteOnly, ReadWrite, Neither}
use Rattle.lfs_fuse_wire.specs.declared.flags.OpenFlags.{OpenFlags}
use Rattle.lfs_fuse_wire.specs.Said.{Said, lookup, getattr, setattr, access, mknod, mkdir, create, unlink, rmdir}
use Rattle.lfs_fuse_wire.specs.Said.{opening, read, write, opendir, ioctl}
use Rattle.lfs_fuse_calls.specs.Pieces.{piece_count, put_at, read_pieces, write_pieces}

-- a call that is asked for under a condition
abbrev pub asked_if : Bool → Request → List Request
asked_if true request = request ∷ []
asked_if false request = []

-- a call that is asked for where there is a value
abbrev pub asked_with : (ℕ → Request) → Option ℕ → List Request
asked_with request None = []
asked_with request (Some value) = request value ∷ []

-- which access modes read, and which write
abbrev pub reads : AccessMode → Bool
reads ReadOnly = true
reads WriteOnly = false
reads ReadWrite = true
reads Neither = true

abbrev pub writes : AccessMode → Bool
writes ReadOnly = false
writes WriteOnly = true
writes ReadWrite = true
writes Neither = true

-- to open a file: to read no bytes and to write none, as the flags tell, to cut it, and to look at one that is to be run
abbrev pub asked_to_open : OpenFlags → List (List ℕ) → List Request
asked_to_open flags path =
    asked_if (reads flags.access) (Read path 0 0)
    ++ asked_if (writes flags.access) (Write path (put_at flags.append 0) [])
    ++ asked_if flags.truncate (SetLength path 0)
    ++ asked_if flags.exec (Stat path)

-- the permissions that a message tells
abbrev pub mode_of : ℕ → ℕ
mode_of permissions = permissions % 4096

-- what the owner lacks of the bits by which he may read and write
abbrev pub lacking : ℕ → ℕ
lacking mode = (if mode / 256 % 2 == 0 then 256 else 0) + (if mode / 128 % 2 == 0 then 128 else 0)

-- The mode with which a file is made that is opened too: as its message tells, and with its owner's right to read and
-- write, by which the one who makes it fills it.
abbrev pub lent_mode : ℕ → ℕ
lent_mode permissions = mode_of permissions + lacking (mode_of permissions)

-- the mode that it gets once it is closed, where that is another
abbrev pub due_mode : ℕ → Option ℕ
due_mode permissions = if lacking (mode_of permissions) == 0 then None else Some (mode_of permissions)

-- Of one path: that of the message's node, or of the name in it.
abbrev pub asked : Said → List (List ℕ) → List Request
asked (lookup name) path = Stat path ∷ []
asked (getattr fields) path = Stat path ∷ []
asked (setattr fields) path = Stat path ∷ []
asked (access fields) path = Stat path ∷ []
asked (ioctl fields) path = Stat path ∷ []
asked (mknod fields name) path = Create path (mode_of fields.permissions) ∷ Stat path ∷ []
asked (create fields name) path = Create path (lent_mode fields.permissions) ∷ Stat path ∷ []
asked (mkdir fields name) path = Mkdir path (mode_of fields.permissions) ∷ Stat path ∷ []
asked (unlink name) path = Unlink path ∷ []
asked (rmdir name) path = Rmdir path ∷ []
asked (opening fields) path = asked_to_open fields.flags path
asked (read fields) path = read_pieces path fields.offset fields.size (piece_count fields.size)
asked (write fields bytes) path = write_pieces path fields.flags.append fields.offset bytes (piece_count (length bytes))
asked (opendir fields) path = Names path ∷ []
asked message path = []

-- the value that is told, or else the present one
abbrev pub told_or : ℕ → Option ℕ → ℕ
told_or present None = present
told_or present (Some value) = value

-- whether an owner or a group is told
abbrev pub is_told : Option ℕ → Option ℕ → Bool
is_told None None = false
is_told (Some uid) gid = true
is_told None (Some gid) = true

-- to change attributes that are these: the length, the owner and the group, the permissions; and to show them
abbrev pub asked_to_set : SetAttr → Attrs → List (List ℕ) → List Request
asked_to_set fields present path =
    asked_with (SetLength path) fields.size
    ++ asked_if (is_told fields.uid fields.gid)
    (Chown path (told_or present.uid fields.uid) (told_or present.gid fields.gid))
    ++ asked_with (λ permissions. Chmod path (mode_of permissions)) fields.permissions
    ++ Stat path ∷ []
