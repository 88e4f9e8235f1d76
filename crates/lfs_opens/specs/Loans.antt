-- Files that were made with more than their mode, until they are closed.
use Rattle.std.specs.Prelude.{ℕ, ◌+◌, ◌%◌, ◌==◌, if◌then◌else◌, List, Option, None, Some, slice_index_or, slice_set}
use Rattle.lfs_fuse_wire.specs.Said.{Said, create, opening, release, setattr}
use Rattle.lfs_fuse_calls.specs.Asked.{due_mode}
use Rattle.lfs_fuse_calls.specs.declared.told.Told.{Told}
use Rattle.lfs_fuse_calls.specs.declared.told.Told.TheVariants as told
use Rattle.lfs_opens.specs.Opens.{handle_of}

-- the mode that the file of a number gets once it is closed, if there is such a number
abbrev pub due_at : List (Option ℕ) → Option ℕ → Option ℕ
due_at modes None = None
due_at modes (Some number) = slice_index_or modes number None

-- the mode that is to be given at a message: at the release of an odd handle, that of a file that was made with more
abbrev pub due : Said → List (Option ℕ) → Option ℕ → Option ℕ
due (release fields) modes row = if fields.handle % 2 == 1 then due_at modes row else None
due message modes row = None

-- a handle tells the slot of its file, and by 1 more that it was made with more than its mode
abbrev pub handle_for : Option ℕ → Option ℕ → ℕ
handle_for slot None = handle_of slot
handle_for slot (Some mode) = handle_of slot + 1

-- what is told of a message that opened a file: its handle
abbrev pub told_with : ℕ → Told → Told
told_with handle (told.Create entry opened) =
    told.Create entry (record { handle = handle; direct_io = opened.direct_io })
told_with handle (told.Open opened) =
    told.Open (record { handle = handle; direct_io = opened.direct_io })
told_with handle reply = reply

abbrev pub with_handle : Option ℕ → Said → Told → Told
with_handle slot (create fields name) reply =
    told_with (handle_for slot (due_mode fields.permissions)) reply
with_handle slot (opening fields) reply = told_with (handle_for slot None) reply
with_handle slot message reply = reply

-- a mode is put down for a file that is made, and no longer once it was told another
abbrev pub noted_made : Option ℕ → Told → List (Option ℕ) → List (Option ℕ)
noted_made mode (told.Create entry opened) modes = slice_set modes entry.attr.inode mode
noted_made mode reply modes = modes

abbrev pub noted_set : Option ℕ → Told → List (Option ℕ) → List (Option ℕ)
noted_set (Some permissions) (told.Attr attr) modes = slice_set modes attr.inode None
noted_set permissions reply modes = modes

abbrev pub noted : Said → Told → List (Option ℕ) → List (Option ℕ)
noted (create fields name) reply modes = noted_made (due_mode fields.permissions) reply modes
noted (setattr fields) reply modes = noted_set fields.permissions reply modes
noted message reply modes = modes
