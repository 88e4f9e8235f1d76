-- The bytes of a listing's entries (the FUSE protocol's fuse.h).
use Rattle.std.specs.Prelude.{ℕ, ◌+◌, ◌-◌, ◌%◌, List, [], ◌∷◌, ◌++◌, Bool, length, nat_le, replicate, if◌then◌else◌}
use Rattle.std.specs.Prelude.{Option, Some, None}
use Rattle.lfs_fuse_wire.specs.declared.kind.FileKind.{FileKind}
use Rattle.lfs_fuse_wire.specs.declared.kind.FileKind.TheVariants.{Regular, Directory}
use Rattle.lfs_fuse_reply.specs.declared.attr.Entry.{Entry}
use Rattle.lfs_fuse_reply.specs.declared.listing.DirEntry.{DirEntry}
use Rattle.lfs_fuse_reply.specs.declared.listing.DirEntryPlus.{DirEntryPlus}
use Rattle.lfs_fuse_reply.specs.Attrs.{entry_bytes}
use Rattle.lfs_fuse_reply.specs.Numbers.{words, longs}

-- how many bytes are missing to a multiple of eight
abbrev pub missing : ℕ → ℕ
missing size = (8 - size % 8) % 8

-- kinds as readdir(3) numbers them
abbrev pub dirent_type : Option FileKind → ℕ
dirent_type None = 0
dirent_type (Some Directory) = 4
dirent_type (Some Regular) = 8

abbrev pub dirent_bytes : DirEntry → List ℕ
dirent_bytes e =
    longs (e.inode ∷ e.offset ∷ [])
    ++ words (length e.name.now ∷ dirent_type e.kind ∷ [])
    ++ e.name.now
    ++ replicate (missing (length e.name.now)) 0

-- the node of an entry that was looked up; node 0 is no look-up
abbrev pub looked_up_bytes : Option Entry → List ℕ
looked_up_bytes None = longs (replicate 16 0)
looked_up_bytes (Some e) = entry_bytes e

abbrev pub plus_bytes : DirEntryPlus → List ℕ
plus_bytes e = looked_up_bytes e.entry ++ dirent_bytes e.dirent

-- whether an entry of these bytes fits behind a listing that may have so many
abbrev pub fits_in : ℕ → List ℕ → List ℕ → Bool
fits_in most listing entry = nat_le (length listing + length entry) most

-- a listing, with the entry behind it where that fits
abbrev pub listed : ℕ → List ℕ → List ℕ → List ℕ
listed most listing entry = if fits_in most listing entry then listing ++ entry else listing
