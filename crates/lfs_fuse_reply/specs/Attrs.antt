-- The bytes of attributes and entries (the FUSE protocol's fuse.h).
use Rattle.std.specs.Prelude.{ℕ, ◌+◌, ◌%◌, List, [], ◌∷◌, ◌++◌}
use Rattle.lfs_fuse_wire.specs.declared.kind.FileKind.{FileKind}
use Rattle.lfs_fuse_wire.specs.declared.kind.FileKind.TheVariants.{Regular, Directory}
use Rattle.lfs_fuse_reply.specs.declared.attr.Attr.{Attr}
use Rattle.lfs_fuse_reply.specs.declared.attr.Entry.{Entry}
use Rattle.lfs_fuse_reply.specs.Numbers.{words, longs}

-- the highest bits of a mode (stat(2))
abbrev pub kind_bits : FileKind → ℕ
kind_bits Regular = 0x8000
kind_bits Directory = 0x4000

abbrev pub mode_of : FileKind → ℕ → ℕ
mode_of kind permissions = kind_bits kind + permissions % 0x1000

-- the seconds of the three times, then their nanoseconds
abbrev pub times_bytes : Attr → List ℕ
times_bytes a =
    longs (a.accessed.seconds ∷ a.modified.seconds ∷ a.changed.seconds ∷ [])
    ++ words (a.accessed.nanoseconds ∷ a.modified.nanoseconds ∷ a.changed.nanoseconds ∷ [])

abbrev pub attr_bytes : Attr → List ℕ
attr_bytes a =
    longs (a.inode ∷ a.size ∷ a.blocks ∷ [])
    ++ times_bytes a
    ++ words (mode_of a.kind a.permissions ∷ a.links ∷ a.uid ∷ a.gid ∷ [])
    ++ words (0 ∷ a.block_size ∷ 0 ∷ [])

-- an entry and its attributes; the four zeros behind the node say that neither is kept for any time
abbrev pub entry_bytes : Entry → List ℕ
entry_bytes e = longs (e.node ∷ e.generation ∷ 0 ∷ 0 ∷ []) ++ words (0 ∷ 0 ∷ [])
    ++ attr_bytes e.attr
