-- The kind and the permissions of a mode (stat(2)): its highest four bits, and its lowest twelve.
use Rattle.std.specs.Prelude.{ℕ, ◌==◌, if◌then◌else◌, Option, Some, None}
use Rattle.std.specs.Int.RustNames.{bit_and}
use Rattle.lfs_fuse_wire.specs.declared.kind.FileKind.{FileKind}
use Rattle.lfs_fuse_wire.specs.declared.kind.FileKind.TheVariants.{Regular, Directory}

abbrev pub kind_in : ℕ → Option FileKind
kind_in mode =
    if bit_and mode 0xf000 == 0x8000 then Some Regular else
    (if bit_and mode 0xf000 == 0x4000 then Some Directory else
    None)

abbrev pub permissions_in : ℕ → ℕ
permissions_in mode = bit_and mode 0xfff
