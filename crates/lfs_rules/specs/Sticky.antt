-- The sticky bit of a directory.
use Rattle.std.specs.Prelude.{◌&&◌, ◌||◌, not, Bool}
use Rattle.lfs_types.specs.Caller.{Caller}
use Rattle.lfs_types.specs.declared.attrs.Attrs.{Attrs}
use Rattle.lfs_rules.specs.Bits.{has_bit, sticky_bit}
use Rattle.lfs_rules.specs.Owners.{is_the_superuser, is_the_owner}

-- sticky(8): from a sticky directory only user 0 and the owners of the directory and of the file take it away. So: the
-- directory is sticky, and the caller is neither user 0 nor the owner of the file or of the directory
abbrev pub is_barred : Caller → Attrs → Attrs → Bool
is_barred caller dir file =
    has_bit dir.mode sticky_bit && not (is_the_superuser caller || is_the_owner caller file || is_the_owner caller dir)
