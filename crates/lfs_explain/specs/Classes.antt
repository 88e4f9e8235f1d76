-- By which class of a mode a caller is judged.
use Rattle.std.specs.Prelude.{if◌then◌else◌}
use Rattle.lfs_types.specs.Caller.{Caller}
use Rattle.lfs_types.specs.declared.attrs.Attrs.{Attrs}
use Rattle.lfs_rules.specs.Owners.{is_in_group, is_the_owner, is_the_superuser}
use Rattle.lfs_explain.specs.declared.class.Class.{Class}
use Rattle.lfs_explain.specs.declared.class.Class.TheVariants.{Superuser, Owner, Group, Others}

-- the superuser, else the owner, else one of the file's group, else another
abbrev pub class_of : Caller → Attrs → Class
class_of caller attrs =
    if is_the_superuser caller then Superuser else
    if is_the_owner caller attrs then Owner else
    if is_in_group caller attrs.gid then Group else Others
