-- What the mode of a file grants a caller.
use Rattle.std.specs.Prelude.{ℕ, Bool, true, if◌then◌else◌}
use Rattle.lfs_types.specs.Caller.{Caller}
use Rattle.lfs_types.specs.declared.attrs.Attrs.{Attrs}
use Rattle.lfs_types.specs.declared.attrs.Bit.{Bit}
use Rattle.lfs_types.specs.declared.attrs.Bit.TheVariants.{Read, Write, Search}
use Rattle.lfs_rules.specs.Bits.{has_bit}
use Rattle.lfs_rules.specs.Owners.{is_the_superuser, is_the_owner, is_in_group}

-- chmod(2): the owner's, the group's and the others' bit
abbrev pub owner_mask : Bit → ℕ
owner_mask Read = 0o400
owner_mask Write = 0o200
owner_mask Search = 0o100

abbrev pub group_mask : Bit → ℕ
group_mask Read = 0o40
group_mask Write = 0o20
group_mask Search = 0o10

abbrev pub other_mask : Bit → ℕ
other_mask Read = 0o4
other_mask Write = 0o2
other_mask Search = 0o1

-- chmod(2), intro(2): one class of bits is asked alone. User 0: yes. The owner: the owner's bit. Else a member of the
-- group: the group's bit. Else the others' bit.
abbrev pub grants_of : Caller → Attrs → Bit → Bool
grants_of caller attrs bit =
    if is_the_superuser caller then true else
    if is_the_owner caller attrs then has_bit attrs.mode (owner_mask bit) else
    if is_in_group caller attrs.gid then has_bit attrs.mode (group_mask bit) else
    has_bit attrs.mode (other_mask bit)
