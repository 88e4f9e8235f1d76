-- Who a caller is to a file, and who may change its owner and group.
use Rattle.std.specs.Prelude.{ℕ, ◌==◌, ◌&&◌, ◌||◌, Bool, Option, None, Some, if◌then◌else◌}
use Rattle.std.specs.List.{list_any}
use Rattle.lfs_types.specs.Caller.{Caller}
use Rattle.lfs_types.specs.declared.attrs.Attrs.{Attrs}
use Rattle.lfs_types.specs.declared.rule.Rule.{Rule}
use Rattle.lfs_types.specs.declared.rule.Rule.TheVariants.{MaySetOwner}

-- user 0
abbrev pub is_the_superuser : Caller → Bool
is_the_superuser caller = caller.uid == 0

-- the owner
abbrev pub is_the_owner : Caller → Attrs → Bool
is_the_owner caller attrs = caller.uid == attrs.uid

-- a group is one of the caller's
abbrev pub is_in_group : Caller → ℕ → Bool
is_in_group caller gid = list_any (λ g. g == gid) caller.groups

abbrev pub is_owner_or_superuser : Caller → Attrs → Bool
is_owner_or_superuser caller attrs = is_the_superuser caller || is_the_owner caller attrs

-- chown(2): an owner who keeps the owner and sets the present group or one of his groups
abbrev pub is_giving_group : Caller → Attrs → ℕ → ℕ → Bool
is_giving_group caller attrs uid gid =
    is_the_owner caller attrs && (uid == attrs.uid) && ((gid == attrs.gid) || is_in_group caller gid)

-- whether the caller may set this owner and group
abbrev pub may_set_owner : Caller → Attrs → ℕ → ℕ → Bool
may_set_owner caller attrs uid gid = is_the_superuser caller || is_giving_group caller attrs uid gid

-- the rule that denies setting this owner and group
abbrev pub owner_denial : Caller → Attrs → ℕ → ℕ → Option Rule
owner_denial caller attrs uid gid = if may_set_owner caller attrs uid gid then None else Some MaySetOwner
