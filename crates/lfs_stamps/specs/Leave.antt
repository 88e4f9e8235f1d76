-- Who may set times (utimensat(2)).
use Rattle.std.specs.Prelude.{ℕ, ◌==◌, ◌&&◌, ◌||◌, not, Bool, true, false, Option, None, Some, if◌then◌else◌}
use Rattle.std.specs.Int.RustNames.{bit_and}
use Rattle.lfs_types.specs.Caller.{Caller}
use Rattle.lfs_types.specs.declared.attrs.Attrs.{Attrs}
use Rattle.lfs_types.specs.declared.attrs.Bit.TheVariants as bit
use Rattle.lfs_rules.specs.Grants.{grants_of}
use Rattle.lfs_rules.specs.Owners.{is_the_superuser, is_the_owner}
use Rattle.lfs_fuse_wire.specs.declared.attributes.NewTime.{NewTime}
use Rattle.lfs_fuse_wire.specs.declared.attributes.NewTime.TheVariants.{Now, At}
use Rattle.lfs_fuse_wire.specs.declared.attributes.SetAttr.{SetAttr}
use Rattle.lfs_fuse_reply.specs.declared.errno.Errno.{Errno}
use Rattle.lfs_fuse_reply.specs.declared.errno.Errno.TheVariants.{EPERM, EACCES}

abbrev pub is_there : {X : Type 0} → Option X → Bool
is_there None = false
is_there (Some x) = true

-- a time is given, and not only the present one
abbrev pub is_given : Option NewTime → Bool
is_given None = false
is_given (Some Now) = false
is_given (Some (At time)) = true

abbrev pub sets_time : SetAttr → Bool
sets_time fields = is_there fields.accessed || is_there fields.modified || is_there fields.changed

abbrev pub sets_given : SetAttr → Bool
sets_given fields = is_given fields.accessed || is_given fields.modified || is_there fields.changed

-- both times are set to the present one, or one of them beside a length, and no other time
abbrev pub is_touch : SetAttr → Bool
is_touch fields =
    not (sets_given fields) && (is_there fields.size || (is_there fields.accessed && is_there fields.modified))

-- immutable, or append-only, by the user's or the system's flag
abbrev pub is_held : ℕ → Bool
is_held flags = not (bit_and flags 0x6_0006 == 0)

abbrev pub is_own : Caller → Attrs → Bool
is_own caller attrs = is_the_superuser caller || is_the_owner caller attrs

abbrev pub refusal_if : Bool → Errno → Option Errno
refusal_if true error = Some error
refusal_if false error = None

-- Why a caller may not set the times that a message sets, of a file of these attributes.
abbrev pub dating_refusal : Caller → SetAttr → Attrs → Option Errno
dating_refusal caller fields attrs =
    if not (sets_time fields) then None else
    (if is_held attrs.flags then Some EPERM else
    (if is_own caller attrs then None else
    (if not (is_touch fields) then Some EPERM else
    refusal_if (not (grants_of caller attrs bit.Write)) EACCES)))
