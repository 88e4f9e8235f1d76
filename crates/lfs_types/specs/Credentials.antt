-- Which credentials can be made.
use Rattle.std.specs.Prelude.{ℕ, ◌==◌, ◌&&◌, nat_lt, not, Bool, List, length, Option, None, Some, if◌then◌else◌}
use Rattle.lfs_types.specs.declared.cred.BadCred.{BadCred}
use Rattle.lfs_types.specs.declared.cred.BadCred.TheVariants.{NoGroup, TooManyGroups, InitNotRoot}

-- the first fault of a credential that is to be made
abbrev pub cred_fault : ℕ → List ℕ → Bool → Option BadCred
cred_fault uid groups init =
    if length groups == 0 then Some NoGroup else
    if nat_lt 16 (length groups) then Some TooManyGroups else
    if init && not (uid == 0) then Some InitNotRoot else None
