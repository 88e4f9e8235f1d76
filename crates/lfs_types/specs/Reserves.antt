-- On whose behalf changes are made.
use Rattle.std.specs.Prelude.{◌==◌, if◌then◌else◌}
use Rattle.lfs_types.specs.Caller.{Caller}
use Rattle.lfs_types.specs.declared.store.Reserve.{Reserve}
use Rattle.lfs_types.specs.declared.store.Reserve.TheVariants.{Users, Superuser}

-- a caller's changes are the superuser's where he is user 0
abbrev pub reserve_of : Caller → Reserve
reserve_of caller = if caller.uid == 0 then Superuser else Users
