-- The worlds outside a mount: what they tell, and what they are then.
use Rattle.std.specs.Prelude.{◌≡◌, ⊤, ℕ, ◌+◌, min, List, [], Option, Some}
use Rattle.lfs_fuse_wire.specs.declared.attributes.Time.{Time}
use Rattle.lfs_fuse_wire.specs.declared.header.Header.{Header}
use Rattle.lfs_fuse_talk.specs.declared.outside.Recording.{Recording}
use Rattle.lfs_fuse_talk.specs.declared.outside.System.{System}

-- each look at the time of a recording is a second behind the one before
abbrev pub recorded_time : Recording → Time → Recording → Type 0
recorded_time old now new =
    (now ≡ record { seconds = old.seconds; nanoseconds = 0 })
    × (new.seconds ≡ min (old.seconds + 1) 0xFFFF_FFFF_FFFF_FFFF)

-- the processes of a recording are in no group but that of their message
abbrev pub no_groups : Recording → Header → Option (List ℕ) → Recording → Type 0
no_groups old header found new = (found ≡ Some []) × (new ≡ old)

-- of the system's clock, and of its processes' groups, nothing is known; a look at the groups leaves the clock
abbrev pub any_time : {P : Type 0} → P → Time → P → Type 0
any_time old now new = ⊤

abbrev pub any_groups : {S F Dir : Type 0} → System S F Dir → Header → Option (List ℕ)
    → System S F Dir → Type 0
any_groups old header found new = (new.system ≡ old.system) × (new.last ≡ old.last)
