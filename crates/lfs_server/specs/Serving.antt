-- Why a run is not handed out.
use Rattle.std.specs.Prelude.{◌≡◌, ℕ, ◌<◌, ◌≤◌, ◌⊎◌, false, [], ◌∷◌}
use Rattle.lfs_types.specs.Caller.{Caller}
use Rattle.lfs_types.specs.declared.fault.FormatFault.{FormatFault}
use Rattle.lfs_types.specs.declared.fault.FormatFault.TheVariants.{TooFew, TooMany}
use Rattle.lfs_types.specs.declared.fault.FormatFault.TheVariants as formats
use Rattle.lfs_parts.specs.Opening.{IsTooFew, IsTooMany}
use Rattle.lfs_server.specs.declared.serving.ServeFault.{ServeFault}
use Rattle.lfs_server.specs.declared.serving.ServeFault.TheVariants.{Sessions, Format, Memory, Unsettled}

-- as whom the cleaner calls: user 0 with group 0 alone, and not init
abbrev pub superuser : Caller
superuser = record { uid = 0; groups = 0 ∷ []; init = false }

-- the fault of a run that was begun
abbrev pub IsRunFault : ServeFault → Type 0
IsRunFault Sessions = ⊥
IsRunFault (Format fault) = ⊥
IsRunFault fault = Unit {0}

-- the fault of running threads: memory ran out, or one was not started
abbrev pub IsThreadFault : ServeFault → Type 0
IsThreadFault Sessions = ⊥
IsThreadFault (Format fault) = ⊥
IsThreadFault (Unsettled session) = ⊥
IsThreadFault fault = Unit {0}

-- the fault of a run of so many sessions over a volume: Sessions for none and for more than eight, and then alone
abbrev pub IsFaultOf : ℕ → ServeFault → Type 0
IsFaultOf sessions Sessions = (sessions ≡ 0) ⊎ (8 < sessions)
IsFaultOf sessions fault = IsRunFault fault × (0 < sessions) × (sessions ≤ 8)

-- the numbers of segments, inode numbers and frames are all in their ranges
pub record IsInRange (segments inodes frames : ℕ) : Type 0 where
  pub enough : IsTooFew segments inodes frames → ⊥
  pub not_more : IsTooMany segments inodes frames → ⊥

-- the fault of a run whose volume could not be laid out: Format for numbers out of their ranges
abbrev pub served_fault : FormatFault → ServeFault
served_fault TooFew = Format TooFew
served_fault TooMany = Format TooMany
served_fault formats.Memory = Memory

-- the fault of a run of so many sessions on a volume that is laid out for it: Sessions as above; else Format for
-- numbers of segments, inode numbers and frames out of their ranges, and for these alone
abbrev pub IsServeFault : ℕ → ℕ → ℕ → ℕ → ServeFault → Type 0
IsServeFault sessions segments inodes frames Sessions = (sessions ≡ 0) ⊎ (8 < sessions)
IsServeFault sessions segments inodes frames (Format TooFew) = IsTooFew segments inodes frames × (0 < sessions)
    × (sessions ≤ 8)
IsServeFault sessions segments inodes frames (Format TooMany) = IsTooMany segments inodes frames × (0 < sessions)
    × (sessions ≤ 8)
IsServeFault sessions segments inodes frames (Format fault) = ⊥
IsServeFault sessions segments inodes frames fault = (0 < sessions) × (sessions ≤ 8) × IsInRange segments inodes frames
