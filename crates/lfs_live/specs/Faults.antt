-- How a talk may end before its report.
use Rattle.lfs_audit.specs.declared.fault.RunFault.{RunFault}
use Rattle.lfs_audit.specs.declared.fault.RunFault.TheVariants.{Read, TooLong, Script, Format, Memory, Write}

-- a read or a write failed, or memory ran out
abbrev pub IsTalkFault : RunFault → Type 0
IsTalkFault Read = Unit {0}
IsTalkFault TooLong = ⊥
IsTalkFault (Script fault) = ⊥
IsTalkFault (Format fault) = ⊥
IsTalkFault Memory = Unit {0}
IsTalkFault Write = Unit {0}

-- a write failed, or memory ran out
abbrev pub IsLateFault : RunFault → Type 0
IsLateFault Read = ⊥
IsLateFault TooLong = ⊥
IsLateFault (Script fault) = ⊥
IsLateFault (Format fault) = ⊥
IsLateFault Memory = Unit {0}
IsLateFault Write = Unit {0}
