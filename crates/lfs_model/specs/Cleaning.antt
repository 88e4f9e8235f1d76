-- What may come of a cleaner's call.
use Rattle.std.specs.Prelude.{◌≡◌, ◌≢◌, ℕ, ◌+◌, ◌*◌, ◌≤◌}
use Rattle.lfs_types.specs.Caller.{Caller}
use Rattle.lfs_types.specs.declared.cleaner.CleanFault.{CleanFault}
use Rattle.lfs_types.specs.declared.cleaner.CleanFault.TheVariants.{NoSuchSegment, Active, NotDirty, Live, NoSpace, NotGainful}
use Rattle.lfs_types.specs.declared.cleaner.TheConstants.{INFO_LIMIT, MARK_LIMIT}
use Rattle.lfs_model.specs.declared.asking.CleanerAct.{CleanerAct}
use Rattle.lfs_model.specs.declared.asking.CleanerAct.TheVariants as acts
use Rattle.lfs_model.specs.declared.journal.CleanerKind.{CleanerKind}
use Rattle.lfs_model.specs.declared.journal.CleanerKind.TheVariants.{Ifile, Infos, Bmapv, Markv, Segclean, Gain}
use Rattle.lfs_model.specs.declared.journal.CleanerOutcome.{CleanerOutcome}
use Rattle.lfs_model.specs.declared.journal.CleanerOutcome.TheVariants.{Denied, Fault, Done}

-- which call of the cleaner asks this
abbrev pub kind_of : CleanerAct → CleanerKind
kind_of acts.Ifile = Ifile
kind_of (acts.Infos segment) = Infos
kind_of (acts.Bmapv infos) = Bmapv
kind_of (acts.Markv marks) = Markv
kind_of (acts.Segclean segment) = Segclean
kind_of acts.Gain = Gain

-- how many bytes an ifile has: a header, and an entry for each segment and for each inode number
abbrev pub ifile_size : ℕ → ℕ → ℕ
ifile_size numbers segments = 12 + 8 * segments + 12 * numbers

-- the faults of each call
abbrev pub MayFault : CleanerKind → CleanFault → Type 0
MayFault Infos NoSuchSegment = Unit {0}
MayFault Infos Active = Unit {0}
MayFault Infos NotDirty = Unit {0}
MayFault Markv NoSpace = Unit {0}
MayFault Segclean NoSuchSegment = Unit {0}
MayFault Segclean Active = Unit {0}
MayFault Segclean NotDirty = Unit {0}
MayFault Segclean (Live bytes) = Unit {0}
MayFault Gain NotGainful = Unit {0}
MayFault kind fault = ⊥

-- how much each call may have done: bytes of the ifile, infos, blocks written again
abbrev pub MayDo : ℕ → ℕ → CleanerKind → ℕ → Type 0
MayDo numbers segments Ifile n = n ≡ ifile_size numbers segments
MayDo numbers segments Infos n = n ≤ INFO_LIMIT
MayDo numbers segments Bmapv n = n ≤ INFO_LIMIT
MayDo numbers segments Markv n = n ≤ MARK_LIMIT
MayDo numbers segments Segclean n = n ≡ 0
MayDo numbers segments Gain n = n ≡ 0

-- a cleaner's call of this caller may come to this: it is denied exactly where the caller isn't the superuser
abbrev pub IsCleaning : ℕ → ℕ → Caller → CleanerKind → CleanerOutcome → Type 0
IsCleaning numbers segments caller kind Denied = caller.uid ≢ 0
IsCleaning numbers segments caller kind (Fault fault) = (caller.uid ≡ 0) × MayFault kind fault
IsCleaning numbers segments caller kind (Done n) = (caller.uid ≡ 0) × MayDo numbers segments kind n
