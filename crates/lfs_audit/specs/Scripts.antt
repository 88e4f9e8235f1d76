-- What a run of a script on a fresh volume over the log store prints, and how it may fail.
use Rattle.std.specs.Prelude.{◌≡◌, ℕ, List, Option}
use Rattle.lfs_types.specs.Tree.{opening_world}
use Rattle.lfs_parts.specs.Store.{IsFlushed}
use Rattle.lfs_parts.specs.declared.parts.Parts.{Parts}
use Rattle.lfs_logstore.specs.Answering.{ComesTo}
use Rattle.lfs_logstore.specs.CleanerCalls.{log_calls}
use Rattle.lfs_logstore.specs.States.{state_of}
use Rattle.lfs_volume.specs.Cleanings.{Cleaner, cleaner_of}
use Rattle.lfs_server.specs.Serving.{IsInRange}
use Rattle.lfs_server.specs.Fresh.{IsFormatFault, IsFreshLog}
use Rattle.lfs_audit.specs.Faults.{HasPlan, IsReadingFault}
use Rattle.lfs_audit.specs.Output.{IsOutput}
use Rattle.lfs_audit.specs.declared.fault.RunFault.{RunFault}
use Rattle.lfs_audit.specs.declared.fault.RunFault.TheVariants.{Format, Write}

-- the log store as a kind of store
abbrev pub log_cleaner : Cleaner Parts
log_cleaner = cleaner_of state_of IsFlushed ComesTo log_calls

-- a text is that of a run of the plan of a script, on a fresh volume over a log of so many segments, inode numbers and
-- frames, whose journal begins in the opening world
pub record IsLogOutput (script : List ℕ) (segments inodes frames limit : ℕ) (text : List ℕ) : Type 0 where
  pub store : Parts
  pub fresh : IsFreshLog segments inodes frames store
  pub output : IsOutput log_cleaner (λ from. from ≡ opening_world) script limit store text

-- a run of a script of these bytes, where they are known, on a fresh volume over such a log may end in this fault: the
-- log is laid out only once the script is parsed, and something is written only once the log is laid out
abbrev pub IsScriptFault : Option (List ℕ) → ℕ → ℕ → ℕ → RunFault → Type 0
IsScriptFault script segments inodes frames (Format fault) = HasPlan script × IsFormatFault segments inodes frames fault
IsScriptFault script segments inodes frames Write = HasPlan script × IsInRange segments inodes frames
IsScriptFault script segments inodes frames fault = IsReadingFault script fault
