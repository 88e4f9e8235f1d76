-- Images of volumes, and what is wrong with bytes that are the image of none.
use Rattle.std.specs.Prelude.{◌≡◌, ◌≢◌, ℕ, zero, suc, List, ◌++◌, codes}
use Rattle.lfs_types.specs.declared.level.Level.{Level}
use Rattle.lfs_log.specs.Parts.{LogParts}
use Rattle.lfs_parts.specs.Files.{content_of}
use Rattle.lfs_logstore.specs.States.{state_of}
use Rattle.lfs_calls.specs.Volumes.{HasWorld}
use Rattle.lfs_fsck.specs.Stored.{IsStored, flushed}
use Rattle.lfs_trees.specs.declared.fault.TreeFault.{TreeFault}
use Rattle.lfs_trees.specs.declared.fault.TreeFault.TheVariants as tree_fault
use Rattle.lfs_trees.specs.Faults.{IsTreeFaultOf}
use Rattle.lfs_view.specs.SpaceText.{space_text}
use Rattle.lfs_image.specs.declared.fault.ImageFault.TheVariants as image_fault
use Rattle.lfs_image.specs.Faults.{IsImageFaultOf}
use Rattle.lfs_image.specs.Image.{IsImageOf, IsLabelled}
use Rattle.lfs_checking.specs.declared.fault.VolumeFault.{VolumeFault}
use Rattle.lfs_checking.specs.declared.fault.VolumeFault.TheVariants.{Image, Tree, Memory}

-- bytes are the image of a labelled log on which a store may stand whose names show a tree
pub record IsVolume (bytes : List ℕ) (l : LogParts) (level : Level) : Type 0 where
  pub image : IsImageOf bytes l level
  pub labelled : IsLabelled l
  pub stored : IsStored l
  pub world : HasWorld (state_of (flushed l))

-- the names of the store whose image the bytes are have this fault
pub record HasTreeFault (bytes : List ℕ) (fault : TreeFault) : Type 0 where
  pub log : LogParts
  pub level : Level
  pub image : IsImageOf bytes log level
  pub is : IsTreeFaultOf (content_of (flushed log)) fault

-- what a fault says of bytes; want of memory says nothing of them
abbrev pub IsVolumeFaultOf : List ℕ → VolumeFault → Type 0
IsVolumeFaultOf bytes (Image fault) = (fault ≢ image_fault.Memory) × IsImageFaultOf bytes fault
IsVolumeFaultOf bytes (Tree fault) = (fault ≢ tree_fault.Memory) × HasTreeFault bytes fault
IsVolumeFaultOf bytes Memory = Unit {0}

-- what is told of a volume: that it is well, and how full it is
abbrev pub well_text : LogParts → List ℕ
well_text l = codes "ok\n" ++ space_text (flushed l)

-- bytes are the image of a volume, of which this is told
pub record IsTold (bytes text : List ℕ) : Type 0 where
  pub log : LogParts
  pub level : Level
  pub volume : IsVolume bytes log level
  pub told : text ≡ well_text log

-- bytes are the image of no volume, and why
pub record IsFaulty (bytes : List ℕ) : Type 0 where
  pub fault : VolumeFault
  pub is : IsVolumeFaultOf bytes fault
  pub other : fault ≢ Memory
  pub none : (l : LogParts) (level : Level) → IsVolume bytes l level → ⊥

-- the status of a check of these bytes, and what it tells: 0 of the image of a volume, else 1
abbrev pub IsVerdict : List ℕ → ℕ → List ℕ → Type 0
IsVerdict bytes zero text = IsTold bytes text
IsVerdict bytes (suc n) text = (n ≡ 0) × IsFaulty bytes
