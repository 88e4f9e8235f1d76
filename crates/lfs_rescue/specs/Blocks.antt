-- What is found in the bytes of a volume's blocks, and what is told of it.
use Rattle.std.specs.Prelude.{◌≡◌, ◌≢◌, ◌*◌, ◌≤◌, ◌++◌, ℕ, zero, suc, List, Option, None, Some, All, IfSome, codes, decimal}
use Rattle.std.specs.Prelude.{length, ⊤}
use Rattle.std.specs.List.{flat_map}
use Rattle.lfs_types.specs.declared.level.Level.TheVariants.{HighlySecure}
use Rattle.lfs_types.specs.declared.limits.TheConstants.{SEGMENT_BLOCKS}
use Rattle.lfs_types.specs.Ranges.{least_segments, most_segments}
use Rattle.lfs_segments.specs.Memory.{SegmentMemory}
use Rattle.lfs_log.specs.Parts.{LogParts}
use Rattle.lfs_parts.specs.declared.parts.Parts.{Parts}
use Rattle.lfs_parts.specs.Files.{content_of}
use Rattle.lfs_logstore.specs.States.{state_of}
use Rattle.lfs_calls.specs.Volumes.{HasWorld}
use Rattle.lfs_fsck.specs.Stored.{IsStored, flushed}
use Rattle.lfs_image.specs.Image.{IsLabelled}
use Rattle.lfs_durable.specs.Crashes.{IsCrashOf}
use Rattle.lfs_durable.specs.Kept.{CanBeFound}
use Rattle.lfs_durable.specs.Names.{IsDurable}
use Rattle.lfs_checking.specs.Files.{HasImage}
use Rattle.lfs_checking.specs.Volumes.{well_text}
use Rattle.lfs_rescue.specs.declared.fault.RecoverFault.{RecoverFault}
use Rattle.lfs_rescue.specs.declared.fault.RecoverFault.TheVariants.{Empty, Volume, Number, LastSerial, Length, Memory}
use Rattle.lfs_rescue.specs.Contents.{EndsInOrder}
use Rattle.lfs_rescue.specs.Recovering.{IsRecovered, IsRecoverFaultOf}

-- bytes are the blocks of a memory's segments, of 512 bytes each, from address 0 on
pub record IsMemoryOf (bytes : List ℕ) (m : SegmentMemory) : Type 0 where
  pub whole : length m.blocks ≡ m.segments * SEGMENT_BLOCKS
  pub each : All (λ block. length block ≡ 512) m.blocks
  pub spelled : flat_map (λ block. block) m.blocks ≡ bytes

-- a log is what bytes tell that are a volume's blocks
pub record IsFoundIn (bytes : List ℕ) (l : LogParts) : Type 0 where
  pub memory : SegmentMemory
  pub blocks : IsMemoryOf bytes memory
  pub recovered : IsRecovered memory l

-- A store found in bytes contains what each store contained that showed a tree, of which all lay in its log, and of which
-- a crash, or no crash, left these bytes.
abbrev pub FindsAllIn : List ℕ → Parts → Type 0
FindsAllIn bytes found = (p : Parts) (m : SegmentMemory) → IsDurable p → HasWorld (state_of p) → IsMemoryOf bytes m
    → IsCrashOf p m → content_of found ≡ content_of p

-- No such store is one of which a crash, or no crash, left these bytes.
abbrev pub IsLeftOfNoneIn : List ℕ → Type 0
IsLeftOfNoneIn bytes = (p : Parts) (m : SegmentMemory) → IsDurable p → HasWorld (state_of p) → IsMemoryOf bytes m
    → IsCrashOf p m → ⊥

-- A store found in them can be found again, where their segments were written one after the other.
abbrev pub IsFindableIn : List ℕ → Parts → Type 0
IsFindableIn bytes found = (p : Parts) (m : SegmentMemory) → IsDurable p → HasWorld (state_of p) → IsMemoryOf bytes m
    → IsCrashOf p m → EndsInOrder m → CanBeFound found

-- what a fault says of the memory of bytes
abbrev pub IsFaultIn : List ℕ → RecoverFault → Type 0
IsFaultIn bytes fault = (m : SegmentMemory) × IsMemoryOf bytes m × IsRecoverFaultOf m fault

-- what a fault says of bytes: Length, that they are no whole segments of a volume; want of memory says nothing of them
abbrev pub IsBlocksFaultOf : List ℕ → RecoverFault → Type 0
IsBlocksFaultOf bytes Length =
    (segments : ℕ) → least_segments ≤ segments → segments ≤ most_segments → length bytes ≡ 32768 * segments → ⊥
IsBlocksFaultOf bytes Memory = ⊤
IsBlocksFaultOf bytes Empty = IsFaultIn bytes Empty
IsBlocksFaultOf bytes (Volume fault) = IsFaultIn bytes (Volume fault)
IsBlocksFaultOf bytes (Number number) = IsFaultIn bytes (Number number)
IsBlocksFaultOf bytes LastSerial = IsFaultIn bytes LastSerial

-- The words of a fault. Of one of the volume that was made they are that fault's, which are not stated.
abbrev pub fault_words : RecoverFault → Option (List ℕ)
fault_words Empty = Some (codes "no whole partial segment")
fault_words (Volume fault) = None
fault_words (Number number) = Some (codes "inode " ++ (decimal number ++ codes ": no record"))
fault_words LastSerial = Some (codes "the last serial is given out, and does not tell which is the newest")
fault_words Length = Some (codes "no whole segments, or too few or too many")
fault_words Memory = Some (codes "no memory")

-- a text is the line of a fault, where its words are stated
abbrev pub IsFaultLine : RecoverFault → List ℕ → Type 0
IsFaultLine fault text = IfSome (fault_words fault) (λ words. text ≡ codes "fault: " ++ (words ++ codes "\n"))

-- a volume is found in bytes, whose block 0 is its label and whose names show a tree, with all that a store contained
-- whose bytes these are, and that can be found again, and of which this is told; and a file got its image, where one is
-- asked for
pub record IsFound {F S : Type 0} (contents : F → Option (List ℕ)) (save : Option S) (bytes text : List ℕ) : Type 0 where
  pub log : LogParts
  pub found : IsFoundIn bytes log
  pub stored : IsStored log
  pub labelled : IsLabelled log
  pub world : HasWorld (state_of (flushed log))
  pub content : FindsAllIn bytes (flushed log)
  pub findable : IsFindableIn bytes (flushed log)
  pub told : text ≡ well_text log
  pub kept : IfSome save (λ _. HasImage contents log HighlySecure)

-- none is, as the bytes are left of no such store, and why, of which this is told
pub record IsLost (bytes text : List ℕ) : Type 0 where
  pub none : IsLeftOfNoneIn bytes
  pub fault : RecoverFault
  pub is : IsBlocksFaultOf bytes fault
  pub other : fault ≢ Memory
  pub told : IsFaultLine fault text

-- the status of a search in these bytes, and what it tells: 0 where a volume is found, else 1
abbrev pub IsRescueVerdict : {F S : Type 0} → (F → Option (List ℕ)) → Option S → List ℕ → ℕ → List ℕ → Type 0
IsRescueVerdict contents save bytes zero text = IsFound contents save bytes text
IsRescueVerdict contents save bytes (suc n) text = (n ≡ 0) × IsLost bytes text
