-- What the cleaner's calls answer, and what they change.
use Rattle.std.specs.Prelude.{◌≡◌, ◌≢◌, ℕ, ◌+◌, ◌/◌, ◌<◌, ◌≤◌, List, Result, IfErr, OnErr, OnOk, map}
use Rattle.lfs_types.specs.declared.limits.TheConstants.{SEGMENT_BLOCKS}
use Rattle.lfs_types.specs.declared.cleaner.BlockInfo.{BlockInfo}
use Rattle.lfs_types.specs.declared.cleaner.CleanFault.{CleanFault}
use Rattle.lfs_types.specs.declared.cleaner.CleanFault.TheVariants.{NoSuchSegment, Active, NotDirty, Live}
use Rattle.lfs_ifile.specs.declared.segment.SegState.TheVariants as used
use Rattle.lfs_ifile.specs.Layout.{ifile_bytes}
use Rattle.lfs_ifile.specs.Tables.{with_state}
use Rattle.lfs_bmap.specs.declared.blocks.TheConstants.{BLOCK_CODES}
use Rattle.lfs_bmap.specs.Counting.{live_bytes}
use Rattle.lfs_bmap.specs.Moves.{present_address}
use Rattle.lfs_log.specs.Infos.{HasInfo, infos_of}
use Rattle.lfs_log.specs.Parts.{live_of, state_of}
use Rattle.lfs_parts.specs.declared.parts.Parts.{Parts}
use Rattle.lfs_parts.specs.Files.{content_of}
use Rattle.lfs_parts.specs.Keys.{log_state}
use Rattle.lfs_segwrite.specs.Marking.{code_named}
use Rattle.lfs_segwrite.specs.Ordered.{IsOrdered}

-- the present address of a key: a number, a version and the code of a block
abbrev pub address_of : Parts → ℕ → ℕ → ℕ → ℕ
address_of p number version code = present_address (log_state p) number version code

-- the live bytes of a segment, counted from scratch over the places of all keys
abbrev pub counted_live : Parts → ℕ → ℕ
counted_live p segment = live_bytes (log_state p).numbers BLOCK_CODES (log_state p).at segment

-- What holds of segments and keys after every call: the live bytes of each segment are the count from scratch; no
-- present address lies in a clean segment; each stands, with its key, among the infos of its segment.
pub record IsAccounted (p : Parts) : Type 0 where
  pub counted : (segment : ℕ) → segment < p.log.memory.segments → live_of p.log.tables segment ≡ counted_live p segment
  pub none_in_clean : (number version code : ℕ) → address_of p number version code ≢ 0
      → state_of p.log.tables (address_of p number version code / SEGMENT_BLOCKS) ≢ used.Clean
  pub found : (number version code : ℕ) → address_of p number version code ≢ 0
      → HasInfo (infos_of p.log.memory (address_of p number version code / SEGMENT_BLOCKS))
      (address_of p number version code)
      (record { number = number; version = version; code = code })

-- the bytes are the ifile's: of the segments' live bytes and states, and of the inode map
abbrev pub GivesIfile : Parts → List ℕ → Type 0
GivesIfile p bytes = bytes ≡ ifile_bytes p.log.tables

-- why a segment's infos are not given: it is none of the volume, the active one, or clean
abbrev pub IsListingFaultOf : Parts → ℕ → CleanFault → Type 0
IsListingFaultOf p segment NoSuchSegment = p.log.memory.segments ≤ segment
IsListingFaultOf p segment Active = (segment < p.log.memory.segments) × (state_of p.log.tables segment ≡ used.Active)
IsListingFaultOf p segment NotDirty = (segment < p.log.memory.segments) × (state_of p.log.tables segment ≡ used.Clean)
IsListingFaultOf p segment fault = ⊥

-- a dirty segment of the volume, and its live bytes
pub record HasLive (p : Parts) (segment live : ℕ) : Type 0 where
  pub inside : segment < p.log.memory.segments
  pub dirty : state_of p.log.tables segment ≡ used.Dirty
  pub bytes : live ≡ counted_live p segment

-- a dirty segment of the volume, and its infos
pub record IsListed (p : Parts) (segment : ℕ) (infos : List BlockInfo) : Type 0 where
  pub inside : segment < p.log.memory.segments
  pub dirty : state_of p.log.tables segment ≡ used.Dirty
  pub listed : infos ≡ infos_of p.log.memory segment

-- A call for the infos of a segment may have this result, and leave this list.
pub record GivesInfos (p : Parts) (segment : ℕ) (result : Result (Unit {0}) CleanFault)
    (infos : List BlockInfo) : Type 0 where
  pub ok : OnOk result (IsListed p segment infos)
  pub err : IfErr result (IsListingFaultOf p segment)

-- an info with its present address: 0 where its number isn't in use or has another version, where no file can have such
-- a block, or where the block has no address
abbrev pub with_address : Parts → BlockInfo → BlockInfo
with_address p info = record info { addr = address_of p info.ino info.version (code_named info.lbn) }

-- infos become these, each with its present address
abbrev pub GivesAddresses : Parts → List BlockInfo → List BlockInfo → Type 0
GivesAddresses p old new = new ≡ map (with_address p) old

-- why a segment isn't made clean: it is none of the volume, the active one, clean already, or has so many live bytes
abbrev pub IsReclaimFaultOf : Parts → ℕ → CleanFault → Type 0
IsReclaimFaultOf p segment NoSuchSegment = p.log.memory.segments ≤ segment
IsReclaimFaultOf p segment Active = (segment < p.log.memory.segments) × (state_of p.log.tables segment ≡ used.Active)
IsReclaimFaultOf p segment NotDirty = (segment < p.log.memory.segments) × (state_of p.log.tables segment ≡ used.Clean)
IsReclaimFaultOf p segment (Live bytes) =
    (segment < p.log.memory.segments) × (state_of p.log.tables segment ≡ used.Dirty) × (bytes ≡ counted_live p segment)
    × (0 < bytes)
IsReclaimFaultOf p segment fault = ⊥

-- A dirty segment in which no key has a place was made clean, and all else stays.
pub record IsReclaimed (old : Parts) (segment : ℕ) (new : Parts) : Type 0 where
  pub inside : segment < old.log.memory.segments
  pub was_dirty : state_of old.log.tables segment ≡ used.Dirty
  pub empty : counted_live old segment ≡ 0
  pub none_there : (number version code : ℕ) → address_of old number version code ≢ 0
      → address_of old number version code / SEGMENT_BLOCKS ≢ segment
  pub tables : new.log.tables ≡ with_state old.log.tables segment used.Clean
  pub clean : new.log.clean ≡ old.log.clean + 1
  pub memory : new.log.memory ≡ old.log.memory
  pub ordered : IsOrdered old.log → IsOrdered new.log
  pub cache : new.cache ≡ old.cache
  pub waiting : new.waiting ≡ old.waiting
  pub content : content_of new ≡ content_of old
  pub addresses : (number version code : ℕ) → address_of new number version code ≡ address_of old number version code

-- A segment may be made clean with this result, from one state of the store to another.
pub record Reclaims (old : Parts) (segment : ℕ) (result : Result (Unit {0}) CleanFault) (new : Parts) : Type 0 where
  pub ok : OnOk result (IsReclaimed old segment new)
  pub err : IfErr result (IsReclaimFaultOf old segment)
  pub refused : OnErr result (new ≡ old)
