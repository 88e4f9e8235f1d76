-- The log as its keys see it: which place each key has, what the log names there, and how segments are used. A key is
-- the number of a file and the code of one of its blocks.
use Rattle.std.specs.Prelude.{◌≡◌, ◌≢◌, ℕ, ◌+◌, ◌-◌, ◌*◌, ◌<◌, ◌≤◌, Option, Some}
use Rattle.lfs_types.specs.declared.limits.TheConstants.{SEGMENT_BLOCKS}
use Rattle.lfs_ifile.specs.declared.segment.SegState.{SegState}
use Rattle.lfs_ifile.specs.declared.segment.SegState.TheVariants.{Clean, Dirty, Active}
use Rattle.lfs_bmap.specs.declared.blocks.TheConstants.{BLOCK_CODES}
use Rattle.lfs_bmap.specs.Counting.{seg_of, total, weight_of, live_bytes, placed}

-- Whose block or record stands at a place.
pub record Owner : Type 0 where
  pub number : ℕ
  pub version : ℕ
  pub code : ℕ

-- What a store keeps of its log. It is read off the parts: `numbers`, `version`, `live` and `state` are the ifile's,
-- `segments`, `active` and `next` the segment memory's, `next` being the address that the next block gets; `at` is
-- `places` over the inode map and the files' records and blocks; `owner` is what the summaries name at a place, in an
-- inode block the record in the slot; `clean` is the kept count of clean segments.
pub record LogState : Type 0 where
  pub numbers : ℕ
  pub segments : ℕ
  pub at : ℕ → ℕ → ℕ
  pub version : ℕ → ℕ
  pub owner : ℕ → Option Owner
  pub live : ℕ → ℕ
  pub state : ℕ → SegState
  pub active : ℕ
  pub next : ℕ
  pub clean : ℕ

-- the owner that a key is
abbrev pub owner_of : LogState → ℕ → ℕ → Owner
owner_of l number code = record { number = number; version = l.version number; code = code }

-- a key of the volume that has a place
pub record IsPlaced (l : LogState) (number code : ℕ) : Type 0 where
  pub number_below : number < l.numbers
  pub code_below : code < BLOCK_CODES
  pub somewhere : l.at number code ≢ 0

-- what holds of the place that a key has: it lies in the volume, the log names the key there, its segment is not
-- clean, and in the active segment it lies before the end
pub record IsPlace (l : LogState) (number code place : ℕ) : Type 0 where
  pub in_volume : place < 4 * SEGMENT_BLOCKS * l.segments
  pub owned : l.owner place ≡ Some (owner_of l number code)
  pub not_clean : l.state (seg_of place) ≢ Clean
  pub written : seg_of place ≡ l.active → place < 4 * l.next

-- 1 for a clean segment
abbrev pub clean_unit : SegState → ℕ
clean_unit Clean = 1
clean_unit Dirty = 0
clean_unit Active = 0

-- how the segments stand: one is active, in it the log goes on, and the clean ones are counted
pub record AreSegments (l : LogState) : Type 0 where
  pub inside : l.active < l.segments
  pub is_active : l.state l.active ≡ Active
  pub no_other : (s : ℕ) → s < l.segments → l.state s ≡ Active → s ≡ l.active
  pub from : SEGMENT_BLOCKS * l.active ≤ l.next
  pub to : l.next ≤ SEGMENT_BLOCKS * l.active + SEGMENT_BLOCKS
  pub clean_count : l.clean ≡ total (λ s. clean_unit (l.state s)) l.segments

-- What holds of the log. The spare bytes are those of the active segment's blocks that no key has taken: blocks are
-- written first, and then keys take their places there.
pub record IsLog (l : LogState) (spare : ℕ) : Type 0 where
  pub segments : AreSegments l
  pub keys : (number code : ℕ) → IsPlaced l number code → IsPlace l number code (l.at number code)
  pub counted : (s : ℕ) → s < l.segments → l.live s ≡ live_bytes l.numbers BLOCK_CODES l.at s
  pub spared : l.live l.active + spare ≤ 512 * (l.next - SEGMENT_BLOCKS * l.active)

-- The two agree on the volume's size, and on the place of each key and the version of each number.
pub record SameKeys (old new : LogState) : Type 0 where
  pub numbers : new.numbers ≡ old.numbers
  pub segments : new.segments ≡ old.segments
  pub places : (number code : ℕ) → number < old.numbers → code < BLOCK_CODES → new.at number code ≡ old.at number code
  pub versions : (number : ℕ) → number < old.numbers → new.version number ≡ old.version number

-- and on where the log ends
pub record SameEnd (old new : LogState) : Type 0 where
  pub active : new.active ≡ old.active
  pub next : new.next ≡ old.next

-- and on how each segment is used
pub record SameUse (old new : LogState) : Type 0 where
  pub states : (s : ℕ) → s < old.segments → new.state s ≡ old.state s
  pub clean : new.clean ≡ old.clean

-- a place that was written: it lies before the log's end, or in another segment
abbrev pub IsWritten : LogState → ℕ → Type 0
IsWritten l place = seg_of place ≡ l.active → place < 4 * l.next

-- So many blocks were put at the log's end.
pub record Writes (old new : LogState) (blocks : ℕ) : Type 0 where
  pub keys : SameKeys old new
  pub used : SameUse old new
  pub live : (s : ℕ) → s < old.segments → new.live s ≡ old.live s
  pub active : new.active ≡ old.active
  pub next : new.next ≡ old.next + blocks
  pub room : old.next + blocks ≤ SEGMENT_BLOCKS * old.active + SEGMENT_BLOCKS
  pub owners : (place : ℕ) → IsWritten old place → new.owner place ≡ old.owner place

-- One key's place was changed, and live bytes with it: the old segment lost its bytes, the new one gained them.
pub record Assigns (old new : LogState) (number code place : ℕ) : Type 0 where
  pub numbers : new.numbers ≡ old.numbers
  pub segments : new.segments ≡ old.segments
  pub places : (n c : ℕ) → n < old.numbers → c < BLOCK_CODES → new.at n c ≡ placed old.at number code place n c
  pub versions : (n : ℕ) → n < old.numbers → new.version n ≡ old.version n
  pub end : SameEnd old new
  pub used : SameUse old new
  pub live : (s : ℕ) → s < old.segments
      → new.live s + weight_of (old.at number code) s code ≡ old.live s + weight_of place s code
  pub owners : (p : ℕ) → new.owner p ≡ old.owner p

-- A clean segment was made the active one, and the active one dirty.
pub record Opens (old new : LogState) (segment : ℕ) : Type 0 where
  pub keys : SameKeys old new
  pub inside : segment < old.segments
  pub was_clean : old.state segment ≡ Clean
  pub active : new.active ≡ segment
  pub from : SEGMENT_BLOCKS * segment ≤ new.next
  pub to : new.next ≤ SEGMENT_BLOCKS * segment + SEGMENT_BLOCKS
  pub is_active : new.state segment ≡ Active
  pub is_dirty : new.state old.active ≡ Dirty
  pub states : (s : ℕ) → s < old.segments → s ≢ segment → s ≢ old.active → new.state s ≡ old.state s
  pub clean : new.clean + 1 ≡ old.clean
  pub live : (s : ℕ) → s < old.segments → new.live s ≡ old.live s
  pub owners : (place : ℕ) → seg_of place ≢ segment → new.owner place ≡ old.owner place

-- A dirty segment without live bytes was made clean.
pub record Cleans (old new : LogState) (segment : ℕ) : Type 0 where
  pub keys : SameKeys old new
  pub end : SameEnd old new
  pub inside : segment < old.segments
  pub was_dirty : old.state segment ≡ Dirty
  pub empty : old.live segment ≡ 0
  pub is_clean : new.state segment ≡ Clean
  pub states : (s : ℕ) → s < old.segments → s ≢ segment → new.state s ≡ old.state s
  pub clean : new.clean ≡ old.clean + 1
  pub live : (s : ℕ) → s < old.segments → new.live s ≡ old.live s
  pub owners : (place : ℕ) → new.owner place ≡ old.owner place

-- A number none of whose keys has a place was given out or released: its version may be another.
pub record Renews (old new : LogState) (number : ℕ) : Type 0 where
  pub numbers : new.numbers ≡ old.numbers
  pub segments : new.segments ≡ old.segments
  pub nowhere : (code : ℕ) → code < BLOCK_CODES → old.at number code ≡ 0
  pub places : (n c : ℕ) → n < old.numbers → c < BLOCK_CODES → new.at n c ≡ old.at n c
  pub versions : (n : ℕ) → n < old.numbers → n ≢ number → new.version n ≡ old.version n
  pub end : SameEnd old new
  pub used : SameUse old new
  pub live : (s : ℕ) → s < old.segments → new.live s ≡ old.live s
  pub owners : (place : ℕ) → new.owner place ≡ old.owner place

-- A volume before anything is written: no key has a place, and all segments but the first are clean.
pub record IsEmptyLog (l : LogState) : Type 0 where
  pub some : 0 < l.segments
  pub active : l.active ≡ 0
  pub next : l.next ≤ SEGMENT_BLOCKS
  pub is_active : l.state 0 ≡ Active
  pub others : (s : ℕ) → s < l.segments → s ≢ 0 → l.state s ≡ Clean
  pub clean : l.clean + 1 ≡ l.segments
  pub live : (s : ℕ) → s < l.segments → l.live s ≡ 0
  pub nowhere : (number code : ℕ) → number < l.numbers → code < BLOCK_CODES → l.at number code ≡ 0
