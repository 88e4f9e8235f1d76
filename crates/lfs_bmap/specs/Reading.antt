-- Reading a file's blocks along their ways.
use Rattle.std.specs.Prelude.{◌≡◌, ◌≢◌, ℕ, ◌*◌, ◌<◌, List, [], ◌∷◌, Option, Some, None, unwrap_or, if◌then◌else◌, ◌==◌}
use Rattle.std.specs.Prelude.{length, slice_index, slice_set, nat_lt}
use Rattle.lfs_types.specs.Blocks.{zero_block}
use Rattle.lfs_types.specs.declared.limits.TheConstants.{FILE_BLOCKS}
use Rattle.lfs_inodes.specs.Addresses.{cells}
use Rattle.lfs_bmap.specs.Ways.{data_way, way_of, IsBlockWay}

-- A file as its parts show it. The addresses of its record, the waiting one if one waits, else the one in the log; the
-- bytes that wait to be written, by the way of the block: its LOCKED frame; the block at each address of the log.
pub record Tree : Type 0 where
  pub root : List ℕ
  pub waits : List ℕ → Option (List ℕ)
  pub block : ℕ → List ℕ

-- the bytes of the block at the end of a way whose address is this: those that wait, else those in the log; zeros where
-- it has no address
unfoldable pub bytes_via : Tree → List ℕ → ℕ → List ℕ
bytes_via t way address = unwrap_or (t.waits way) (if address == 0 then zero_block else t.block address)

-- the addresses that the block at the end of a way holds
unfoldable pub table : Tree → List ℕ → List ℕ
table t [] = t.root
table t (i ∷ up) = cells (bytes_via t (i ∷ up) (slice_index (table t up) i))

-- the address of the block at the end of a way, 0 for none
unfoldable pub address : Tree → List ℕ → ℕ
address t [] = 0
address t (i ∷ up) = slice_index (table t up) i

-- the bytes of the block at the end of a way
unfoldable pub read : Tree → List ℕ → List ℕ
read t way = bytes_via t way (address t way)

-- data block n of a file; zeros past those that a file can have
unfoldable pub data_block : Tree → ℕ → List ℕ
data_block t n = if nat_lt n FILE_BLOCKS then read t (data_way n) else zero_block

-- no known block has this address
abbrev pub IsUnread : Tree → ℕ → Type 0
IsUnread t a = (way : List ℕ) → IsBlockWay way → address t way ≢ a

-- Each known block has the address and the bytes that it had.
pub record SameReadings (old new : Tree) : Type 0 where
  pub addresses : (way : List ℕ) → IsBlockWay way → address new way ≡ address old way
  pub bytes : (way : List ℕ) → IsBlockWay way → read new way ≡ read old way

-- Bytes wait for a block, and nothing else changed.
pub record Stages (old new : Tree) (way bytes : List ℕ) : Type 0 where
  pub root : new.root ≡ old.root
  pub waiting : new.waits way ≡ Some bytes
  pub waits : (other : List ℕ) → IsBlockWay other → other ≢ way → new.waits other ≡ old.waits other
  pub blocks : (b : ℕ) → new.block b ≡ old.block b

-- The block at the way i ∷ up landed at an address: it is there with the bytes that it meant, it waits no more, and the
-- block that holds its address, which waits or is a waiting record, has the new one.
pub record Lands (old new : Tree) (i : ℕ) (up : List ℕ) (a : ℕ) : Type 0 where
  pub somewhere : a ≢ 0
  pub room : i < length (table old up)
  pub parent : table new up ≡ slice_set (table old up) i a
  pub root : up ≢ [] → new.root ≡ old.root
  pub flushed : new.waits (i ∷ up) ≡ None
  pub waits : (other : List ℕ) → IsBlockWay other → other ≢ i ∷ up → other ≢ up → new.waits other ≡ old.waits other
  pub written : new.block a ≡ read old (i ∷ up)
  pub blocks : (b : ℕ) → b ≢ a → new.block b ≡ old.block b

-- The place of each key, a number and a code: a record's stands in the inode map, another block's is four times its
-- address.
abbrev pub places : (ℕ → ℕ) → (ℕ → Tree) → ℕ → ℕ → ℕ
places records trees number code = if code == 0 then records number else 4 * address (trees number) (way_of code)
