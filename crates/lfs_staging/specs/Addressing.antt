-- The address of a block is set in what holds it, which waits: the record, or an indirect block.
use Rattle.std.specs.Prelude.{◌≡◌, ◌≢◌, ℕ, List, [], length, Some, true, false, slice_set, All}
use Rattle.lfs_ifile.specs.Tables.{row_of}
use Rattle.lfs_inodes.specs.declared.inode.Inode.{Inode}
use Rattle.lfs_inodes.specs.Addresses.{cells}
use Rattle.lfs_inodes.specs.Attributes.{attributes}
use Rattle.lfs_cache.specs.declared.key.Key.{Key}
use Rattle.lfs_cache.specs.Changes.{IsContents}
use Rattle.lfs_cache.specs.Contents.{Contents, block_in}
use Rattle.lfs_cache.specs.Keys.{same_key}
use Rattle.lfs_bmap.specs.Reading.{table}
use Rattle.lfs_bmap.specs.Ways.{code_at}
use Rattle.lfs_parts.specs.declared.parts.Parts.{Parts}
use Rattle.lfs_parts.specs.Clean.{GainsNoClean}
use Rattle.lfs_parts.specs.Store.{HolderWaits, IsPresent}
use Rattle.lfs_parts.specs.View.{key_of, record_of, tree_of, version_of, waiting_in}
use Rattle.lfs_parts.specs.Waiting.{numbers_of}

-- an inode is the record that waits of its number, which is in use at its version
pub record IsWaiting (p : Parts) (v : Inode) : Type 0 where
  pub waits : waiting_in p.waiting v.number ≡ Some v
  pub in_use : (row_of p.log.tables v.number).used ≡ true
  pub at_version : v.version ≡ version_of p v.number

-- Other bytes wait for a key, what else waits is what waited, and no block is clean that wasn't.
pub record Restages (old new : Contents) (key : Key) (block : List ℕ) : Type 0 where
  pub here : block_in key new.locked ≡ Some block
  pub others : (other : Key) → same_key key other ≡ false
      → block_in other new.locked ≡ block_in other old.locked
  pub clean : GainsNoClean old new
  pub formed : IsContents new
  pub many : length new.locked ≡ length old.locked

-- An address was set in a block of a file, or in its record, at a place: what holds it waits, and nothing else of any
-- file changed.
pub record Sets (old new : Parts) (v : Inode) (i : ℕ) (up : List ℕ) (a : ℕ) : Type 0 where
  pub log : new.log ≡ old.log
  pub parent : table (tree_of new v.number) up ≡ slice_set (table (tree_of old v.number) up) i a
  pub root : up ≢ [] → record_of new v.number ≡ record_of old v.number
  pub records : (number : ℕ) → number ≢ v.number → record_of new number ≡ record_of old number
  pub waits : (key : Key) → same_key (key_of v.number v.version (code_at up)) key ≡ false
      → block_in key new.cache.locked ≡ block_in key old.cache.locked
  pub record_only : up ≡ [] → new.cache ≡ old.cache
  pub many : length new.cache.locked ≡ length old.cache.locked
  pub clean : GainsNoClean old.cache new.cache
  pub still : HolderWaits new.cache v.number v.version up

-- What waits is still formed: the record of the number too, which has the attributes that it had.
pub record StaysWaiting (old new : Parts) (v : Inode) : Type 0 where
  pub cache : IsContents new.cache
  pub present : All (λ (w : Inode). IsPresent new w.number w.version) new.waiting
  pub after : Inode
  pub here : IsWaiting new after
  pub same : attributes after ≡ attributes v
  pub others : (number : ℕ) → number ≢ v.number
      → waiting_in new.waiting number ≡ waiting_in old.waiting number
  pub numbers : numbers_of new.waiting ≡ numbers_of old.waiting

-- An address was set in an indirect block that waits.
pub record SetsEntry (old new : Contents) (key : Key) (index address : ℕ)
    (before : List ℕ) : Type 0 where
  pub after : List ℕ
  pub changed : cells after ≡ slice_set (cells before) index address
  pub rewritten : Restages old new key after
