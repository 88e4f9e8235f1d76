-- A buffer that is filled with a file's bytes, block by block.
use Rattle.std.specs.Prelude.{◌≡◌, ◌≢◌, ℕ, None, Some}
use Rattle.lfs_bmap.specs.declared.blocks.FileBlock.TheVariants.{Data}
use Rattle.lfs_bmap.specs.Blocks.{code_of, way_to}
use Rattle.lfs_bmap.specs.Reading.{address, data_block}
use Rattle.lfs_cache.specs.Changes.{IsContents}
use Rattle.lfs_cache.specs.Contents.{block_in}
use Rattle.lfs_parts.specs.Store.{Mirrors}
use Rattle.lfs_parts.specs.View.{key_of, tree_of}
use Rattle.lfs_parts.specs.declared.parts.Parts.{Parts}

-- Which clean blocks are held may have changed, and nothing else: what waits waits in its order.
pub record SameButClean (old new : Parts) : Type 0 where
  pub log : new.log ≡ old.log
  pub waiting : new.waiting ≡ old.waiting
  pub dirty : new.cache.locked ≡ old.cache.locked
  pub formed : IsContents new.cache
  pub mirrors : Mirrors new

-- A data block of a file that lies in the log and doesn't wait has a clean frame, with its bytes.
abbrev pub IsCached : ℕ → ℕ → ℕ → Parts → Type 0
IsCached number version index p =
    address (tree_of p number) (way_to (Data index)) ≢ 0
    → block_in (key_of number version (code_of (Data index))) p.cache.locked ≡ None
    → block_in (key_of number version (code_of (Data index))) p.cache.lru ≡ Some (data_block (tree_of p number) index)
