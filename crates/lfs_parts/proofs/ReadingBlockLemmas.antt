-- A data block of a file, read through the cache: `mirrored`, `logged`, `data_via`, `data_logged` and others, for
-- `Parts::read_block`. The block's address is found along the file's tree, which is that of the record that stands
-- (`same_tree`). A clean block that is held is what the log has at this address, and a block that isn't held and
-- doesn't wait is read there; so either is the file's data, and what was read may be held as clean. Address 0 is a hole
-- of zeros.
use Rattle.std.proofs.Common.{◌≡◌, ◌≢◌, ℕ, ◌+◌, ◌<◌, List, None, Some, refl, sym, ap, ◌∙◌, subst, arith}
use Rattle.lfs_types.specs.declared.limits.TheConstants.{FILE_BLOCKS}
use Rattle.lfs_inodes.specs.declared.inode.Inode.{Inode}
use Rattle.lfs_inodes.specs.Reading.{fields_of}
use Rattle.lfs_cache.specs.declared.key.Key.{Key}
use Rattle.lfs_cache.specs.Contents.{block_in}
use Rattle.lfs_segments.specs.Memory.{block_at}
use Rattle.lfs_bmap.specs.declared.blocks.FileBlock.TheVariants.{Data}
use Rattle.lfs_bmap.specs.Blocks.{code_of, way_to}
use Rattle.lfs_bmap.specs.Reading.{address, bytes_via, data_block}
use Rattle.lfs_bmap.specs.Ways.{way_of}
use Rattle.lfs_bmap.proofs.ReadingLemmas.{read-via, via-log}
use Rattle.lfs_bmap.proofs.WayLemmas.{way_of-code_of}
use Rattle.lfs_parts.specs.declared.parts.Parts.{Parts}
use Rattle.lfs_parts.specs.Store.{AreFiles, IsLogged, IsPresent}
use Rattle.lfs_parts.specs.View.{LiesIn, blocks_of, key_of, record_of, tree_from, tree_of}
use Rattle.lfs_parts.proofs.FileLemmas.{tree_from-of}
use Rattle.lfs_parts.proofs.ReadLemmas.{data_block-read}
use Rattle.lfs_parts.proofs.ViewLemmas.{tree_dirty}
use Rattle.lfs_parts.proofs.CleanLemmas.{coded_block}

module _ (p : Parts) (v : Inode) (index a : ℕ) (key : Key) (files : AreFiles p) (here : record_of p v.number
    ≡ Some (fields_of v)) (low : index < FILE_BLOCKS)
    (at : a ≡ address (tree_from p v) (way_to (Data index))) (is : key
    ≡ key_of v.number v.version (code_of (Data index))) where
  same_tree : tree_from p v ≡ tree_of p v.number
  same_tree = tree_from-of p v.number v here (files.files v.number (fields_of v) here)

  pub at_tree : a ≡ address (tree_of p v.number) (way_to (Data index))
  at_tree = at ∙ ap (λ t. address t (way_to (Data index))) same_tree

  pub address_inside : LiesIn (blocks_of p) (tree_of p v.number) → a < blocks_of p
  address_inside inside = subst (λ n. n < blocks_of p) (sym at_tree) (inside.each (Data index) low)

  -- a clean block that is held for it is what the log has
  pub mirrored : (bytes : List ℕ) → block_in key p.cache.lru ≡ Some bytes → bytes ≡ block_at p.log.memory a
  mirrored bytes there =
      let was = files.mirrors.each (key_of v.number v.version (code_of (Data index))) bytes
      (subst (λ k. block_in k p.cache.lru ≡ Some bytes) is there) in
      was.same ∙ ap (block_at p.log.memory) (ap (address (tree_of p v.number)) (way_of-code_of (Data index) low)
      ∙ sym at_tree)

  -- the block in the log may be held
  pub logged : IsPresent p v.number v.version → a ≢ 0 → IsLogged p key (block_at p.log.memory a)
  logged present some =
      let same : address (tree_of p v.number) (way_of (code_of (Data index)))
      ≡ a = ap (address (tree_of p v.number)) (way_of-code_of (Data index) low) ∙ sym at_tree in
      subst (λ k. IsLogged p k (block_at p.log.memory a)) (sym is) (record {
        present = present;
        coded = coded_block (Data index) low (λ e. omega arith);
        somewhere = λ none. some (sym same ∙ none);
        same = ap (block_at p.log.memory) (sym same);
      })

  -- what the block reads as, by its address
  pub data_via : bytes_via (tree_from p v) (way_to (Data index)) a ≡ data_block (tree_of p v.number) index
  data_via =
      let t = tree_of p v.number in
      ap (λ u. bytes_via u (way_to (Data index)) a) same_tree ∙ ap (bytes_via t (way_to (Data index))) at_tree
      ∙ sym (read-via t (way_to (Data index))) ∙ sym (data_block-read t index low)

  -- and in the log
  pub data_logged : a ≢ 0 → block_in key p.cache.locked ≡ None → block_at p.log.memory a
      ≡ data_block (tree_of p v.number) index
  data_logged some free =
      let none = subst (λ k. block_in k p.cache.locked ≡ None) is free in
      sym (via-log (tree_from p v) (way_to (Data index)) a
      (tree_dirty p v (Data index) (131 + index) None refl (sym none)) some) ∙ data_via
