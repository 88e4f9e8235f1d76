-- A directory's bytes with a block in which an entry got another number list the rows with that row in the other's
-- place: `ListsRows-swapped`, for SwappedStore. The name stands in one block only, so changing it there is changing it
-- in the whole list (`renumbered-middle`), and all other blocks stay (Listings). The entry keeps its length and its
-- place, so there is always room; a name that grew with its number wouldn't.
use Rattle.std.proofs.Common.{◌≡◌, ◌≢◌, ℕ, ◌+◌, ◌*◌, ◌/◌, ◌%◌, ◌^◌, ◌<◌, ◌≤◌, List, ◌++◌, length, Some, sym, ap, subst}
use Rattle.std.proofs.Common.{◌∙◌, ⊎_elim, arith}
use Rattle.std.specs.Prelude.{IsSome, bytes_eq}
use Rattle.std.proofs.lemmas.Bool.{cases_Bool, both_ways}
use Rattle.std.proofs.lemmas.Slice.Eq.{bytes_eq-Decides}
use Rattle.lfs_types.specs.Splicing.{splice}
use Rattle.lfs_dirs.proofs.Changes.{number_in-append, number_in-renumbered, number_in-renumbered_other}
use Rattle.lfs_dirs.proofs.Changes.{renumbered-append, renumbered-absent, AreEntries-renumbered}
use Rattle.lfs_dirs.specs.Directory.{Entry, AreEntries, number_in, renumbered}
use Rattle.lfs_dirs.specs.Reading.{entries_of}
use Rattle.lfs_calls.specs.declared.directory.DirBlock.{DirBlock}
use Rattle.lfs_model.specs.World.{Rows, child}
use Rattle.lfs_calls.specs.Content.{block_at, entries_below, all_entries, AreBlocks, ListsRows}
use Rattle.lfs_calls.specs.Renames.{IsSwap}
use Rattle.lfs_calls.proofs.Listings.{entries_from, behind, old_listed, new_listed, blocks_after}
use Rattle.lfs_calls.proofs.ListingsTaken.{absent_before, absent_after, AreEntries-front}
use Rattle.lfs_types.proofs.Pieces.{put_over, splice-put_over, length-put_over}
use Rattle.lfs_types.proofs.Somewhere.{present}

-- a name in the middle of entries gets another number in the middle alone
renumbered-middle : (name : List ℕ) (number : ℕ) (xs es ys : List Entry) → AreEntries ((xs ++ es) ++ ys)
    → IsSome (number_in name es)
    → (xs ++ renumbered name number es) ++ ys ≡ renumbered name number ((xs ++ es) ++ ys)
renumbered-middle name number xs es ys a some =
    let before = absent_before name xs es (AreEntries-front (xs ++ es) ys a) some in
    let behind = absent_after name (xs ++ es) ys a (subst IsSome (sym (number_in-append name xs es before)) some) in
    sym (renumbered-append name number (xs ++ es) ys
    ∙ ap (λ gs. gs ++ renumbered name number ys) (renumbered-append name number xs es)
    ∙ ap (λ gs. (gs ++ renumbered name number es) ++ renumbered name number ys)
    (renumbered-absent name number xs before)
    ∙ ap (λ gs. (xs ++ renumbered name number es) ++ gs) (renumbered-absent name number ys behind))

module _ (bytes name : List ℕ) (number : ℕ) (room : DirBlock) (k : ℕ) (swap : IsSwap bytes name number room k) where
  within : k ≤ length bytes / 512
  within = omega (arith, swap.within)

  -- the block is put over the old one
  pub swapped_put : splice bytes room.off room.block ≡ put_over bytes (512 * k) room.block
  swapped_put = splice-put_over bytes room.off room.block (omega (arith, swap.block.size))
      (omega (arith, swap.off, swap.within))
      ∙ ap (λ off. put_over bytes off room.block) swap.off

  -- the bytes are as many as before
  pub swapped_length : length (splice bytes room.off room.block) ≡ length bytes
  swapped_length =
      let long = length-put_over bytes (512 * k) room.block (omega (arith, swap.within)) in
      ap (λ (bs : List ℕ). length bs) swapped_put ∙ long ∙ omega (arith, swap.within, swap.block.size)

  module _ (rows changed : Rows) (parent old : ℕ) (listing : ListsRows rows parent bytes) (whole : length bytes % 512
      ≡ 0)
      (was : child rows parent name ≡ Some old) (above : 0 < number) (fits : number < 2 ^ 32)
      (is : child changed parent name ≡ Some number) (others : (q : List ℕ) → name ≢ q → child changed parent q
      ≡ child rows parent q) where
    -- what is listed is what was listed, with another number for the name
    swapped_listed : all_entries (splice bytes room.off room.block) ≡ renumbered name number (all_entries bytes)
    swapped_listed =
        let before = entries_below bytes k in
        let after = entries_from bytes (k + 1) (behind bytes k room.block swap.block.size whole within) in
        let was : all_entries bytes ≡ (before ++ entries_of (block_at bytes k))
        ++ after = old_listed bytes k room.block swap.block.size whole within in
        ap all_entries swapped_put ∙ new_listed bytes k room.block swap.block.size whole within
        ∙ ap (λ es. (before ++ es) ++ after) swap.swaps
        ∙ renumbered-middle name number before (entries_of (block_at bytes k)) after
        (subst AreEntries was listing.distinct) swap.listed
        ∙ ap (renumbered name number) (sym was)

    -- the bytes with the block list the rows that hang there after it
    pub ListsRows-swapped : ListsRows changed parent (splice bytes room.off room.block)
    ListsRows-swapped = record {
      blocks = subst AreBlocks (sym swapped_put)
          (blocks_after bytes k room.block swap.block.size whole within listing.blocks swap.block);
      distinct = subst AreEntries (sym swapped_listed)
          (AreEntries-renumbered name number (all_entries bytes) above fits listing.distinct);
      names = λ q. ap (number_in q) swapped_listed ∙ ⊎_elim
          (λ t.
          let same : q ≡ name = (bytes_eq-Decides q name).0 t in
          subst (λ x. number_in x (renumbered name number (all_entries bytes)) ≡ child changed parent x) (sym same)
          (number_in-renumbered name number (all_entries bytes) (present (listing.names name ∙ was)) ∙ sym is))
          (λ t.
          let other : name ≢ q = λ e. both_ways _ t ((bytes_eq-Decides q name).1 (sym e)) in
          number_in-renumbered_other name q number (all_entries bytes) other ∙ listing.names q ∙ sym (others q other))
          (cases_Bool (bytes_eq q name));
    }
