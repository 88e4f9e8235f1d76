-- The blocks that a Rename writes are blocks of their directories: `old_block` and `new_block`, for `move_row`. The
-- block without the old entry stands in its directory's bytes; the second was found in the bytes as they are seen after
-- that, which are as many as the stored ones (`seen_length`), so its place is good in these too. A block that was given
-- back when its last entry goes would make the two lengths differ.
use Rattle.std.proofs.Common.{◌≡◌, ◌+◌, ◌*◌, ◌/◌, ◌%◌, ◌<◌, ◌≤◌, List, Option, None, Some, ℕ, length, ap, arith}
use Rattle.lfs_types.specs.Stored.{bytes_of}
use Rattle.lfs_types.specs.Tree.{File, World, Content}
use Rattle.lfs_types.specs.declared.attrs.Kind.TheVariants.{Directory}
use Rattle.lfs_calls.specs.declared.directory.DirBlock.{DirBlock}
use Rattle.lfs_calls.specs.declared.renaming.Move.{Move}
use Rattle.lfs_model.specs.World.{IsTree}
use Rattle.lfs_calls.specs.Content.{Shows}
use Rattle.lfs_calls.specs.Makes.{IsBlockOf}
use Rattle.lfs_calls.specs.Removes.{IsTaking}
use Rattle.lfs_calls.specs.Renames.{IsNewPlace, Leaves}
use Rattle.lfs_calls.proofs.Directories.{dir_file, file_bytes, file_kind, file_length}
use Rattle.lfs_calls.proofs.MovedPlaces.{at_file, f, kind_old, seen, seen_length}
use Rattle.lfs_types.specs.declared.limits.TheConstants.{FILE_BYTES}
use Rattle.lfs_types.proofs.Somewhere.{is_some_and}

module _ {c : Content} {w : World} (shows : Shows c w) (tree : IsTree w.rows) {move : Move} {old : List ℕ}
    (leaves : Leaves c w.rows move old)
    {taken : DirBlock} {k : ℕ} (taking : IsTaking (bytes_of c move.removal.dir.number) old taken k) where
  -- the block without the old entry is one of its directory
  pub old_block : IsBlockOf c move.removal.dir.number taken
  old_block =
      let t = at_file shows tree leaves taking in
      let long = file_length shows move.removal.dir.number move.removal.dir.attrs leaves.hangs.shown_dir
      leaves.hangs.directory in
      record {
        directory = is_some_and (λ (x : File). (x.kind ≡ Directory) × (length x.bytes % 512 ≡ 0)
            × (length x.bytes ≤ FILE_BYTES) × (taken.off ≤ length x.bytes)) (f shows tree leaves).stored
            (kind_old shows tree leaves taking, long.1, long.0, omega (arith, t.off, t.within));
        aligned = omega (arith, t.off);
        fits = omega (arith, t.off, t.within, long.0);
        size = t.block.size;
      }

  -- all of it
  pub old_within : taken.off + 512 ≤ length (bytes_of c move.removal.dir.number)
  old_within = omega (arith, taking.off, taking.within)

  -- and so is a block of the new directory, or one at its end
  block_within : (room : DirBlock) (j : ℕ) → room.off ≡ 512 * j → j ≤ length (seen shows tree leaves taking) / 512
      → room.off < FILE_BYTES → length room.block ≡ 512 → IsBlockOf c move.dir.number room
  block_within room j off within fits size =
      let d = dir_file shows move.dir.number move.dir.attrs leaves.shown leaves.directory in
      let long = file_length shows move.dir.number move.dir.attrs leaves.shown leaves.directory in
      let same : length (bytes_of c move.dir.number)
      ≡ length d.file.bytes = ap (λ (bs : List ℕ). length bs)
      (file_bytes shows move.dir.number move.dir.attrs leaves.shown leaves.directory) in
      let count = seen_length shows tree leaves taking in
      record {
        directory = is_some_and (λ (x : File). (x.kind ≡ Directory) × (length x.bytes % 512 ≡ 0)
            × (length x.bytes ≤ FILE_BYTES) × (room.off ≤ length x.bytes)) d.stored (
              file_kind shows move.dir.number move.dir.attrs leaves.shown leaves.directory,
              long.1,
              long.0,
              omega (arith, off, within, count, same, long.1),
            );
        aligned = omega (arith, off);
        fits = fits;
        size = size;
      }

  -- so that with the new name is one
  pub new_block : (gone : Option ℕ) (new : List ℕ) (room : DirBlock) (j : ℕ)
      → IsNewPlace (seen shows tree leaves taking) move.removal.file.number new gone room j
      → IsBlockOf c move.dir.number room
  new_block None new room j r =
      block_within room j r.off r.within (omega (arith, r.off, r.fits)) r.block.size
  new_block (Some gone) new room j r =
      let long = file_length shows move.dir.number move.dir.attrs leaves.shown leaves.directory in
      let same = ap (λ (bs : List ℕ). length bs)
      (file_bytes shows move.dir.number move.dir.attrs leaves.shown leaves.directory) in
      let count = seen_length shows tree leaves taking in
      block_within room j r.off (omega (arith, r.within)) (omega (arith, r.off, r.within, count, same, long.0))
      r.block.size
