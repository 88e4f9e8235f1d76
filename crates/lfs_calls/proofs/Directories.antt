-- What a store has of a directory whose attributes it shows, for searches of it and for calls that change one:
-- `dir_stored`, `directory_at`, `bytes_listing`, `lists_name` and others. Attributes are shown of a stored file alone,
-- so there is one, of their kind and with as many bytes as their size says; the store shows a world, so its length is
-- one that a directory may have, whole blocks within the limit, and its bytes list the rows that hang there.
use Rattle.std.proofs.Common.{◌≡◌, ℕ, ◌%◌, ◌≤◌, true, List, length, Some, sym, ap, subst, ◌∙◌}
use Rattle.std.specs.Prelude.{IsSome}
use Rattle.std.specs.FinMap as map
use Rattle.lfs_types.specs.Changes.{IsLength}
use Rattle.lfs_types.specs.Kinds.{is_directory_kind}
use Rattle.lfs_types.specs.Stored.{shown_attrs, bytes_of, bytes_of_file}
use Rattle.lfs_types.specs.Tree.{File, World, Content}
use Rattle.lfs_types.specs.declared.attrs.Attrs.{Attrs}
use Rattle.lfs_types.specs.declared.attrs.Kind.TheVariants.{Directory}
use Rattle.lfs_dirs.specs.Directory.{number_in}
use Rattle.lfs_calls.specs.Content.{HasBlocks, IsDirectoryAt, Shows, ListsRows, all_entries}
use Rattle.lfs_calls.specs.Removes.{ListsName}
use Rattle.lfs_types.proofs.Somewhere.{is_some_and, present}
use Rattle.lfs_types.specs.declared.limits.TheConstants.{FILE_BYTES}
use Rattle.lfs_calls.proofs.StepLemmas.{ShownFile, shown_file, stored_directory}

module _ {c : Content} {w : World} (shows : Shows c w) (n : ℕ) (a : Attrs) (shown : Some a ≡ shown_attrs c n)
    (directory : is_directory_kind a.kind ≡ true) where
  -- the stored file
  abbrev pub dir_file : ShownFile c n a
  dir_file = shown_file c n a shown

  -- it is a directory
  pub file_kind : dir_file.file.kind ≡ Directory
  file_kind = stored_directory c n a shown directory

  -- its number is used
  pub dir_used : IsSome (map.get c n)
  dir_used = present dir_file.stored

  -- it has a length that a directory may have
  pub file_length : IsLength Directory (length dir_file.file.bytes)
  file_length = subst (λ k. IsLength k (length dir_file.file.bytes)) file_kind
      (shows.sizes n dir_file.file dir_file.stored)

  -- its bytes are those of its number
  pub file_bytes : bytes_of c n ≡ dir_file.file.bytes
  file_bytes = ap bytes_of_file dir_file.stored

  -- its size is that of its bytes
  pub dir_size : a.size ≡ length (bytes_of c n)
  dir_size = ap (λ (x : Attrs). x.size) dir_file.same ∙ sym (ap (λ (bs : List ℕ). length bs) file_bytes)

  -- its size is one of whole blocks
  pub size_whole : a.size % 512 ≡ 0
  size_whole = ap (λ (x : Attrs). x.size % 512) dir_file.same ∙ file_length.1

  -- so a search of it knows
  pub dir_stored : HasBlocks c n a.size
  dir_stored = record { used = dir_used; sized = dir_size; whole = size_whole }

  -- it is a directory of the store
  pub directory_at : IsDirectoryAt c n
  directory_at = is_some_and (λ (f : File). f.kind ≡ Directory) dir_file.stored file_kind

  -- its size is within a file's limit
  pub size_bounded : a.size ≤ FILE_BYTES
  size_bounded = subst (λ (x : Attrs). x.size ≤ FILE_BYTES) (sym dir_file.same) file_length.0

  -- its bytes are as many as a directory may have
  pub bytes_length : IsLength Directory (length (bytes_of c n))
  bytes_length = subst (λ bs. IsLength Directory (length bs)) (sym file_bytes) file_length

  -- its bytes list the rows that hang in it
  pub bytes_listing : ListsRows w.rows n (bytes_of c n)
  bytes_listing = subst (ListsRows w.rows n) (sym file_bytes) (shows.listings n dir_file.file dir_file.stored file_kind)

  -- it lists a name whose number it has
  pub lists_name : (name : List ℕ) → IsSome (number_in name (all_entries (bytes_of c n))) → ListsName c n a.size name
  lists_name name found = record {
    stored = dir_stored;
    bounded = size_bounded;
    blocks = bytes_listing.blocks;
    listed = found;
  }
