-- The files of a log over which nothing waits, for KeyLemmas, TailLemmas and the functions that read blocks and
-- records: `via_block`, `via_zeros`, `root_at`, `used_row` and `flushed_record`. With an empty cache a block reads as
-- what stands in the log at its address, and as zeros at address 0; a record is what stands at the place that the inode
-- map has for its number, which it has just for a number in use.
use Rattle.std.proofs.Common.{◌≡◌, ◌≢◌, ℕ, List, [], ◌∷◌, Some, true, refl, sym, ap, ◌∙◌, inl, inr}
use Rattle.std.specs.Prelude.{slice_index}
use Rattle.std.proofs.lemmas.Bool.{cases_Bool, cond-true, cond-false}
use Rattle.std.proofs.lemmas.Option.{none-some, same_Some}
use Rattle.lfs_types.specs.Blocks.{zero_block}
use Rattle.lfs_ifile.specs.declared.inode.InodePlace.{InodePlace}
use Rattle.lfs_ifile.specs.declared.inode.InodeRow.{InodeRow}
use Rattle.lfs_ifile.specs.Inode.{place_in}
use Rattle.lfs_ifile.specs.Tables.{place_of}
use Rattle.lfs_inodes.specs.declared.inode.Inode.{Inode}
use Rattle.lfs_inodes.specs.Addresses.{addresses}
use Rattle.lfs_segments.specs.Memory.{block_at}
use Rattle.lfs_bmap.specs.Reading.{address, bytes_via}
use Rattle.lfs_bmap.proofs.ReadingLemmas.{address-cell, table-root, via-log, via-none}
use Rattle.lfs_log.specs.Parts.{LogParts}
use Rattle.lfs_parts.specs.View.{fields_at, record_of, root_in, tree_of}
use Rattle.lfs_parts.proofs.ViewLemmas.{record_of-logged}
use Rattle.lfs_fsck.specs.Checks.{IsRecordOf}
use Rattle.lfs_fsck.specs.Stored.{flushed}

-- a block that has an address is the one there
pub via_block : (l : LogParts) (number : ℕ) (way : List ℕ) (a : ℕ) → a ≢ 0
    → bytes_via (tree_of (flushed l) number) way a ≡ block_at l.memory a
via_block l number way a some = via-log (tree_of (flushed l) number) way a refl some

pub via_zeros : (l : LogParts) (number : ℕ) (way : List ℕ) (a : ℕ) → a ≡ 0
    → bytes_via (tree_of (flushed l) number) way a ≡ zero_block
via_zeros l number way a none = ap (bytes_via (tree_of (flushed l) number) way) none
    ∙ via-none (tree_of (flushed l) number) way refl

-- an address that stands in the record
pub root_at : (l : LogParts) (v : Inode) (i : ℕ) → IsRecordOf l v → address (tree_of (flushed l) v.number) (i ∷ [])
    ≡ slice_index (addresses v) i
root_at l v i own =
    let t = tree_of (flushed l) v.number in
    address-cell t i [] ∙ ap (λ ys. slice_index ys i) (table-root t ∙ ap root_in own.is)

-- what a place in the inode map says of the row
pub used_row : (row : InodeRow) (place : InodePlace) → place_in row ≡ Some place
    → (row.used ≡ true) × (place.addr ≡ row.address) × (place.slot ≡ row.slot) × (place.version ≡ row.version)
used_row row place h =
    elim (cases_Bool row.used) [
      | inl used ↦
          let same : record { addr = row.address; slot = row.slot; version = row.version }
          ≡ place = same_Some _ place (sym (cond-true _ _ _ used) ∙ h) in (
            used,
            sym (ap (λ (q : InodePlace). q.addr) same),
            sym (ap (λ (q : InodePlace). q.slot) same),
            sym (ap (λ (q : InodePlace). q.version) same),
          )
      | inr free ↦ absurd (none-some place (sym (cond-false _ _ _ free) ∙ h))
    ]

-- the record of a number in use is what stands at its place
pub flushed_record : (l : LogParts) (number : ℕ) (place : InodePlace) → place_of l.tables number ≡ Some place
    → record_of (flushed l) number ≡ fields_at l.memory place
flushed_record l number place here = record_of-logged (flushed l) number place here refl
