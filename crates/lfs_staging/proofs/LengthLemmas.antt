-- The content after `set_length` is the old one with another length of that file: `cut_content` and `grown_content`,
-- and `grown_length` for a file that grows. The new bytes are the old ones resized if each block is cut as the length
-- says (IsBlockCut), and bytes past the size are zeros (IsPadded), so a file that grows shows zeros without writing a
-- block. If a cut left old bytes behind the new end, a later growth would show them again: that is what `padded` keeps
-- out.
use Rattle.std.proofs.Common.{◌≡◌, ◌≢◌, ℕ, ◌≤◌, max, Some, option_map, sym, ap, ◌∙◌, subst, inl, inr, arith}
use Rattle.std.specs.Cmp.{nat_cmp_total}
use Rattle.std.specs.FinMap as map
use Rattle.std.specs.FinMap.{same_map, nat_cmp-IsAntisymmetric}
use Rattle.std.proofs.lemmas.Bool.{cases_eq}
use Rattle.std.proofs.lemmas.Option.{same_Some}
use Rattle.lfs_types.specs.Changes.{changed_at}
use Rattle.lfs_types.specs.Splicing.{resized}
use Rattle.lfs_types.specs.Tree.{File}
use Rattle.lfs_types.proofs.Maps.{get-insert_same, get-insert_other}
use Rattle.lfs_inodes.specs.declared.inode.Inode.{Inode}
use Rattle.lfs_inodes.specs.Addresses.{addresses}
use Rattle.lfs_inodes.specs.Attributes.{attributes}
use Rattle.lfs_inodes.specs.Reading.{Fields, fields_of}
use Rattle.lfs_bmap.specs.Pieces.{IsBlockCut, IsPadded, file_bytes}
use Rattle.lfs_bmap.specs.Reading.{data_block}
use Rattle.lfs_bmap.proofs.PieceLemmas.{cut_resized, longer_cut}
use Rattle.lfs_parts.specs.declared.parts.Parts.{Parts}
use Rattle.lfs_staging.specs.Cutting.{CutsFile, HasAttributes, with_length}
use Rattle.lfs_parts.specs.Files.{content_of, file_at, file_with}
use Rattle.lfs_staging.specs.Putting.{GrowsTo}
use Rattle.lfs_staging.specs.Staging.{MayStage, StagesRecord}
use Rattle.lfs_parts.specs.View.{record_of, tree_of}
use Rattle.lfs_parts.proofs.FileLemmas.{file_at-record, file_at-some, get-content_of}
use Rattle.lfs_staging.proofs.GrowthLemmas.{file_from, grown_to}

module _ (old new : Parts) (number len : ℕ) (f : Fields) (has : record_of old number ≡ Some f)
    (padded : IsPadded (data_block (tree_of old number)) f.attributes.size)
    (here : HasAttributes new number (record (f.attributes) { size = len })) (records : (n : ℕ) → n ≢ number
    → record_of new n ≡ record_of old n)
    (cut : (m : ℕ) → IsBlockCut m len (data_block (tree_of old number) m) (data_block (tree_of new number) m))
    (blocks : (n m : ℕ) → n ≢ number → data_block (tree_of new n) m ≡ data_block (tree_of old n) m) where
  -- its bytes
  bytes_here : file_bytes (data_block (tree_of new number)) len
      ≡ resized (file_bytes (data_block (tree_of old number)) f.attributes.size) len
  bytes_here = cut_resized (data_block (tree_of old number))
      (data_block (tree_of new number)) f.attributes.size len padded cut

  file_here : file_at new number ≡ Some (record
      (file_with (tree_of old number) f) {
        bytes =
            resized (file_bytes (data_block (tree_of old number)) f.attributes.size) len;
      })
  file_here =
      file_at-some new number _ here.there
      ∙ ap (λ bs. Some (record (file_with (tree_of old number) f) { bytes = bs })) bytes_here

  -- another number's file stays
  file_other : (n : ℕ) → n ≢ number → file_at new n ≡ file_at old n
  file_other n other =
      file_at-record new n ∙ ap (option_map (file_with (tree_of new n))) (records n other)
      ∙ (λ i. option_map (λ (g : Fields). file_from (λ m. blocks n m other i) g) (record_of old n))
      ∙ sym (file_at-record old n)

  pub length_content : content_of new ≡ with_length number len (content_of old)
  length_content =
      let before : map.get (content_of old) number ≡ Some (file_with (tree_of old number) f)
      = get-content_of old number ∙ file_at-some old number f has in
      let to : with_length number len (content_of old) ≡ map.insert (content_of old) number
      (record (file_with (tree_of old number) f) {
        bytes =
            resized (file_bytes (data_block (tree_of old number)) f.attributes.size) len;
      })
      = ap (λ o. changed_at o number (λ (g : File). record g { bytes = resized g.bytes len }) (content_of old)) before
      in
      same_map nat_cmp_total nat_cmp-IsAntisymmetric (content_of new) _ (λ q. elim (cases_eq q number) [
        | inl is ↦ ap (map.get (content_of new)) is ∙ get-content_of new number ∙ file_here
            ∙ sym (ap (map.get (with_length number len (content_of old))) is ∙ ap (λ c. map.get c number) to
            ∙ get-insert_same (content_of old) number _)
        | inr other ↦ get-content_of new q ∙ file_other q other ∙ sym (get-content_of old q)
            ∙ sym (ap (λ c. map.get c q) to ∙ get-insert_other (content_of old) number _ q other)
      ])

-- the size that the record has
pub length_size : (new : Parts) (number len : ℕ) (f g : Fields)
    → HasAttributes new number (record (f.attributes) { size = len }) → record_of new number ≡ Some g
    → g.attributes.size ≡ len
length_size new number len f g here is =
    sym (ap (λ (x : Fields). x.attributes.size) (same_Some _ g (sym here.there ∙ is)))

-- ---- a file that was cut
pub cut_content : (old new : Parts) (v : Inode) (len : ℕ) → MayStage old v → CutsFile v.number len old new
    → content_of new ≡ with_length v.number len (content_of old)
cut_content old new v len may h =
    length_content old new v.number len (fields_of v) may.here (may.files.files v.number (fields_of v) may.here).padded
    (h.here (fields_of v) may.here) h.others h.cut
    (λ n m other. h.data_same n m other)

-- ---- a file that grows
pub grown_length : (old new : Parts) (v w : Inode) (len : ℕ) → MayStage old v → StagesRecord w old new → attributes w
    ≡ record (attributes v) { size = len } → addresses w ≡ addresses v
    → v.size ≤ len → GrowsTo v w len old new
grown_length old new v w len may h changed roots more =
    grown_to old new v w len len may h changed roots more (omega arith)

pub grown_attributes : (old new : Parts) (v w : Inode) (len : ℕ) → v.size ≤ len → GrowsTo v w len old new
    → HasAttributes new v.number (record (attributes v) { size = len })
grown_attributes old new v w len more h =
    let size : max v.size len ≡ len = omega arith in
    record {
      addresses = addresses v;
      there = h.here ∙ ap (λ n. Some (record {
        attributes = record (attributes v) { size = n };
        addresses = addresses v;
      })) size;
    }

pub grown_content : (old new : Parts) (v w : Inode) (len : ℕ) → MayStage old v → v.size ≤ len → GrowsTo v w len old new
    → content_of new ≡ with_length v.number len (content_of old)
grown_content old new v w len may more h =
    let padded = (may.files.files v.number (fields_of v) may.here).padded in
    length_content old new v.number len (fields_of v) may.here padded (grown_attributes old new v w len more h) h.others
    (λ m. subst (λ t. IsBlockCut m len (data_block (tree_of old v.number) m) (data_block t m)) (sym (h.blocks v.number))
    (longer_cut m v.size len (data_block (tree_of old v.number)) padded more))
    (λ n m other. ap (λ t. data_block t m) (h.blocks n))
