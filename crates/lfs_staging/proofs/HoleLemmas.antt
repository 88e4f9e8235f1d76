-- An indirect block that has no address and doesn't wait: none of the blocks whose addresses it would hold has one or
-- waits.
use Rattle.std.proofs.Common.{◌≡◌, ◌≢◌, ℕ, ◌∷◌, None, sym, ap, ◌∙◌, subst}
use Rattle.std.specs.Prelude.{slice_index}
use Rattle.lfs_inodes.specs.Addresses.{cells}
use Rattle.lfs_inodes.proofs.ZeroedLemmas.{slice_index-cells_zero_block}
use Rattle.lfs_bmap.specs.declared.blocks.FileBlock.{FileBlock}
use Rattle.lfs_bmap.specs.Blocks.{IsFileBlock, code_of, table_of, way_to}
use Rattle.lfs_bmap.specs.Reading.{bytes_via}
use Rattle.lfs_bmap.specs.Ways.{IsBlockWay, code_at}
use Rattle.lfs_bmap.proofs.HolderLemmas.{table_of-way}
use Rattle.lfs_bmap.proofs.ReadingLemmas.{address-cell, read-via, table-cells, via-none}
use Rattle.lfs_bmap.proofs.WayLemmas.{known_way_of}
use Rattle.lfs_parts.specs.declared.parts.Parts.{Parts}
use Rattle.lfs_staging.specs.Cutting.{IsGone}
use Rattle.lfs_parts.specs.Store.{ParentsWait}
use Rattle.lfs_parts.specs.View.{key_of, tree_of, version_of}
use Rattle.lfs_staging.proofs.ForgettingLemmas.{way_some}
use Rattle.lfs_parts.proofs.SameLogLemmas.{block_known}
use Rattle.lfs_staging.proofs.SettingLemmas.{holder_locked}
use Rattle.lfs_parts.proofs.ViewLemmas.{not_locked, way_to-some}

hole_gone : (p : Parts) (number : ℕ) (t : FileBlock) → ParentsWait p → code_of t ≢ 0 → IsGone p number (way_to t)
    → (j : ℕ) → IsBlockWay (j ∷ way_to t)
    → IsGone p number (j ∷ way_to t)
hole_gone p number t parents other gone j known =
    let tree = tree_of p number in
    let some = way_to-some t other in
    let waits : tree.waits (way_to t) ≡ None =
    not_locked (key_of number (version_of p number) (code_at (way_to t))) p.cache gone.free in
    record {
      nowhere =
          address-cell tree j (way_to t) ∙ ap (λ ys. slice_index ys j) (table-cells tree (way_to t) some)
          ∙ ap (λ b. slice_index (cells b) j) (read-via tree (way_to t) ∙ ap (bytes_via tree (way_to t)) gone.nowhere
          ∙ via-none tree (way_to t) waits)
          ∙ slice_index-cells_zero_block j;
      free = λ locked.
          gone.free (holder_locked p.cache number (version_of p number) (way_to t) some
          (parents.holders (key_of number (version_of p number) (code_at (j ∷ way_to t))) locked j (way_to t)
          (known_way_of (j ∷ way_to t) known)));
    }

pub hole_under : (p : Parts) (number : ℕ) (t block : FileBlock) → ParentsWait p → code_of t ≢ 0
    → IsGone p number (way_to t) → IsFileBlock block → code_of block ≢ 0
    → table_of block ≡ t → IsGone p number (way_to block)
hole_under p number t block parents other gone is some under =
    let w = way_some block is some in
    let up : w.1 ≡ way_to t = sym (table_of-way block is w.0 w.1 w.2) ∙ ap way_to under in
    let way : way_to block ≡ w.0 ∷ way_to t = w.2 ∙ ap (λ above. w.0 ∷ above) up in
    subst (IsGone p number) (sym way) (hole_gone p number t parents other gone w.0
    (subst IsBlockWay way (block_known block is)))
