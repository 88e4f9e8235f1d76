-- What holds the address of a block that waits: `holder_at`, `holder_code` and `holder_coded`. The address of a block
-- stands in the record or in an indirect block, that of its way without the first step; where this is no record it is a
-- block of the file with a code other than 0 (`table_of-way`), so that it waits just where its key is locked.
-- `block_gone` and `gone_free` say the same of a block that is gone, as its way and its code tell of each other.
use Rattle.std.proofs.Common.{List, [], ap, subst, sym, ℕ, ◌∙◌, ◌∷◌, ◌≡◌, ◌≢◌}
use Rattle.lfs_cache.specs.Contents.{Contents, IsLocked}
use Rattle.lfs_bmap.specs.Ways.{code_at, way_of}
use Rattle.lfs_bmap.proofs.WayLemmas.{way_of-code_of, way_of-zero}
use Rattle.lfs_parts.specs.Store.{HolderWaits, IsBlockCode}
use Rattle.lfs_parts.specs.View.{key_of, tree_of, version_of}
use Rattle.lfs_staging.proofs.SettingLemmas.{holder_locked, holder_waits}
use Rattle.lfs_parts.proofs.ViewLemmas.{code_at-way_to, way_to-some}
use Rattle.lfs_bmap.specs.declared.blocks.FileBlock.{FileBlock}
use Rattle.lfs_bmap.specs.Blocks.{IsFileBlock, code_of, table_of, way_to}
use Rattle.lfs_bmap.proofs.HolderLemmas.{table_of-is, table_of-way}
use Rattle.lfs_parts.specs.declared.parts.Parts.{Parts}
use Rattle.lfs_staging.specs.Cutting.{IsGone}
use Rattle.lfs_bmap.specs.Reading.{address}

-- what holds the address of a block, where it isn't the record, has a code of its own
pub holder_coded : (block : FileBlock) → IsFileBlock block → (i : ℕ) (up : List ℕ) → way_to block ≡ i ∷ up → up ≢ []
    → IsBlockCode (code_at up)
holder_coded block can i up way some =
    let t = table_of block in
    let to : way_to t ≡ up = table_of-way block can i up way in
    record {
      block = t;
      is = table_of-is block can;
      coded = sym (code_at-way_to t) ∙ ap code_at to;
      other = λ e. some (sym to ∙ sym (way_of-code_of t (table_of-is block can))
          ∙ ap way_of (sym (code_at-way_to t) ∙ ap code_at to ∙ e) ∙ way_of-zero);
    }

-- what holds the address of a block, by its code
pub holder_at : (c : Contents) (number version : ℕ) (t : FileBlock) → IsFileBlock t
    → (code_of t ≢ 0 → IsLocked (key_of number version (code_of t)) c) → HolderWaits c number version (way_to t)
holder_at c number version t can locked =
    holder_waits c number version (way_to t)
    (λ some. subst (λ code. IsLocked (key_of number version code) c) (sym (code_at-way_to t))
    (locked (λ e. some (sym (way_of-code_of t can) ∙ ap way_of e ∙ way_of-zero))))

pub holder_code : (c : Contents) (number version : ℕ) (t : FileBlock) → code_of t ≢ 0
    → HolderWaits c number version (way_to t) → IsLocked (key_of number version (code_of t)) c
holder_code c number version t other waits =
    subst (λ code. IsLocked (key_of number version code) c) (code_at-way_to t)
    (holder_locked c number version (way_to t) (way_to-some t other) waits)

-- ---- what is gone
pub block_gone : (p : Parts) (number : ℕ) (b : FileBlock) → address (tree_of p number) (way_to b) ≡ 0
    → (IsLocked (key_of number (version_of p number) (code_of b)) p.cache → ⊥)
    → IsGone p number (way_to b)
block_gone p number b nowhere free = record {
  nowhere = nowhere;
  free = λ locked. free (subst (λ code. IsLocked (key_of number (version_of p number) code) p.cache)
      (code_at-way_to b) locked);
}

pub gone_free : (p : Parts) (number : ℕ) (b : FileBlock) → IsGone p number (way_to b)
    → IsLocked (key_of number (version_of p number) (code_of b)) p.cache → ⊥
gone_free p number b gone locked = gone.free
    (subst (λ code. IsLocked (key_of number (version_of p number) code) p.cache) (sym (code_at-way_to b)) locked)
