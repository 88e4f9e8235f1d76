-- The places of keys, and the data blocks of a file, after blocks were read or landed elsewhere.
use Rattle.std.proofs.Common.{◌≡◌, ℕ, ◌+◌, ◌<◌, ◌≤◌, inl, inr, sym, ap, ◌∙◌, arith}
use Rattle.std.proofs.lemmas.Bool.{cases_lt, cond-true, cond-false, lt-ltb, le-ltb}
use Rattle.lfs_types.specs.Blocks.{zero_block}
use Rattle.lfs_types.specs.declared.limits.TheConstants.{FILE_BLOCKS}
use Rattle.lfs_bmap.specs.Ways.{way_of}
use Rattle.lfs_bmap.specs.Reading.{Tree, read, data_block, SameReadings}
use Rattle.lfs_bmap.proofs.WayLemmas.{way_of-data, way_of-known}

-- A data block of a file, and what stands past them.
pub data_block-read : (t : Tree) (n : ℕ) → n < FILE_BLOCKS → data_block t n ≡ read t (way_of (131 + n))
unfolding data_block
data_block-read t n h = cond-true _ _ _ (lt-ltb n FILE_BLOCKS h) ∙ ap (read t) (sym (way_of-data n))

pub data_block-past : (t : Tree) (n : ℕ) → FILE_BLOCKS ≤ n → data_block t n ≡ zero_block
unfolding data_block
data_block-past t n h = cond-false _ _ _ (le-ltb n FILE_BLOCKS h)

-- data blocks that read alike are the same
data_block-alike : (old new : Tree) (n : ℕ)
    → (n < FILE_BLOCKS → read new (way_of (131 + n)) ≡ read old (way_of (131 + n))) → data_block new n
    ≡ data_block old n
data_block-alike old new n h =
    elim (cases_lt n FILE_BLOCKS) [
      | inl low ↦ data_block-read new n low ∙ h low ∙ sym (data_block-read old n low)
      | inr past ↦ data_block-past new n past ∙ sym (data_block-past old n past)
    ]

pub data_block-same : (old new : Tree) → SameReadings old new → (n : ℕ) → data_block new n ≡ data_block old n
data_block-same old new h n = data_block-alike old new n
    (λ low. h.bytes (way_of (131 + n)) (way_of-known (131 + n) (omega arith)))
