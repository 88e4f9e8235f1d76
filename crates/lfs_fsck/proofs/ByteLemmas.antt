-- Blocks of zeros: `zeros_are` and `are_zeros`, for `is_zeros`. A block has 512 bytes, so it is the block of zeros just
-- where the byte at each of these places is 0.
use Rattle.std.proofs.Common.{◌≡◌, ℕ, ◌<◌, ◌≤◌, List, length, sym, ap, ◌∙◌, arith}
use Rattle.std.specs.Prelude.{slice_index}
use Rattle.std.proofs.lemmas.List.{ext_get_or}
use Rattle.lfs_types.specs.Blocks.{zero_block}
use Rattle.lfs_segments.proofs.MemoryLemmas.{length-zero_block}
use Rattle.lfs_bmap.proofs.PieceLemmas.{zero_block-at}

-- a block is zeros where each byte is
pub zeros_are : (block : List ℕ) → length block ≡ 512 → ((k : ℕ) → 0 ≤ k → k < 512 → slice_index block k ≡ 0) → block
    ≡ zero_block
zeros_are block long h =
    ext_get_or 0 block zero_block (long ∙ sym length-zero_block) (λ k low. h k (omega arith) (omega arith)
    ∙ sym (zero_block-at k))

pub are_zeros : (block : List ℕ) → block ≡ zero_block → (k : ℕ) → 0 ≤ k → k < 512 → slice_index block k ≡ 0
are_zeros block is k from low = ap (λ b. slice_index b k) is ∙ zero_block-at k
