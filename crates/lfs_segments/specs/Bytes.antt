-- Numbers in bytes, the highest byte first, by their place.
use Rattle.std.specs.Prelude.{◌≡◌, ℕ, ◌+◌, ◌*◌, ◌<◌, List, length, slice_index}
use Rattle.lfs_types.specs.declared.block.TheConstants.{BLOCK_SIZE}

-- the number in the four bytes from a place
abbrev pub word_at : List ℕ → ℕ → ℕ
word_at bytes place =
    16777216 * slice_index bytes place + 65536 * slice_index bytes (place + 1)
    + 256 * slice_index bytes (place + 2)
    + slice_index bytes (place + 3)

-- the number in the two bytes from a place
abbrev pub half_at : List ℕ → ℕ → ℕ
half_at bytes place = 256 * slice_index bytes place + slice_index bytes (place + 1)

-- the bytes of a block
pub record IsBlock (bytes : List ℕ) : Type 0 where
  pub whole : length bytes ≡ BLOCK_SIZE
  pub bytes_below : (i : ℕ) → slice_index bytes i < 256
