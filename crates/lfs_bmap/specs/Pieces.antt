-- A file as its blocks of 512 bytes.
use Rattle.std.specs.Prelude.{◌≡◌, ℕ, zero, suc, ◌+◌, ◌-◌, ◌*◌, ◌/◌, ◌%◌, ◌<◌, ◌≤◌, ◌&&◌, if◌then◌else◌, ◌==◌, nat_lt}
use Rattle.std.specs.Prelude.{nat_le, List, [], ◌++◌, length, take, slice_index}
use Rattle.lfs_types.specs.declared.block.TheConstants.{BLOCK_SIZE}

-- the first n blocks, one behind the other
unfoldable pub joined : (ℕ → List ℕ) → ℕ → List ℕ
joined blocks zero = []
joined blocks (suc n) = joined blocks n ++ blocks n

-- the bytes of a file of this size
abbrev pub file_bytes : (ℕ → List ℕ) → ℕ → List ℕ
file_bytes blocks size = take size (joined blocks ((size + 511) / BLOCK_SIZE))

-- the byte at a place of the file
abbrev pub byte_at : (ℕ → List ℕ) → ℕ → ℕ
byte_at blocks i = slice_index (blocks (i / BLOCK_SIZE)) (i % BLOCK_SIZE)

-- each block has 512 bytes, and from the file's size on all are zero
pub record IsPadded (blocks : ℕ → List ℕ) (size : ℕ) : Type 0 where
  pub whole : (n : ℕ) → length (blocks n) ≡ BLOCK_SIZE
  pub zeros : (i : ℕ) → size ≤ i → byte_at blocks i ≡ 0

-- some of the bytes from `start` to before `end` stand in block n
pub record Touches (start end n : ℕ) : Type 0 where
  pub byte : ℕ
  pub from : start ≤ byte
  pub below : byte < end
  pub there : byte / BLOCK_SIZE ≡ n

-- byte i of a file after bytes were put at `start`, where it was `old`
abbrev pub byte_put : List ℕ → ℕ → ℕ → ℕ → ℕ
byte_put bytes start i old =
    if nat_le start i && nat_lt i (start + length bytes) then slice_index bytes (i - start) else old

-- what falls into block n of bytes put at `start` is in it, and its other bytes stay
pub record IsPut (n start : ℕ) (bytes old new : List ℕ) : Type 0 where
  pub whole : length new ≡ BLOCK_SIZE
  pub each : (k : ℕ) → k < BLOCK_SIZE
      → slice_index new k ≡ byte_put bytes start (BLOCK_SIZE * n + k) (slice_index old k)

-- what block n has at and past a size is zero, and its other bytes stay
pub record IsBlockCut (n size : ℕ) (old new : List ℕ) : Type 0 where
  pub whole : length new ≡ BLOCK_SIZE
  pub each : (k : ℕ) → k < BLOCK_SIZE
      → slice_index new k ≡ (if nat_lt (BLOCK_SIZE * n + k) size then slice_index old k else 0)

-- what block n has of the bytes from `start` on is in a buffer, whose other bytes stay
pub record IsGot (n start : ℕ) (block old new : List ℕ) : Type 0 where
  pub whole : length new ≡ length old
  pub each : (k : ℕ) → k < length old
      → slice_index new k
      ≡ (if (start + k) / BLOCK_SIZE == n then slice_index block ((start + k) % BLOCK_SIZE) else slice_index old k)
