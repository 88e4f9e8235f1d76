-- Places in the log, and how many live bytes a segment has. A place is four times an address, and for a record the
-- slot of its inode block besides: units of 128 bytes. Place 0 is none. A record takes one unit, a block takes four.
use Rattle.std.specs.Prelude.{ℕ, zero, suc, ◌+◌, ◌*◌, ◌/◌, ◌&&◌, if◌then◌else◌, ◌==◌}
use Rattle.lfs_types.specs.declared.limits.TheConstants.{SEGMENT_BLOCKS}

-- the segment of a place
abbrev pub seg_of : ℕ → ℕ
seg_of place = place / (4 * SEGMENT_BLOCKS)

-- the place of the block at an address
abbrev pub place_of : ℕ → ℕ
place_of address = 4 * address

-- how many units the block with a code takes
abbrev pub units : ℕ → ℕ
units code = if code == 0 then 1 else 4

-- the sum of f over the numbers below n
unfoldable pub total : (ℕ → ℕ) → ℕ → ℕ
total f zero = 0
total f (suc n) = f n + total f n

-- the live bytes that a key at a place gives a segment
unfoldable pub weight_of : ℕ → ℕ → ℕ → ℕ
weight_of place segment code =
    if place == 0 then 0 else (if seg_of place == segment then 128 * units code else 0)

-- the live bytes of a segment, counted from scratch over the places of all keys: a key is a number and a code
unfoldable pub live_bytes : ℕ → ℕ → (ℕ → ℕ → ℕ) → ℕ → ℕ
live_bytes numbers codes at segment =
    total (λ number. total (λ code. weight_of (at number code) segment code) codes) numbers

-- the places with one key's changed
abbrev pub placed : (ℕ → ℕ → ℕ) → ℕ → ℕ → ℕ → ℕ → ℕ → ℕ
placed at number code place n c = if n == number && c == code then place else at n c
