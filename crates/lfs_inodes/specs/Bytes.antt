-- Numbers and zeros at places of a list of bytes.
use Rattle.std.specs.Prelude.{◌≡◌, ◌≤◌, ◌<◌, ℕ, ◌+◌, List, length, slice_index}
use Rattle.byteorder.specs.Endian.{big_from}

-- the number in the `width` bytes from place `at`, the highest byte first
unfoldable pub number_at : List ℕ → ℕ → ℕ → ℕ
number_at bytes at width = big_from at width bytes

-- each number is a byte
abbrev pub AreBytes : List ℕ → Type 0
AreBytes bytes = (k : ℕ) → slice_index bytes k < 256

-- the bytes from place `from` to before `end` are zero
abbrev pub AreZero : List ℕ → ℕ → ℕ → Type 0
AreZero bytes from end = (k : ℕ) → from ≤ k → k < end → slice_index bytes k ≡ 0

-- two lists agree from place `from` to before `end`
abbrev pub SameBetween : List ℕ → List ℕ → ℕ → ℕ → Type 0
SameBetween xs ys from end = (k : ℕ) → from ≤ k → k < end → slice_index xs k ≡ slice_index ys k

-- new is old with the number in the `width` bytes from place `at`
pub record Puts (old new : List ℕ) (at width number : ℕ) : Type 0 where
  pub same_length : length new ≡ length old
  pub bytes : AreBytes new
  pub written : number_at new at width ≡ number
  pub below : SameBetween new old 0 at
  pub above : SameBetween new old (at + width) (length old)
