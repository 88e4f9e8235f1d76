-- The best of dirty segments, segment by segment.
use Rattle.std.proofs.Common.{ℕ, ◌+◌, ◌/◌, ◌<◌, List, length, slice_index, arith}
use Rattle.lfs_ifile.specs.Layout.{number_at}
use Rattle.lfs_cleaner.specs.Choosing.{IsDirty}

-- four bytes make no more than four bytes do
pub number_at-fits : (bytes : List ℕ) (place : ℕ) → ((i : ℕ) → slice_index bytes i < 256)
    → number_at bytes place < 4294967296
unfolding number_at
number_at-fits bytes place small =
    let a = small place in
    let b = small (place + 1) in
    let c = small (place + 2) in
    let d = small (place + 3) in
    omega arith

-- the numbers of dirty segments are below an eighth of the length, and fit
pub dirty_below : (bytes : List ℕ) (segment live : ℕ) → ((i : ℕ) → slice_index bytes i < 256)
    → IsDirty bytes segment live → (segment < length bytes / 8) × (segment < 4294967295)
dirty_below bytes segment live small is =
    let size = is.laid_out.size in
    let within = is.segment in
    let fits = number_at-fits bytes 4 small in
    (omega arith, omega arith)
