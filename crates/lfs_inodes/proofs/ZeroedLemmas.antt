-- A list with zeros from a place on: `slice_index-zeroed_below` and `slice_index-zeroed_from` for CutLemmas, and
-- `slice_index-zeros` and `slice_index-cells_zero_block` for whoever reads an indirect block that isn't there. A place
-- past a list's end reads as 0, so zeros read as 0 everywhere, and a list that was zeroed from n on reads as before
-- below n. Four zero bytes are the number 0, so a block of zeros has the address 0 in each cell.
use Rattle.std.proofs.Common.{◌≡◌, ℕ, ◌+◌, ◌-◌, ◌*◌, ◌<◌, ◌≤◌, List, [], length, slice_index, replicate}
use Rattle.std.proofs.Common.{take, sym, ◌∙◌, arith, inl, inr}
use Rattle.std.proofs.lemmas.Bool.{cases_lt}
use Rattle.std.proofs.lemmas.List.{ext_get_or, get_or-replicate}
use Rattle.std.proofs.lemmas.List.{get_or_past, get_or_append_left, get_or-append_right, get_or-take, length-append}
use Rattle.std.proofs.lemmas.List.{length-replicate, length-take, length-take-le}
use Rattle.lfs_types.specs.Blocks.{zero_block}
use Rattle.lfs_inodes.specs.Bytes.{number_at, AreZero}
use Rattle.lfs_inodes.specs.Addresses.{cells, zeroed_from}
use Rattle.lfs_inodes.proofs.Numbers.{number_at-same}
use Rattle.lfs_inodes.proofs.Cells.{length-numbers, slice_index-cells}

-- zeros, also where the list of them ends
pub slice_index-zeros : (n k : ℕ) → slice_index (replicate n 0) k ≡ 0
slice_index-zeros n k = elim (cases_lt k n) [
  | inl below ↦ get_or-replicate n k 0 0 below
  | inr past ↦ get_or_past (replicate n 0) k 0 (omega (arith, length-replicate {A = ℕ} n 0))
]

pub length-zeroed_from : (n : ℕ) (xs : List ℕ) → length (zeroed_from n xs) ≡ length xs
length-zeroed_from n xs = omega (
  arith,
  length-append (take n xs) (replicate (length xs - n) 0),
  length-take n xs,
  length-replicate {A = ℕ} (length xs - n) 0,
)

pub slice_index-zeroed_below : (n : ℕ) (xs : List ℕ) (k : ℕ) → k < n → slice_index (zeroed_from n xs) k
    ≡ slice_index xs k
slice_index-zeroed_below n xs k lt = elim (cases_lt k (length xs)) [
  | inl within ↦ get_or_append_left (take n xs) (replicate (length xs - n) 0) 0 k (omega (arith, length-take n xs))
      ∙ get_or-take n xs k 0 lt
  | inr past ↦ get_or_past (zeroed_from n xs) k 0 (omega (arith, length-zeroed_from n xs))
      ∙ sym (get_or_past xs k 0 past)
]

pub slice_index-zeroed_from : (n : ℕ) (xs : List ℕ) (k : ℕ) → n ≤ k → slice_index (zeroed_from n xs) k ≡ 0
slice_index-zeroed_from n xs k le = elim (cases_lt k (length xs)) [
  | inl within ↦
      get_or-append_right (take n xs) (replicate (length xs - n) 0) n k 0 (length-take-le n xs (omega arith)) le
      ∙ slice_index-zeros (length xs - n) (k - n)
  | inr past ↦ get_or_past (zeroed_from n xs) k 0 (omega (arith, length-zeroed_from n xs))
]

-- four zero bytes are the number 0
pub number_at-zeros : (xs : List ℕ) (at : ℕ) → AreZero xs at (at + 4) → number_at xs at 4 ≡ 0
unfolding number_at
number_at-zeros xs at zeros = number_at-same xs [] at 4 zeros

slice_index-zero_block : (k : ℕ) → slice_index zero_block k ≡ 0
unfolding zero_block
slice_index-zero_block k = slice_index-zeros 512 k

-- an indirect block without data has no address
pub cells-zero_block : cells zero_block ≡ replicate 128 0
cells-zero_block = ext_get_or 0 (cells zero_block) (replicate 128 0) (length-numbers zero_block 0 128
    ∙ sym (length-replicate {A = ℕ} 128 0)) (λ k lt.
    slice_index-cells zero_block 128 k (omega (arith, length-numbers zero_block 0 128))
    ∙ number_at-zeros zero_block (4 * k) (λ i low high. slice_index-zero_block i)
    ∙ sym (slice_index-zeros 128 k))

pub slice_index-cells_zero_block : (k : ℕ) → slice_index (cells zero_block) k ≡ 0
slice_index-cells_zero_block k = rw cells-zero_block (slice_index-zeros 128 k)
