-- Four bytes over those of an indirect block that waits change one of its addresses (`entry_over`), and nothing else that
-- waits (`entry_restages`): for `set_entry`. Addresses stand side by side, four bytes each, so the others' bytes are
-- before those four or behind them.
use Rattle.std.proofs.Common.{◌≡◌, ◌≢◌, ℕ, ◌+◌, ◌-◌, ◌*◌, ◌^◌, ◌<◌, List, Some, ◌++◌, length, take, drop, get_or, set}
use Rattle.std.proofs.Common.{sym, ap, ◌∙◌, arith, inl, inr}
use Rattle.std.proofs.lemmas.Bool.{cases_lt, cases_eq}
use Rattle.std.proofs.lemmas.List.{ext_get_or, length-map, length-set, get_or-set_same, get_or-set_other}
use Rattle.std.proofs.lemmas.List.{get_or-drop, get_or-take, get_or_append_left, get_or-append_right}
use Rattle.std.proofs.lemmas.List.{drop_at, take_rest, length-take-le}
use Rattle.std.specs.Int.{bytes_high_first}
use Rattle.byteorder.specs.Endian.{big_from}
use Rattle.byteorder.specs.Numbers.{big_number-reads_back, length-bytes_high_first}
use Rattle.lfs_inodes.specs.Addresses.{cells}
use Rattle.lfs_inodes.specs.Bytes.{number_at, SameBetween}
use Rattle.lfs_inodes.proofs.Cells.{length-numbers, slice_index-cells}
use Rattle.lfs_inodes.proofs.Grammar.{number_at-within}
use Rattle.lfs_inodes.proofs.Numbers.{number_at-read}
use Rattle.lfs_cache.specs.Changes.{IsContents, Overwrites}
use Rattle.lfs_cache.specs.Contents.{Contents, block_in, overwritten}
use Rattle.lfs_cache.specs.declared.key.Key.{Key}
use Rattle.lfs_staging.specs.Addressing.{Restages}

module _ (old : List ℕ) (i x : ℕ) (long : length old ≡ 512) (inside : i < 128) (fits : x < 2 ^ 32) where
  abbrev word : List ℕ
  word = bytes_high_first 4 x

  abbrev rest : List ℕ
  rest = word ++ drop (4 * i + length word) old

  abbrev new : List ℕ
  new = take (4 * i) old ++ rest

  wide : length word ≡ 4
  wide = length-bytes_high_first 4 x

  front : length (take (4 * i) old) ≡ 4 * i
  front = length-take-le (4 * i) old (omega arith)

  below : SameBetween new old 0 (4 * i)
  below k low high = get_or_append_left (take (4 * i) old) rest 0 k (omega (arith, front))
      ∙ get_or-take (4 * i) old k 0 high

  above : SameBetween new old (4 * i + 4) (length old)
  above k low high =
      let e : (4 * i + length word) + (k - 4 * i - 4) ≡ k = omega (arith, wide) in
      get_or-append_right (take (4 * i) old) rest (4 * i) k 0 front (omega arith)
      ∙ get_or-append_right word (drop (4 * i + length word) old) 4 (k - 4 * i) 0 wide (omega arith)
      ∙ get_or-drop (4 * i + length word) old (k - 4 * i - 4) 0
      ∙ ap (λ (j : ℕ). get_or old j 0) e

  written : number_at new (4 * i) 4 ≡ x
  written =
      sym (number_at-read 4 (4 * i) new) ∙ ap (big_from 0 4) (take_rest new (4 * i))
      ∙ ap (big_from 0 4) (drop_at (take (4 * i) old) rest (4 * i) front)
      ∙ big_number-reads_back 4 x (drop (4 * i + length word) old) (omega arith)

  beside : (k : ℕ) → k < 128 → k ≢ i → number_at new (4 * k) 4 ≡ number_at old (4 * k) 4
  beside k within ne = elim (cases_lt k i) [
    | inl before ↦ number_at-within new old 0 (4 * i) (4 * k) 4 below (omega arith) (omega arith)
    | inr behind ↦ number_at-within new old (4 * i + 4) (length old) (4 * k) 4 above (omega arith) (omega arith)
  ]

  here : get_or (cells new) i 0 ≡ get_or (set (cells old) i x) i 0
  here = slice_index-cells new 128 i inside ∙ written
      ∙ sym (get_or-set_same (cells old) i x 0 (omega (arith, length-numbers old 0 128)))

  there : (k : ℕ) → k < 128 → k ≢ i → get_or (cells new) k 0 ≡ get_or (set (cells old) i x) k 0
  there k within ne = slice_index-cells new 128 k within ∙ beside k within ne
      ∙ sym (get_or-set_other (cells old) i k x 0 ne ∙ slice_index-cells old 128 k within)

  each : (k : ℕ) → k < length (cells new) → get_or (cells new) k 0 ≡ get_or (set (cells old) i x) k 0
  each k within = elim (cases_eq k i) [
    | inl e ↦ rw e here
    | inr ne ↦ there k (omega (arith, length-numbers new 0 128)) ne
  ]

  pub entry_over : cells (overwritten (4 * i) word old) ≡ set (cells old) i x
  entry_over = ext_get_or 0 (cells new) (set (cells old) i x)
      (length-numbers new 0 128 ∙ sym (length-set (cells old) i x ∙ length-numbers old 0 128)) each

pub entry_restages : (old new : Contents) (k : Key) (start : ℕ) (bytes block : List ℕ) → Overwrites k start bytes old new
    → IsContents new → block_in k old.locked ≡ Some block → Restages old new k (overwritten start bytes block)
entry_restages old new k start bytes block over formed there = record {
  here = (over.block block there).1;
  others = over.dirty;
  clean = record { each = λ key held is. sym (ap (block_in key) over.clean) ∙ is };
  formed = formed;
  many = sym (length-map new.locked (λ e. e.0)) ∙ ap length over.keys ∙ length-map old.locked (λ e. e.0);
}
