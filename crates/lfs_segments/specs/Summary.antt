-- The grammar of a summary block.
use Rattle.std.specs.Prelude.{◌≡◌, ℕ, ◌+◌, ◌*◌, ◌<◌, ◌≤◌, List, slice_index, slice_index_or}
use Rattle.lfs_segments.specs.declared.summary.Summary.{Summary}
use Rattle.lfs_segments.specs.Bytes.{word_at, half_at}
use Rattle.lfs_segments.specs.Entry.{IsEntryAt, unused}

-- The bytes of a summary, by their places: what each field holds, and that bytes which no field names are zero.
pub record IsSummaryBlock (bytes : List ℕ) (s : Summary) : Type 0 where
  pub mark : word_at bytes 0 ≡ 0x4c46_5353
  pub segment : word_at bytes 4 ≡ s.segment
  pub offset : half_at bytes 8 ≡ s.offset
  pub count : half_at bytes 10 ≡ s.count
  pub gap : word_at bytes 12 ≡ 0
  pub entries : (k : ℕ) → k < s.count → IsEntryAt bytes (16 + 12 * k)
      (slice_index_or s.entries k unused)
  pub rest : (i : ℕ) → 16 + 12 * s.count ≤ i → slice_index bytes i ≡ 0
