-- A summary block, read test by test: the entries that it names, or none where it is no summary.
use Rattle.std.specs.Prelude.{ℕ, zero, suc, ◌+◌, ◌-◌, ◌*◌, Bool, true, ◌&&◌, not, if◌then◌else◌, ◌==◌, nat_lt, nat_le}
use Rattle.std.specs.Prelude.{List, [], ◌∷◌, Option, Some, None, take, slice_index}
use Rattle.lfs_types.specs.declared.limits.TheConstants.{FILE_BLOCKS}
use Rattle.lfs_types.specs.Ranges.{most_inodes, most_segments}
use Rattle.lfs_segments.specs.declared.entry.LogicalBlock.{LogicalBlock}
use Rattle.lfs_segments.specs.declared.entry.LogicalBlock.TheVariants.{Data, Single, Double, Child, Inodes}
use Rattle.lfs_segments.specs.declared.entry.SummaryEntry.{SummaryEntry}
use Rattle.lfs_segments.specs.declared.summary.Summary.{Summary}
use Rattle.lfs_segments.specs.declared.summary.TheConstants.{ENTRY_LIMIT}
use Rattle.lfs_segments.specs.Bytes.{half_at, word_at}

-- the kind of block whose number it is
abbrev pub block_from : ℕ → LogicalBlock
block_from number =
    if number == 0x8000_0000 then Single
    else (if number == 0x8000_0001 then Double
    else (if number == 0xffff_ffff then Inodes
    else (if nat_le 0x8000_0100 number && nat_lt number 0x8000_0180
    then Child (number - 0x8000_0100)
    else Data number)))

-- the entry that would stand in twelve bytes
abbrev pub entry_from : List ℕ → ℕ → SummaryEntry
entry_from bytes place =
    record {
      number = word_at bytes place;
      version = word_at bytes (place + 4);
      block = block_from (word_at bytes (place + 8));
    }

-- so many of them, one after the other
abbrev pub entries_from : List ℕ → ℕ → ℕ → List SummaryEntry
entries_from bytes place zero = []
entries_from bytes place (suc n) = entry_from bytes place ∷ entries_from bytes (place + 12) n

-- whether it is 2, or 4 to 4,095
abbrev pub is_file_number : ℕ → Bool
is_file_number number = nat_le 2 number && (not (number == 3) && nat_lt number most_inodes)

-- whether a block of this kind may stand in an entry with this number and version
abbrev pub may_name : LogicalBlock → ℕ → ℕ → Bool
may_name (Data index) number version = nat_lt index FILE_BLOCKS
    && (is_file_number number && nat_le 1 version)
may_name Single number version = is_file_number number && nat_le 1 version
may_name Double number version = is_file_number number && nat_le 1 version
may_name (Child index) number version = nat_lt index 128
    && (is_file_number number && nat_le 1 version)
may_name Inodes number version = (number == 0) && (version == 0)

-- whether each number below n passes
abbrev pub all_below : (ℕ → Bool) → ℕ → Bool
all_below test zero = true
all_below test (suc n) = all_below test n && test n

-- whether a block is a summary, test by test
unfoldable pub is_summary : List ℕ → Bool
is_summary bytes =
    (word_at bytes 0 == 0x4c46_5353)
    && (nat_lt (word_at bytes 4) most_segments
    && (nat_le 1 (half_at bytes 10)
    && (nat_le (half_at bytes 10) ENTRY_LIMIT
    && (nat_le (half_at bytes 8 + half_at bytes 10) 63
    && ((word_at bytes 12 == 0)
    && (all_below (λ k. let e = entry_from bytes (16 + 12 * k) in
    may_name e.block e.number e.version)
    (half_at bytes 10)
    && all_below (λ i. slice_index bytes (16 + 12 * half_at bytes 10 + i) == 0)
    (512 - (16 + 12 * half_at bytes 10))))))))

-- the entries of a summary
abbrev pub named_by : Summary → List SummaryEntry
named_by s = take s.count s.entries

-- the entries that a block names, where it is a summary
unfoldable pub summary_entries : List ℕ → Option (List SummaryEntry)
summary_entries bytes = if is_summary bytes
    then Some (entries_from bytes 16 (half_at bytes 10)) else None
