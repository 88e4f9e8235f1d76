-- A summary with a serial: the grammar of its block, and any block read as one.
use Rattle.std.specs.Prelude.{◌≡◌, ℕ, ◌+◌, ◌*◌, ◌<◌, ◌≤◌, Bool, true, false, if◌then◌else◌, ◌==◌, List, ◌++◌, Option}
use Rattle.std.specs.Prelude.{None, Some, option_map, take, drop, replicate, slice_index, slice_index_or}
use Rattle.lfs_segments.specs.declared.entry.SummaryEntry.{SummaryEntry}
use Rattle.lfs_segments.specs.declared.serial.SerialSummary.{SerialSummary}
use Rattle.lfs_segments.specs.declared.summary.Summary.{Summary}
use Rattle.lfs_segments.specs.Bytes.{word_at, half_at}
use Rattle.lfs_segments.specs.Entry.{IsEntryAt, unused}
use Rattle.lfs_segments.specs.Reading.{named_by, summary_entries}
use Rattle.lfs_segments.specs.Summary.{IsSummaryBlock}

-- The bytes of a summary with a serial, by their places: a summary's, but that bytes 12 to 15 hold the serial.
pub record IsSerialBlock (bytes : List ℕ) (s : SerialSummary) : Type 0 where
  pub mark : word_at bytes 0 ≡ 0x4c46_5353
  pub segment : word_at bytes 4 ≡ s.summary.segment
  pub offset : half_at bytes 8 ≡ s.summary.offset
  pub count : half_at bytes 10 ≡ s.summary.count
  pub serial : word_at bytes 12 ≡ s.serial
  pub entries : (k : ℕ) → k < s.summary.count
      → IsEntryAt bytes (16 + 12 * k) (slice_index_or s.summary.entries k unused)
  pub rest : (i : ℕ) → 16 + 12 * s.summary.count ≤ i → slice_index bytes i ≡ 0

-- what a summary with a serial tells
pub record Told : Type 0 where
  pub serial : ℕ
  pub segment : ℕ
  pub offset : ℕ
  pub entries : List SummaryEntry

abbrev pub told_by : SerialSummary → Told
told_by s = record {
  serial = s.serial;
  segment = s.summary.segment;
  offset = s.summary.offset;
  entries = named_by s.summary;
}

-- bytes with zeros in the place of a serial
abbrev pub without_serial : List ℕ → List ℕ
without_serial bytes = take 12 bytes ++ (replicate 4 0 ++ drop 16 bytes)

-- what a block tells, where it is a summary with a serial: where it has a serial, and is a summary without it
unfoldable pub told_in : List ℕ → Option Told
told_in bytes =
    if word_at bytes 12 == 0 then None
    else option_map
    (λ entries. record {
      serial = word_at bytes 12;
      segment = word_at bytes 4;
      offset = half_at bytes 8;
      entries = entries;
    })
    (summary_entries (without_serial bytes))

-- The entries that a block names in a log: where summaries have serials, as one with a serial, else as one without.
abbrev pub entries_in : Bool → List ℕ → Option (List SummaryEntry)
entries_in false bytes = summary_entries bytes
entries_in true bytes = option_map (λ t. t.entries) (told_in bytes)

-- a block is the summary, at this place of a segment, of blocks that have these entries
pub record IsSummaryOf (block : List ℕ) (in_segment at_offset : ℕ)
    (entries : List SummaryEntry) : Type 0 where
  pub summary : Summary
  pub spelled : IsSummaryBlock block summary
  pub segment : summary.segment ≡ in_segment
  pub offset : summary.offset ≡ at_offset
  pub named : named_by summary ≡ entries

-- and has this serial
pub record IsSerialOf (block : List ℕ) (serial in_segment at_offset : ℕ)
    (entries : List SummaryEntry) : Type 0 where
  pub summary : SerialSummary
  pub spelled : IsSerialBlock block summary
  pub told : told_by summary ≡ record {
    serial = serial;
    segment = in_segment;
    offset = at_offset;
    entries = entries;
  }

-- such a summary with this serial, or without one where there is none
abbrev pub IsSummaryWith : Option ℕ → List ℕ → ℕ → ℕ → List SummaryEntry → Type 0
IsSummaryWith None block segment offset entries = IsSummaryOf block segment offset entries
IsSummaryWith (Some serial) block segment offset entries =
    IsSerialOf block serial segment offset entries
