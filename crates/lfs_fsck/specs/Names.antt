-- Which entry the log has for each address.
use Rattle.std.specs.Prelude.{◌≡◌, ℕ, ◌<◌, List, Option, None, Some, length, option_and_then, slice_index_or}
use Rattle.std.specs.List.{slice_get}
use Rattle.lfs_segments.specs.declared.entry.SummaryEntry.{SummaryEntry}
use Rattle.lfs_segments.specs.declared.entry.LogicalBlock.TheVariants.{Inodes}
use Rattle.lfs_bmap.specs.Blocks.{code_of, file_block_of}
use Rattle.lfs_segments.specs.Log.{entry_at}
use Rattle.lfs_segments.specs.Memory.{SegmentMemory}

-- the entry of the next block, where the log expects some
abbrev pub first_name : Option (List SummaryEntry) → Option SummaryEntry
first_name expects = option_and_then (λ entries. slice_get entries 0) expects

-- the entry at an address, by a table
abbrev pub name_in : List (Option SummaryEntry) → ℕ → Option SummaryEntry
name_in names address = slice_index_or names address None

-- for each of so many addresses the entry that the log has
pub record AreNames (m : SegmentMemory) (many : ℕ) (names : List (Option SummaryEntry)) : Type 0 where
  pub long : length names ≡ many
  pub each : (a : ℕ) → a < many → name_in names a ≡ entry_at m a

-- an entry names the block with a code of a number at a version
pub record NamesCode (e : SummaryEntry) (number version code : ℕ) : Type 0 where
  pub number_is : e.number ≡ number
  pub version_is : e.version ≡ version
  pub code_is : code_of (file_block_of e.block) ≡ code

abbrev pub IsNameOf : Option SummaryEntry → ℕ → ℕ → ℕ → Type 0
IsNameOf None number version code = ⊥
IsNameOf (Some e) number version code = NamesCode e number version code

-- or a block of records
abbrev pub IsOfRecords : Option SummaryEntry → Type 0
IsOfRecords None = ⊥
IsOfRecords (Some e) = e.block ≡ Inodes
