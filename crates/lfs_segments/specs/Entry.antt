-- What an entry of a summary may be, and how it is spelled.
use Rattle.std.specs.Prelude.{◌≡◌, ◌≢◌, ℕ, ◌+◌, ◌*◌, ◌<◌, ◌≤◌, List, length, slice_index_or, ⊤}
use Rattle.std.specs.Coded.{Unit-prop, le_prop, ×_prop}
use Rattle.std.proofs.Math.Nat.{ℕ_set}
use Rattle.lfs_types.specs.declared.limits.TheConstants.{FILE_BLOCKS}
use Rattle.lfs_types.specs.Ranges.{most_inodes}
use Rattle.lfs_segments.specs.declared.entry.LogicalBlock.{LogicalBlock}
use Rattle.lfs_segments.specs.declared.entry.LogicalBlock.TheVariants.{Data, Single, Double, Child, Inodes}
use Rattle.lfs_segments.specs.declared.entry.SummaryEntry.{SummaryEntry}
use Rattle.lfs_segments.specs.declared.summary.TheConstants.{ENTRY_LIMIT}
use Rattle.lfs_segments.specs.Bytes.{word_at}

-- the number of the root, or of another file: 2, or 4 to 4,095
pub record IsFileNumber (number : ℕ) : Type 0 where
  pub above : 2 ≤ number
  pub not_three : number ≢ 3
  pub below : number < most_inodes

-- a block that a file can have, or a block of inodes
abbrev pub IsLogicalBlock : LogicalBlock → Type 0
IsLogicalBlock (Data index) = index < FILE_BLOCKS
IsLogicalBlock Single = ⊤
IsLogicalBlock Double = ⊤
IsLogicalBlock (Child index) = index < 128
IsLogicalBlock Inodes = ⊤

-- the number and version with which a block of this kind stands in an entry
abbrev pub IsOwner : LogicalBlock → ℕ → ℕ → Type 0
IsOwner (Data index) number version = IsFileNumber number × (1 ≤ version)
IsOwner Single number version = IsFileNumber number × (1 ≤ version)
IsOwner Double number version = IsFileNumber number × (1 ≤ version)
IsOwner (Child index) number version = IsFileNumber number × (1 ≤ version)
IsOwner Inodes number version = (number ≡ 0) × (version ≡ 0)

-- an entry that names a block
pub record IsEntry (e : SummaryEntry) : Type 0 where
  pub block : IsLogicalBlock e.block
  pub owner : IsOwner e.block e.number e.version

-- what stands past the last entry
abbrev pub unused : SummaryEntry
unused = record { number = 0; version = 0; block = Data 0 }

-- the number that spells a kind of block
abbrev pub block_number : LogicalBlock → ℕ
block_number (Data index) = index
block_number Single = 0x8000_0000
block_number Double = 0x8000_0001
block_number (Child index) = 0x8000_0100 + index
block_number Inodes = 0xffff_ffff

-- twelve bytes spell the entry: number, version, logical block
pub record IsEntryAt (bytes : List ℕ) (place : ℕ) (e : SummaryEntry) : Type 0 where
  pub number : word_at bytes place ≡ e.number
  pub version : word_at bytes (place + 4) ≡ e.version
  pub block : word_at bytes (place + 8) ≡ block_number e.block

-- forty entries, of which so many stand in a summary block, one after the other; those past them are unused
pub record AreEntriesAt (bytes : List ℕ) (count : ℕ) (entries : List SummaryEntry) : Type 0 where
  pub whole : length entries ≡ ENTRY_LIMIT
  pub named : (k : ℕ) → k < count → IsEntry (slice_index_or entries k unused)
  pub spelled : (k : ℕ) → k < count → IsEntryAt bytes (16 + 12 * k)
      (slice_index_or entries k unused)
  pub rest : (k : ℕ) → count ≤ k → slice_index_or entries k unused ≡ unused

-- each of these facts has one proof at most
IsFileNumber-prop : (number : ℕ) → IsProp (IsFileNumber number)
IsFileNumber-prop number p q = λ i. record {
  above = le_prop p.above q.above i;
  not_three = λ three. let same : p.not_three three ≡ q.not_three three =
      absurd (p.not_three three) in same i;
  below = le_prop p.below q.below i;
}

IsLogicalBlock-prop : (block : LogicalBlock) → IsProp (IsLogicalBlock block)
IsLogicalBlock-prop (Data index) = le_prop
IsLogicalBlock-prop Single = Unit-prop
IsLogicalBlock-prop Double = Unit-prop
IsLogicalBlock-prop (Child index) = le_prop
IsLogicalBlock-prop Inodes = Unit-prop

IsOwner-prop : (block : LogicalBlock) (number version : ℕ) → IsProp (IsOwner block number version)
IsOwner-prop (Data index) number version = ×_prop (IsFileNumber-prop number) le_prop
IsOwner-prop Single number version = ×_prop (IsFileNumber-prop number) le_prop
IsOwner-prop Double number version = ×_prop (IsFileNumber-prop number) le_prop
IsOwner-prop (Child index) number version = ×_prop (IsFileNumber-prop number) le_prop
IsOwner-prop Inodes number version = ×_prop (ℕ_set number 0) (ℕ_set version 0)

IsEntry-prop : (e : SummaryEntry) → IsProp (IsEntry e)
IsEntry-prop e p q = λ i. record {
  block = IsLogicalBlock-prop e.block p.block q.block i;
  owner = IsOwner-prop e.block e.number e.version p.owner q.owner i;
}

pub AreNamed-prop : (count : ℕ) (entries : List SummaryEntry)
    → IsProp ((k : ℕ) → k < count → IsEntry (slice_index_or entries k unused))
AreNamed-prop count entries p q = λ i k below. IsEntry-prop (slice_index_or entries k unused)
    (p k below) (q k below) i
