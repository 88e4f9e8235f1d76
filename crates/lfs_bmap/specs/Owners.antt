-- Whose blocks and records the log names.
use Rattle.std.specs.Prelude.{ℕ, ◌+◌, ◌/◌, ◌%◌, if◌then◌else◌, ◌==◌, Option, Some, None, option_map, option_and_then}
use Rattle.lfs_segments.specs.declared.entry.LogicalBlock.{LogicalBlock}
use Rattle.lfs_segments.specs.declared.entry.LogicalBlock.TheVariants as logical
use Rattle.lfs_segments.specs.declared.entry.SummaryEntry.{SummaryEntry}
use Rattle.lfs_bmap.specs.Log.{Owner}

-- the owner of one of four units of a block that an entry names: in an inode block the record that stands there, known
-- by number and version; of another block the first unit alone has an owner
unfoldable pub owner_in : LogicalBlock → ℕ → ℕ → ℕ → Option (ℕ × ℕ) → Option Owner
owner_in logical.Inodes number version slot found =
    option_map (λ r. record { number = r.0; version = r.1; code = 0 }) found
owner_in logical.Single number version slot found =
    if slot == 0 then Some (record { number = number; version = version; code = 1 }) else None
owner_in logical.Double number version slot found =
    if slot == 0 then Some (record { number = number; version = version; code = 2 }) else None
owner_in (logical.Child index) number version slot found =
    if slot == 0 then Some (record { number = number; version = version; code = 3 + index }) else None
owner_in (logical.Data index) number version slot found =
    if slot == 0 then Some (record { number = number; version = version; code = 131 + index }) else None

-- The owner of a place, by the entry that the log has for each address, and the number and the version of the record in
-- each slot of the block there.
unfoldable pub owner_at : (ℕ → Option SummaryEntry) → (ℕ → ℕ → Option (ℕ × ℕ)) → ℕ → Option Owner
owner_at entries records place =
    option_and_then (λ (e : SummaryEntry). owner_in e.block e.number e.version (place % 4)
    (records (place / 4) (place % 4))) (entries (place / 4))
