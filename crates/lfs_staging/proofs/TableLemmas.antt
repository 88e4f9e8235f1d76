-- The table in which a block's address stands is the same if the record is, or the bytes of the holder wait as they
-- did: `table_same`, for UnstagedLemmas, EmptiedLemmas and LandedLemmas of `lfs_segwrite`; `room_at` says that the
-- block's index is inside it. By the block's way: the record has fourteen addresses and each table 128, and the five
-- kinds of blocks have their index below that (`room_at`). Keys of two numbers or codes differ (`apart_number`,
-- `apart_code`), so what one block's staging changes is no other's; other counts of addresses change `room_at`.
use Rattle.std.proofs.Common.{◌≡◌, ◌≢◌, ℕ, ◌+◌, ◌-◌, ◌*◌, ◌/◌, ◌%◌, ◌<◌, List, [], ◌∷◌, length, IsSome, false, refl}
use Rattle.std.proofs.Common.{sym, ap, ◌∙◌, inl, inr, arith}
use Rattle.std.specs.Prelude.{if◌then◌else◌, ◌==◌}
use Rattle.std.proofs.lemmas.Bool.{cases_lt}
use Rattle.lfs_ifile.specs.declared.inode.InodeRow.{InodeRow}
use Rattle.lfs_ifile.specs.Tables.{Tables, row_at}
use Rattle.lfs_inodes.specs.declared.inode.Inode.{Inode}
use Rattle.lfs_inodes.specs.Addresses.{cells}
use Rattle.lfs_inodes.proofs.AddressLemmas.{length-addresses}
use Rattle.lfs_inodes.proofs.Cells.{length-numbers}
use Rattle.lfs_cache.specs.declared.key.Key.{Key}
use Rattle.lfs_cache.specs.Keys.{same_key}
use Rattle.lfs_log.specs.Parts.{record_place}
use Rattle.lfs_bmap.specs.declared.blocks.FileBlock.{FileBlock}
use Rattle.lfs_bmap.specs.declared.blocks.FileBlock.TheVariants.{Record, Single, Double, Child, Data}
use Rattle.lfs_bmap.specs.Blocks.{IsFileBlock, code_of, way_to}
use Rattle.lfs_bmap.specs.Reading.{Tree, read, table}
use Rattle.lfs_bmap.specs.Ways.{data_way}
use Rattle.lfs_bmap.proofs.ReadingLemmas.{read-waits, table-read, table-root}
use Rattle.lfs_bmap.proofs.WayLemmas.{data_way-direct, data_way-double, data_way-single}
use Rattle.lfs_parts.specs.declared.parts.Parts.{Parts}
use Rattle.lfs_staging.specs.Addressing.{IsWaiting}
use Rattle.lfs_parts.specs.View.{key_of, tree_of}
use Rattle.lfs_staging.proofs.SettingLemmas.{at_way, record_table, some_there}
use Rattle.lfs_staging.proofs.StagingLemmas.{key-apart}

-- keys of two numbers, and keys of two codes
pub apart_number : (n m v w c d : ℕ) → m ≢ n → same_key (key_of n v c) (key_of m w d) ≡ false
apart_number n m v w c d other = key-apart (key_of n v c) (key_of m w d) (λ e. other (sym (ap (λ (k : Key). k.ino) e)))

pub apart_code : (n m v w c d : ℕ) → d ≢ c → same_key (key_of n v c) (key_of m w d) ≡ false
apart_code n m v w c d other = key-apart (key_of n v c) (key_of m w d) (λ e. other (sym (ap (λ (k : Key). k.lbn.0) e)))

-- a way is longer than what it leads through
pub longer : (i : ℕ) (up : List ℕ) → up ≡ i ∷ up → ⊥
longer i up e = let same : length up ≡ length up + 1 = ap length e ∙ omega arith in omega arith

-- two trees have the same table where they have the same record, or the same bytes wait for the block
pub table_same : (t u : Tree) (up : List ℕ) → u.root ≡ t.root
    → (up ≢ [] → (u.waits up ≡ t.waits up) × IsSome (t.waits up)) → table u up ≡ table t up
table_same t u [] root h = table-root u ∙ root ∙ sym (table-root t)
table_same t u (j ∷ above) root h =
    let waits = h (λ e. cc) in
    let b = some_there (t.waits (j ∷ above)) waits.1 in
    table-read u j above ∙ ap cells (read-waits u (j ∷ above) b.0 (waits.0 ∙ b.1))
    ∙ sym (ap cells (read-waits t (j ∷ above) b.0 b.1)) ∙ sym (table-read t j above)

-- there is room for the address of each block
pub room_at : (p : Parts) (v : Inode) (block : FileBlock) → IsWaiting p v → IsFileBlock block → code_of block ≢ 0
    → (i : ℕ) (up : List ℕ) → way_to block ≡ i ∷ up
    → i < length (table (tree_of p v.number) up)
room_at p v Record is can other = absurd (other refl)
room_at p v Single is can other =
    at_way (λ i up. i < length (table (tree_of p v.number) up)) (12 ∷ []) 12 [] refl
    (let long = ap length (record_table p v is) ∙ length-addresses v in omega arith)
room_at p v Double is can other =
    at_way (λ i up. i < length (table (tree_of p v.number) up)) (13 ∷ []) 13 [] refl
    (let long = ap length (record_table p v is) ∙ length-addresses v in omega arith)
room_at p v (Child index) is can other =
    at_way (λ i up. i < length (table (tree_of p v.number) up)) (index ∷ 13 ∷ []) index (13 ∷ []) refl
    (let long = ap length (table-read (tree_of p v.number) 13 [])
    ∙ length-numbers (read (tree_of p v.number) (13 ∷ [])) 0 128 in omega arith)
room_at p v (Data index) is can other =
    elim (cases_lt index 12) [
      | inl direct ↦ at_way (λ i up. i < length (table (tree_of p v.number) up)) (data_way index) index []
          (data_way-direct index direct)
          (let long = ap length (record_table p v is) ∙ length-addresses v in omega arith)
      | inr past ↦ elim (cases_lt index 140) [
        | inl near ↦ at_way (λ i up. i < length (table (tree_of p v.number) up)) (data_way index) (index - 12) (12 ∷ [])
            (data_way-single index past near)
            (let long = ap length (table-read (tree_of p v.number) 12 [])
            ∙ length-numbers (read (tree_of p v.number) (12 ∷ [])) 0 128 in omega arith)
        | inr far ↦ at_way (λ i up. i < length (table (tree_of p v.number) up)) (data_way index) ((index - 140) % 128)
            (((index - 140) / 128) ∷ 13 ∷ []) (data_way-double index far)
            (let long = ap length (table-read (tree_of p v.number) ((index - 140) / 128) (13 ∷ []))
            ∙ length-numbers (read (tree_of p v.number) (((index - 140) / 128) ∷ 13 ∷ [])) 0 128 in omega arith)
      ]
    ]

-- a record has the place that it had, where the inode map has the same rows
pub same_place : (old new : Tables) (number : ℕ) → new.rows ≡ old.rows → record_place new number
    ≡ record_place old number
unfolding record_place
same_place old new number rows = ap (λ (rs : List InodeRow). let row = row_at rs number in if row.address == 0 then 0
    else 4 * row.address + row.slot) rows
