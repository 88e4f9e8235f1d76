-- Which record a number has and where a block's address stands: `record_of-waiting` and `record_of-logged`, `root_cell`
-- and `held_cell`, for `Parts::record`, `address_of` and most lemmas of the crate. The record that waits comes before
-- the log's; an address is a cell of the record or of the bytes of the block above, which wait or lie in the log. Where
-- the record has no address and nothing waits, no block has one and each reads as zeros (`nowhere`, `all_zeros`), by
-- induction on the way; `record_like` lists all that a record rests on.
use Rattle.std.proofs.Common.{◌≡◌, ◌≢◌, ℕ, List, [], ◌∷◌, Option, None, Some, option_and_then, is_some, refl, sym, ap}
use Rattle.std.proofs.Common.{◌∙◌}
use Rattle.std.specs.Prelude.{slice_index, unwrap_or, if◌then◌else◌, ◌==◌}
use Rattle.lfs_inodes.specs.Addresses.{addresses, cells}
use Rattle.lfs_types.specs.Blocks.{zero_block}
use Rattle.lfs_inodes.proofs.ZeroedLemmas.{slice_index-cells_zero_block}
use Rattle.lfs_bmap.specs.Reading.{Tree, address, bytes_via, read}
use Rattle.lfs_bmap.proofs.ReadingLemmas.{address-cell, address-root, table-cells, table-root, table-read, read-via}
use Rattle.lfs_bmap.proofs.ReadingLemmas.{via-none}
use Rattle.lfs_ifile.specs.declared.inode.InodePlace.{InodePlace}
use Rattle.lfs_ifile.specs.declared.inode.InodeRow.{InodeRow}
use Rattle.lfs_ifile.specs.Inode.{place_in}
use Rattle.lfs_ifile.specs.Tables.{place_of, row_at}
use Rattle.lfs_segments.specs.Memory.{SegmentMemory}
use Rattle.lfs_inodes.specs.declared.inode.Inode.{Inode}
use Rattle.lfs_inodes.specs.Reading.{fields_of}
use Rattle.lfs_cache.specs.declared.key.Key.{Key}
use Rattle.lfs_cache.specs.Contents.{Contents, block_in, IsLocked}
use Rattle.lfs_bmap.specs.Blocks.{code_of, way_to}
use Rattle.lfs_bmap.specs.Ways.{code_at}
use Rattle.lfs_bmap.specs.declared.blocks.FileBlock.{FileBlock}
use Rattle.lfs_bmap.specs.declared.blocks.FileBlock.TheVariants.{Record, Single, Double, Child, Data}
use Rattle.lfs_bmap.proofs.WayLemmas.{code_at-data}
use Rattle.lfs_parts.specs.declared.parts.Parts.{Parts}
use Rattle.lfs_parts.specs.View.{record_of, fields_at, waiting_in, waiting_or, key_of, tree_from}
use Rattle.lfs_cache.proofs.Named.{none_of}

-- the code at the end of a block's way is the block's
pub code_at-way_to : (block : FileBlock) → code_at (way_to block) ≡ code_of block
unfolding code_at
code_at-way_to Record = refl
code_at-way_to Single = refl
code_at-way_to Double = refl
code_at-way_to (Child index) = refl
code_at-way_to (Data index) = code_at-data index

-- a number that isn't in use has no record
pub record_of-unused : (p : Parts) (number : ℕ) → place_of p.log.tables number ≡ None → record_of p number ≡ None
unfolding record_of
record_of-unused p number h =
    ap (option_and_then (λ (place : InodePlace). waiting_or (waiting_in p.waiting number)
    (fields_at p.log.memory place))) h

-- one in use has the record that waits, or else the one in the log
pub record_of-at : (p : Parts) (number : ℕ) (place : InodePlace) → place_of p.log.tables number ≡ Some place
    → record_of p number ≡ waiting_or (waiting_in p.waiting number) (fields_at p.log.memory place)
unfolding record_of
record_of-at p number place used = ap (option_and_then
    (λ (place : InodePlace). waiting_or (waiting_in p.waiting number) (fields_at p.log.memory place))) used

-- the one that waits, where one does
pub record_of-waiting : (p : Parts) (number : ℕ) (place : InodePlace) (v : Inode) → place_of p.log.tables number
    ≡ Some place
    → waiting_in p.waiting number ≡ Some v → record_of p number ≡ Some (fields_of v)
record_of-waiting p number place v used waits = record_of-at p number place used
    ∙ ap (λ w. waiting_or w (fields_at p.log.memory place)) waits

-- or else the one in the log
pub record_of-logged : (p : Parts) (number : ℕ) (place : InodePlace) → place_of p.log.tables number ≡ Some place
    → waiting_in p.waiting number ≡ None → record_of p number ≡ fields_at p.log.memory place
record_of-logged p number place used waits = record_of-at p number place used
    ∙ ap (λ w. waiting_or w (fields_at p.log.memory place)) waits

-- what waits for a block of a file
pub tree_dirty : (p : Parts) (v : Inode) (block : FileBlock) (lbn : ℕ) (o : Option (List ℕ)) → lbn ≡ code_of block
    → o ≡ block_in (key_of v.number v.version lbn) p.cache.locked → (tree_from p v).waits (way_to block) ≡ o
tree_dirty p v block lbn o code held =
    let same : code_at (way_to block) ≡ lbn = code_at-way_to block ∙ sym code in
    ap (λ k. block_in (key_of v.number v.version k) p.cache.locked) same ∙ sym held

-- the address of a block stands in the record
pub root_cell : (p : Parts) (v : Inode) (i : ℕ) → address (tree_from p v) (i ∷ []) ≡ slice_index (addresses v) i
root_cell p v i =
    address-cell (tree_from p v) i [] ∙ ap (λ ys. slice_index ys i) (table-root (tree_from p v))

code_at-nil : code_at [] ≡ 0
unfolding code_at
code_at-nil = refl

-- a way to another block than the record leads somewhere
pub way_to-some : (block : FileBlock) → code_of block ≢ 0 → way_to block ≢ []
way_to-some block other e = other (sym (code_at-way_to block) ∙ ap code_at e ∙ code_at-nil)

-- or in the bytes of another block
pub held_cell : (t : Tree) (i : ℕ) (up bytes : List ℕ) (a : ℕ) → up ≢ [] → a ≡ address t up → bytes ≡ bytes_via t up a
    → slice_index (cells bytes) i ≡ address t (i ∷ up)
held_cell t i up bytes a some at is =
    ap (λ b. slice_index (cells b) i) (is ∙ ap (bytes_via t up) at ∙ sym (read-via t up))
    ∙ ap (λ ys. slice_index ys i) (sym (table-cells t up some)) ∙ sym (address-cell t i up)

-- what doesn't wait is what the log has at its address
pub via-free : (t : Tree) (way : List ℕ) (a : ℕ) → t.waits way ≡ None
    → bytes_via t way a ≡ (if a == 0 then zero_block else t.block a)
unfolding bytes_via
via-free t way a free = ap (λ o. unwrap_or o (if a == 0 then zero_block else t.block a)) free

-- ---- a file without blocks
-- where the record has no address and nothing waits, no block has one
pub nowhere : (t : Tree) → ((i : ℕ) → slice_index t.root i ≡ 0) → ((way : List ℕ) → t.waits way ≡ None) → (way : List ℕ)
    → address t way ≡ 0
nowhere t root waits [] = address-root t
nowhere t root waits (i ∷ []) = address-cell t i [] ∙ ap (λ ys. slice_index ys i) (table-root t) ∙ root i
nowhere t root waits (i ∷ j ∷ up) =
    address-cell t i (j ∷ up) ∙ ap (λ ys. slice_index ys i) (table-read t j up)
    ∙ ap (λ b. slice_index (cells b) i) (read-via t (j ∷ up) ∙ ap (bytes_via t (j ∷ up)) (nowhere t root waits (j ∷ up))
    ∙ via-none t (j ∷ up) (waits (j ∷ up)))
    ∙ slice_index-cells_zero_block i

-- and each reads as zeros
pub all_zeros : (t : Tree) → ((i : ℕ) → slice_index t.root i ≡ 0) → ((way : List ℕ) → t.waits way ≡ None)
    → (way : List ℕ) → read t way ≡ zero_block
all_zeros t root waits way =
    read-via t way ∙ ap (bytes_via t way) (nowhere t root waits way) ∙ via-none t way (waits way)

-- ---- what waits
pub not_locked : (key : Key) (c : Contents) → (IsLocked key c → ⊥) → block_in key c.locked ≡ None
not_locked key c free = none_of (block_in key c.locked) (λ b e. free (ap is_some e))

-- the record of a number rests on the blocks of the log, on the number's row and on what waits for it
pub record_like : (p q : Parts) (number : ℕ) → q.log.memory ≡ p.log.memory → q.log.tables.rows ≡ p.log.tables.rows
    → waiting_in q.waiting number ≡ waiting_in p.waiting number → record_of q number ≡ record_of p number
unfolding record_of
record_like p q number memory rows waits =
    ap (λ w. option_and_then (λ (place : InodePlace). waiting_or w (fields_at q.log.memory place))
    (place_of q.log.tables number)) waits
    ∙ ap (λ (m : SegmentMemory). option_and_then
    (λ (place : InodePlace). waiting_or (waiting_in p.waiting number) (fields_at m place))
    (place_of q.log.tables number)) memory
    ∙ ap (λ (rs : List InodeRow). option_and_then
    (λ (place : InodePlace). waiting_or (waiting_in p.waiting number) (fields_at p.log.memory place))
    (place_in (row_at rs number))) rows
