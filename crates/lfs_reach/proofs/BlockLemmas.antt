-- The cases of `bytes_at`, `file_address` and `record_of`, for the functions of those names. Each lemma has the tests
-- that led there: an address 0 or past the volume reads as zeros, a block below 12 has its address in the record, one
-- below 140 in the single indirect block, and each other in a child of the double one, by quotient and rest of 128. As
-- the functions test in the order of the definitions, each is a rewriting by these tests.
use Rattle.std.proofs.Common.{◌≡◌, ℕ, ◌-◌, ◌*◌, ◌/◌, ◌%◌, ◌<◌, ◌≤◌, List}
use Rattle.std.proofs.Common.{Option, Some, None, option_map, replicate, slice_index, refl, sym, ap, ◌∙◌}
use Rattle.std.proofs.lemmas.Bool.{eq-eqb, le-ltb, lt-ltb, ne_eqb}
use Rattle.lfs_types.specs.Blocks.{zero_block}
use Rattle.lfs_inodes.specs.declared.inode.Inode.{Inode}
use Rattle.lfs_inodes.specs.Addresses.{cells}
use Rattle.lfs_inodes.specs.Reading.{Fields, fields_in, fields_of}
use Rattle.lfs_inodes.specs.Slots.{slot_of}
use Rattle.lfs_segments.specs.Memory.{SegmentMemory, block_at}
use Rattle.lfs_recovery.specs.declared.places.RecordPlace.{RecordPlace}
use Rattle.lfs_reach.specs.Reach.{bytes_at, file_address, record_of}

pub bytes_at-none : (m : SegmentMemory) (address : ℕ) → address ≡ 0 → replicate 512 0 ≡ bytes_at m address
unfolding bytes_at zero_block
bytes_at-none m address none = rw (eq-eqb _ _ none) refl

pub bytes_at-past : (m : SegmentMemory) (address : ℕ) → (address ≡ 0 → ⊥) → m.segments * 64 ≤ address
    → replicate 512 0 ≡ bytes_at m address
unfolding bytes_at zero_block
bytes_at-past m address some past = rw (ne_eqb _ _ some, le-ltb _ _ past) refl

pub bytes_at-here : (m : SegmentMemory) (address : ℕ) → (address ≡ 0 → ⊥) → address < m.segments * 64
    → block_at m address ≡ bytes_at m address
unfolding bytes_at
bytes_at-here m address some below = rw (ne_eqb _ _ some, lt-ltb _ _ below) refl

pub file_address-direct : (m : SegmentMemory) (f : Fields) (n : ℕ) → n < 12 → slice_index f.addresses n ≡ file_address m f n
unfolding file_address
file_address-direct m f n low = rw (lt-ltb _ _ low) refl

pub file_address-single : (m : SegmentMemory) (f : Fields) (n root : ℕ) (single : List ℕ) → 12 ≤ n → n < 140
    → root ≡ slice_index f.addresses 12 → single ≡ bytes_at m root
    → slice_index (cells single) (n - 12) ≡ file_address m f n
unfolding file_address
file_address-single m f n root single past low at is =
    rw (le-ltb n 12 past, lt-ltb n 140 low)
    (ap (λ (bytes : List ℕ). slice_index (cells bytes) (n - 12)) (is ∙ ap (bytes_at m) at))

pub file_address-double : (m : SegmentMemory) (f : Fields) (n root cell : ℕ) (double child : List ℕ) → 12 ≤ n → 140 ≤ n
    → root ≡ slice_index f.addresses 13 → double ≡ bytes_at m root
    → cell ≡ slice_index (cells double) ((n - 140) / 128) → child ≡ bytes_at m cell
    → slice_index (cells child) ((n - 140) % 128) ≡ file_address m f n
unfolding file_address
file_address-double m f n root cell double child far past at is below here =
    rw (le-ltb n 12 far, le-ltb n 140 past)
    (ap (λ (bytes : List ℕ). slice_index (cells bytes) ((n - 140) % 128))
    (here ∙ ap (bytes_at m) (below ∙ ap (λ (bytes : List ℕ). slice_index (cells bytes) ((n - 140) / 128)) (is ∙ ap (bytes_at m) at))))

record_of-some : (m : SegmentMemory) (p : RecordPlace) → p.slot < 4
    → record_of m (Some p) ≡ fields_in (slot_of (bytes_at m p.address) p.slot)
unfolding record_of
record_of-some m p low = rw (lt-ltb _ _ low) refl

pub record_of-here : (m : SegmentMemory) (place : Option RecordPlace) (p : RecordPlace) (read : Option Inode) (bytes block : List ℕ)
    → place ≡ Some p → p.slot < 4 → block ≡ bytes_at m p.address → bytes ≡ slot_of block p.slot
    → option_map fields_of read ≡ fields_in bytes
    → option_map fields_of read ≡ record_of m place
record_of-here m place p read bytes block is low at slot reading =
    reading ∙ ap fields_in (slot ∙ ap (λ (b : List ℕ). slot_of b p.slot) at) ∙ sym (ap (record_of m) is ∙ record_of-some m p low)

pub record_of-far : (m : SegmentMemory) (place : Option RecordPlace) (p : RecordPlace) → place ≡ Some p → 4 ≤ p.slot
    → None ≡ record_of m place
unfolding record_of
record_of-far m place p is far = rw (is, le-ltb _ _ far) refl

pub record_of-none : (m : SegmentMemory) (place : Option RecordPlace) → place ≡ None → None ≡ record_of m place
unfolding record_of
record_of-none m place is = rw is refl
