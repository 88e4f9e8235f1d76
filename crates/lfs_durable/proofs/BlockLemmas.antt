-- A store of which nothing waits reads a block off the log, as recovery does (`bytes_alike`): no block waits, and each address
-- lies in the volume. So an address that stands in a block is the same for both, as the addresses above it are
-- (`address_alike`). A whole block of a file is that piece of the file's bytes (`finds_blocks`).
use Rattle.std.proofs.Common.{◌≡◌, ℕ, ◌+◌, ◌-◌, ◌*◌, ◌/◌, ◌%◌, ◌<◌, ◌≤◌, inl, inr, List, [], ◌∷◌, length, get_or, None, Some}
use Rattle.std.proofs.Common.{refl, sym, ap, ◌∙◌, arith}
use Rattle.std.specs.Prelude.{slice_index, if◌then◌else◌, ◌==◌}
use Rattle.std.proofs.lemmas.Bool.{cases_lt, cond-true, lt-ltb}
use Rattle.lfs_types.specs.Blocks.{zero_block}
use Rattle.lfs_types.specs.Stored.{bytes_of, slice_of}
use Rattle.lfs_inodes.specs.Addresses.{cells}
use Rattle.lfs_inodes.specs.Reading.{Fields}
use Rattle.lfs_segments.specs.Memory.{SegmentMemory}
use Rattle.lfs_segments.specs.Memory as memory
use Rattle.lfs_cache.specs.declared.key.Key.{Key}
use Rattle.lfs_cache.specs.Contents.{block_in}
use Rattle.lfs_bmap.specs.declared.blocks.FileBlock.TheVariants.{Single, Double, Child, Data}
use Rattle.lfs_bmap.specs.Pieces.{file_bytes}
use Rattle.lfs_bmap.specs.Reading.{Tree, address, data_block, read}
use Rattle.lfs_bmap.specs.Ways.{code_at, data_way}
use Rattle.lfs_bmap.proofs.PieceLemmas.{got_slice}
use Rattle.lfs_bmap.proofs.PlaceLemmas.{data_block-read}
use Rattle.lfs_bmap.proofs.ReadingLemmas.{address-cell, read-via, table-read, table-root}
use Rattle.lfs_bmap.proofs.WayLemmas.{data_way-direct, data_way-double, data_way-single, way_of-data}
use Rattle.lfs_parts.specs.declared.parts.Parts.{Parts}
use Rattle.lfs_parts.specs.Files.{content_of}
use Rattle.lfs_parts.specs.Store.{IsFlushed, IsStore}
use Rattle.lfs_parts.specs.View.{LiesIn, key_of, record_of, root_in, tree_of, version_of}
use Rattle.lfs_parts.proofs.FileLemmas.{bytes_of-record, record_used}
use Rattle.lfs_parts.proofs.KeyLemmas.{lies_in}
use Rattle.lfs_parts.proofs.SameLogLemmas.{used_low}
use Rattle.lfs_parts.proofs.ViewLemmas.{via-free}
use Rattle.lfs_calls.specs.Content.{block_at}
use Rattle.lfs_reach.specs.Reach.{bytes_at, file_address}
use Rattle.lfs_reach.proofs.BlockLemmas.{file_address-direct, file_address-double, file_address-single}
use Rattle.lfs_durable.specs.Alike.{FindsBlocks}

-- the bytes at an address of the volume
pub inside : (m : SegmentMemory) (a : ℕ) → a < m.segments * 64
    → bytes_at m a ≡ (if a == 0 then zero_block else memory.block_at m a)
unfolding bytes_at
inside m a low =
    ap (λ (b : List ℕ). if a == 0 then zero_block else b) (cond-true _ (memory.block_at m a) zero_block (lt-ltb a _ low))

-- a file of these addresses that lies in a memory, and of which no block waits
pub record LiesOn (m : SegmentMemory) (t : Tree) (f : Fields) : Type 0 where
  pub root : t.root ≡ f.addresses
  pub none_waits : (way : List ℕ) → t.waits way ≡ None
  pub blocks : (a : ℕ) → t.block a ≡ memory.block_at m a
  pub lies : LiesIn (m.segments * 64) t

module _ (m : SegmentMemory) (t : Tree) (f : Fields) (on : LiesOn m t f) where
  bytes_alike : (way : List ℕ) → address t way < m.segments * 64 → bytes_at m (address t way) ≡ read t way
  bytes_alike way low =
      inside m (address t way) low
      ∙ ap (λ (b : List ℕ). if address t way == 0 then zero_block else b) (sym (on.blocks (address t way)))
      ∙ sym (read-via t way ∙ via-free t way (address t way) (on.none_waits way))

  -- an address stands in the record
  root_at : (i : ℕ) → address t (i ∷ []) ≡ slice_index f.addresses i
  root_at i = address-cell t i [] ∙ ap (λ (ys : List ℕ). slice_index ys i) (table-root t ∙ on.root)

  -- or in the block above
  below_at : (i j : ℕ) (up : List ℕ) → address t (j ∷ up) < m.segments * 64
      → slice_index (cells (bytes_at m (address t (j ∷ up)))) i ≡ address t (i ∷ j ∷ up)
  below_at i j up low =
      ap (λ (b : List ℕ). slice_index (cells b) i) (bytes_alike (j ∷ up) low)
      ∙ sym (address-cell t i (j ∷ up) ∙ ap (λ (ys : List ℕ). slice_index ys i) (table-read t j up))

  single_at : (n : ℕ) → 12 ≤ n → n < 140 → file_address m f n ≡ address t (data_way n)
  single_at n past low =
      sym (file_address-single m f n (slice_index f.addresses 12) (bytes_at m (slice_index f.addresses 12)) past low refl refl)
      ∙ ap (λ (a : ℕ). slice_index (cells (bytes_at m a)) (n - 12)) (sym (root_at 12))
      ∙ below_at (n - 12) 12 [] (on.lies.each Single tt)
      ∙ ap (address t) (sym (data_way-single n past low))

  double_at : (n : ℕ) → 140 ≤ n → n < 16524 → file_address m f n ≡ address t (data_way n)
  double_at n past low =
      let child : ℕ = (n - 140) / 128 in
      let place : ℕ = (n - 140) % 128 in
      let cell : ℕ = slice_index (cells (bytes_at m (slice_index f.addresses 13))) child in
      let above : cell ≡ address t (child ∷ 13 ∷ []) =
      ap (λ (a : ℕ). slice_index (cells (bytes_at m a)) child) (sym (root_at 13)) ∙ below_at child 13 [] (on.lies.each Double tt) in
      let within : child < 128 = omega arith in
      sym (file_address-double m f n (slice_index f.addresses 13) cell (bytes_at m (slice_index f.addresses 13))
      (bytes_at m cell) (omega arith) past refl refl refl refl)
      ∙ ap (λ (a : ℕ). slice_index (cells (bytes_at m a)) place) above
      ∙ below_at place child (13 ∷ []) (on.lies.each (Child child) within)
      ∙ ap (address t) (sym (data_way-double n past))

  pub address_alike : (n : ℕ) → n < 16524 → file_address m f n ≡ address t (data_way n)
  address_alike n low = elim (cases_lt n 12) [
    | inl direct ↦
        sym (file_address-direct m f n direct) ∙ sym (root_at n) ∙ ap (address t) (sym (data_way-direct n direct))
    | inr past ↦ elim (cases_lt n 140) [
      | inl near ↦ single_at n past near
      | inr far ↦ double_at n far low
    ]
  ]

  pub block_alike : (n : ℕ) → n < 16524 → bytes_at m (file_address m f n) ≡ data_block t n
  block_alike n low =
      ap (bytes_at m) (address_alike n low) ∙ bytes_alike (data_way n) (on.lies.each (Data n) low)
      ∙ sym (data_block-read t n low ∙ ap (read t) (way_of-data n))

module _ (p : Parts) (number : ℕ) (f : Fields) (store : IsStore p) (done : IsFlushed p) (is : record_of p number ≡ Some f) where
  abbrev own : Tree
  own = tree_of p number

  pub lies_here : LiesOn p.log.memory own f
  lies_here = record {
    root = ap root_in is;
    none_waits = λ way.
        ap (λ (es : List (Key × List ℕ)). block_in (key_of number (version_of p number) (code_at way)) es) done.no_frame;
    blocks = λ a. refl;
    lies = lies_in p number 0 (used_low p number (record_used p number f is)) store.whole.parts.laid_out store.log;
  }

  -- a whole block is that piece of the file's bytes
  pub block_shown : (n : ℕ) → 512 * n + 512 ≤ f.attributes.size
      → data_block own n ≡ block_at (bytes_of (content_of p) number) n
  block_shown n whole =
      let padded = (store.whole.files number f is).padded in
      let long : length (data_block own n) ≡ 512 = padded.whole n in
      let piece : data_block own n ≡ slice_of (file_bytes (data_block own) f.attributes.size) (512 * n) (length (data_block own n)) =
      got_slice (data_block own) f.attributes.size (512 * n) (data_block own n) padded (omega arith)
      (λ k low.
      let block : n ≡ (512 * n + k) / 512 = omega arith in
      let place : k ≡ (512 * n + k) % 512 = omega arith in
      ap (λ (i : ℕ). get_or (data_block own n) i 0) place
      ∙ ap (λ (b : ℕ). get_or (data_block own b) ((512 * n + k) % 512) 0) block) in
      piece ∙ ap (slice_of (file_bytes (data_block own) f.attributes.size) (512 * n)) long
      ∙ ap (λ (bytes : List ℕ). block_at bytes n) (sym (bytes_of-record p number f is))

pub finds_blocks : FindsBlocks
finds_blocks p number n f store done is low =
    let on = lies_here p number f store done is in
    let m = p.log.memory in
    let t = tree_of p number in
    record {
      same_address = address_alike m t f on n low;
      same_bytes = block_alike m t f on n low;
      shown = λ whole. block_alike m t f on n low ∙ block_shown p number f store done is n whole;
    }
