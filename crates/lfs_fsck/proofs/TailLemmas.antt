-- A file whose last block is zeros past its size is padded: `is_padded` and `last_zeros`, for `check_tail`. A block
-- past the size has no address, as each key that was counted lies below it (KeyLemmas), so it reads as zeros; only the
-- last block can have bytes past the size, and only where the size isn't a whole number of blocks. Each block has 512
-- bytes as it lies in the volume (`whole_at`); a key past the size that was let through would be an unread block of old
-- bytes.
use Rattle.std.proofs.Common.{◌≡◌, ◌≢◌, ℕ, ◌+◌, ◌*◌, ◌/◌, ◌%◌, ◌<◌, ◌≤◌, List, [], length, sym, ap, ◌∙◌, subst, inl}
use Rattle.std.proofs.Common.{inr, arith}
use Rattle.std.specs.Prelude.{slice_index}
use Rattle.std.proofs.lemmas.Bool.{cases_eq, cases_lt}
use Rattle.lfs_types.specs.Blocks.{zero_block}
use Rattle.lfs_types.specs.declared.limits.TheConstants.{FILE_BLOCKS}
use Rattle.lfs_inodes.specs.declared.inode.Inode.{Inode}
use Rattle.lfs_inodes.specs.Facts.{block_count}
use Rattle.lfs_inodes.specs.Reading.{fields_of}
use Rattle.lfs_segments.proofs.MemoryLemmas.{length-zero_block}
use Rattle.lfs_bmap.specs.declared.blocks.FileBlock.TheVariants.{Data}
use Rattle.lfs_bmap.specs.declared.blocks.TheConstants.{BLOCK_CODES}
use Rattle.lfs_bmap.specs.Blocks.{way_to, block_with}
use Rattle.lfs_bmap.specs.Pieces.{IsPadded}
use Rattle.lfs_bmap.specs.Reading.{Tree, address, bytes_via, data_block}
use Rattle.lfs_bmap.specs.Ways.{data_way}
use Rattle.lfs_bmap.proofs.BlockLemmas.{block_with-code_of}
use Rattle.lfs_bmap.proofs.PieceLemmas.{zero_block-at}
use Rattle.lfs_bmap.proofs.PlaceLemmas.{data_block-past}
use Rattle.lfs_bmap.proofs.ReadingLemmas.{read-via}
use Rattle.lfs_log.specs.Parts.{IsParts, LogParts}
use Rattle.lfs_parts.specs.Store.{IsWithin}
use Rattle.lfs_parts.specs.View.{tree_of}
use Rattle.lfs_parts.proofs.ReadLemmas.{data_block-read}
use Rattle.lfs_fsck.specs.Checks.{IsKept, IsRecordOf}
use Rattle.lfs_fsck.specs.Stored.{flushed}
use Rattle.lfs_fsck.proofs.KeyLemmas.{at_block}
use Rattle.lfs_fsck.proofs.FlushedLemmas.{via_block, via_zeros}

-- a block of zeros
zeros_length : (bytes : List ℕ) → bytes ≡ zero_block → length bytes ≡ 512
zeros_length bytes is = ap length is ∙ length-zero_block

module _ (l : LogParts) (v : Inode) (parts : IsParts l) (own : IsRecordOf l v) (kept : (code : ℕ) → code < BLOCK_CODES
    → IsKept l v.number code) where
  abbrev t : Tree
  t = tree_of (flushed l) v.number

  -- a data block is the one at its address, or zeros where it has none
  data_zeros : (n : ℕ) → n < FILE_BLOCKS → address t (way_to (Data n)) ≡ 0 → data_block t n ≡ zero_block
  data_zeros n low none = data_block-read t n low ∙ read-via t (data_way n)
      ∙ via_zeros l v.number (data_way n) (address t (data_way n)) none

  pub data_logged : (n : ℕ) → n < FILE_BLOCKS → data_block t n
      ≡ bytes_via t (way_to (Data n)) (address t (way_to (Data n)))
  data_logged n low = data_block-read t n low ∙ read-via t (data_way n)

  -- each block has 512 bytes
  whole_at : (n : ℕ) → n < FILE_BLOCKS → length (data_block t n) ≡ 512
  whole_at n low = elim (cases_eq (address t (way_to (Data n))) 0) [
    | inl none ↦ zeros_length (data_block t n) (data_zeros n low none)
    | inr some ↦
        let at = at_block l v.number (Data n) low (λ e. absurd (omega arith)) in
        let key = kept (131 + n) (omega arith) (λ e. some (omega (arith, at, e))) in
        let inside : address t (way_to (Data n)) < length l.memory.blocks =
        omega (arith, at, key.place.in_volume, parts.laid_out.whole) in
        ap length (data_logged n low ∙ via_block l v.number (way_to (Data n)) (address t (way_to (Data n))) some)
        ∙ parts.laid_out.each (address t (way_to (Data n))) [] inside
  ]

  -- those past the size have no address
  past_zeros : (n : ℕ) → n < FILE_BLOCKS → block_count v.size ≤ n → data_block t n ≡ zero_block
  past_zeros n low past = elim (cases_eq (address t (way_to (Data n))) 0) [
    | inl none ↦ data_zeros n low none
    | inr some ↦
        let at = at_block l v.number (Data n) low (λ e. absurd (omega arith)) in
        let key = kept (131 + n) (omega arith) (λ e. some (omega (arith, at, e))) in
        let within : IsWithin (block_with (131 + n)) v.size =
        key.within (fields_of v) own.is (λ e. absurd (omega arith)) in
        let below : IsWithin (Data n) v.size = subst (λ b. IsWithin b v.size) (block_with-code_of (Data n) low) within
        in
        absurd (omega arith)
  ]

  zero_at : (i : ℕ) (bytes : List ℕ) → bytes ≡ zero_block → slice_index bytes (i % 512) ≡ 0
  zero_at i bytes is = ap (λ b. slice_index b (i % 512)) is ∙ zero_block-at (i % 512)

  -- a byte past the size: of a block past it, or of the last block
  zeros_past : ((k : ℕ) → v.size % 512 ≢ 0 → v.size % 512 ≤ k → k < 512 → slice_index (data_block t (v.size / 512)) k
      ≡ 0)
      → (i : ℕ) → v.size ≤ i → slice_index (data_block t (i / 512)) (i % 512) ≡ 0
  zeros_past last i past =
      let n : ℕ = i / 512 in
      elim (cases_lt n FILE_BLOCKS) [
        | inr far ↦ zero_at i (data_block t n) (data_block-past t n far)
        | inl low ↦ elim (cases_lt n (block_count v.size)) [
          | inr over ↦ zero_at i (data_block t n) (past_zeros n low over)
          | inl below ↦
              let same : n ≡ v.size / 512 = omega arith in
              ap (λ k. slice_index (data_block t k) (i % 512)) same
              ∙ last (i % 512) (λ e. absurd (omega arith)) (omega arith) (omega arith)
        ]
      ]

  pub is_padded : ((k : ℕ) → v.size % 512 ≢ 0 → v.size % 512 ≤ k → k < 512 → slice_index (data_block t (v.size / 512)) k
      ≡ 0)
      → IsPadded (data_block t) v.size
  is_padded last = record {
    whole = λ n. elim (cases_lt n FILE_BLOCKS) [
      | inl low ↦ whole_at n low
      | inr far ↦ zeros_length (data_block t n) (data_block-past t n far)
    ];
    zeros = zeros_past last;
  }

-- and where they are zeros, so are those of the last block
pub last_zeros : (blocks : ℕ → List ℕ) (size k : ℕ) → IsPadded blocks size → size % 512 ≤ k → k < 512
    → slice_index (blocks (size / 512)) k ≡ 0
last_zeros blocks size k h from below =
    let i : ℕ = 512 * (size / 512) + k in
    let block : i / 512 ≡ size / 512 = omega arith in
    let place : i % 512 ≡ k = omega arith in
    ap (λ n. slice_index (blocks n) k) (sym block) ∙ ap (slice_index (blocks (i / 512))) (sym place)
    ∙ h.zeros i (omega arith)
