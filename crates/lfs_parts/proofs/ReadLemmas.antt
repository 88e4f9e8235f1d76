-- A buffer is filled block by block with a file's bytes: `filled_more` and `filled_all` for `read_blocks`, `read_front`
-- and `read_past` for `Parts::read`. The invariant is that of the bytes asked for, those in blocks before one are
-- there; a block more gives those of its range and leaves the others, so past the last block touched all are. A read
-- that ends past the file gives what there is and leaves the rest of the buffer (`take_least`).
use Rattle.std.proofs.Common.{◌≡◌, ℕ, ◌+◌, ◌-◌, ◌/◌, ◌%◌, ◌<◌, ◌≤◌, min, List, [], ◌∷◌, ◌++◌, length, take, drop}
use Rattle.std.proofs.Common.{get_or, refl, sym, ap, ◌∙◌, inl, inr, arith}
use Rattle.std.specs.Prelude.{slice_index}
use Rattle.std.proofs.lemmas.Bool.{cases_eq, cond-true, cond-false, eq-eqb, ne_eqb, lt-ltb}
use Rattle.std.proofs.lemmas.List.{length-take, length-drop, get_or-take, ext_get_or}
use Rattle.lfs_types.specs.Stored.{Reads, slice_of}
use Rattle.lfs_types.specs.declared.limits.TheConstants.{FILE_BLOCKS}
use Rattle.lfs_types.specs.declared.block.TheConstants.{BLOCK_SIZE}
use Rattle.lfs_bmap.specs.Pieces.{IsGot, Touches, byte_at}
use Rattle.lfs_bmap.specs.Reading.{Tree, data_block, read}
use Rattle.lfs_bmap.specs.Ways.{data_way}

-- of the bytes from `start` on, those that stand in the blocks before one are in the buffer
pub record IsFilledBefore (blocks : ℕ → List ℕ) (start before : ℕ) (buffer : List ℕ) : Type 0 where
  pub each : (k : ℕ) → k < length buffer → (start + k) / BLOCK_SIZE < before → slice_index buffer k
      ≡ byte_at blocks (start + k)

-- a data block that a file can have
pub data_block-read : (t : Tree) (n : ℕ) → n < FILE_BLOCKS → data_block t n ≡ read t (data_way n)
unfolding data_block
data_block-read t n low = cond-true _ _ _ (lt-ltb n FILE_BLOCKS low)

-- one block more
pub filled_more : (blocks : ℕ → List ℕ) (start index : ℕ) (block old new : List ℕ)
    → IsFilledBefore blocks start index old → block ≡ blocks index
    → IsGot index start block old new → IsFilledBefore blocks start (index + 1) new
filled_more blocks start index block old new filled is got = record {
  each = λ k low below. elim (cases_eq ((start + k) / 512) index) [
    | inl here ↦
        got.each k (omega (arith, got.whole)) ∙ cond-true _ _ _ (eq-eqb ((start + k) / 512) index here)
        ∙ ap (λ b. slice_index b ((start + k) % 512)) is
        ∙ ap (λ n. slice_index (blocks n) ((start + k) % 512)) (sym here)
    | inr other ↦
        got.each k (omega (arith, got.whole)) ∙ cond-false _ _ _ (ne_eqb ((start + k) / 512) index other)
        ∙ filled.each k (omega (arith, got.whole)) (omega arith)
  ];
}

-- past the last one all is filled
pub filled_all : (blocks : ℕ → List ℕ) (start index : ℕ) (buffer : List ℕ) → IsFilledBefore blocks start index buffer
    → ((n : ℕ) → Touches start (start + length buffer) n → n < index)
    → (k : ℕ) → k < length buffer → get_or buffer k 0 ≡ byte_at blocks (start + k)
filled_all blocks start index buffer filled last k low =
    filled.each k low (last ((start + k) / 512)
    (record { byte = start + k; from = omega arith; below = omega arith; there = refl }))

-- a part of a list that ends past it
take_least : (xs : List ℕ) (n count : ℕ) → count ≡ min n (length xs) → take n xs ≡ take count xs
take_least xs n count is = ext_get_or 0 (take n xs) (take count xs) (simp length-take (omega arith)) (λ k low.
    let inside : k < min n (length xs) = omega (arith, length-take n xs) in
    get_or-take n xs k 0 (omega arith) ∙ sym (get_or-take count xs k 0 (omega arith)))

-- a buffer whose front has the bytes of a file from a place on, as many as there are
pub read_front : (bytes : List ℕ) (off count : ℕ) (old new : List ℕ) → count ≡ min (length old) (length bytes - off)
    → new ≡ slice_of bytes off (length (take count old))
    → Reads (slice_of bytes off (length old)) count old (new ++ drop count old)
read_front bytes off count old new is front =
    let rest : length (drop off bytes) ≡ length bytes - off = length-drop off bytes in
    let many : length (take count old) ≡ count = length-take count old ∙ omega arith in
    let same : take (length old) (drop off bytes)
    ≡ take count (drop off bytes) = take_least (drop off bytes) (length old) count (omega arith) in
    let part : new ≡ take (length old) (drop off bytes) = front ∙ ap (λ n. take n (drop off bytes)) many ∙ sym same in
    let long : length (take (length old) (drop off bytes)) ≡ count = length-take (length old) (drop off bytes)
    ∙ omega arith in
    record {
      counted = sym long;
      filled = ap (λ xs. xs ++ drop count old) part
          ∙ ap (λ n. take (length old) (drop off bytes) ++ drop n old) (sym long);
    }

pub no_bytes : (xs : List ℕ) → length xs ≡ 0 → xs ≡ []
no_bytes [] h = refl
no_bytes (x ∷ xs) h = absurd (omega arith)

-- none are read from a place past the bytes
pub read_past : (bytes : List ℕ) (off : ℕ) (old : List ℕ) → length bytes ≤ off
    → Reads (slice_of bytes off (length old)) 0 old old
read_past bytes off old past =
    read_front bytes off 0 old [] (omega arith)
    (sym (no_bytes (slice_of bytes off (length (take 0 old))) (simp (length-take, length-drop) (omega arith))))
