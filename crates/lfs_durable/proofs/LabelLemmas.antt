-- What the label of a volume, its block 0, tells: no slot of it is a record (`label_empty`), and labels that are the same are of as
-- many inode numbers (`numbers_one`). Its first slot begins with the mark, which is no kind of a record, and the others are
-- zeros. The number of inode numbers stands in bytes 8 to 11; as it is below 2 ^ 16, the last two of them tell it.
use Rattle.std.proofs.Common.{◌≡◌, ℕ, zero, suc, ◌+◌, ◌*◌, ◌/◌, ◌%◌, ◌<◌, List, get_or, replicate, None, refl, sym, ap, ◌∙◌, arith}
use Rattle.lfs_inodes.specs.Bytes.{number_at}
use Rattle.lfs_inodes.specs.Reading.{fields_in}
use Rattle.lfs_inodes.specs.Slots.{slot_of}
use Rattle.lfs_inodes.proofs.FieldsRead.{fields_in-zeros}
use Rattle.lfs_segments.specs.Memory.{label}

-- ---- the label has no record
label_mark : (segments inodes : ℕ) → number_at (slot_of (label segments inodes) 0) 2 2 ≡ 21297
unfolding label slot_of number_at
label_mark segments inodes = refl

label_first : (segments inodes : ℕ) → fields_in (slot_of (label segments inodes) 0) ≡ None
unfolding fields_in
label_first segments inodes = rw label_mark refl

label_rest : (segments inodes k : ℕ) → k < 3 → slot_of (label segments inodes) (suc k) ≡ replicate 128 0
unfolding label slot_of
label_rest segments inodes zero low = refl
label_rest segments inodes (suc zero) low = refl
label_rest segments inodes (suc (suc zero)) low = refl
label_rest segments inodes (suc (suc (suc k))) low = absurd (omega arith)

pub label_empty : (segments inodes k : ℕ) → k < 4 → fields_in (slot_of (label segments inodes) k) ≡ None
label_empty segments inodes zero low = label_first segments inodes
label_empty segments inodes (suc k) low = ap fields_in (label_rest segments inodes k (omega arith)) ∙ fields_in-zeros

-- ---- the number of inode numbers
label_numbers : (segments inodes : ℕ) → inodes < 65536
    → 256 * get_or (label segments inodes) 10 0 + get_or (label segments inodes) 11 0 ≡ inodes
unfolding label
label_numbers segments inodes low =
    let high_byte : get_or (label segments inodes) 10 0 ≡ (inodes / 256) % 256 = refl in
    let low_byte : get_or (label segments inodes) 11 0 ≡ inodes % 256 = omega arith in
    omega arith

pub numbers_one : (segments inodes others numbers : ℕ) → inodes < 65536 → numbers < 65536
    → label segments inodes ≡ label others numbers → inodes ≡ numbers
numbers_one segments inodes others numbers low low_too same =
    sym (label_numbers segments inodes low) ∙ ap (λ (b : List ℕ). 256 * get_or b 10 0 + get_or b 11 0) same
    ∙ label_numbers others numbers low_too
