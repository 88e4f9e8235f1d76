-- The test `is_record` holds of just the bytes that keep the bounds of a record of that kind: `record_decides`, for
-- FieldLemmas and FieldsRead. Each part of the test decides its bound and the whole is their conjunction; direct
-- addresses and zeros are decided one by one, by induction on how many there are. An address is asked to be 0 only from
-- the file's block count on (`place_decides`), which ties addresses to the size; a bound added to Inode needs its part
-- in `is_record`, its field in Holds and its line here.
use Rattle.std.proofs.Common.{◌≡◌, ℕ, ◌+◌, ◌-◌, ◌*◌, ◌%◌, ◌<◌, ◌≤◌, ◌&&◌, ◌||◌, not, List, length, slice_index, ltb}
use Rattle.std.proofs.Common.{leb, eqb, refl, arith, inl, inr, Decides, bit_and}
use Rattle.std.proofs.lemmas.Bool.{cases_lt, le-leb, leb-true}
use Rattle.std.proofs.lemmas.Bool.Decides.{Decides-and, Decides-or, Decides-not, Decides-eqb, Decides-ltb, Decides-like}
use Rattle.std.proofs.lemmas.Bool.Decides.{Decides-below_and}
use Rattle.lfs_types.specs.declared.attrs.Kind.{Kind}
use Rattle.lfs_types.specs.declared.attrs.Kind.TheVariants.{File, Directory}
use Rattle.lfs_types.specs.declared.limits.TheConstants.{FILE_BYTES}
use Rattle.lfs_types.specs.FlagNumbers.{IsKnown}
use Rattle.lfs_inodes.specs.Bytes.{number_at, AreZero}
use Rattle.lfs_inodes.specs.Facts.{IsDouble, IsInodeNumber, IsSizeOf, IsSingle, IsVersion, block_count}
use Rattle.lfs_inodes.specs.Reading.{is_inode_number, is_size_of, is_direct, are_direct, are_zero, is_record}

number_decides : (n : ℕ) → Decides (is_inode_number n) (IsInodeNumber n)
number_decides n = Decides-like (is_inode_number n) (λ p. (p.0, p.1.0, p.1.1)) (λ p. (p.0, (p.1, p.2)))
    (Decides-and (ltb 1 n) (not (eqb n 3) && ltb n 4096) (Decides-ltb 1 n)
    (Decides-and (not (eqb n 3)) (ltb n 4096) (Decides-not (eqb n 3) (Decides-eqb n 3)) (Decides-ltb n 4096)))

within_decides : (size : ℕ) → Decides (leb size FILE_BYTES) (size ≤ FILE_BYTES)
within_decides size = (leb-true size FILE_BYTES, le-leb size FILE_BYTES)

size_decides : (kind : Kind) (size : ℕ) → Decides (is_size_of kind size) (IsSizeOf kind size)
size_decides File size = Decides-like (leb size FILE_BYTES) (λ p. (p, λ same. absurd cc)) (λ p. p.0)
    (within_decides size)
size_decides Directory size = Decides-like (leb size FILE_BYTES && eqb (size % 512) 0) (λ p. (p.0, λ same. p.1))
    (λ p. (p.0, p.1 refl))
    (Decides-and (leb size FILE_BYTES) (eqb (size % 512) 0) (within_decides size) (Decides-eqb (size % 512) 0))

-- an address, of which none is needed from block `limit` on
abbrev IsPlace : ℕ → ℕ → ℕ → Type 0
IsPlace count n address = (address < 65536) × (count ≤ n → address ≡ 0)

place_decides : (count n address : ℕ) → Decides (ltb address 65536 && (ltb n count || eqb address 0))
    (IsPlace count n address)
place_decides count n address = Decides-like (ltb address 65536 && (ltb n count || eqb address 0))
    (λ p. (p.0, λ past. elim p.1 [ inl below ↦ absurd (omega arith) | inr none ↦ none ]))
    (λ p. (p.0, elim (cases_lt n count) [ inl below ↦ inl below | inr past ↦ inr (p.1 past) ]))
    (Decides-and (ltb address 65536) (ltb n count || eqb address 0) (Decides-ltb address 65536)
    (Decides-or (ltb n count) (eqb address 0) (Decides-ltb n count) (Decides-eqb address 0)))

version_decides : (version double : ℕ) → Decides (eqb version 2 || (eqb version 1 && eqb double 0))
    (IsVersion version double)
version_decides version double =
    Decides-or (eqb version 2) (eqb version 1 && eqb double 0) (Decides-eqb version 2)
    (Decides-and (eqb version 1) (eqb double 0) (Decides-eqb version 1) (Decides-eqb double 0))

abbrev IsDirectAt : List ℕ → ℕ → ℕ → Type 0
IsDirectAt bytes size n = IsPlace (block_count size) n (number_at bytes (36 + 4 * n) 4)

direct_decides : (bytes : List ℕ) (size count : ℕ)
    → Decides (are_direct bytes size count) ((n : ℕ) → n < count → IsDirectAt bytes size n)
unfolding are_direct
direct_decides bytes size count = Decides-below_and (λ n. is_direct size n (number_at bytes (36 + 4 * n) 4))
    (IsDirectAt bytes size) (are_direct bytes size)
    (λ n. place_decides (block_count size) n (number_at bytes (36 + 4 * n) 4)) refl (λ _. refl) count

zero_decides : (bytes : List ℕ) (from count : ℕ)
    → Decides (are_zero bytes from count) (AreZero bytes from (from + count))
unfolding are_zero
zero_decides bytes from count = Decides-like (are_zero bytes from count)
    (λ p k low high. let e : from + (k - from) ≡ k = omega arith in rw (← e) (p (k - from) (omega arith)))
    (λ p k lt. p (from + k) (omega arith) (omega arith))
    (Decides-below_and (λ k. eqb (slice_index bytes (from + k)) 0) (λ k. slice_index bytes (from + k) ≡ 0)
    (are_zero bytes from) (λ k. Decides-eqb (slice_index bytes (from + k)) 0) refl (λ _. refl) count)

-- what a record of a kind keeps
pub record Holds (kind : Kind) (bytes : List ℕ) : Type 0 where
  pub whole : length bytes ≡ 128
  pub record_version : IsVersion (number_at bytes 0 2) (number_at bytes 88 4)
  pub number : IsInodeNumber (number_at bytes 4 4)
  pub version : 1 ≤ number_at bytes 8 4
  pub mode : number_at bytes 20 2 < 4096
  pub after_mode : AreZero bytes 22 24
  pub flags : IsKnown (number_at bytes 24 4)
  pub size : IsSizeOf kind (number_at bytes 28 8)
  pub direct : (n : ℕ) → n < 12 → IsDirectAt bytes (number_at bytes 28 8) n
  pub single : IsSingle (number_at bytes 28 8) (number_at bytes 84 4)
  pub double : IsDouble (number_at bytes 28 8) (number_at bytes 88 4)
  pub after_double : AreZero bytes 92 128

pub record_decides : (kind : Kind) (bytes : List ℕ) → Decides (is_record kind bytes) (Holds kind bytes)
unfolding is_record
record_decides kind bytes = Decides-like (is_record kind bytes)
    (λ p. record {
      whole = p.0;
      record_version = p.1.0;
      number = p.1.1.0;
      version = p.1.1.1.0;
      mode = p.1.1.1.1.0;
      after_mode = p.1.1.1.1.1.0;
      flags = p.1.1.1.1.1.1.0;
      size = p.1.1.1.1.1.1.1.0;
      direct = p.1.1.1.1.1.1.1.1.0;
      single = p.1.1.1.1.1.1.1.1.1.0;
      double = p.1.1.1.1.1.1.1.1.1.1.0;
      after_double = p.1.1.1.1.1.1.1.1.1.1.1;
    })
    (λ h. (
      h.whole,
      (
        h.record_version,
        (
          h.number,
          (
            h.version,
            (
              h.mode,
              (
                h.after_mode,
                (
                  h.flags,
                  (h.size, (h.direct, (h.single, (h.double, h.after_double)))),
                ),
              ),
            ),
          ),
        ),
      ),
    ))
    (Decides-and _ _ (Decides-eqb (length bytes) 128)
    (Decides-and _ _ (version_decides (number_at bytes 0 2) (number_at bytes 88 4))
    (Decides-and _ _ (number_decides (number_at bytes 4 4))
    (Decides-and _ _ (Decides-ltb 0 (number_at bytes 8 4))
    (Decides-and _ _ (Decides-ltb (number_at bytes 20 2) 4096)
    (Decides-and _ _ (zero_decides bytes 22 2)
    (Decides-and _ _ (Decides-eqb (bit_and (number_at bytes 24 4) 0x7_0007) (number_at bytes 24 4))
    (Decides-and _ _ (size_decides kind (number_at bytes 28 8))
    (Decides-and _ _ (direct_decides bytes (number_at bytes 28 8) 12)
    (Decides-and _ _ (place_decides (block_count (number_at bytes 28 8)) 12 (number_at bytes 84 4))
    (Decides-and _ _ (place_decides (block_count (number_at bytes 28 8)) 140 (number_at bytes 88 4))
    (zero_decides bytes 92 36))))))))))))
