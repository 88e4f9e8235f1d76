-- A number of any width at a place of bytes is read and written there alone: `number_at-read` for `u16_at` to `u64_at`,
-- `Puts-from_write` for `put_u16` to `put_u64`, `number_at-same` and `number_at-one` for Grammar and Cells. By
-- induction on the width: the first byte is the highest, and what is behind it is below its weight, so equal numbers
-- have the same first byte and the same rest (`big_from-one`). Bytes in another order would change that induction and
-- nothing else.
use Rattle.std.proofs.Common.{◌≡◌, ℕ, zero, suc, ◌+◌, ◌-◌, ◌^◌, ◌<◌, ◌≤◌, List, [], ◌++◌, length, take, drop, get_or}
use Rattle.std.proofs.Common.{slice_index, refl, sym, ap, subst, ◌∙◌, arith, inl, inr}
use Rattle.std.proofs.lemmas.Bool.{cases_lt}
use Rattle.std.proofs.lemmas.List.{get_or-drop, get_or-take, get_or_append_left, get_or-append_right, append-nil}
use Rattle.std.proofs.lemmas.List.{drop_all, drop_at, take_rest, length-append, length-drop, length-take-le, drop-drop}
use Rattle.std.proofs.lemmas.Nat.{same_from_place}
use Rattle.std.specs.Int.{bytes_high_first}
use borrow.Rule.Slice.PartMut.{put_mid}
use Rattle.byteorder.specs.Endian.{big_from}
use Rattle.byteorder.specs.Numbers.{big_from-lt, big_number-reads_back, length-bytes_high_first}
use Rattle.lfs_inodes.specs.Bytes.{number_at, AreBytes, SameBetween, Puts}

big_from-drop : (i n at : ℕ) (xs : List ℕ) → big_from i n (drop at xs) ≡ big_from (at + i) n xs
big_from-drop i zero at xs = refl
big_from-drop i (suc n) at xs =
    let byte : slice_index (drop at xs) i ≡ slice_index xs (at + i) = get_or-drop at xs i 0 in
    let rest : big_from (suc i) n (drop at xs) ≡ big_from (at + suc i) n xs = big_from-drop (suc i) n at xs in
    let e : at + suc i ≡ suc (at + i) = omega arith in
    rw (byte, rest, e) refl

-- what a read of the bytes from a place on gives
pub number_at-read : (n at : ℕ) (xs : List ℕ) → big_from 0 n (take (length xs - at) (drop at xs)) ≡ number_at xs at n
unfolding number_at
number_at-read n at xs =
    let e : at + 0 ≡ at = omega arith in
    ap (big_from 0 n) (take_rest xs at) ∙ big_from-drop 0 n at xs ∙ ap (λ (i : ℕ). big_from i n xs) e

big_from-same : (i n : ℕ) (xs ys : List ℕ) → SameBetween xs ys i (i + n) → big_from i n xs ≡ big_from i n ys
big_from-same i zero xs ys same = refl
big_from-same i (suc n) xs ys same =
    let byte : slice_index xs i ≡ slice_index ys i = same i (omega arith) (omega arith) in
    let rest : big_from (suc i) n xs ≡ big_from (suc i) n ys =
    big_from-same (suc i) n xs ys (λ k low high. same k (omega arith) (omega arith)) in
    rw (byte, rest) refl

-- a number depends on its own bytes alone
pub number_at-same : (xs ys : List ℕ) (at n : ℕ) → SameBetween xs ys at (at + n) → number_at xs at n ≡ number_at ys at n
unfolding number_at
number_at-same xs ys at n same = big_from-same at n xs ys same

big_from-one : (i n : ℕ) (xs ys : List ℕ) → AreBytes xs → AreBytes ys → big_from i n xs ≡ big_from i n ys
    → SameBetween xs ys i (i + n)
big_from-one i zero xs ys p q e = λ k low high. absurd (omega arith)
big_from-one i (suc n) xs ys p q e =
    let parts = same_from_place (slice_index xs i) (big_from (suc i) n xs) (slice_index ys i) (big_from (suc i) n ys)
    (256 ^ n) (big_from-lt (suc i) n xs p) (big_from-lt (suc i) n ys q) e in
    let rest = big_from-one (suc i) n xs ys p q parts.1 in
    λ k low high. elim (cases_lt i k) [
      | inl above ↦ rest k (omega arith) (omega arith)
      | inr here ↦ let same : k ≡ i = omega arith in rw same parts.0
    ]

-- bytes that spell one number in one width are one
pub number_at-one : (xs ys : List ℕ) (at n : ℕ) → AreBytes xs → AreBytes ys → number_at xs at n ≡ number_at ys at n
    → SameBetween xs ys at (at + n)
unfolding number_at
number_at-one xs ys at n p q e = big_from-one at n xs ys p q e

-- a write of a number's bytes at a place, with what stood before and after it
Puts-from_parts : (old : List ℕ) (at n number : ℕ) → at + n ≤ length old → number < 256 ^ n
    → AreBytes (take at old ++ (bytes_high_first n number ++ drop (at + n) old))
    → Puts old (take at old ++ (bytes_high_first n number ++ drop (at + n) old)) at n number
unfolding number_at
Puts-from_parts old at n number room fits bytes = record {
  same_length = omega (
    arith,
    length-append (take at old) rest,
    length-append part (drop (at + n) old),
    front,
    wide,
    length-drop (at + n) old,
  );
  bytes = bytes;
  written = written;
  below = λ k low high. get_or_append_left (take at old) rest 0 k (omega (arith, front)) ∙ get_or-take at old k 0 high;
  above = λ k low high.
      let e : (at + n) + (k - at - n) ≡ k = omega arith in
      get_or-append_right (take at old) rest at k 0 front (omega arith)
      ∙ get_or-append_right part (drop (at + n) old) n (k - at) 0 wide (omega arith)
      ∙ get_or-drop (at + n) old (k - at - n) 0
      ∙ ap (λ (j : ℕ). get_or old j 0) e;
}
  where
    part : List ℕ
    part = bytes_high_first n number

    rest : List ℕ
    rest = part ++ drop (at + n) old

    front : length (take at old) ≡ at
    front = length-take-le at old (omega arith)

    wide : length part ≡ n
    wide = length-bytes_high_first n number

    written : big_from at n (take at old ++ rest) ≡ number
    written =
        let e : at + 0 ≡ at = omega arith in
        ap (λ (i : ℕ). big_from i n (take at old ++ rest)) (sym e)
        ∙ sym (big_from-drop 0 n at (take at old ++ rest))
        ∙ ap (big_from 0 n) (drop_at (take at old) rest at front)
        ∙ big_number-reads_back n number (drop (at + n) old) fits

-- the same, as a write to the part of a slice from a place on leaves it
pub Puts-from_write : (old part : List ℕ) (at n number : ℕ) → at + n ≤ length old → number < 256 ^ n
    → part ≡ bytes_high_first n number ++ drop n (take (length old - at) (drop at old))
    → AreBytes (put_mid at (length old - at) old part)
    → Puts old (put_mid at (length old - at) old part) at n number
Puts-from_write old part at n number room fits e bytes =
    let rest : drop n (take (length old - at) (drop at old)) ≡ drop (at + n) old = ap (drop n) (take_rest old at)
    ∙ drop-drop n at old in
    let after : drop (length old - at) (drop at old)
    ≡ [] = drop_all (length old - at) (drop at old) (omega (arith, length-drop at old)) in
    let parts : put_mid at (length old - at) old part ≡ take at old
    ++ (bytes_high_first n number ++ drop (at + n) old) =
    rw (e, rest, after, append-nil) refl in
    subst (λ (new : List ℕ). Puts old new at n number) (sym parts)
    (Puts-from_parts old at n number room fits (subst (λ (new : List ℕ). AreBytes new) parts bytes))
