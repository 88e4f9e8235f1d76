-- Blocks that were put, cut or read one by one are the file's `splice`, `resized` and `slice_of` (`put_splice`,
-- `cut_resized`, `got_slice`, for the growth and the cut of `lfs_staging`, the reading of `lfs_parts`). Byte i of a file is byte i %
-- 512 of block i / 512 (`file_bytes-at`), so each law of the whole file is one of a single byte; past the size it rests
-- on `IsPadded`, the zeros behind the last byte. A block that keeps other bytes past the size breaks `padded-at`, and
-- with it every file that grows again.
use Rattle.std.proofs.Common.{◌≡◌, ℕ, zero, suc, ◌+◌, ◌-◌, ◌*◌, ◌/◌, ◌%◌, ◌<◌, ◌≤◌, max, min, inl, inr, List, [], ◌∷◌}
use Rattle.std.proofs.Common.{◌++◌, length, take, drop, replicate, get_or, refl, sym, ap, ◌∙◌, arith}
use Rattle.std.specs.Prelude.{if◌then◌else◌, ◌==◌, nat_lt}
use Rattle.std.proofs.lemmas.Bool.{cases_lt, cond-true, cond-false, eq-eqb, ne_eqb, lt-ltb, le-ltb, le-leb}
use Rattle.std.proofs.lemmas.Bool.{lt-leb, and_from, and_left, and_right}
use Rattle.std.proofs.lemmas.List.{length-append, length-take, length-drop, length-replicate, get_or-take, get_or-drop}
use Rattle.std.proofs.lemmas.List.{get_or-replicate, get_or_append_left, get_or-append_right, get_or_past, ext_get_or}
use Rattle.std.proofs.lemmas.List.{places}
use borrow.Rule.Slice.PartMut.{put_mid}
use Rattle.lfs_types.specs.Blocks.{zero_block}
use Rattle.lfs_types.specs.Splicing.{splice, resized}
use Rattle.lfs_types.specs.Stored.{slice_of}
use Rattle.lfs_bmap.specs.Pieces.{joined, file_bytes, byte_at, IsPadded, Touches, byte_put, IsPut, IsBlockCut, IsGot}
use Rattle.lfs_segments.proofs.MemoryLemmas.{length-zero_block}

-- A byte that is put, and one that is not.
pub byte_put-new : (bytes : List ℕ) (start i old : ℕ) → start ≤ i → i < start + length bytes
    → byte_put bytes start i old ≡ get_or bytes (i - start) 0
byte_put-new bytes start i old low high =
    cond-true _ _ _ (and_from _ _ (le-leb start i low) (lt-ltb i (start + length bytes) high))

pub byte_put-before : (bytes : List ℕ) (start i old : ℕ) → i < start → byte_put bytes start i old ≡ old
byte_put-before bytes start i old low = cond-false _ _ _ (and_left _ _ (lt-leb start i low))

pub byte_put-after : (bytes : List ℕ) (start i old : ℕ) → start + length bytes ≤ i → byte_put bytes start i old ≡ old
byte_put-after bytes start i old high = cond-false _ _ _ (and_right _ _ (le-ltb i (start + length bytes) high))

-- A splice, byte by byte.
module _ (old : List ℕ) (start : ℕ) (bytes : List ℕ) where
  front : List ℕ
  front = take start old ++ replicate (start - length old) 0

  front_length : length front ≡ start
  unfolding front
  front_length = simp (length-append, length-take, length-replicate) (omega arith)

  front_at : (i : ℕ) → i < start → get_or front i 0 ≡ get_or old i 0
  unfolding front
  front_at i low =
      elim (cases_lt i (length old)) [
        | inl inside ↦
            get_or_append_left (take start old) (replicate (start - length old) 0) 0 i (simp length-take (omega arith))
            ∙ get_or-take start old i 0 low
        | inr past ↦
            get_or-append_right (take start old) (replicate (start - length old) 0) (length old) i 0
            (simp length-take (omega arith)) past
            ∙ get_or-replicate (start - length old) (i - length old) 0 0 (omega arith) ∙ sym (get_or_past old i 0 past)
      ]

  whole_put : List ℕ
  whole_put = front ++ bytes ++ drop (start + length bytes) old

  put_length : length whole_put ≡ max (length old) (start + length bytes)
  unfolding whole_put
  put_length = let first = front_length in simp (length-append, length-drop) (omega arith)

  put_at : (i : ℕ) → get_or whole_put i 0 ≡ byte_put bytes start i (get_or old i 0)
  unfolding whole_put
  put_at i =
      let first = front_length in
      let two : length (front ++ bytes) ≡ start + length bytes = length-append front bytes
      ∙ ap (λ n. n + length bytes) first in
      elim (cases_lt i (start + length bytes)) [
        | inl inside ↦
            get_or_append_left (front ++ bytes) (drop (start + length bytes) old) 0 i (omega arith)
            ∙ elim (cases_lt i start) [
              | inl before ↦
                  get_or_append_left front bytes 0 i (omega arith) ∙ front_at i before
                  ∙ sym (byte_put-before bytes start i (get_or old i 0) before)
              | inr within ↦
                  get_or-append_right front bytes start i 0 first within
                  ∙ sym (byte_put-new bytes start i (get_or old i 0) within inside)
            ]
        | inr past ↦
            let back : start + length bytes + (i - (start + length bytes)) ≡ i = omega arith in
            get_or-append_right (front ++ bytes) (drop (start + length bytes) old) (start + length bytes) i 0 two past
            ∙ get_or-drop (start + length bytes) old (i - (start + length bytes)) 0 ∙ ap (λ k. get_or old k 0) back
            ∙ sym (byte_put-after bytes start i (get_or old i 0) past)
      ]

splice_is : (old : List ℕ) (start : ℕ) (bytes : List ℕ) → 0 < length bytes → splice old start bytes
    ≡ whole_put old start bytes
unfolding whole_put front
splice_is old start [] some = absurd (omega arith)
splice_is old start (b ∷ bs) some = refl

-- The bytes of a file, by their places.
module _ (blocks : ℕ → List ℕ) (whole : (n : ℕ) → length (blocks n) ≡ 512) where
  pub joined-length : (n : ℕ) → length (joined blocks n) ≡ 512 * n
  unfolding joined
  joined-length zero = refl
  joined-length (suc n) =
      let front : length (joined blocks n) ≡ 512 * n = joined-length n in
      let last = whole n in
      length-append (joined blocks n) (blocks n) ∙ omega arith

  pub joined-at : (n i : ℕ) → i < 512 * n → get_or (joined blocks n) i 0 ≡ byte_at blocks i
  unfolding joined
  joined-at zero i h = absurd (omega arith)
  joined-at (suc n) i h =
      let front : length (joined blocks n) ≡ 512 * n = joined-length n in
      elim (cases_lt i (512 * n)) [
        | inl inside ↦ get_or_append_left (joined blocks n) (blocks n) 0 i (omega arith) ∙ joined-at n i inside
        | inr past ↦
            let block : n ≡ i / 512 = omega arith in
            let place : i - 512 * n ≡ i % 512 = omega arith in
            get_or-append_right (joined blocks n) (blocks n) (512 * n) i 0 front past
            ∙ ap (λ k. get_or (blocks n) k 0) place ∙ ap (λ m. get_or (blocks m) (i % 512) 0) block
      ]

  pub file_bytes-length : (size : ℕ) → length (file_bytes blocks size) ≡ size
  file_bytes-length size =
      let all = joined-length ((size + 511) / 512) in
      length-take size (joined blocks ((size + 511) / 512)) ∙ omega arith

  pub file_bytes-at : (size i : ℕ) → i < size → get_or (file_bytes blocks size) i 0 ≡ byte_at blocks i
  file_bytes-at size i h =
      get_or-take size (joined blocks ((size + 511) / 512)) i 0 h ∙ joined-at ((size + 511) / 512) i (omega arith)

-- Where the bytes past the size are zero, each byte of the blocks is the file's.
pub padded-at : (blocks : ℕ → List ℕ) (size : ℕ) → IsPadded blocks size → (i : ℕ) → get_or (file_bytes blocks size) i 0
    ≡ byte_at blocks i
padded-at blocks size padded i =
    elim (cases_lt i size) [
      | inl inside ↦ file_bytes-at blocks padded.whole size i inside
      | inr past ↦
          let size_is = file_bytes-length blocks padded.whole size in
          get_or_past (file_bytes blocks size) i 0 (omega arith) ∙ sym (padded.zeros i past)
    ]

pub zero_block-at : (k : ℕ) → get_or zero_block k 0 ≡ 0
unfolding zero_block
zero_block-at k =
    elim (cases_lt k 512) [
      | inl low ↦ get_or-replicate 512 k 0 0 low
      | inr past ↦ get_or_past zero_block k 0 (let long = length-zero_block in omega arith)
    ]

-- a place of the file is a place of its block
place_is : (i : ℕ) → 512 * (i / 512) + i % 512 ≡ i
place_is i = omega arith

-- What a put into each block makes of the file.
module _ (old new : ℕ → List ℕ) (size start : ℕ) (bytes : List ℕ) (padded : IsPadded old size) (put : (n : ℕ)
    → IsPut n start bytes (old n) (new n)) where
  put_byte : (i : ℕ) → byte_at new i ≡ byte_put bytes start i (byte_at old i)
  put_byte i =
      (put (i / 512)).each (i % 512) (omega arith) ∙ ap (λ k. byte_put bytes start k (byte_at old i)) (place_is i)

  -- the file keeps zeros behind its bytes
  pub put_padded : IsPadded new (max size (start + length bytes))
  put_padded = record {
    whole = λ n. (put n).whole;
    zeros = λ i past. put_byte i ∙ byte_put-after bytes start i (byte_at old i) (omega arith)
        ∙ padded.zeros i (omega arith);
  }

  -- blocks put together are the splice
  pub put_splice : 0 < length bytes → file_bytes new (max size (start + length bytes))
      ≡ splice (file_bytes old size) start bytes
  put_splice some =
      let before = file_bytes-length old padded.whole size in
      let after = file_bytes-length new put_padded.whole (max size (start + length bytes)) in
      let long = put_length (file_bytes old size) start bytes in
      ext_get_or 0 _ _ (after ∙ ap (λ n. max n (start + length bytes)) (sym before) ∙ sym long)
      (λ i low. file_bytes-at new put_padded.whole (max size (start + length bytes)) i (omega arith) ∙ put_byte i
      ∙ ap (byte_put bytes start i) (sym (padded-at old size padded i))
      ∙ sym (put_at (file_bytes old size) start bytes i))
      ∙ sym (splice_is (file_bytes old size) start bytes some)

-- a block into which none of the bytes fall stays
pub untouched_put : (n start : ℕ) (bytes block : List ℕ) → length block ≡ 512
    → (Touches start (start + length bytes) n → ⊥) → IsPut n start bytes block block
untouched_put n start bytes block whole none = record {
  whole = whole;
  each = λ k low. elim (cases_lt (512 * n + k) start) [
    | inl before ↦ sym (byte_put-before bytes start (512 * n + k) (get_or block k 0) before)
    | inr from ↦ elim (cases_lt (512 * n + k) (start + length bytes)) [
      | inl below ↦ absurd (none (record { byte = 512 * n + k; from = from; below = below; there = omega arith }))
      | inr after ↦ sym (byte_put-after bytes start (512 * n + k) (get_or block k 0) after)
    ]
  ];
}

-- What a cut of each block makes of the file, shorter or longer.
module _ (old new : ℕ → List ℕ) (size other : ℕ) (padded : IsPadded old size) (cut : (n : ℕ)
    → IsBlockCut n other (old n) (new n)) where
  cut_byte : (i : ℕ) → byte_at new i ≡ (if nat_lt i other then byte_at old i else 0)
  cut_byte i =
      (cut (i / 512)).each (i % 512) (omega arith) ∙ ap (λ k. if nat_lt k other then byte_at old i else 0) (place_is i)

  pub cut_padded : IsPadded new other
  cut_padded = record {
    whole = λ n. (cut n).whole;
    zeros = λ i past. cut_byte i ∙ cond-false _ _ _ (le-ltb i other past);
  }

  pub cut_resized : file_bytes new other ≡ resized (file_bytes old size) other
  cut_resized =
      let before = file_bytes-length old padded.whole size in
      let after = file_bytes-length new cut_padded.whole other in
      let front : length (take other (file_bytes old size)) ≡ min other size = length-take other (file_bytes old size)
      ∙ ap (min other) before in
      let back : length (let z : ℕ = 0 in replicate (other - length (file_bytes old size)) z)
      ≡ other - size = length-replicate (other - length (file_bytes old size)) 0 ∙ ap (λ n. other - n) before in
      ext_get_or 0 _ _ (after ∙ sym (length-append (take other (file_bytes old size))
      (replicate (other - length (file_bytes old size)) 0) ∙ omega arith))
      (λ i low. file_bytes-at new cut_padded.whole other i (omega arith) ∙ cut_byte i
      ∙ cond-true _ _ _ (lt-ltb i other (omega arith)) ∙ sym (padded-at old size padded i)
      ∙ sym (elim (cases_lt i size) as (λ _. get_or (resized (file_bytes old size) other) i 0
      ≡ get_or (file_bytes old size) i 0) [
        | inl inside ↦
            get_or_append_left (take other (file_bytes old size))
            (replicate (other - length (file_bytes old size)) 0) 0 i (omega arith)
            ∙ get_or-take other (file_bytes old size) i 0 (omega arith)
        | inr past ↦
            get_or-append_right (take other (file_bytes old size))
            (replicate (other - length (file_bytes old size)) 0) size i 0 (omega arith) past
            ∙ get_or-replicate (other - length (file_bytes old size)) (i - size) 0 0 (omega arith)
            ∙ sym (get_or_past (file_bytes old size) i 0 (omega arith))
      ]))

-- A block before the cut stays; so does every block where the file gets longer; one behind it becomes zeros.
pub below_cut : (n size : ℕ) (block : List ℕ) → length block ≡ 512 → 512 * n + 512 ≤ size
    → IsBlockCut n size block block
below_cut n size block whole below = record {
  whole = whole;
  each = λ k low. sym (cond-true _ _ _ (lt-ltb (512 * n + k) size (omega arith)));
}

pub longer_cut : (n size other : ℕ) (blocks : ℕ → List ℕ) → IsPadded blocks size → size ≤ other
    → IsBlockCut n other (blocks n) (blocks n)
longer_cut n size other blocks padded longer = record {
  whole = padded.whole n;
  each = λ k low. elim (cases_lt (512 * n + k) other) [
    | inl inside ↦ sym (cond-true _ _ _ (lt-ltb (512 * n + k) other inside))
    | inr past ↦
        let block : (512 * n + k) / 512 ≡ n = omega arith in
        let place : (512 * n + k) % 512 ≡ k = omega arith in
        ap (λ m. get_or (blocks n) m 0) (sym place) ∙ ap (λ m. get_or (blocks m) ((512 * n + k) % 512) 0) (sym block)
        ∙ padded.zeros (512 * n + k) (omega arith) ∙ sym (cond-false _ _ _ (le-ltb (512 * n + k) other past))
  ];
}

pub past_cut : (n size : ℕ) (block zeros : List ℕ) → length zeros ≡ 512 → ((k : ℕ) → k < 512 → get_or zeros k 0 ≡ 0)
    → size ≤ 512 * n → IsBlockCut n size block zeros
past_cut n size block zeros whole all past = record {
  whole = whole;
  each = λ k low. all k low ∙ sym (cond-false _ _ _ (le-ltb (512 * n + k) size (omega arith)));
}

-- a buffer that has each byte from `start` on, as far as the file goes, has this part of the file
pub got_slice : (blocks : ℕ → List ℕ) (size start : ℕ) (buffer : List ℕ) → IsPadded blocks size → start
    + length buffer ≤ size
    → ((k : ℕ) → k < length buffer → get_or buffer k 0 ≡ byte_at blocks (start + k)) → buffer
    ≡ slice_of (file_bytes blocks size) start (length buffer)
got_slice blocks size start buffer padded fits each =
    let long = file_bytes-length blocks padded.whole size in
    let rest : length (drop start (file_bytes blocks size)) ≡ size - start = length-drop start (file_bytes blocks size)
    ∙ ap (λ n. n - start) long in
    ext_get_or 0 _ _ (sym (length-take (length buffer) (drop start (file_bytes blocks size)) ∙ omega arith))
    (λ k low. each k low ∙ sym (padded-at blocks size padded (start + k))
    ∙ sym (get_or-drop start (file_bytes blocks size) k 0)
    ∙ sym (get_or-take (length buffer) (drop start (file_bytes blocks size)) k 0 low))

-- A list of which a part was written over, at a place in that part and at another.
mid_in : (a k : ℕ) (xs ys : List ℕ) (i : ℕ) → a + k ≤ length xs → length ys ≡ k → a ≤ i → i < a + k
    → get_or (put_mid a k xs ys) i 0 ≡ get_or ys (i - a) 0
mid_in a k xs ys i fits whole low high = grind (arith, places)

mid_before : (a k : ℕ) (xs ys : List ℕ) (i : ℕ) → a + k ≤ length xs → length ys ≡ k → i < a
    → get_or (put_mid a k xs ys) i 0 ≡ get_or xs i 0
mid_before a k xs ys i fits whole low = grind (arith, places)

mid_after : (a k : ℕ) (xs ys : List ℕ) (i : ℕ) → a + k ≤ length xs → length ys ≡ k → a + k ≤ i
    → get_or (put_mid a k xs ys) i 0 ≡ get_or xs i 0
mid_after a k xs ys i fits whole high = grind (arith, places)

mid_length : (a k : ℕ) (xs ys : List ℕ) → a + k ≤ length xs → length ys ≡ k → length (put_mid a k xs ys) ≡ length xs
mid_length a k xs ys fits whole = grind (arith, places)

-- a place of a part of a list
part_at : (xs : List ℕ) (from k i : ℕ) → i < k → get_or (take k (drop from xs)) i 0 ≡ get_or xs (from + i) 0
part_at xs from k i low = get_or-take k (drop from xs) i 0 low ∙ get_or-drop from xs i 0

part_length : (xs : List ℕ) (from k : ℕ) → from + k ≤ length xs → length (take k (drop from xs)) ≡ k
part_length xs from k fits = simp (length-take, length-drop) (omega arith)

-- A block into which what falls of some bytes was copied.
module _ (index start from k first : ℕ) (bytes block : List ℕ) (whole : length block ≡ 512) (begins : from
    ≡ min (start - 512 * index) 512)
    (ends : from + k ≡ min (start + length bytes - 512 * index) 512) (some : 0 < k) (first_is : first ≡ 512 * index
    + from - start) where
  put_fits : first + k ≤ length bytes
  put_fits = omega arith

  put_place : (i : ℕ) → i < 512 → get_or (put_mid from k block (take k (drop first bytes))) i 0
      ≡ byte_put bytes start (512 * index + i) (get_or block i 0)
  put_place i low =
      let long = part_length bytes first k put_fits in
      elim (cases_lt i from) [
        | inl before ↦
            mid_before from k block (take k (drop first bytes)) i (omega arith) long before
            ∙ sym (byte_put-before bytes start (512 * index + i) (get_or block i 0) (omega arith))
        | inr after ↦ elim (cases_lt i (from + k)) [
          | inl inside ↦
              let place : first + (i - from) ≡ 512 * index + i - start = omega arith in
              mid_in from k block (take k (drop first bytes)) i (omega arith) long after inside
              ∙ part_at bytes first k (i - from) (omega arith) ∙ ap (λ m. get_or bytes m 0) place
              ∙ sym (byte_put-new bytes start (512 * index + i) (get_or block i 0) (omega arith) (omega arith))
          | inr past ↦
              mid_after from k block (take k (drop first bytes)) i (omega arith) long past
              ∙ sym (byte_put-after bytes start (512 * index + i) (get_or block i 0) (omega arith))
        ]
      ]

  pub put_copied : IsPut index start bytes block (put_mid from k block (take k (drop first bytes)))
  put_copied = record {
    whole = mid_length from k block (take k (drop first bytes)) (omega arith) (part_length bytes first k put_fits)
        ∙ whole;
    each = put_place;
  }

-- A buffer into which what a block has of some bytes was copied.
module _ (index start from k first : ℕ) (block buffer : List ℕ) (whole : length block ≡ 512) (begins : from
    ≡ min (start - 512 * index) 512)
    (ends : from + k ≡ min (start + length buffer - 512 * index) 512) (some : 0 < k) (first_is : first ≡ 512 * index
    + from - start) where
  got_fits : first + k ≤ length buffer
  got_fits = omega arith

  got_place : (i : ℕ) → i < length buffer
      → get_or (put_mid first k buffer (take k (drop from block))) i 0
      ≡ (if (start + i) / 512 == index then get_or block ((start + i) % 512) 0 else get_or buffer i 0)
  got_place i low =
      let long = part_length block from k (omega arith) in
      elim (cases_lt i first) [
        | inl before ↦
            mid_before first k buffer (take k (drop from block)) i got_fits long before
            ∙ sym (cond-false _ _ _ (ne_eqb ((start + i) / 512) index (λ e. omega arith)))
        | inr after ↦ elim (cases_lt i (first + k)) [
          | inl inside ↦
              let place : from + (i - first) ≡ (start + i) % 512 = omega arith in
              mid_in first k buffer (take k (drop from block)) i got_fits long after inside
              ∙ part_at block from k (i - first) (omega arith) ∙ ap (λ m. get_or block m 0) place
              ∙ sym (cond-true _ _ _ (eq-eqb ((start + i) / 512) index (omega arith)))
          | inr past ↦
              mid_after first k buffer (take k (drop from block)) i got_fits long past
              ∙ sym (cond-false _ _ _ (ne_eqb ((start + i) / 512) index (λ e. omega arith)))
        ]
      ]

  pub got_copied : IsGot index start block buffer (put_mid first k buffer (take k (drop from block)))
  got_copied = record {
    whole = mid_length first k buffer (take k (drop from block)) got_fits (part_length block from k (omega arith));
    each = got_place;
  }
