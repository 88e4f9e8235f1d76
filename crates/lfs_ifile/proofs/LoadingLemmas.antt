-- Bytes say one ifile at most: `spelled` and `one_ifile` for `Ifile::parse`; and none where there is a fault:
-- `no_ifile`, for `Ifile::read` and `lfs_image`. The bytes go word by word of four: `ReadsTables` fixes the number in
-- each, and equal numbers have equal bytes (`same_bytes`); the hard word is that of a row which holds the slot and the
-- use together. A field that no clause of `ReadsTables` fixes breaks `same_bytes`, and a fault that `IsIfile` doesn't
-- forbid breaks `no_ifile`.
use Rattle.std.proofs.Common.{◌≡◌, ℕ, zero, suc, ◌+◌, ◌-◌, ◌*◌, ◌/◌, ◌%◌, ◌<◌, ◌≤◌, Bool, true, false, List, [], ◌∷◌}
use Rattle.std.proofs.Common.{◌++◌, length, get_or, take, drop, refl, sym, ap, subst, ◌∙◌, inl, inr, arith}
use Rattle.std.proofs.Common.{append_assoc, length-append}
use Rattle.std.specs.Prelude.{slice_index, slice_index_or}
use Rattle.std.specs.Int.{w32, to_be_bytes}
use Rattle.std.specs.List.{flat_map, zip}
use Rattle.std.proofs.lemmas.Bool.{cases_lt}
use Rattle.std.proofs.lemmas.List.{ext_get_or, get_or_default, length-take-le, drop_more, take-append-drop}
use Rattle.std.proofs.lemmas.List.Concat.{flat_map-append}
use Rattle.std.proofs.lemmas.Nat.{be_bytes_4}
use Rattle.lfs_ifile.specs.declared.fault.IfileFault.{IfileFault}
use Rattle.lfs_ifile.specs.declared.fault.IfileFault.TheVariants.{Head, Segment, Row, Memory}
use Rattle.lfs_ifile.specs.declared.inode.InodeRow.{InodeRow}
use Rattle.lfs_ifile.specs.declared.segment.SegState.{SegState}
use Rattle.lfs_ifile.specs.declared.segment.SegState.TheVariants.{Clean}
use Rattle.lfs_ifile.specs.Inode.{IsRow, fresh_row}
use Rattle.lfs_ifile.specs.Segment.{state_number}
use Rattle.lfs_ifile.specs.Tables.{IsIfile, Tables, blocks_of, row_of, usage_of}
use Rattle.lfs_ifile.specs.Layout.{IsHead, IsIfileFaultOf, ReadsRow, ReadsTables, flag, header_bytes, ifile_bytes}
use Rattle.lfs_ifile.specs.Layout.{number_at, row_bytes, row_place, segment_bytes, u16_bytes, u32_bytes}
use Rattle.lfs_ifile.proofs.LayoutLemmas.{get_or-after, laid_out-ifile_bytes, length-ifile_bytes, length-rows}
use Rattle.lfs_ifile.proofs.LayoutLemmas.{length-segments, length-u16_bytes, length-u32_bytes, length-zip_same}
use Rattle.lfs_ifile.proofs.LayoutLemmas.{number_at-written, same_state, use-ifile_bytes}

-- ---- what the bytes of an ifile say of a row
-- two numbers of two bytes, read as one of four
joined : (a b : ℕ) → a < 65536 → b < 65536
    → 16777216 * (a / 256 % 256) + 65536 * (a % 256) + 256 * (b / 256 % 256) + b % 256 ≡ 65536 * a + b
joined a b low below = omega arith

number_at-halves : (before after : List ℕ) (a b place : ℕ) → a < 65536 → b < 65536 → length before ≡ place
    → number_at (before ++ (u16_bytes a ++ (u16_bytes b ++ after))) place ≡ 65536 * a + b
unfolding u16_bytes number_at
number_at-halves before after a b place low below here =
    let rest : List ℕ = u16_bytes a ++ (u16_bytes b ++ after) in
    let first = get_or-after before rest 0 place (omega arith) in
    let second = get_or-after before rest 1 (place + 1) (omega arith) in
    let third = get_or-after before rest 2 (place + 2) (omega arith) in
    let fourth = get_or-after before rest 3 (place + 3) (omega arith) in
    rw (first, second, third, fourth) (omega (arith, joined a b low below))

-- the rows around one of them
rows_split : (rows : List InodeRow) (n : ℕ) → n < length rows
    → flat_map row_bytes rows ≡ flat_map row_bytes (take n rows)
    ++ (row_bytes (get_or rows n fresh_row) ++ flat_map row_bytes (drop (n + 1) rows))
rows_split rows n within =
    let whole : take n rows ++ drop n rows ≡ rows = take-append-drop n rows in
    let more : drop n rows ≡ get_or rows n fresh_row ∷ drop (n + 1) rows = drop_more rows n fresh_row within in
    ap (λ (rs : List InodeRow). flat_map row_bytes rs) (sym whole)
    ∙ flat_map-append row_bytes (take n rows) (drop n rows)
    ∙ ap (λ (rs : List InodeRow). flat_map row_bytes (take n rows) ++ flat_map row_bytes rs) more

-- one row is read behind what stands before it
flag-fits : (used : Bool) → flag used < 65536
flag-fits true = omega arith
flag-fits false = omega arith

row-written : (before after : List ℕ) (row : InodeRow) (place blocks : ℕ) → IsRow blocks row → blocks ≤ 65536
    → length before ≡ place
    → ReadsRow (before ++ (row_bytes row ++ after)) place row
row-written before after row place blocks is few here =
    let used = flag-fits row.used in
    let a : List ℕ = u32_bytes row.address in
    let s : List ℕ = u16_bytes row.slot in
    let u : List ℕ = u16_bytes (flag row.used) in
    let v : List ℕ = u32_bytes row.version in
    let longer : length (before ++ a) ≡ place + 4 = length-append before a
    ∙ omega (arith, length-u32_bytes row.address) in
    let longest : length ((before ++ a) ++ (s ++ u)) ≡ place + 8 =
    length-append (before ++ a) (s ++ u) ∙ omega (
      arith,
      length-append s u,
      length-u16_bytes row.slot,
      length-u16_bytes (flag row.used),
    ) in
    let first : number_at (before ++ (a ++ (s ++ (u ++ (v ++ after))))) place ≡ row.address =
    number_at-written before (s ++ (u ++ (v ++ after))) row.address place (let low = is.address in omega arith) here in
    let second : number_at ((before ++ a) ++ (s ++ (u ++ (v ++ after)))) (place + 4) ≡ 65536 * row.slot
    + flag row.used =
    number_at-halves (before ++ a) (v ++ after) row.slot (flag row.used) (place + 4)
    (let low = is.slot in omega arith) used longer in
    let third : number_at (((before ++ a) ++ (s ++ u)) ++ (v ++ after)) (place + 8) ≡ row.version =
    number_at-written ((before ++ a) ++ (s ++ u)) after row.version (place + 8) is.version longest in
    record {
      address = sym (simp append_assoc first);
      slot_and_use = sym (simp append_assoc (simp append_assoc at second));
      version = sym (simp append_assoc (simp append_assoc at third));
    }

row-ifile_bytes : (tables : Tables) (n : ℕ) → IsIfile tables → n < length tables.rows
    → ReadsRow (ifile_bytes tables) (row_place (length tables.live) n) (row_of tables n)
row-ifile_bytes tables n is within =
    let header : List ℕ = header_bytes (length tables.live) (length tables.rows) in
    let segments : List ℕ = flat_map segment_bytes (zip tables.live tables.states) in
    let lower : List ℕ = flat_map row_bytes (take n tables.rows) in
    let upper : List ℕ = flat_map row_bytes (drop (n + 1) tables.rows) in
    let row = row_of tables n in
    let whole : ifile_bytes tables ≡ (header ++ (segments ++ lower)) ++ (row_bytes row ++ upper) =
    rw (rows_split tables.rows n within) (simp append_assoc) in
    let many : length segments ≡ 8 * length tables.live = length-segments (zip tables.live tables.states)
    ∙ omega (arith, length-zip_same tables.live tables.states is.states_length) in
    let some : length lower ≡ 12 * n = length-rows (take n tables.rows)
    ∙ omega (arith, length-take-le n tables.rows (omega arith)) in
    let head : length header ≡ 12 = grind (arith, length-append, length-u32_bytes) in
    let long : length (header ++ (segments ++ lower)) ≡ row_place (length tables.live) n =
    length-append header (segments ++ lower) ∙ omega (arith, length-append segments lower) in
    let most = is.segments_most in
    subst (λ bytes. ReadsRow bytes (row_place (length tables.live) n) row) (sym whole)
    (row-written (header ++ (segments ++ lower)) upper row (row_place (length tables.live) n) (blocks_of tables)
    (is.each_row n fresh_row within) (omega arith) long)

-- the bytes of an ifile say its tables
inodes-ifile_bytes : (tables : Tables) → IsIfile tables → number_at (ifile_bytes tables) 8 ≡ length tables.rows
inodes-ifile_bytes tables is =
    let laid = laid_out-ifile_bytes tables is in
    let long = length-ifile_bytes tables is.states_length in
    let size = laid.0.size in
    omega (arith, laid.1)

pub tables_told : (tables : Tables) → IsIfile tables → ReadsTables (ifile_bytes tables) tables
tables_told tables is = record {
  laid_out = (laid_out-ifile_bytes tables is).0;
  segments = sym (laid_out-ifile_bytes tables is).1;
  inodes = sym (inodes-ifile_bytes tables is);
  uses = λ seg within. let reads = use-ifile_bytes tables seg is within in
      record { live = reads.live; state = reads.state };
  each_row = λ number within. row-ifile_bytes tables number is within;
}

-- ---- bytes that say the same
-- equal numbers have equal bytes
four : List ℕ → ℕ → List ℕ
four xs p = get_or xs p 0 ∷ get_or xs (p + 1) 0 ∷ get_or xs (p + 2) 0 ∷ get_or xs (p + 3) 0 ∷ []

four-small : (xs : List ℕ) (p : ℕ) → ((i : ℕ) → get_or xs i 0 < 256) → (i : ℕ) → get_or (four xs p) i 0 < 256
unfolding four
four-small xs p small zero = small p
four-small xs p small (suc zero) = small (p + 1)
four-small xs p small (suc (suc zero)) = small (p + 2)
four-small xs p small (suc (suc (suc zero))) = small (p + 3)
four-small xs p small (suc (suc (suc (suc i)))) = omega arith

four-same : (xs ys : List ℕ) (p : ℕ) → ((i : ℕ) → get_or xs i 0 < 256) → ((i : ℕ) → get_or ys i 0 < 256)
    → number_at xs p ≡ number_at ys p → four xs p ≡ four ys p
unfolding four number_at
four-same xs ys p small below same =
    sym (be_bytes_4 (four xs p) (number_at xs p) refl (four-small xs p small) refl) ∙ ap (to_be_bytes w32) same
    ∙ be_bytes_4 (four ys p) (number_at ys p) refl (four-small ys p below) refl

byte-same : (xs ys : List ℕ) (p i : ℕ) → ((j : ℕ) → get_or xs j 0 < 256) → ((j : ℕ) → get_or ys j 0 < 256)
    → number_at xs p ≡ number_at ys p
    → p ≤ i → i < p + 4 → get_or xs i 0 ≡ get_or ys i 0
unfolding four
byte-same xs ys p i small below same from to =
    let e = four-same xs ys p small below same in
    elim (cases_lt i (p + 1)) [
      | inl a ↦ let at : i ≡ p = omega arith in rw at (ap (λ l. get_or l 0 0) e)
      | inr b ↦ elim (cases_lt i (p + 2)) [
        | inl a ↦ let at : i ≡ p + 1 = omega arith in rw at (ap (λ l. get_or l 1 0) e)
        | inr b2 ↦ elim (cases_lt i (p + 3)) [
          | inl a ↦ let at : i ≡ p + 2 = omega arith in rw at (ap (λ l. get_or l 2 0) e)
          | inr b3 ↦ let at : i ≡ p + 3 = omega arith in rw at (ap (λ l. get_or l 3 0) e)
        ]
      ]
    ]

-- bytes that say the same tables are the same
module _ (xs ys : List ℕ) (t : Tables) (p : ReadsTables xs t) (q : ReadsTables ys t) where
  segment_word : (s k : ℕ) → s < length t.live → k < 2 → number_at xs (12 + 8 * s + 4 * k)
      ≡ number_at ys (12 + 8 * s + 4 * k)
  segment_word s zero low few =
      let at : 12 + 8 * s + 4 * 0 ≡ 12 + 8 * s = omega arith in
      ap (number_at xs) at ∙ sym (p.uses s low).live ∙ (q.uses s low).live ∙ ap (number_at ys) (sym at)
  segment_word s (suc zero) low few =
      let at : 12 + 8 * s + 4 * 1 ≡ 16 + 8 * s = omega arith in
      ap (number_at xs) at ∙ sym (p.uses s low).state ∙ (q.uses s low).state ∙ ap (number_at ys) (sym at)
  segment_word s (suc (suc k)) low few = absurd (omega arith)

  row_word : (n k : ℕ) → n < length t.rows → k < 3 → number_at xs (row_place (length t.live) n + 4 * k)
      ≡ number_at ys (row_place (length t.live) n + 4 * k)
  row_word n zero low few =
      let at : row_place (length t.live) n + 4 * 0 ≡ row_place (length t.live) n = omega arith in
      ap (number_at xs) at ∙ sym (p.each_row n low).address ∙ (q.each_row n low).address ∙ ap (number_at ys) (sym at)
  row_word n (suc zero) low few =
      sym (p.each_row n low).slot_and_use ∙ (q.each_row n low).slot_and_use
  row_word n (suc (suc zero)) low few =
      sym (p.each_row n low).version ∙ (q.each_row n low).version
  row_word n (suc (suc (suc k))) low few = absurd (omega arith)

  -- each word is the same
  word : (w : ℕ) → 4 * w < length xs → number_at xs (4 * w) ≡ number_at ys (4 * w)
  word w low =
      let size = p.laid_out.size in
      elim (cases_lt w 3) [
        | inl head ↦ head_word w head
        | inr past ↦ elim (cases_lt w (3 + 2 * length t.live)) [
          | inl inside ↦
              let at : 4 * w ≡ 12 + 8 * ((w - 3) / 2) + 4 * ((w - 3) % 2) = omega arith in
              rw at (segment_word ((w - 3) / 2) ((w - 3) % 2) (omega arith) (omega arith))
          | inr behind ↦
              let k : ℕ = w - 3 - 2 * length t.live in
              let at : 4 * w ≡ row_place (length t.live) (k / 3) + 4 * (k % 3) = omega arith in
              rw at (row_word (k / 3) (k % 3) (omega (arith, p.inodes, p.segments)) (omega arith))
        ]
      ]
    where
      head_word : (w : ℕ) → w < 3 → number_at xs (4 * w) ≡ number_at ys (4 * w)
      head_word zero low = p.laid_out.magic ∙ sym q.laid_out.magic
      head_word (suc zero) low = sym p.segments ∙ q.segments
      head_word (suc (suc zero)) low = sym p.inodes ∙ q.inodes
      head_word (suc (suc (suc w))) low = absurd (omega arith)

  pub same_bytes : ((i : ℕ) → get_or xs i 0 < 256) → ((i : ℕ) → get_or ys i 0 < 256) → xs ≡ ys
  same_bytes small below =
      let size = p.laid_out.size in
      let other = q.laid_out.size in
      ext_get_or 0 xs ys (omega (arith, p.segments, q.segments, p.inodes, q.inodes)) (λ i low.
      byte-same xs ys (4 * (i / 4)) i small below (word (i / 4) (omega arith)) (omega arith) (omega arith))

-- ---- the bytes of an ifile are bytes
abbrev AreSmall : List ℕ → Type 0
AreSmall xs = (i : ℕ) → get_or xs i 0 < 256

small-nil : AreSmall []
small-nil i = omega arith

small-append : (xs ys : List ℕ) → AreSmall xs → AreSmall ys → AreSmall (xs ++ ys)
small-append [] ys p q i = q i
small-append (x ∷ xs) ys p q zero = p zero
small-append (x ∷ xs) ys p q (suc i) = small-append xs ys (λ j. p (suc j)) q i

small-u32_bytes : (number : ℕ) → AreSmall (u32_bytes number)
unfolding u32_bytes
small-u32_bytes number zero = omega arith
small-u32_bytes number (suc zero) = omega arith
small-u32_bytes number (suc (suc zero)) = omega arith
small-u32_bytes number (suc (suc (suc zero))) = omega arith
small-u32_bytes number (suc (suc (suc (suc i)))) = omega arith

small-u16_bytes : (number : ℕ) → AreSmall (u16_bytes number)
unfolding u16_bytes
small-u16_bytes number zero = omega arith
small-u16_bytes number (suc zero) = omega arith
small-u16_bytes number (suc (suc i)) = omega arith

small-segments : (pairs : List (ℕ × SegState)) → AreSmall (flat_map segment_bytes pairs)
small-segments [] = small-nil
small-segments (p ∷ pairs) =
    small-append (segment_bytes p) (flat_map segment_bytes pairs)
    (small-append (u32_bytes p.0) (u32_bytes (state_number p.1)) (small-u32_bytes p.0)
    (small-u32_bytes (state_number p.1)))
    (small-segments pairs)

small-row : (row : InodeRow) → AreSmall (row_bytes row)
small-row row =
    let a : List ℕ = u32_bytes row.address in
    let b : List ℕ = u16_bytes row.slot in
    let d : List ℕ = u16_bytes (flag row.used) in
    let e : List ℕ = u32_bytes row.version in
    small-append ((a ++ b) ++ d) e
    (small-append (a ++ b) d (small-append a b (small-u32_bytes row.address) (small-u16_bytes row.slot))
    (small-u16_bytes (flag row.used))) (small-u32_bytes row.version)

small-rows : (rows : List InodeRow) → AreSmall (flat_map row_bytes rows)
small-rows [] = small-nil
small-rows (row ∷ rows) = small-append (row_bytes row) (flat_map row_bytes rows) (small-row row) (small-rows rows)

small-header : (segments inodes : ℕ) → AreSmall (header_bytes segments inodes)
small-header segments inodes =
    let a : List ℕ = u32_bytes 0x4c46_4946 in
    small-append (a ++ u32_bytes segments) (u32_bytes inodes)
    (small-append a (u32_bytes segments) (small-u32_bytes 0x4c46_4946) (small-u32_bytes segments))
    (small-u32_bytes inodes)

small-ifile_bytes : (tables : Tables) → AreSmall (ifile_bytes tables)
small-ifile_bytes tables =
    let header : List ℕ = header_bytes (length tables.live) (length tables.rows) in
    let segments : List ℕ = flat_map segment_bytes (zip tables.live tables.states) in
    small-append (header ++ segments) (flat_map row_bytes tables.rows)
    (small-append header segments (small-header (length tables.live) (length tables.rows))
    (small-segments (zip tables.live tables.states)))
    (small-rows tables.rows)

-- ---- tables that were read
module _ (bytes live : List ℕ) (states : List SegState) (rows : List InodeRow) (segments inodes : ℕ)
    (head : IsHead bytes)
    (segments_is : segments ≡ number_at bytes 4) (inodes_is : inodes ≡ number_at bytes 8)
    (long : length live ≡ segments) (same : length states ≡ segments) (many : length rows ≡ inodes) where
  abbrev tables : Tables
  tables = record { live = live; states = states; rows = rows }

  pub read_formed : ((s : ℕ) → slice_index live s ≤ 32768)
      → ((n : ℕ) → n < inodes → IsRow (64 * segments) (slice_index_or rows n fresh_row)) → IsIfile tables
  read_formed few formed =
      let least = head.segments_least in
      let most = head.segments_most in
      let some = head.inodes_least in
      let all = head.inodes_most in
      record {
        segments_least = omega arith;
        segments_most = omega arith;
        states_length = same ∙ sym long;
        inodes_least = omega arith;
        inodes_most = omega arith;
        live_bytes = λ k d low. omega (arith, few k, get_or_default live k d 0 low);
        each_row = λ k d low. subst (IsRow (64 * length live)) (sym (get_or_default rows k d fresh_row low))
            (subst (λ m. IsRow (64 * m) (slice_index_or rows k fresh_row)) (sym long) (formed k (omega arith)));
      }

  pub read_told : ((s : ℕ) → s < segments → slice_index live s ≡ number_at bytes (12 + 8 * s))
      → ((s : ℕ) → s < segments → state_number (slice_index_or states s Clean) ≡ number_at bytes (16 + 8 * s))
      → ((n : ℕ) → n < inodes → ReadsRow bytes (row_place segments n) (slice_index_or rows n fresh_row))
      → ReadsTables bytes tables
  read_told lives stated read = record {
    laid_out = head.laid_out;
    segments = long ∙ segments_is;
    inodes = many ∙ inodes_is;
    uses = λ s low. record { live = lives s (omega arith); state = stated s (omega arith) };
    each_row = λ n low. subst (λ k. ReadsRow bytes (row_place k n) (slice_index_or rows n fresh_row)) (sym long)
        (read n (omega arith));
  }

pub spelled : (bytes : List ℕ) (file : Tables) → IsIfile file → ReadsTables bytes file
    → ((i : ℕ) → get_or bytes i 0 < 256) → ifile_bytes file ≡ bytes
spelled bytes file is reads small = same_bytes (ifile_bytes file) bytes file (tables_told file is) reads
    (small-ifile_bytes file) small

-- ---- where there is a fault, no ifile has the bytes
pub no_ifile : (bytes : List ℕ) (fault : IfileFault) → IsIfileFaultOf bytes fault → (fault ≡ Memory → ⊥)
    → (file : Tables) → IsIfile file → ifile_bytes file ≡ bytes → ⊥
no_ifile bytes Head h other file is e =
    let reads = subst (λ bs. ReadsTables bs file) e (tables_told file is) in
    h (record {
      laid_out = reads.laid_out;
      segments_least = omega (arith, reads.segments, is.segments_least);
      segments_most = omega (arith, reads.segments, is.segments_most);
      inodes_least = omega (arith, reads.inodes, is.inodes_least);
      inodes_most = omega (arith, reads.inodes, is.inodes_most);
    })
no_ifile bytes (Segment s) h other file is e =
    let reads = subst (λ bs. ReadsTables bs file) e (tables_told file is) in
    let low : s < length file.live = omega (arith, reads.segments, h.0) in
    h.1 (usage_of file s) (reads.uses s low) (is.live_bytes s 0 low)
no_ifile bytes (Row n) h other file is e =
    let reads = subst (λ bs. ReadsTables bs file) e (tables_told file is) in
    let low : n < length file.rows = omega (arith, reads.inodes, h.0) in
    h.1 (row_of file n) (subst (λ k. ReadsRow bytes (row_place k n) (row_of file n)) reads.segments
    (reads.each_row n low))
    (subst (λ k. IsRow (64 * k) (row_of file n)) reads.segments (is.each_row n fresh_row low))
no_ifile bytes Memory h other file is e = other refl

-- ---- bytes say one ifile
row_same : (r s : InodeRow) → r.used ≡ s.used → r.address ≡ s.address → r.slot ≡ s.slot → r.version ≡ s.version → r ≡ s
row_same r s used address slot version =
    λ i. record { used = used i; address = address i; slot = slot i; version = version i }

flag_same : (b d : Bool) → flag b ≡ flag d → b ≡ d
flag_same true true e = refl
flag_same true false e = absurd (omega arith)
flag_same false true e = absurd (omega arith)
flag_same false false e = refl

reads_same : (bytes : List ℕ) (place : ℕ) (r s : InodeRow) → ReadsRow bytes place r → ReadsRow bytes place s → r ≡ s
reads_same bytes place r s p q =
    let mine = flag-fits r.used in
    let other = flag-fits s.used in
    let both : 65536 * r.slot + flag r.used ≡ 65536 * s.slot + flag s.used = p.slot_and_use ∙ sym q.slot_and_use in
    row_same r s (flag_same r.used s.used (omega arith)) (p.address ∙ sym q.address) (omega arith) (p.version
    ∙ sym q.version)

told_same : (bytes : List ℕ) (t u : Tables) → IsIfile t → IsIfile u → ReadsTables bytes t → ReadsTables bytes u → t ≡ u
told_same bytes t u is also p q =
    let segments : length t.live ≡ length u.live = p.segments ∙ sym q.segments in
    let inodes : length t.rows ≡ length u.rows = p.inodes ∙ sym q.inodes in
    let live : t.live ≡ u.live = ext_get_or 0 t.live u.live segments (λ s low. (p.uses s low).live
    ∙ sym (q.uses s (omega arith)).live) in
    let states : t.states ≡ u.states = ext_get_or Clean t.states u.states (is.states_length ∙ segments
    ∙ sym also.states_length) (λ s low.
    let inside : s < length t.live = omega (arith, is.states_length) in
    same_state (usage_of t s).state (usage_of u s).state ((p.uses s inside).state ∙ sym (q.uses s (omega arith)).state))
    in
    let rows : t.rows ≡ u.rows = ext_get_or fresh_row t.rows u.rows inodes (λ n low.
    reads_same bytes (row_place (length t.live) n) (row_of t n) (row_of u n) (p.each_row n low)
    (subst (λ k. ReadsRow bytes (row_place k n) (row_of u n)) (sym segments) (q.each_row n (omega arith)))) in
    λ i. record { live = live i; states = states i; rows = rows i }

pub one_ifile : (bytes : List ℕ) (file other : Tables) → IsIfile file → ReadsTables bytes file → IsIfile other
    → ifile_bytes other ≡ bytes → other ≡ file
one_ifile bytes file other is reads also e =
    told_same bytes other file also is (subst (λ bs. ReadsTables bs other) e (tables_told other also)) reads
