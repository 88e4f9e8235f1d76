-- Each number of `ifile_bytes` is read back where it was put (`laid_out-ifile_bytes`, `use-ifile_bytes`), and their
-- length is known (`length-ifile_bytes`): for `Ifile::bytes`, LoadingLemmas, `lfs_image` and `lfs_logstore`. The bytes
-- are split round one segment's eight, before which 12 + 8 * seg stand, by induction over the segments
-- (`length-segments`). Another width of a field changes each of these lengths, `row_place`, and all that reads by them.
use Rattle.std.proofs.Common.{◌≡◌, ℕ, ◌+◌, ◌*◌, ◌^◌, ◌<◌, ◌≤◌, List, [], ◌∷◌, ◌++◌, length, get_or, take, drop, refl}
use Rattle.std.proofs.Common.{sym, ap, ◌∙◌, arith, append_assoc, length-append}
use Rattle.std.specs.List.{flat_map, zip}
use Rattle.std.proofs.lemmas.List.{length-take-le, take_all, take_more, drop_more, get_or-append-add, flat_map_more}
use Rattle.std.proofs.lemmas.List.{take-append-drop}
use Rattle.std.proofs.lemmas.List.Concat.{flat_map-append}
use Rattle.std.proofs.lemmas.Nat.{from_be_bytes-to_be_bytes_4}
use Rattle.std.proofs.lemmas.Slice.Zip.{length-zip, get_or-zip}
use Rattle.lfs_ifile.specs.declared.reading.TheConstants.{MAGIC}
use Rattle.lfs_ifile.specs.declared.segment.SegState.{SegState}
use Rattle.lfs_ifile.specs.declared.segment.SegState.TheVariants.{Clean, Dirty, Active}
use Rattle.lfs_ifile.specs.declared.inode.InodeRow.{InodeRow}
use Rattle.lfs_ifile.specs.Segment.{state_number}
use Rattle.lfs_ifile.specs.Tables.{Tables, IsIfile, usage_of}
use Rattle.lfs_ifile.specs.Layout.{u32_bytes, u16_bytes, header_bytes, segment_bytes, row_bytes, ifile_bytes, number_at}
use Rattle.lfs_ifile.specs.Layout.{IsLaidOut, ReadsUse}

-- the pairs are as many as the segments
pub length-zip_same : (live : List ℕ) (states : List SegState) → length states ≡ length live → length (zip live states)
    ≡ length live
length-zip_same live states same = omega (arith, length-zip live states)

-- one more segment is written
pub segments_more : (bytes live : List ℕ) (states : List SegState) (seg : ℕ) → length states ≡ length live
    → seg < length live → (bytes ++ flat_map segment_bytes (take seg (zip live states)))
    ++ segment_bytes (get_or live seg 0, get_or states seg Clean) ≡ bytes
    ++ flat_map segment_bytes (take (seg + 1) (zip live states))
segments_more bytes live states seg same within =
    let pairs = zip live states in
    let d : ℕ × SegState = (0, Clean) in
    let more : take (seg + 1) pairs ≡ take seg pairs ++ get_or pairs seg d ∷ [] =
    take_more pairs seg d (omega (arith, length-zip_same live states same)) in
    let here : get_or pairs seg d ≡ (get_or live seg 0, get_or states seg Clean) =
    get_or-zip live states seg d within (omega arith) in
    flat_map_more segment_bytes bytes (take seg pairs) (get_or live seg 0, get_or states seg Clean)
    ∙ ap (λ (p : ℕ × SegState). bytes ++ flat_map segment_bytes (take seg pairs ++ p ∷ [])) (sym here)
    ∙ ap (λ (ps : List (ℕ × SegState)). bytes ++ flat_map segment_bytes ps) (sym more)

-- every segment is written
pub segments_all : (live : List ℕ) (states : List SegState) (seg : ℕ) → length states ≡ length live → length live ≤ seg
    → take seg (zip live states) ≡ zip live states
segments_all live states seg same past =
    take_all seg (zip live states) (omega (arith, length-zip_same live states same))

-- the bytes after each step that writes some
pub bytes_told : (tables : Tables) (segments inodes : ℕ) (live : List ℕ) (states : List SegState) (rows : List InodeRow)
    (b0 b1 b2 b3 b4 b5 : List ℕ)
    → segments ≡ length tables.live → inodes ≡ length tables.rows → live ≡ tables.live → states ≡ tables.states → rows
    ≡ tables.rows
    → b0 ≡ [] → b1 ≡ b0 ++ u32_bytes MAGIC → b2 ≡ b1 ++ u32_bytes segments → b3 ≡ b2 ++ u32_bytes inodes
    → b4 ≡ b3 ++ flat_map segment_bytes (zip live states) → b5 ≡ b4 ++ flat_map row_bytes rows → b5 ≡ ifile_bytes tables
bytes_told tables segments inodes live states rows b0 b1 b2 b3 b4 b5 s i l t r e0 e1 e2 e3 e4 e5 =
    rw (e5, e4, e3, e2, e1, e0, r, t, l, i, s) refl

-- each number takes four or two bytes
pub length-u32_bytes : (number : ℕ) → length (u32_bytes number) ≡ 4
unfolding u32_bytes
length-u32_bytes number = refl

pub length-u16_bytes : (number : ℕ) → length (u16_bytes number) ≡ 2
unfolding u16_bytes
length-u16_bytes number = refl

-- each segment takes eight bytes
pub length-segments : (pairs : List (ℕ × SegState)) → length (flat_map segment_bytes pairs) ≡ 8 * length pairs
length-segments [] = refl
length-segments (p ∷ pairs) = grind (arith, length-append, length-u32_bytes, length-segments pairs)

-- each row takes twelve bytes
pub length-rows : (rows : List InodeRow) → length (flat_map row_bytes rows) ≡ 12 * length rows
length-rows [] = refl
length-rows (row ∷ rows) = grind (arith, length-append, length-u32_bytes, length-u16_bytes, length-rows rows)

-- the bytes of an ifile are as many as the numbers of its segments and its rows say
pub length-ifile_bytes : (tables : Tables) → length tables.states ≡ length tables.live → length (ifile_bytes tables)
    ≡ 12 + 8 * length tables.live + 12 * length tables.rows
length-ifile_bytes tables same =
    let pairs = length-zip_same tables.live tables.states same in
    let segments = length-segments (zip tables.live tables.states) in
    let rows = length-rows tables.rows in
    simp (length-append, length-u32_bytes) (omega arith)

-- a place after `before` is a place in what follows it
pub get_or-after : (before rest : List ℕ) (i place : ℕ) → place ≡ length before + i → get_or (before ++ rest) place 0
    ≡ get_or rest i 0
get_or-after before rest i place at =
    ap (λ (k : ℕ). get_or (before ++ rest) k 0) at ∙ get_or-append-add before rest i 0

-- a number that was written after `before` is read there
pub number_at-written : (before after : List ℕ) (number place : ℕ) → number < 2 ^ 32 → length before ≡ place
    → number_at (before ++ (u32_bytes number ++ after)) place ≡ number
unfolding u32_bytes number_at
number_at-written before after number place fits here =
    let rest : List ℕ = u32_bytes number ++ after in
    let first = get_or-after before rest 0 place (omega arith) in
    let second = get_or-after before rest 1 (place + 1) (omega arith) in
    let third = get_or-after before rest 2 (place + 2) (omega arith) in
    let fourth = get_or-after before rest 3 (place + 3) (omega arith) in
    rw (first, second, third, fourth) (from_be_bytes-to_be_bytes_4 number fits)

-- the pairs around one of them
segments_split : (live : List ℕ) (states : List SegState) (seg : ℕ) → length states ≡ length live → seg < length live
    → flat_map segment_bytes (zip live states) ≡ flat_map segment_bytes (take seg (zip live states))
    ++ (segment_bytes (get_or live seg 0, get_or states seg Clean)
    ++ flat_map segment_bytes (drop (seg + 1) (zip live states)))
segments_split live states seg same within =
    let pairs = zip live states in
    let d : ℕ × SegState = (0, Clean) in
    let whole : take seg pairs ++ drop seg pairs ≡ pairs = take-append-drop seg pairs in
    let more : drop seg pairs ≡ get_or pairs seg d ∷ drop (seg + 1) pairs =
    drop_more pairs seg d (omega (arith, length-zip_same live states same)) in
    let here : get_or pairs seg d ≡ (get_or live seg 0, get_or states seg Clean) =
    get_or-zip live states seg d within (omega arith) in
    ap (λ (ps : List (ℕ × SegState)). flat_map segment_bytes ps) (sym whole)
    ∙ flat_map-append segment_bytes (take seg pairs) (drop seg pairs)
    ∙ ap (λ (ps : List (ℕ × SegState)). flat_map segment_bytes (take seg pairs) ++ flat_map segment_bytes ps) more
    ∙ ap (λ (p : ℕ × SegState). flat_map segment_bytes (take seg pairs)
    ++ (segment_bytes p ++ flat_map segment_bytes (drop (seg + 1) pairs))) here

-- a state's number fits
state_number-fits : (state : SegState) → state_number state < 2 ^ 32
state_number-fits Clean = omega arith
state_number-fits Dirty = omega arith
state_number-fits Active = omega arith

-- the header reads back
pub laid_out-ifile_bytes : (tables : Tables) → IsIfile tables → IsLaidOut (ifile_bytes tables)
    × (number_at (ifile_bytes tables) 4 ≡ length tables.live)
laid_out-ifile_bytes tables is =
    let segments = length tables.live in
    let inodes = length tables.rows in
    let rest : List ℕ = flat_map segment_bytes (zip tables.live tables.states) ++ flat_map row_bytes tables.rows in
    let magic : number_at (ifile_bytes tables) 0 ≡ MAGIC =
    simp append_assoc (number_at-written [] (u32_bytes segments ++ (u32_bytes inodes ++ rest)) MAGIC 0
    (omega arith) refl) in
    let first : number_at (ifile_bytes tables) 4 ≡ segments =
    simp append_assoc (number_at-written (u32_bytes MAGIC) (u32_bytes inodes ++ rest) segments 4 (omega arith)
    (length-u32_bytes _)) in
    let second : number_at (ifile_bytes tables) 8 ≡ inodes =
    let before : length (u32_bytes MAGIC ++ u32_bytes segments) ≡ 8 = grind (arith, length-append, length-u32_bytes) in
    simp append_assoc (simp append_assoc at (number_at-written (u32_bytes MAGIC ++ u32_bytes segments) rest inodes 8
    (omega arith) before)) in
    (record { magic = magic; size = omega (arith, length-ifile_bytes tables is.states_length) }, first)

-- how much stands before a segment's bytes
length-before : (segments inodes seg : ℕ) (live : List ℕ) (states : List SegState) → length states ≡ length live
    → seg < length live → length (header_bytes segments inodes ++ flat_map segment_bytes (take seg (zip live states)))
    ≡ 12 + 8 * seg
length-before segments inodes seg live states same within =
    let lower = take seg (zip live states) in
    let pairs : length lower ≡ seg = length-take-le seg (zip live states)
    (omega (arith, length-zip_same live states same)) in
    simp (length-append, length-u32_bytes) (omega (arith, length-segments lower))

-- a segment's use reads back
pub use-ifile_bytes : (tables : Tables) (seg : ℕ) → IsIfile tables → seg < length tables.live
    → ReadsUse (ifile_bytes tables) seg (usage_of tables seg)
use-ifile_bytes tables seg is within =
    let pairs = zip tables.live tables.states in
    let live = get_or tables.live seg 0 in
    let state = get_or tables.states seg Clean in
    let header : List ℕ = header_bytes (length tables.live) (length tables.rows) in
    let lower : List ℕ = flat_map segment_bytes (take seg pairs) in
    let upper : List ℕ = flat_map segment_bytes (drop (seg + 1) pairs) in
    let rows : List ℕ = flat_map row_bytes tables.rows in
    let split : flat_map segment_bytes pairs ≡ lower ++ (segment_bytes (live, state) ++ upper) =
    segments_split tables.live tables.states seg is.states_length within in
    let whole : ifile_bytes tables ≡ (header ++ lower)
    ++ (u32_bytes live ++ (u32_bytes (state_number state) ++ (upper ++ rows))) =
    rw split (simp append_assoc) in
    let long : length (header ++ lower) ≡ 12
    + 8 * seg = length-before _ _ seg tables.live tables.states is.states_length within in
    let longer : length ((header ++ lower) ++ u32_bytes live) ≡ 16 + 8 * seg =
    simp (length-append (header ++ lower) (u32_bytes live)) (omega (arith, length-u32_bytes live)) in
    let laid_out = laid_out-ifile_bytes tables is in
    let fits : live < 2 ^ 32 = omega (arith, is.live_bytes seg 0 within) in
    record {
      laid_out = laid_out.0;
      segment = rw laid_out.1 within;
      live = sym (rw whole (number_at-written (header ++ lower) (u32_bytes (state_number state) ++ (upper ++ rows)) live
          (12 + 8 * seg) fits long));
      state = sym (rw (
        whole,
        ← append_assoc (header ++ lower) (u32_bytes live) (u32_bytes (state_number state)
            ++ (upper ++ rows)),
      ) (number_at-written ((header ++ lower) ++ u32_bytes live) (upper ++ rows)
          (state_number state) (16 + 8 * seg) (state_number-fits state) longer));
    }

-- two states with one number are the same
pub same_state : (s t : SegState) → state_number s ≡ state_number t → s ≡ t
same_state Clean Clean e = refl
same_state Clean Dirty e = absurd (omega arith)
same_state Clean Active e = absurd (omega arith)
same_state Dirty Clean e = absurd (omega arith)
same_state Dirty Dirty e = refl
same_state Dirty Active e = absurd (omega arith)
same_state Active Clean e = absurd (omega arith)
same_state Active Dirty e = absurd (omega arith)
same_state Active Active e = refl
