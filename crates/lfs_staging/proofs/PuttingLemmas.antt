-- `put_blocks` puts bytes into one block after another, and at the end each block has what falls into it
-- (`put_one`, `put_more`, `put_all`). Below the loop's index all is put, from it on nothing (`PutsBelow`); what waits
-- more has a code of `put_codes`, which is as long as `frames_of_put` says, so the room that was asked for once is
-- enough for every block (`takes_room`). The length rests on `table_of-later`: the holders of a run of data blocks have
-- codes from the first one's to the last one's.
use Rattle.std.proofs.Common.{◌≡◌, ℕ, zero, suc, ◌+◌, ◌*◌, ◌/◌, ◌%◌, ◌-◌, ◌<◌, ◌≤◌, List, [], ◌∷◌, ◌++◌, length}
use Rattle.std.proofs.Common.{length-append, refl, sym, ap, ◌∙◌, subst, inl, inr, arith}
use Rattle.std.specs.Prelude.{slice_index, ◌≢◌}
use Rattle.std.specs.List.{Contains}
use Rattle.std.proofs.lemmas.List.Elements.{Contains-append_left, Contains-append_right}
use Rattle.std.proofs.lemmas.Bool.{cases_eq, cases_lt}
use Rattle.lfs_types.specs.declared.limits.TheConstants.{FILE_BLOCKS}
use Rattle.lfs_inodes.specs.declared.inode.Inode.{Inode}
use Rattle.lfs_inodes.specs.Reading.{fields_of}
use Rattle.lfs_bmap.specs.Pieces.{IsPadded, IsPut, Touches}
use Rattle.lfs_bmap.specs.Reading.{data_block, address}
use Rattle.lfs_bmap.specs.declared.blocks.FileBlock.TheVariants.{Data}
use Rattle.lfs_bmap.specs.Blocks.{code_of, table_of, way_to}
use Rattle.lfs_bmap.specs.Tables.{tables_between}
use Rattle.lfs_bmap.specs.Ways.{codes_on, IsBlockWay}
use Rattle.lfs_bmap.proofs.HolderLemmas.{code_cases, codes_on-block, table_of-code, table_of-is}
use Rattle.lfs_bmap.proofs.TableLemmas.{codes_on-first, codes_on-long, codes_on-within, table_of-later}
use Rattle.lfs_staging.proofs.TakenLemmas.{first_code, frames_after, frames_enough, frames_part, more_codes, taken_most}
use Rattle.lfs_staging.proofs.TakenLemmas.{takes_both, takes_none, takes_part, takes_version}
use Rattle.lfs_bmap.proofs.PieceLemmas.{byte_put-after, untouched_put}
use Rattle.lfs_parts.specs.declared.parts.Parts.{Parts}
use Rattle.lfs_staging.specs.Putting.{PutsBlock, PutsBytes, TakesPut, blocks_of_put, frames_of_put}
use Rattle.lfs_staging.specs.Staging.{HasFrames, IsStaged, IsZeroPast, MayStage, StagesData, TakesFrames, TakesOnly}
use Rattle.lfs_parts.specs.View.{key_of, tree_of, version_of, record_of}
use Rattle.lfs_parts.proofs.SameLogLemmas.{version-same}
use Rattle.lfs_parts.specs.Waiting.{without}

-- What waits more are blocks of a number that have one of some codes, and the record of the number.
pub record TakesBelow (number : ℕ) (codes : List ℕ) (old new : Parts) : Type 0 where
  pub takes : TakesOnly number (version_of old number) codes old.cache new.cache
  pub records : without number new.waiting ≡ without number old.waiting

-- What falls into the blocks below one of some bytes put at `start` of a file is there, and nothing else changed.
pub record PutsBelow (v : Inode) (start : ℕ) (bytes : List ℕ) (before : ℕ) (old new : Parts) : Type 0 where
  pub log : new.log ≡ old.log
  pub records : (n : ℕ) → record_of new n ≡ record_of old n
  pub put : (m : ℕ) → m < before → IsPut m start bytes (data_block (tree_of old v.number) m)
      (data_block (tree_of new v.number) m)
  pub rest : (m : ℕ) → before ≤ m → data_block (tree_of new v.number) m ≡ data_block (tree_of old v.number) m
  pub others : (n m : ℕ) → n ≢ v.number → data_block (tree_of new n) m ≡ data_block (tree_of old n) m
  pub addresses : (n : ℕ) (way : List ℕ) → IsBlockWay way → address (tree_of new n) way ≡ address (tree_of old n) way
  pub again : MayStage new v
  pub kept : (spare : ℕ) → IsStaged old spare → IsStaged new spare

-- a data block is zero past the size, and so it is with bytes put below it
pub put_zeros : (blocks : ℕ → List ℕ) (index start size : ℕ) (bytes old new : List ℕ) → IsPadded blocks size → old
    ≡ blocks index → IsPut index start bytes old new
    → start + length bytes ≤ size → IsZeroPast size index new
put_zeros blocks index start size bytes old new padded is put fits k low past =
    let block : (512 * index + k) / 512 ≡ index = omega arith in
    let place : (512 * index + k) % 512 ≡ k = omega arith in
    put.each k low ∙ byte_put-after bytes start (512 * index + k) (slice_index old k) (omega arith)
    ∙ ap (λ b. slice_index b k) is ∙ ap (λ n. slice_index (blocks n) k) (sym block)
    ∙ ap (λ n. slice_index (blocks ((512 * index + k) / 512)) n) (sym place)
    ∙ padded.zeros (512 * index + k) past

-- one block
pub put_one : (old new : Parts) (v : Inode) (index start : ℕ) (bytes before after : List ℕ)
    → StagesData v.number index after old new
    → before ≡ data_block (tree_of old v.number) index → IsPut index start bytes before after → MayStage new v
    → ((spare : ℕ) → IsStaged old spare → IsStaged new spare) → PutsBlock v index start bytes old new
put_one old new v index start bytes before after h is put again kept = record {
  log = h.log;
  records = h.records;
  put = subst (λ b. IsPut index start bytes b (data_block (tree_of new v.number) index)) is
      (subst (IsPut index start bytes before) (sym h.here) put);
  rest = λ m other. h.others v.number m (inr other);
  others = λ n m other. h.others n m (inl other);
  addresses = h.addresses;
  again = again;
  kept = kept;
  takes = h.takes;
}

-- none yet
pub put_none : (p : Parts) (v : Inode) (start : ℕ) (bytes : List ℕ) (first : ℕ) → MayStage p v
    → ((n : ℕ) → Touches start (start + length bytes) n → first ≤ n)
    → PutsBelow v start bytes first p p
put_none p v start bytes first may from =
    let padded = (may.files.files v.number (fields_of v) may.here).padded in
    record {
      log = refl;
      records = λ n. refl;
      put = λ m low. untouched_put m start bytes (data_block (tree_of p v.number) m) (padded.whole m)
          (λ touched. let past = from m touched in omega arith);
      rest = λ m high. refl;
      others = λ n m other. refl;
      addresses = λ n way known. refl;
      again = may;
      kept = λ spare staged. staged;
    }

-- one more
pub put_more : (a b c : Parts) (v : Inode) (start : ℕ) (bytes : List ℕ) (index : ℕ) → PutsBelow v start bytes index a b
    → PutsBlock v index start bytes b c
    → PutsBelow v start bytes (index + 1) a c
put_more a b c v start bytes index p q = record {
  log = q.log ∙ p.log;
  records = λ n. q.records n ∙ p.records n;
  put = λ m low. elim (cases_eq m index) [
    | inl is ↦
        subst (λ k. IsPut k start bytes (data_block (tree_of a v.number) k) (data_block (tree_of c v.number) k))
        (sym is)
        (subst (λ b. IsPut index start bytes b (data_block (tree_of c v.number) index))
        (p.rest index (omega arith)) q.put)
    | inr other ↦ subst (IsPut m start bytes (data_block (tree_of a v.number) m)) (sym (q.rest m other))
        (p.put m (omega arith))
  ];
  rest = λ m high. q.rest m (λ e. omega arith) ∙ p.rest m (omega arith);
  others = λ n m other. q.others n m other ∙ p.others n m other;
  addresses = λ n way known. q.addresses n way known ∙ p.addresses n way known;
  again = q.again;
  kept = λ spare staged. q.kept spare (p.kept spare staged);
}

-- ---- the frames that wait
-- so many codes from one on
unfoldable run_codes : ℕ → ℕ → List ℕ
run_codes from zero = []
run_codes from (suc n) = (from + n) ∷ run_codes from n

run_codes-length : (from n : ℕ) → length (run_codes from n) ≡ n
unfolding run_codes
run_codes-length from zero = refl
run_codes-length from (suc n) = ap suc (run_codes-length from n)

run_codes-has : (from n c : ℕ) → from ≤ c → c < from + n → Contains (run_codes from n) c
unfolding run_codes
run_codes-has from zero c least low = absurd (omega arith)
run_codes-has from (suc n) c least low = elim (cases_eq c (from + n)) [
  | inl is ↦ subst (λ m. Contains ((from + n) ∷ run_codes from n) m) (sym is) (first_code (from + n) (run_codes from n))
  | inr other ↦ more_codes c (from + n) (run_codes from n) (run_codes-has from n c least (omega arith))
]

-- those of the indirect blocks that lead to data blocks from one to another
table_codes : ℕ → ℕ → List ℕ
table_codes first last =
    let from = code_of (table_of (Data first)) in
    run_codes (from + 1) (code_of (table_of (Data last)) - from) ++ codes_on (way_to (table_of (Data first)))

table_codes-length : (first last : ℕ) → length (table_codes first last) ≡ tables_between first last
unfolding table_codes
table_codes-length first last =
    let from = code_of (table_of (Data first)) in
    let long = length-append (run_codes (from + 1) (code_of (table_of (Data last)) - from))
    (codes_on (way_to (table_of (Data first)))) in
    let one = run_codes-length (from + 1) (code_of (table_of (Data last)) - from) in
    let two = codes_on-long (way_to (table_of (Data first))) in
    omega arith

table_codes-has : (first last index c : ℕ) → index < FILE_BLOCKS → first ≤ index → index ≤ last
    → Contains (codes_on (way_to (table_of (Data index)))) c → Contains (table_codes first last) c
unfolding table_codes
table_codes-has first last index c inside from to has =
    let low = code_of (table_of (Data first)) in
    let xs = run_codes (low + 1) (code_of (table_of (Data last)) - low) in
    let ys = codes_on (way_to (table_of (Data first))) in
    let most = codes_on-within (table_of (Data index)) (table_of-code (Data index) inside)
    (table_of-is (Data index) inside) c has in
    let later = table_of-later index last to in
    elim (cases_lt low c) [
      | inl past ↦ Contains-append_left xs ys c
          (run_codes-has (low + 1) (code_of (table_of (Data last)) - low) c (omega arith) (omega arith))
      | inr few ↦ Contains-append_right xs ys c (codes_on-first first index from c has few)
    ]

-- the codes of the blocks that bytes put into a file take
pub put_codes : ℕ → ℕ → List ℕ
put_codes start count = run_codes (131 + start / 512) (blocks_of_put start count)
    ++ table_codes (start / 512) ((start + count - 1) / 512)

pub put_codes-length : (start count : ℕ) → length (put_codes start count) ≡ frames_of_put start count
unfolding put_codes
put_codes-length start count =
    let long = length-append (run_codes (131 + start / 512) (blocks_of_put start count))
    (table_codes (start / 512) ((start + count - 1) / 512)) in
    let first = run_codes-length (131 + start / 512) (blocks_of_put start count) in
    let second = table_codes-length (start / 512) ((start + count - 1) / 512) in
    omega arith

put_codes-has : (start count index c : ℕ) → index < FILE_BLOCKS → start / 512 ≤ index
    → index < (start + count - 1) / 512 + 1 → 0 < count → Contains (codes_on (way_to (Data index))) c
    → Contains (put_codes start count) c
unfolding put_codes
put_codes-has start count index c inside from to some has =
    let xs = run_codes (131 + start / 512) (blocks_of_put start count) in
    let ys = table_codes (start / 512) ((start + count - 1) / 512) in
    elim (code_cases c (131 + index) (codes_on (way_to (table_of (Data index))))
    (subst (λ cs. Contains cs c) (codes_on-block (Data index) inside (λ e. omega arith)) has)) [
      | inl own ↦ Contains-append_left xs ys c
          (run_codes-has (131 + start / 512) (blocks_of_put start count) c (omega arith) (omega arith))
      | inr more ↦ Contains-append_right xs ys c
          (table_codes-has (start / 512) ((start + count - 1) / 512) index c inside from (omega arith) more)
    ]

-- none wait more yet
pub takes_first : (p : Parts) (number : ℕ) (codes : List ℕ) → TakesBelow number codes p p
takes_first p number codes = record {
  takes = takes_none number (version_of p number) codes p.cache p.cache refl;
  records = refl;
}

-- and one more block
pub takes_more : (a b c : Parts) (number start count index : ℕ) → TakesBelow number (put_codes start count) a b → b.log
    ≡ a.log → TakesFrames number (Data index) b c
    → index < FILE_BLOCKS → start / 512 ≤ index → index < (start + count - 1) / 512 + 1 → 0 < count
    → TakesBelow number (put_codes start count) a c
takes_more a b c number start count index p log q inside from to some = record {
  takes = takes_both number (version_of a number) (put_codes start count) a.cache b.cache c.cache p.takes
      (takes_version number (version_of b number) (version_of a number) (put_codes start count) b.cache c.cache
      (version-same a b number log)
      (takes_part number (version_of b number) (codes_on (way_to (Data index))) (put_codes start count) b.cache c.cache
      (λ code has. put_codes-has start count index code inside from to some has) q.takes));
  records = q.records ∙ p.records;
}

-- what bytes put into a file take, and what leads there
pub only_first : (p : Parts) (number start count : ℕ) → TakesPut number (version_of p number) start count p.cache
    p.cache
only_first p number start count = λ key locked. inr locked

pub only_more : (a b c : Parts) (number start count index : ℕ)
    → TakesPut number (version_of a number) start count a.cache b.cache → b.log ≡ a.log
    → TakesFrames number (Data index) b c → Touches start (start + count) index
    → TakesPut number (version_of a number) start count a.cache c.cache
only_more a b c number start count index p log q touched = λ key locked. elim (q.takes key locked) [
  | inl one ↦ inl (
    one.0,
    record { index = index; touched = touched; on_way = one.1 },
    one.2 ∙ ap (λ n. key_of number n one.0) (version-same a b number log),
  )
  | inr was ↦ p key was
]

-- there are frames for one more where there are for all
pub takes_room : (old p : Parts) (number start count index : ℕ) → index < FILE_BLOCKS → start / 512 ≤ index
    → index < (start + count - 1) / 512 + 1 → 0 < count
    → length old.cache.locked + frames_of_put start count ≤ 24 → p.log ≡ old.log
    → TakesBelow number (put_codes start count) old p → HasFrames p number (codes_on (way_to (Data index)))
takes_room old p number start count index inside from to some room log takes =
    let many = put_codes-length start count in
    frames_part p number (codes_on (way_to (Data index))) (put_codes start count)
    (λ code has. put_codes-has start count index code inside from to some has)
    (frames_after old p number (put_codes start count) (version-same old p number log) takes.takes
    (frames_enough old number (put_codes start count) (omega arith)))

-- all
pub put_all : (old new : Parts) (v : Inode) (start : ℕ) (bytes : List ℕ) (end : ℕ) → MayStage old v
    → PutsBelow v start bytes end old new
    → ((n : ℕ) → Touches start (start + length bytes) n → n < end)
    → TakesBelow v.number (put_codes start (length bytes)) old new
    → TakesPut v.number (version_of old v.number) start (length bytes) old.cache new.cache
    → PutsBytes v start bytes old new
put_all old new v start bytes end may h last takes only =
    let padded = (may.files.files v.number (fields_of v) may.here).padded in
    record {
      log = h.log;
      records = h.records;
      put = λ m. elim (cases_lt m end) [
        | inl low ↦ h.put m low
        | inr high ↦
            subst (IsPut m start bytes (data_block (tree_of old v.number) m)) (sym (h.rest m high))
            (untouched_put m start bytes (data_block (tree_of old v.number) m) (padded.whole m)
            (λ touched. let past = last m touched in omega arith))
      ];
      others = h.others;
      addresses = h.addresses;
      again = h.again;
      kept = h.kept;
      frames =
          let many = put_codes-length start (length bytes) in
          let most = taken_most v.number (version_of old v.number)
          (put_codes start (length bytes)) old.cache new.cache h.again.files.cache takes.takes in
          omega arith;
      only = only;
      waiting = takes.records;
    }
