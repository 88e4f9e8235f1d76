-- What waits fits with changes what the active segment has left (`staged_fits`), and nothing is written as they are made
-- (`made_stays`): their frames and records were reckoned, never too few (`frames_most`, `peak_most`).
use Rattle.std.proofs.Common.{◌≡◌, ◌⊎◌, ℕ, zero, suc, ◌+◌, ◌-◌, ◌/◌, ◌%◌, ◌<◌, ◌≤◌, List, [], ◌∷◌, All, length}
use Rattle.std.proofs.Common.{inl, inr, sym, ap, ◌∙◌, subst, arith}
use Rattle.std.specs.Prelude.{if◌then◌else◌, ◌==◌, ◌||◌, Bool, false, nat_lt}
use Rattle.std.proofs.lemmas.Bool.{cases_eq, cond-true, cond-false, eq-eqb, le-ltb, ne_eqb, false≢true}
use Rattle.std.proofs.lemmas.List.Sums.{sum_by-cons}
use Rattle.lfs_types.specs.declared.limits.TheConstants.{FILE_BLOCKS, FILE_BYTES}
use Rattle.lfs_types.specs.declared.store.Change.{Change}
use Rattle.lfs_types.specs.declared.store.Change.TheVariants.{Make, Remove, SetAttrs, Put, SetLength}
use Rattle.lfs_types.specs.declared.store.Reserve.{Reserve}
use Rattle.lfs_inodes.specs.declared.inode.Inode.{Inode}
use Rattle.lfs_inodes.specs.Facts.{block_count}
use Rattle.lfs_segments.specs.Memory.{room_of}
use Rattle.lfs_bmap.specs.declared.blocks.FileBlock.TheVariants.{Data}
use Rattle.lfs_bmap.specs.Blocks.{way_to}
use Rattle.lfs_bmap.proofs.HolderLemmas.{codes_on-few}
use Rattle.lfs_bmap.proofs.TableLemmas.{codes_on-long, tables_between-few}
use Rattle.lfs_cache.specs.declared.cache.TheConstants.{LOCKED_LIMIT}
use Rattle.lfs_staging.specs.Changing.{StaysInLog, frames_of, frames_of_length, length_table}
use Rattle.lfs_staging.specs.Putting.{frames_of_put}
use Rattle.lfs_parts.specs.declared.parts.Parts.{Parts}
use Rattle.lfs_parts.specs.declared.records.TheConstants.{WAITING_LIMIT}
use Rattle.lfs_parts.specs.Store.{IsFlushed}
use Rattle.lfs_segwrite.specs.Applying.{IsInReach, MakesChanges, StagesAll, blocks_for, frames_of_all, passes_limits, peak_of, peak_of_all}
use Rattle.lfs_segwrite.specs.Applying.{waiting_blocks}
use Rattle.lfs_segwrite.specs.Collecting.{inode_blocks}
use Rattle.lfs_segwrite.proofs.BoundLemmas.{blocks_more, records_most}
use Rattle.lfs_segwrite.proofs.CollectingLemmas.{entries_of-length}
use Rattle.lfs_durable_store.specs.Fitting.{Fits, FitsWith, frames_at_most, frames_of_all_at_most}

-- ---- frames
put_most : (start count : ℕ) → 0 < count → count ≤ 4096 → frames_of_put start count ≤ (count + 2558) / 512
put_most start count some few = let tables =
    tables_between-few (start / 512) ((start + count - 1) / 512) (omega arith) (omega arith) in omega arith

length_most : (len : ℕ) → len ≤ FILE_BYTES → frames_of_length len ≤ 3
length_most len low =
    let near : block_count len - 1 < FILE_BLOCKS = omega arith in
    let few = codes_on-few (Data (block_count len - 1)) near in
    let long = codes_on-long (way_to (length_table len)) in
    elim (cases_eq (len % 512) 0) [
      | inl e ↦ let is = cond-true {A = ℕ} _ 0 1 (eq-eqb (len % 512) 0 e) in omega arith
      | inr ne ↦ let is = cond-false {A = ℕ} _ 0 1 (ne_eqb (len % 512) 0 ne) in omega arith
    ]

change_frames : (change : Change) → IsInReach change → frames_of change ≤ frames_at_most change
change_frames (Make ino attrs) reach = omega arith
change_frames (Remove ino) reach = omega arith
change_frames (SetAttrs ino attrs) reach = omega arith
change_frames (Put ino off bytes) reach = let n = length bytes.now in elim (cases_eq n 0) [
  | inl e ↦
      let is = cond-true {A = ℕ} _ 0 (frames_of_put off n) (eq-eqb n 0 e) in
      omega arith
  | inr ne ↦
      let is = cond-false {A = ℕ} _ 0 (frames_of_put off n) (ne_eqb n 0 ne) in
      let to = cond-false {A = ℕ} _ 0 ((n + 2558) / 512) (ne_eqb n 0 ne) in
      let most = put_most off n (omega arith) reach.0 in
      omega arith
]
change_frames (SetLength ino len) reach = let most = length_most len reach in omega arith

change_peak : (change : Change) → IsInReach change → peak_of change ≤ frames_at_most change
change_peak (Make ino attrs) reach = omega arith
change_peak (Remove ino) reach = omega arith
change_peak (SetAttrs ino attrs) reach = omega arith
change_peak (Put ino off bytes) reach = change_frames (Put ino off bytes) reach
change_peak (SetLength ino len) reach = omega arith

first_reach : (change : Change) (changes : List Change) → All IsInReach (change ∷ changes) → IsInReach change
first_reach change changes reach = reach zero change (omega arith)

rest_reach : (change : Change) (changes : List Change) → All IsInReach (change ∷ changes) → All IsInReach changes
rest_reach change changes reach = λ k d low. reach (suc k) d (omega arith)

pub frames_most : (changes : List Change) → All IsInReach changes → frames_of_all changes ≤ frames_of_all_at_most changes
frames_most [] reach = omega arith
frames_most (change ∷ changes) reach =
    let one = change_frames change (first_reach change changes reach) in
    let rest = frames_most changes (rest_reach change changes reach) in
    let sum = sum_by-cons frames_of change changes in
    let sum_most = sum_by-cons frames_at_most change changes in
    omega arith

pub peak_most : (changes : List Change) → All IsInReach changes → peak_of_all changes ≤ frames_of_all_at_most changes
peak_most [] reach = omega arith
peak_most (change ∷ changes) reach =
    let own = first_reach change changes reach in
    let one = change_frames change own in
    let peak = change_peak change own in
    let rest = peak_most changes (rest_reach change changes reach) in
    let sum_most = sum_by-cons frames_at_most change changes in
    omega arith

-- ---- what waits behind changes
pub waiting_is : (p : Parts) → waiting_blocks p ≡ blocks_for (length p.cache.locked) (length p.waiting)
waiting_is p = ap (λ n. if n == 0 then 0 else n + 1) (entries_of-length p)

-- nothing takes no block
blocks_few : (frames records : ℕ) → blocks_for frames records ≤ frames + inode_blocks records + 1
blocks_few frames records = let n = frames + inode_blocks records in elim (cases_eq n 0) [
  | inl none ↦ let is = cond-true {A = ℕ} _ 0 (n + 1) (eq-eqb n 0 none) in omega arith
  | inr some ↦ let is = cond-false {A = ℕ} _ 0 (n + 1) (ne_eqb n 0 some) in omega arith
]

-- no more waits than may
few_wait : (changes : List Change) (p : Parts) → FitsWith changes p → All IsInReach changes → passes_limits p changes ≡ false
few_wait changes p f reach =
    let peak = peak_most changes reach in
    let frames = f.frames in
    let few : nat_lt LOCKED_LIMIT (length p.cache.locked + peak_of_all changes) ≡ false = le-ltb _ _ (omega arith) in
    ap (λ (b : Bool). b || nat_lt WAITING_LIMIT (length p.waiting + length changes)) few ∙ le-ltb _ _ f.records

pub staged_fits : (changes : List Change) (p q : Parts) → FitsWith changes p → All IsInReach changes → StagesAll changes p q
    → Fits q
staged_fits changes p q f reach staged =
    let frames = frames_most changes reach in
    let records = records_most changes in
    let more_frames = staged.frames_more in
    let more_records = staged.records_more in
    let most = blocks_few (length p.cache.locked + frames_of_all_at_most changes) (length p.waiting + length changes) in
    let blocks = blocks_more (length q.cache.locked) (length p.cache.locked + frames_of_all_at_most changes)
    (length q.waiting) (length p.waiting + length changes) (omega arith) (omega arith) in
    let is = waiting_is q in
    let left = ap room_of staged.log.memory in
    let fits = f.fits in
    omega arith

module _ (changes : List Change) (by : Reserve) (p q : Parts) (makes : MakesChanges by changes p q)
    (reach : All IsInReach changes) where
  -- nothing was written as changes were made
  pub made_stays : FitsWith changes p ⊎ IsFlushed p → StaysInLog p q
  made_stays (inl f) = makes.delayed (few_wait changes p f reach)
  made_stays (inr done) =
      let none : length p.cache.locked ≡ 0 = ap length done.no_frame in
      let no_record : length p.waiting ≡ 0 = ap (λ (vs : List Inode). length vs) done.no_record in
      makes.few none (omega arith)

  pub made_fits : FitsWith changes p → Fits q
  made_fits f = elim makes.way.either [
    | inl nothing ↦ staged_fits changes p q f reach
        (subst (λ (o : Parts). StagesAll changes o q) nothing.1 makes.stages)
    | inr wrote ↦ absurd (false≢true (sym (few_wait changes p f reach) ∙ wrote.0))
  ]
