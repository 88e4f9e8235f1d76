-- `cut` in four steps, the record staged, the last block zeroed, the blocks past it dropped and the size set, is
-- one cut of the file: `may_drop_all`, `may_shorten`, `cut_file`. Each data block is cut: below the last one by
-- `below_cut`, the last by its zeros, and those past it because a block that is gone reads as zeros (`gone_zeros`). The
-- four free frames that it asks for are those of `cut_codes`; one more for the record's holder would break `own_room`.
use Rattle.std.proofs.Common.{◌≡◌, ℕ, ◌+◌, ◌-◌, ◌/◌, ◌<◌, ◌≤◌, List, length, Some, refl, sym, ap, ◌∙◌, subst, inl, inr}
use Rattle.std.proofs.Common.{arith}
use Rattle.std.specs.List.{Contains}
use Rattle.std.proofs.lemmas.Bool.{cases_lt}
use Rattle.std.proofs.lemmas.Option.{same_Some}
use Rattle.lfs_types.specs.declared.limits.TheConstants.{FILE_BLOCKS}
use Rattle.lfs_types.specs.Blocks.{zero_block}
use Rattle.lfs_ifile.specs.declared.inode.InodeRow.{InodeRow}
use Rattle.lfs_ifile.specs.Tables.{row_at, row_of}
use Rattle.lfs_inodes.specs.declared.inode.Inode.{Inode}
use Rattle.lfs_inodes.specs.Attributes.{Attributes, attributes}
use Rattle.lfs_inodes.specs.Facts.{IsSizeOf, block_count}
use Rattle.lfs_inodes.specs.Reading.{Fields, fields_of}
use Rattle.lfs_cache.specs.Contents.{Contents}
use Rattle.lfs_cache.specs.declared.cache.TheConstants.{LOCKED_LIMIT}
use Rattle.lfs_log.specs.Parts.{LogParts}
use Rattle.lfs_bmap.specs.declared.blocks.FileBlock.TheVariants.{Data, Record}
use Rattle.lfs_bmap.specs.Blocks.{code_of, way_to}
use Rattle.lfs_bmap.specs.Pieces.{IsBlockCut, IsPadded}
use Rattle.lfs_bmap.specs.Reading.{data_block}
use Rattle.lfs_bmap.specs.Ways.{codes_on, data_way}
use Rattle.lfs_bmap.proofs.HolderLemmas.{codes_on-most, codes_on-record, table_of-code}
use Rattle.lfs_bmap.proofs.PieceLemmas.{cut_padded, past_cut, zero_block-at}
use Rattle.lfs_bmap.proofs.PlaceLemmas.{data_block-past, data_block-same}
use Rattle.lfs_bmap.proofs.TableLemmas.{codes_on-table_few}
use Rattle.lfs_parts.specs.declared.parts.Parts.{Parts}
use Rattle.lfs_staging.specs.Changing.{StaysInLog, frames_of_length, length_codes}
use Rattle.lfs_staging.specs.Cutting.{CutsFile, CutsLast, DropsBlocks, MayDropAll, MayShorten, Shortens, cut_codes}
use Rattle.lfs_staging.specs.Cutting.{last_table}
use Rattle.lfs_staging.specs.Staging.{HasFrames, IsStaged, MayStage, StagesOwnRecord, TakesOnly}
use Rattle.lfs_parts.specs.View.{record_of, tree_of, version_of}
use Rattle.lfs_parts.specs.Waiting.{KeepsOtherRecords}
use Rattle.lfs_staging.proofs.ClearingLemmas.{gone_zeros, rest_attributes}
use Rattle.lfs_staging.proofs.CutLemmas.{length_codes-cut, length_codes-length, length_codes-table}
use Rattle.lfs_staging.proofs.GrowthLemmas.{one_record}
use Rattle.lfs_staging.proofs.KeptLemmas.{parents_own}
use Rattle.lfs_staging.proofs.StagedLemmas.{may_again, parents_staged, stays-trans, stays_files, stays_same}
use Rattle.lfs_parts.proofs.SameLogLemmas.{version-same}
use Rattle.lfs_staging.proofs.TakenLemmas.{frames_after, frames_enough, taken_most, takes_both, takes_none, takes_part}
use Rattle.lfs_staging.proofs.TakenLemmas.{takes_version}
use Rattle.lfs_parts.proofs.WaitingLemmas.{others_both, others_kept}
use Rattle.lfs_segments.proofs.MemoryLemmas.{length-zero_block}

-- ---- the record waits
module _ (a b : Parts) (v : Inode) (may : MayStage a v) (own : StagesOwnRecord v.number a b) where
  pub own_again : MayStage b v
  own_again = may_again a b v may own.same own.files own.parents own.room

  pub own_kept : IsStaged a 0 → IsStaged b 0
  own_kept staged = parents_staged a b v Record may (parents_own a b v.number Record own refl) 0 staged
      (λ x is has. absurd (codes_on-record (code_of x) has))

  -- there are frames for the last block of a length
  pub own_room : (index : ℕ) → index < FILE_BLOCKS → length a.cache.locked + 4 ≤ LOCKED_LIMIT
      → HasFrames b v.number (codes_on (data_way index))
  own_room index low room =
      let codes = codes_on (way_to (Data index)) in
      frames_after a b v.number codes (version-same a b v.number own.same.log)
      (takes_none v.number (version_of a v.number) codes a.cache b.cache own.cache)
      (frames_enough a v.number codes (omega (arith, codes_on-most (Data index) low (λ e. omega arith))))

-- the number of the last data block that a length leaves
pub last_index : (v : Inode) (p : Parts) (len : ℕ) → MayStage p v → len < v.size → len / 512 < FILE_BLOCKS
last_index v p len may less = let most = (may.files.files v.number (fields_of v) may.here).formed.sized.0 in omega arith

module _ (a b c : Parts) (v : Inode) (len left blocks : ℕ) (may : MayStage a v) (less : len < v.size) (left_is : left
    ≡ block_count len) (blocks_is : blocks ≡ block_count v.size)
    (own : StagesOwnRecord v.number a b) (last : CutsLast v.number len b c) where
  log_same : c.log ≡ a.log
  log_same = last.log ∙ own.same.log

  records : (n : ℕ) → record_of c n ≡ record_of a n
  records n = last.records n ∙ own.same.records n

  record_there : record_of c v.number ≡ Some (fields_of v)
  record_there = records v.number ∙ may.here

  -- what waits more is what the length has wait
  takes : TakesOnly v.number (version_of a v.number) (length_codes len) a.cache c.cache
  takes =
      subst (λ (s : Contents). TakesOnly v.number (version_of a v.number) (length_codes len) s c.cache) own.cache
      (takes_version v.number (version_of b v.number) (version_of a v.number) (length_codes len) b.cache c.cache
      (version-same a b v.number own.same.log) last.takes)

  pub may_drop_all : length a.cache.locked + 4 ≤ LOCKED_LIMIT → MayDropAll c v.number left blocks
  may_drop_all room = record {
    staged = last.staged;
    in_use = ap (λ (l : LogParts). (row_of l.tables v.number).used) log_same ∙ may.in_use;
    waits = last.waits own.waits;
    ordered = omega arith;
    some = omega arith;
    bounded = let most = (may.files.files v.number (fields_of v) may.here).formed.sized.0 in omega arith;
    all = λ f has. let same = same_Some (fields_of v) f (sym record_there ∙ has) in
        subst (λ (x : Fields). blocks ≡ block_count x.attributes.size) same blocks_is;
    frames = λ t is behind within.
        let most = (may.files.files v.number (fields_of v) may.here).formed.sized.0 in
        let last = table_of-code (Data (blocks - 1)) (omega arith) in
        let holds : code_of t < 131 = omega arith in
        let few = codes_on-table_few t holds in
        frames_after a c v.number (cut_codes left t) (version-same a c v.number log_same)
        (takes_part v.number (version_of a v.number) (length_codes len) (cut_codes left t) a.cache c.cache
        (subst (λ n. (x : ℕ) → Contains (length_codes len) x → Contains (cut_codes n t) x) (sym left_is)
        (length_codes-cut len t holds (subst (λ n. code_of (last_table n) ≤ code_of t) left_is behind))) takes)
        (frames_enough a v.number (cut_codes left t) (omega arith));
  }

  module _ (d : Parts) (staged : IsStaged a 0) (sized : IsSizeOf v.kind len)
      (drops : DropsBlocks v.number left c d) where
    rows : d.log.tables.rows ≡ a.log.tables.rows
    rows = drops.rest.rows ∙ ap (λ (l : LogParts). l.tables.rows) log_same

    old_padded : IsPadded (data_block (tree_of a v.number)) v.size
    old_padded = (may.files.files v.number (fields_of v) may.here).padded

    first_same : (n m : ℕ) → data_block (tree_of b n) m ≡ data_block (tree_of a n) m
    first_same n m = data_block-same (tree_of a n) (tree_of b n) (own.same.readings n) m

    -- no block is left past the length
    zeros : (m : ℕ) → left ≤ m → data_block (tree_of d v.number) m ≡ zero_block
    zeros m from = elim (cases_lt m FILE_BLOCKS) [
      | inl low ↦ gone_zeros d v.number m (drops.gone (Data m) low (λ e. omega arith) from)
      | inr past ↦ data_block-past (tree_of d v.number) m past
    ]

    -- each block of the file is cut
    cut_all : (m : ℕ) → IsBlockCut m len (data_block (tree_of a v.number) m) (data_block (tree_of d v.number) m)
    cut_all m =
        elim (cases_lt m left) [
          | inl low ↦
              subst (λ x. IsBlockCut m len x (data_block (tree_of d v.number) m)) (first_same v.number m)
              (subst (IsBlockCut m len (data_block (tree_of b v.number) m)) (sym (drops.data_same v.number m (inr low)))
              (last.cut m (omega arith)))
          | inr from ↦
              subst (IsBlockCut m len (data_block (tree_of a v.number) m)) (sym (zeros m from))
              (past_cut m len (data_block (tree_of a v.number) m) zero_block length-zero_block
              (λ k low. zero_block-at k) (omega arith))
        ]

    same_attributes : (f : Fields) → record_of d v.number ≡ Some f → f.attributes ≡ attributes v
    same_attributes f is = rest_attributes v.number c d drops.rest (fields_of v) f record_there is

    pub may_shorten : MayShorten d v.number len
    may_shorten = record {
      staged = drops.staged;
      in_use = ap (λ (rs : List InodeRow). (row_at rs v.number).used) rows ∙ may.in_use;
      waits = drops.rest.waits;
      sized = λ f is. subst (λ (x : Attributes). IsSizeOf x.kind len) (sym (same_attributes f is)) sized;
      less = λ f is. subst (λ (x : Attributes). len ≤ x.size) (sym (same_attributes f is)) (omega arith);
      gone = λ block is other past. drops.gone block is other (omega arith);
      padded = cut_padded (data_block (tree_of a v.number))
          (data_block (tree_of d v.number)) v.size len old_padded cut_all;
    }

    takes_all : TakesOnly v.number (version_of a v.number) (length_codes len) a.cache d.cache
    takes_all =
        let version = version-same a c v.number log_same in
        let kept = subst (λ n. (x : ℕ) → Contains (codes_on (way_to (last_table n))) x → Contains (length_codes len) x)
        (sym left_is) (length_codes-table len) in
        let second = takes_version v.number (version_of c v.number) (version_of a v.number)
        (length_codes len) c.cache d.cache version
        (takes_part v.number (version_of c v.number) (codes_on (way_to (last_table left)))
        (length_codes len) c.cache d.cache kept drops.takes) in
        takes_both v.number (version_of a v.number) (length_codes len) a.cache c.cache d.cache takes second

    frames : length d.cache.locked ≤ length a.cache.locked + frames_of_length len
    frames =
        let most = taken_most v.number (version_of a v.number)
        (length_codes len) a.cache d.cache drops.staged.whole.cache takes_all in
        let many = length_codes-length len in
        omega arith

    waiting : length d.waiting ≤ length a.waiting + 1
    waiting = let one = one_record a c v.number (last.waiting ∙ own.room) in let fewer = drops.rest.many in omega arith

    other_records : KeepsOtherRecords v.number a.waiting d.waiting
    other_records = others_both v.number a.waiting c.waiting d.waiting
        (others_kept v.number a.waiting c.waiting (last.waiting ∙ own.room)) drops.rest.other_records

    log_stays : StaysInLog a d
    log_stays =
        stays-trans a c d
        (stays_same a c log_same (λ n way known. last.addresses n way known
        ∙ (own.same.readings n).addresses way known))
        drops.rest.log

    pub cut_file : (e : Parts) → Shortens v.number len d e → CutsFile v.number len a e
    cut_file e short = record {
      staged = short.staged;
      log = stays-trans a d e log_stays (stays_files d e short.log short.blocks);
      rows = ap (λ (l : LogParts). l.tables.rows) short.log ∙ rows;
      here = λ f is.
          let at = drops.rest.attributes f (records v.number ∙ is) in
          short.here _ at.there;
      others = λ n other. short.others n other ∙ drops.rest.others n other ∙ records n;
      cut = λ m. subst (λ t. IsBlockCut m len (data_block (tree_of a v.number) m) (data_block t m))
          (sym (short.blocks v.number)) (cut_all m);
      data_same = λ n m other.
          ap (λ t. data_block t m) (short.blocks n) ∙ drops.data_same n m (inl other) ∙ last.others n m (inl other)
          ∙ first_same n m;
      frames = let same : length e.cache.locked
          ≡ length d.cache.locked = ap (λ (s : Contents). length s.locked) short.cache in let most = frames in
          omega arith;
      takes = subst (TakesOnly v.number (version_of a v.number) (length_codes len) a.cache) (sym short.cache) takes_all;
      other_records = others_both v.number a.waiting d.waiting e.waiting other_records short.other_records;
      waiting = let fewer = short.waiting in let most = waiting in omega arith;
      waits = short.waits;
    }
