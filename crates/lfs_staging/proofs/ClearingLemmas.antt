-- Data blocks of a file are given back one after another: `clears_none`, `may_clear` and `clears_more`, for
-- `clear_blocks`; DroppingLemmas and EmptiedLemmas use besides that two steps that keep the rest keep it
-- together (`rest_trans`). A step takes one address and one frame away, so what is gone stays gone (`gone_still`), and
-- what lies past the size was gone from the start (`past_gone`). The holders of the data blocks wait all the while, as
-- none of them is a data block.
use Rattle.std.proofs.Common.{◌≡◌, ℕ, ◌+◌, ◌<◌, ◌≤◌, List, ◌∷◌, Option, None, Some, IsSome, true, refl, sym, ap, ◌∙◌}
use Rattle.std.proofs.Common.{subst, inl, inr, arith}
use Rattle.std.proofs.lemmas.Bool.{cases_eq, cases_lt, cond-true}
use Rattle.std.proofs.lemmas.Option.{same_Some}
use Rattle.lfs_types.specs.declared.limits.TheConstants.{FILE_BLOCKS}
use Rattle.lfs_types.specs.Blocks.{zero_block}
use Rattle.lfs_ifile.specs.declared.inode.InodeRow.{InodeRow}
use Rattle.lfs_ifile.specs.Tables.{row_at, row_of}
use Rattle.lfs_inodes.specs.declared.inode.Inode.{Inode}
use Rattle.lfs_inodes.specs.Attributes.{Attributes}
use Rattle.lfs_inodes.specs.Facts.{block_count}
use Rattle.lfs_inodes.specs.Reading.{Fields, fields_of}
use Rattle.lfs_cache.specs.Contents.{IsLocked}
use Rattle.lfs_bmap.specs.declared.blocks.FileBlock.{FileBlock}
use Rattle.lfs_bmap.specs.declared.blocks.FileBlock.TheVariants.{Data}
use Rattle.lfs_bmap.specs.Blocks.{IsFileBlock, code_of, first_under, table_of, way_to}
use Rattle.lfs_bmap.specs.Reading.{bytes_via, data_block, read}
use Rattle.lfs_bmap.specs.Ways.{IsWay, code_at, data_way}
use Rattle.lfs_bmap.proofs.BlockLemmas.{same_block}
use Rattle.lfs_bmap.proofs.HolderLemmas.{table_of-code, table_of-is, table_of-way}
use Rattle.lfs_bmap.proofs.PlaceLemmas.{data_block-past, data_block-read}
use Rattle.lfs_bmap.proofs.ReadingLemmas.{read-via, via-none}
use Rattle.lfs_bmap.proofs.WayLemmas.{no_way_through, same_code, way_of-code_of, way_of-data}
use Rattle.lfs_parts.specs.declared.parts.Parts.{Parts}
use Rattle.lfs_staging.specs.Addressing.{IsWaiting}
use Rattle.lfs_staging.specs.Cutting.{ClearsBlock, ClearsBlocks, IsGone, KeepsRest, MayClear, MayClearBetween}
use Rattle.lfs_staging.specs.Staging.{IsStaged}
use Rattle.lfs_parts.specs.Store.{HolderWaits}
use Rattle.lfs_parts.specs.View.{key_of, record_of, tree_of, version_of, waiting_in}
use Rattle.lfs_parts.proofs.FrameLemmas.{waiting_number}
use Rattle.lfs_staging.proofs.HolderLemmas.{block_gone, gone_free, holder_at, holder_code}
use Rattle.lfs_parts.proofs.SameLogLemmas.{block_known}
use Rattle.lfs_staging.proofs.StagedLemmas.{stays-refl, stays-trans}
use Rattle.lfs_staging.proofs.TableLemmas.{apart_code}
use Rattle.lfs_parts.proofs.ViewLemmas.{not_locked, record_of-waiting}

-- ---- what waits of a number
pub is_waiting : (p : Parts) (number : ℕ) (v : Inode) → waiting_in p.waiting number ≡ Some v
    → (row_of p.log.tables number).used ≡ true
    → ((f : Fields) → record_of p number ≡ Some f → f.attributes.version ≡ version_of p number) → IsWaiting p v
is_waiting p number v waits used own =
    let same = waiting_number p.waiting number v waits in
    let has : record_of p number ≡ Some (fields_of v) = record_of-waiting p number _ v (cond-true _ _ _ used) waits in
    record {
      waits = ap (waiting_in p.waiting) same ∙ waits;
      in_use = ap (λ n. (row_of p.log.tables n).used) same ∙ used;
      at_version = own (fields_of v) has ∙ ap (version_of p) (sym same);
    }

-- ---- what is kept is kept twice
pub rest_trans : (number : ℕ) (a b c : Parts) → KeepsRest number a b → KeepsRest number b c → KeepsRest number a c
rest_trans number a b c p q = record {
  log = stays-trans a b c p.log q.log;
  rows = q.rows ∙ p.rows;
  others = λ n other. q.others n other ∙ p.others n other;
  attributes = λ f is. let at = p.attributes f is in q.attributes _ at.there;
  waits = q.waits;
  other_records = λ n other. q.other_records n other ∙ p.other_records n other;
  many = let first = p.many in let second = q.many in omega arith;
}

pub rest_refl : (number : ℕ) (p : Parts) → IsSome (waiting_in p.waiting number) → KeepsRest number p p
rest_refl number p waits = record {
  log = stays-refl p;
  rows = refl;
  others = λ n other. refl;
  attributes = λ f is. record { addresses = f.addresses; there = is };
  waits = waits;
  other_records = λ n other. refl;
  many = omega arith;
}

pub rest_version : (number : ℕ) (a b : Parts) → KeepsRest number a b → (n : ℕ) → version_of b n ≡ version_of a n
rest_version number a b h n = ap (λ (rs : List InodeRow). (row_at rs n).version) h.rows

-- the attributes that the record had
pub rest_attributes : (number : ℕ) (a b : Parts) → KeepsRest number a b → (f g : Fields) → record_of a number ≡ Some f
    → record_of b number ≡ Some g → g.attributes ≡ f.attributes
rest_attributes number a b h f g was is =
    let at = h.attributes f was in
    sym (ap (λ (x : Fields). x.attributes) (same_Some _ g (sym at.there ∙ is)))

pub rest_used : (number : ℕ) (a b : Parts) → KeepsRest number a b → (row_of a.log.tables number).used ≡ true
    → (row_of b.log.tables number).used ≡ true
rest_used number a b h used = ap (λ (rs : List InodeRow). (row_at rs number).used) h.rows ∙ used

pub some_fields : (o : Option Fields) → IsSome o → (f : Fields) × (o ≡ Some f)
some_fields None there = absurd (cc)
some_fields (Some f) there = (f, refl)

-- the record has as many data blocks as it had
pub rest_count : (number blocks : ℕ) (a b : Parts) → IsStaged a 0 → (row_of a.log.tables number).used ≡ true
    → KeepsRest number a b
    → ((f : Fields) → record_of a number ≡ Some f → blocks ≡ block_count f.attributes.size) → (g : Fields)
    → record_of b number ≡ Some g → blocks ≡ block_count g.attributes.size
rest_count number blocks a b staged used h all g is =
    let was = some_fields (record_of a number) (staged.whole.recorded number used) in
    all was.0 was.1 ∙ ap (λ (x : Attributes). block_count x.size) (sym (rest_attributes number a b h was.0 g was.1 is))

-- ---- what is gone
-- a block past the size has no address, and doesn't wait
pub past_gone : (p : Parts) (number blocks : ℕ) → IsStaged p 0 → (row_of p.log.tables number).used ≡ true
    → ((f : Fields) → record_of p number ≡ Some f → blocks ≡ block_count f.attributes.size) → (block : FileBlock)
    → IsFileBlock block → blocks ≤ first_under block
    → IsGone p number (way_to block)
past_gone p number blocks staged used all block is past =
    let here = some_fields (record_of p number) (staged.whole.recorded number used) in
    let count = all here.0 here.1 in
    block_gone p number block ((staged.whole.files number here.0 here.1).none_past block is (omega arith))
    (λ locked. let inside = staged.within number block here.0 here.1 is locked in omega arith)

-- so one that isn't gone lies within it
pub there_within : (p : Parts) (number blocks : ℕ) → IsStaged p 0 → (row_of p.log.tables number).used ≡ true
    → ((f : Fields) → record_of p number ≡ Some f → blocks ≡ block_count f.attributes.size) → (block : FileBlock)
    → IsFileBlock block → (IsGone p number (way_to block) → ⊥)
    → first_under block < blocks
there_within p number blocks staged used all block is there = elim (cases_lt (first_under block) blocks) [
  | inl inside ↦ inside
  | inr past ↦ absurd (there (past_gone p number blocks staged used all block is past))
]

-- a block that was given back is gone
pub cleared_gone : (b c : Parts) (number : ℕ) (block : FileBlock) → ClearsBlock number block b c
    → IsGone c number (way_to block)
cleared_gone b c number block q =
    block_gone c number block q.nowhere
    (λ locked. q.free (subst (λ n. IsLocked (key_of number n (code_of block)) c.cache)
    (rest_version number b c q.rest number) locked))

-- and others stay so
pub gone_still : (b c : Parts) (number : ℕ) (block t : FileBlock) → ClearsBlock number block b c → IsFileBlock block
    → IsFileBlock t → IsGone b number (way_to t) → IsGone c number (way_to t)
gone_still b c number block t q can is was = elim (cases_eq (code_of t) (code_of block)) [
  | inl same ↦ subst (λ x. IsGone c number (way_to x)) (same_block block t can is (sym same))
      (cleared_gone b c number block q)
  | inr other ↦ block_gone c number t
      (q.addresses (way_to t) (block_known t is)
      (λ e. other (same_code (code_of t) (code_of block) (way_of-code_of t is ∙ e
      ∙ sym (way_of-code_of block can)))) ∙ was.nowhere)
      (λ locked. gone_free b number t was (subst (λ n. IsLocked (key_of number n (code_of t)) b.cache)
      (rest_version number b c q.rest number) (q.only _ locked)))
]

-- a data block that is gone reads as zeros
pub gone_zeros : (p : Parts) (number index : ℕ) → IsGone p number (data_way index) → data_block (tree_of p number) index
    ≡ zero_block
gone_zeros p number index gone =
    let tree = tree_of p number in
    elim (cases_lt index FILE_BLOCKS) [
      | inl low ↦
          data_block-read tree index low ∙ ap (read tree) (way_of-data index) ∙ read-via tree (data_way index)
          ∙ ap (bytes_via tree (data_way index)) gone.nowhere
          ∙ via-none tree (data_way index) (not_locked
          (key_of number (version_of p number) (code_at (data_way index))) p.cache gone.free)
      | inr past ↦ data_block-past tree index past
    ]

-- ---- data blocks
pub clears_none : (p : Parts) (number first end : ℕ) → MayClearBetween p number first end
    → ClearsBlocks number first first p p
clears_none p number first end may = record {
  staged = may.staged;
  rest = rest_refl number p may.waits;
  only = λ key locked. locked;
  gone = λ index from low. absurd (omega arith);
  still = λ block is gone. gone;
  tables = λ code low locked. locked;
  data_same = λ n index apart. refl;
}

pub may_clear : (a b : Parts) (number first index end : ℕ) → MayClearBetween a number first end
    → ClearsBlocks number first index a b → first ≤ index → index < end
    → MayClear b number (Data index)
may_clear a b number first index end may h from low =
    let bounded = may.bounded in
    let version = rest_version number a b h.rest number in
    record {
      staged = h.staged;
      in_use = rest_used number a b h.rest may.in_use;
      waits = h.rest.waits;
      can = omega arith;
      other = λ e. omega arith;
      within = λ g is.
          let was = some_fields (record_of a number) (may.staged.whole.recorded number may.in_use) in
          let same = rest_attributes number a b h.rest was.0 g was.1 is in
          let inside = may.within was.0 was.1 in
          subst (λ (x : Attributes). index < block_count x.size) (sym same) (omega arith);
      parent = λ i up way.
          let t = table_of (Data index) in
          subst (HolderWaits b.cache number (version_of b number)) (table_of-way (Data index) (omega arith) i up way)
          (holder_at b.cache number (version_of b number) t (table_of-is (Data index) (omega arith)) (λ some.
          subst (λ n. IsLocked (key_of number n (code_of t)) b.cache) (sym version)
          (h.tables (code_of t) (table_of-code (Data index) (omega arith))
          (holder_code a.cache number (version_of a number) t some (may.holders index from low)))));
      beneath = λ j known. absurd (no_way_through (131 + index) j (omega arith)
          (subst (λ w. IsWay (j ∷ w)) (sym (way_of-data index)) known.leads));
    }

pub clears_more : (a b c : Parts) (number first index : ℕ) → first ≤ index → index < FILE_BLOCKS
    → ClearsBlocks number first index a b → ClearsBlock number (Data index) b c
    → ClearsBlocks number first (index + 1) a c
clears_more a b c number first index from low p q = record {
  staged = q.staged;
  rest = rest_trans number a b c p.rest q.rest;
  only = λ key locked. p.only key (q.only key locked);
  gone = λ k start end. elim (cases_eq k index) [
    | inl is ↦ subst (λ m. IsGone c number (data_way m)) (sym is) (cleared_gone b c number (Data index) q)
    | inr other ↦ gone_still b c number (Data index) (Data k) q low (omega arith) (p.gone k start (omega arith))
  ];
  still = λ block is gone. gone_still b c number (Data index) block q low is (p.still block is gone);
  tables = λ code few locked.
      q.kept _ (apart_code number number (version_of b number) (version_of a number) (131 + index) code
      (λ e. omega arith)) (p.tables code few locked);
  data_same = λ n k apart. q.data_same n k (elim apart [
    | inl other ↦ inl other
    | inr out ↦ inr (λ e. elim out [ inl before ↦ omega arith | inr past ↦ omega arith ])
  ]) ∙ p.data_same n k (elim apart [
    | inl other ↦ inl other
    | inr out ↦ inr (elim out [ inl before ↦ inl before | inr past ↦ inr (omega arith) ])
  ]);
}
