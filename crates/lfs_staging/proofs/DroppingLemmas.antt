-- All that leads only to data blocks past a length is given back: `drop_whole`, `drops_more`, `drops_all`, for
-- `drop_table`, `drop_tables` and `drop_blocks`. It goes down by codes: `GoneDown` says that from one code on
-- all is gone, and a turn adds an indirect block and what stands in it; codes rise from holder to held
-- (`table_of-less`), so a block goes behind all whose addresses it holds. The hard case is the double block, code 2,
-- which waits until its turn (`down_codes`): that bounds the frames, and another order of codes would not.
use Rattle.std.proofs.Common.{Bool, List, [], ◌++◌, Some, IsSome, IsTrue, false, true, length, ap, arith, inl, inr}
use Rattle.std.proofs.Common.{refl, subst, sym, ℕ, ◌+◌, ◌-◌, ◌<◌, ◌∙◌, ◌∷◌, ◌≡◌, ◌≢◌, ◌≤◌, ◌↔◌, ◌⊎◌, min, max}
use Rattle.std.specs.List.{Contains}
use Rattle.std.specs.Prelude.{not, if◌then◌else◌, nat_lt}
use Rattle.std.proofs.lemmas.Bool.{cases_eq, cases_lt, cond-false, cond-true, false≢true, le-ltb, lt-ltb}
use Rattle.std.proofs.lemmas.List.Elements.{Contains-append_right}
use Rattle.lfs_types.specs.declared.limits.TheConstants.{FILE_BLOCKS}
use Rattle.lfs_ifile.specs.Tables.{row_of}
use Rattle.lfs_inodes.specs.declared.inode.Inode.{Inode}
use Rattle.lfs_inodes.specs.Facts.{block_count}
use Rattle.lfs_inodes.specs.Reading.{Fields, fields_of}
use Rattle.lfs_cache.specs.declared.key.Key.{Key}
use Rattle.lfs_cache.specs.Contents.{IsLocked}
use Rattle.lfs_log.specs.Parts.{LogParts}
use Rattle.lfs_bmap.specs.declared.blocks.FileBlock.{FileBlock}
use Rattle.lfs_bmap.specs.declared.blocks.FileBlock.TheVariants.{Record, Single, Double, Child, Data}
use Rattle.lfs_bmap.specs.Blocks.{IsFileBlock, code_of, first_under, table_of, way_to}
use Rattle.lfs_bmap.specs.Reading.{address, data_block}
use Rattle.lfs_bmap.specs.Ways.{codes_on, data_way}
use Rattle.lfs_bmap.proofs.BlockLemmas.{same_block}
use Rattle.lfs_bmap.proofs.HolderLemmas.{code_cases, codes_on-block, data_table, table_of-code, table_of-direct}
use Rattle.lfs_bmap.proofs.HolderLemmas.{table_of-is, table_of-under, table_of-way}
use Rattle.lfs_bmap.proofs.PlaceLemmas.{data_block-same}
use Rattle.lfs_bmap.proofs.TableLemmas.{codes_on-above, codes_on-two, codes_on-within, first_under-least}
use Rattle.lfs_bmap.proofs.TableLemmas.{first_under-past, table_of-later, table_of-less, under_table}
use Rattle.lfs_parts.specs.declared.parts.Parts.{Parts}
use Rattle.lfs_staging.specs.Cutting.{ClearsBlock, ClearsBlocks, DropsBlocks, DropsDown, DropsTable, GoneDown, IsGone}
use Rattle.lfs_staging.specs.Cutting.{KeepsRest, MayClear, MayClearBetween, MayClearTable, MayDrop, MayDropAll}
use Rattle.lfs_staging.specs.Cutting.{cut_codes, down_codes, last_table}
use Rattle.lfs_staging.specs.Staging.{IsStaged, MayStage, StagesTable, TakesOnly}
use Rattle.lfs_parts.specs.Store.{HolderWaits}
use Rattle.lfs_parts.specs.View.{key_of, record_of, tree_from, tree_of, version_of, waiting_in}
use Rattle.lfs_parts.proofs.FileLemmas.{tree_from-of}
use Rattle.lfs_staging.proofs.ClearingLemmas.{cleared_gone, gone_still, past_gone, rest_count, rest_refl, rest_trans}
use Rattle.lfs_staging.proofs.ClearingLemmas.{rest_used, rest_version, there_within}
use Rattle.lfs_parts.proofs.SameLogLemmas.{used_low}
use Rattle.lfs_parts.proofs.FrameLemmas.{waiting_number}
use Rattle.lfs_staging.proofs.HoleLemmas.{hole_under}
use Rattle.lfs_staging.proofs.HolderLemmas.{block_gone, gone_free, holder_at, holder_code}
use Rattle.lfs_parts.proofs.SameLogLemmas.{block_known}
use Rattle.lfs_parts.proofs.KeyLemmas.{lies_in}
use Rattle.lfs_staging.proofs.StagedLemmas.{stays_same, table_staged_still}
use Rattle.lfs_parts.proofs.SameLogLemmas.{version-same}
use Rattle.lfs_staging.proofs.CutLemmas.{last_codes-cut}
use Rattle.lfs_staging.proofs.TakenLemmas.{first_code, frames_after, frames_part, more_codes, takes_none, takes_part}
use Rattle.lfs_parts.proofs.ViewLemmas.{record_of-waiting}
use Rattle.lfs_parts.proofs.WaitingLemmas.{length-less, length-rest, others_kept}

-- ---- the record that waits
pub waiting_may : (p : Parts) (number : ℕ) (v : Inode) → IsStaged p 0 → (row_of p.log.tables number).used ≡ true
    → waiting_in p.waiting number ≡ Some v → MayStage p v
waiting_may p number v staged used waits =
    let same = waiting_number p.waiting number v waits in
    let in_use : (row_of p.log.tables v.number).used ≡ true = ap (λ n. (row_of p.log.tables n).used) same ∙ used in
    let low = used_low p v.number in_use in
    let there : waiting_in p.waiting v.number ≡ Some v = ap (waiting_in p.waiting) same ∙ waits in
    let less = length-less p.waiting v.number (subst (λ o. IsSome o) (sym there) refl) in
    let few = staged.few in
    record {
      files = staged.whole;
      parents = staged.parents;
      inside = lies_in p v.number 0 low staged.whole.parts.laid_out staged.log;
      in_range = low;
      in_use = in_use;
      here = record_of-waiting p v.number _ v (cond-true _ _ _ in_use) there;
      records = omega arith;
    }

-- ---- whether a block is gone
pub gone_test : (p : Parts) (v : Inode) (block : FileBlock) (a : ℕ) (locked : Bool) → MayStage p v → a
    ≡ address (tree_from p v) (way_to block)
    → (IsTrue locked ↔ IsLocked (key_of v.number v.version (code_of block)) p.cache) → a ≡ 0
    → (IsTrue (not locked) ↔ IsGone p v.number (way_to block))
gone_test p v block a false may is test none =
    let file = may.files.files v.number (fields_of v) may.here in
    let same = tree_from-of p v.number v may.here file in (
      λ _. block_gone p v.number block (sym (ap (λ t. address t (way_to block)) same) ∙ sym is ∙ none)
          (λ locked. false≢true (test.1 (subst (λ n. IsLocked (key_of v.number n (code_of block)) p.cache)
          (sym file.own_version) locked))),
      λ _. refl,
    )
gone_test p v block a true may is test none =
    let file = may.files.files v.number (fields_of v) may.here in (
      λ e. absurd (false≢true e),
      λ gone. absurd (gone_free p v.number block gone
          (subst (λ n. IsLocked (key_of v.number n (code_of block)) p.cache) file.own_version (test.0 refl))),
    )

pub gone_not : (p : Parts) (v : Inode) (block : FileBlock) (a : ℕ) → MayStage p v → a
    ≡ address (tree_from p v) (way_to block) → a ≢ 0
    → (IsTrue false ↔ IsGone p v.number (way_to block))
gone_not p v block a may is some =
    let file = may.files.files v.number (fields_of v) may.here in
    let same = tree_from-of p v.number v may.here file in
    (λ e. absurd (false≢true e), λ gone. absurd (some (is ∙ ap (λ t. address t (way_to block)) same ∙ gone.nowhere)))

-- ---- what is gone with one block more
-- the block itself, and the data blocks whose addresses stand in it
gone_next : (p : Parts) (number left : ℕ) (t : FileBlock) → IsFileBlock t → GoneDown p number left (code_of t + 1)
    → (left ≤ first_under t → IsGone p number (way_to t))
    → ((k : ℕ) → k < FILE_BLOCKS → table_of (Data k) ≡ t → left ≤ k → IsGone p number (data_way k))
    → GoneDown p number left (code_of t)
gone_next p number left t can down own under = record {
  tables = λ b is few from past. elim (cases_eq (code_of b) (code_of t)) [
    | inl same ↦
        let one = same_block b t is can same in
        subst (λ x. IsGone p number (way_to x)) (sym one) (own (subst (λ x. left ≤ first_under x) one past))
    | inr other ↦ down.tables b is few (omega arith) past
  ];
  blocks = λ k low from past. elim (cases_eq (code_of (table_of (Data k))) (code_of t)) [
    | inl same ↦ under k low (same_block (table_of (Data k)) t (table_of-is (Data k) low) can same) past
    | inr other ↦ down.blocks k low (omega arith) past
  ];
}

-- where they are gone, so is each block whose address stands in the block
gone_beneath : (p : Parts) (number left : ℕ) (t : FileBlock) → GoneDown p number left (code_of t + 1)
    → left ≤ first_under t
    → ((k : ℕ) → k < FILE_BLOCKS → table_of (Data k) ≡ t → left ≤ k → IsGone p number (data_way k)) → (b : FileBlock)
    → IsFileBlock b → code_of b ≢ 0 → table_of b ≡ t
    → IsGone p number (way_to b)
gone_beneath p number left t down few under Record is other held = absurd (other refl)
gone_beneath p number left t down few under Single is other held =
    let less = table_of-less Single other in let least = table_of-under Single in
    let same = ap code_of held in let first = ap first_under held in
    down.tables Single is (omega arith) (omega arith) (omega arith)
gone_beneath p number left t down few under Double is other held =
    let less = table_of-less Double other in let least = table_of-under Double in
    let same = ap code_of held in let first = ap first_under held in
    down.tables Double is (omega arith) (omega arith) (omega arith)
gone_beneath p number left t down few under (Child k) is other held =
    let less = table_of-less (Child k) other in let least = table_of-under (Child k) in
    let same = ap code_of held in let first = ap first_under held in
    down.tables (Child k) is (omega arith) (omega arith) (omega arith)
gone_beneath p number left t down few under (Data k) is other held =
    let least = table_of-under (Data k) in let first = ap first_under held in
    under k is held (omega arith)

-- ---- nothing is done
-- where each data block that the block leads to is left
pub drop_none : (a : Parts) (number left blocks : ℕ) (t : FileBlock) → MayDrop a number t left blocks
    → first_under t < left
    → ((k : ℕ) → k < FILE_BLOCKS → table_of (Data k) ≡ t → k < left) → DropsTable number t left a a
drop_none a number left blocks t may first all = record {
  staged = may.staged;
  rest = rest_refl number a may.waits;
  takes = takes_none number (version_of a number) (codes_on (way_to t)) a.cache a.cache refl;
  gone = gone_next a number left t may.can may.gone (λ few. absurd (omega arith))
      (λ k low held past. let inside = all k low held in absurd (omega arith));
  data_same = λ n k apart. refl;
}

-- and where it is a hole
pub drop_hole : (a : Parts) (number left blocks : ℕ) (t : FileBlock) → MayDrop a number t left blocks
    → IsGone a number (way_to t) → DropsTable number t left a a
drop_hole a number left blocks t may gone = record {
  staged = may.staged;
  rest = rest_refl number a may.waits;
  takes = takes_none number (version_of a number) (codes_on (way_to t)) a.cache a.cache refl;
  gone = gone_next a number left t may.can may.gone (λ few. gone)
      (λ k low held past. hole_under a number t (Data k) may.staged.parents may.other gone low (λ e. omega arith) held);
  data_same = λ n k apart. refl;
}

-- ---- the block waits, and then what it leads to goes
module _ (a b : Parts) (v : Inode) (t : FileBlock) (left blocks : ℕ) (may : MayDrop a v.number t left blocks)
    (stage : MayStage a v)
    (there : IsGone a v.number (way_to t) → ⊥) (h : StagesTable v.number t a b) where
  pub within : first_under t < blocks
  within = there_within a v.number blocks may.staged may.in_use may.all t may.can there

  pub table_rest : KeepsRest v.number a b
  table_rest = record {
    log = stays_same a b h.same.log (λ n way known. (h.same.readings n).addresses way known);
    rows = ap (λ (l : LogParts). l.tables.rows) h.same.log;
    others = λ n other. h.same.records n;
    attributes = λ f is. record { addresses = f.addresses; there = h.same.records v.number ∙ is };
    waits = h.takes.waits.record_waits;
    other_records = others_kept v.number a.waiting b.waiting h.takes.records;
    many =
        let less = length-less a.waiting v.number may.waits in
        let more = length-rest b.waiting v.number in
        let same = ap (λ (vs : List Inode). length vs) h.takes.records in
        omega arith;
  }

  pub table_kept : IsStaged b 0
  table_kept =
      let size = may.all (fields_of v) stage.here in
      let inside = within in
      table_staged_still a b v t stage may.can (omega arith) h 0 may.staged

  -- what has a greater code and was gone is so still
  still_gone : (x : FileBlock) → IsFileBlock x → code_of t < code_of x → IsGone a v.number (way_to x)
      → IsGone b v.number (way_to x)
  still_gone x is more was =
      block_gone b v.number x ((h.same.readings v.number).addresses (way_to x) (block_known x is) ∙ was.nowhere)
      (λ locked. elim (h.takes.takes (key_of v.number (version_of b v.number) (code_of x)) locked) [
        | inl one ↦
            let code : code_of x ≡ one.0 = ap (λ (k : Key). k.lbn.0) one.2 in
            let least = codes_on-within t may.holds may.can one.0 one.1 in
            absurd (omega arith)
        | inr before ↦ gone_free a v.number x was
            (subst (λ n. IsLocked (key_of v.number n (code_of x)) a.cache)
            (version-same a b v.number h.same.log) before)
      ])

  pub table_down : GoneDown b v.number left (code_of t + 1)
  table_down = record {
    tables = λ x is few from past. still_gone x is (omega arith) (may.gone.tables x is few from past);
    blocks = λ k low from past. still_gone (Data k) low (let holds = may.holds in omega arith)
        (may.gone.blocks k low from past);
  }

  few_blocks : (end : ℕ) → end ≤ blocks → end ≤ FILE_BLOCKS
  few_blocks end few =
      let size = may.all (fields_of v) stage.here in
      let most = (stage.files.files v.number (fields_of v) stage.here).formed.sized.0 in
      omega arith

  -- the data blocks whose addresses stand in it may be given back
  pub may_between : (first end : ℕ) → end ≤ blocks
      → ((k : ℕ) → k < FILE_BLOCKS → first ≤ k → k < end → table_of (Data k) ≡ t) → MayClearBetween b v.number first end
  may_between first end few held = record {
    staged = table_kept;
    in_use = rest_used v.number a b table_rest may.in_use;
    waits = table_rest.waits;
    bounded = few_blocks end few;
    within = λ f is. let count = rest_count v.number blocks a b may.staged may.in_use table_rest may.all f is in
        omega arith;
    holders = λ k from low.
        subst (λ x. HolderWaits b.cache v.number (version_of b v.number) (way_to x))
        (sym (held k (let bounded = few_blocks end few in omega arith) from low))
        (holder_at b.cache v.number (version_of b v.number) t may.can (λ some. h.takes.block_waits));
  }

  module _ (c : Parts) (first end : ℕ) (p : ClearsBlocks v.number first end b c)
      (from_left : (k : ℕ) → k < FILE_BLOCKS → table_of (Data k) ≡ t → left ≤ k → k < blocks → (first ≤ k) × (k < end))
      (not_before : left ≤ first) where
    rest_both : KeepsRest v.number a c
    rest_both = rest_trans v.number a b c table_rest p.rest

    used_there : (row_of c.log.tables v.number).used ≡ true
    used_there = rest_used v.number a c rest_both may.in_use

    count_there : (f : Fields) → record_of c v.number ≡ Some f → blocks ≡ block_count f.attributes.size
    count_there = rest_count v.number blocks a c may.staged may.in_use rest_both may.all

    cleared_down : GoneDown c v.number left (code_of t + 1)
    cleared_down = record {
      tables = λ x is few from past. p.still x is (table_down.tables x is few from past);
      blocks = λ k low from past. p.still (Data k) low (table_down.blocks k low from past);
    }

    under : (k : ℕ) → k < FILE_BLOCKS → table_of (Data k) ≡ t → left ≤ k → IsGone c v.number (data_way k)
    under k low held past = elim (cases_lt k blocks) [
      | inl inside ↦ let at = from_left k low held past inside in p.gone k at.0 at.1
      | inr out ↦ past_gone c v.number blocks p.staged used_there count_there (Data k) low out
    ]

    takes_both : TakesOnly v.number (version_of a v.number) (codes_on (way_to t)) a.cache c.cache
    takes_both = λ key locked. h.takes.takes key (p.only key locked)

    same_before : (n k : ℕ) → (n ≢ v.number) ⊎ (k < left) → data_block (tree_of c n) k ≡ data_block (tree_of a n) k
    same_before n k apart =
        p.data_same n k (elim apart [ inl other ↦ inl other | inr low ↦ inr (inl (omega arith)) ])
        ∙ data_block-same (tree_of a n) (tree_of b n) (h.same.readings n) k

    -- it leads to data blocks that are left too
    pub drop_part : first_under t < left → DropsTable v.number t left a c
    drop_part some = record {
      staged = p.staged;
      rest = rest_both;
      takes = takes_both;
      gone = gone_next c v.number left t may.can cleared_down (λ few. absurd (omega arith)) under;
      data_same = same_before;
    }

    -- or to none
    pub may_clear_table : left ≤ first_under t → MayClear c v.number t
    may_clear_table few = record {
      staged = p.staged;
      in_use = used_there;
      waits = p.rest.waits;
      can = may.can;
      other = may.other;
      within = λ f is. let count = count_there f is in let inside = within in omega arith;
      parent = λ i up way.
          let x = table_of t in
          subst (HolderWaits c.cache v.number (version_of c v.number)) (table_of-way t may.can i up way)
          (holder_at c.cache v.number (version_of c v.number) x (table_of-is t may.can) (λ some.
          let less = table_of-less t may.other in let holds = may.holds in
          subst (λ n. IsLocked (key_of v.number n (code_of x)) c.cache)
          (sym (rest_version v.number b c p.rest v.number))
          (p.tables (code_of x) (omega arith) (holder_code b.cache v.number
          (version_of b v.number) x some h.takes.waits.holder_waits))));
      beneath = λ j known.
          let u = under_table t may.can may.other j known in
          subst (IsGone c v.number) u.way (gone_beneath c v.number left t cleared_down few under u.block u.is u.other
          u.table);
    }

    pub drop_whole : (d : Parts) → left ≤ first_under t → ClearsBlock v.number t c d → DropsTable v.number t left a d
    drop_whole d few q = record {
      staged = q.staged;
      rest = rest_trans v.number a c d rest_both q.rest;
      takes = λ key locked. takes_both key (q.only key locked);
      gone = gone_next d v.number left t may.can (record {
        tables = λ x is low from past. gone_still c d v.number t x q may.can is
            (cleared_down.tables x is low from past);
        blocks = λ k low from past. gone_still c d v.number t (Data k) q may.can low
            (cleared_down.blocks k low from past);
      }) (λ _. cleared_gone c d v.number t q) (λ k low held past. gone_still c d v.number t (Data k) q may.can low
          (under k low held past));
      data_same = λ n k apart. q.data_same n k (inr (λ e. let holds = may.holds in omega arith))
          ∙ same_before n k apart;
    }

  -- the block goes with the data blocks whose addresses stand in it
  pub may_table : (end : ℕ) → end ≤ blocks → left ≤ first_under t
      → ((k : ℕ) → k < FILE_BLOCKS → first_under t ≤ k → k < end → table_of (Data k) ≡ t)
      → ((k : ℕ) → k < FILE_BLOCKS → table_of (Data k) ≡ t → k < blocks → (first_under t ≤ k) × (k < end))
      → MayClearTable b v.number t end
  may_table end few whole held all = record {
    blocks = may_between (first_under t) end few held;
    can = may.can;
    other = may.other;
    holds = may.holds;
    under = λ k from low. held k (let bounded = few_blocks end few in omega arith) from low;
    waits = h.takes.block_waits;
    last = λ c p. may_clear_table c (first_under t) end p (λ k low own past inside. all k low own inside) whole whole;
  }

-- ---- what waits more between two turns
down_cases : (left turn c : ℕ) → Contains (down_codes left turn) c → ((c ≡ 2) × (2 < turn))
    ⊎ Contains (codes_on (way_to (last_table left))) c
down_cases left turn c has =
    let above : List ℕ = codes_on (way_to (last_table left)) in
    elim (cases_lt 2 turn) [
      | inl more ↦ elim (code_cases c 2 above (subst (λ xs. Contains (xs ++ above) c)
          (cond-true _ (2 ∷ []) [] (lt-ltb 2 turn more)) has)) [
            | inl two ↦ inl (sym two, more)
            | inr there ↦ inr there
          ]
      | inr few ↦ inr (subst (λ xs. Contains (xs ++ above) c) (cond-false _ (2 ∷ []) [] (le-ltb 2 turn few)) has)
    ]

down_last : (left turn c : ℕ) → Contains (codes_on (way_to (last_table left))) c → Contains (down_codes left turn) c
down_last left turn c has = Contains-append_right (if nat_lt 2 turn then 2 ∷ []
    else []) (codes_on (way_to (last_table left))) c has

down_two : (left turn : ℕ) → 2 < turn → Contains (down_codes left turn) 2
down_two left turn more =
    let above : List ℕ = codes_on (way_to (last_table left)) in
    subst (λ xs. Contains (xs ++ above) 2) (sym (cond-true _ (2 ∷ []) [] (lt-ltb 2 turn more))) (first_code 2 above)

-- the double indirect block holds the address of no data block
double_apart : (left : ℕ) (t : FileBlock) → code_of (last_table left) ≤ code_of t → code_of t ≡ 2
    → code_of (last_table left) < code_of t
double_apart left t behind two =
    data_table (λ x. code_of x ≤ code_of t → code_of x < code_of t) (left - 1)
    (λ low least. omega arith) (λ past low least. omega arith) (λ far least. absurd (omega arith)) behind

-- ---- one block after another
module _ (a : Parts) (number left blocks : ℕ) (may : MayDropAll a number left blocks) where
  -- behind the last one there is nothing
  pub down_none : DropsDown number left (code_of (table_of (Data (blocks - 1))) + 1) a a
  down_none =
      let some = may.some in
      record {
        staged = may.staged;
        rest = rest_refl number a may.waits;
        takes = takes_none number (version_of a number)
            (down_codes left (code_of (table_of (Data (blocks - 1))) + 1)) a.cache a.cache refl;
        gone = record {
          tables = λ x is few from past.
              let out = first_under-past x (blocks - 1) few (omega arith) in
              past_gone a number blocks may.staged may.in_use may.all x is (omega arith);
          blocks = λ k low from past. elim (cases_lt k blocks) [
            | inl inside ↦ let later = table_of-later k (blocks - 1) (omega arith) in absurd (omega arith)
            | inr out ↦ past_gone a number blocks may.staged may.in_use may.all (Data k) low out
          ];
        };
        data_same = λ n k apart. refl;
      }

  -- what waits more is among what may wait while what the next block leads to goes
  down_cut : (t : FileBlock) → code_of t < 131 → code_of (last_table left) ≤ code_of t → (c : ℕ)
      → Contains (down_codes left (code_of t + 1)) c → Contains (cut_codes left t) c
  down_cut t holds behind c has = elim (down_cases left (code_of t + 1) c has) [
    | inl two ↦
        let from = two.1 in
        more_codes c (131 + (left - 1)) (code_of (last_table left) ∷ codes_on (way_to t))
        (more_codes c (code_of (last_table left)) (codes_on (way_to t))
        (subst (Contains (codes_on (way_to t))) (sym two.0) (codes_on-two t (omega arith) holds)))
    | inr there ↦ last_codes-cut left t holds behind c there
  ]

  -- the next one may go
  pub may_drop : (b : Parts) (t : FileBlock) → IsFileBlock t → code_of t ≢ 0
      → code_of t ≤ code_of (table_of (Data (blocks - 1))) → code_of t < 131
      → code_of (last_table left) ≤ code_of t → DropsDown number left (code_of t + 1) a b
      → MayDrop b number t left blocks
  may_drop b t is other within holds behind h =
      let version = rest_version number a b h.rest number in
      let above : List ℕ = code_of (last_table left) ∷ codes_on (way_to t) in
      record {
        staged = h.staged;
        in_use = rest_used number a b h.rest may.in_use;
        waits = h.rest.waits;
        can = is;
        other = other;
        holds = holds;
        ordered = may.ordered;
        all = rest_count number blocks a b may.staged may.in_use h.rest may.all;
        frames =
            frames_part b number (codes_on (way_to t)) (cut_codes left t)
            (λ c has. more_codes c (131 + (left - 1)) above
            (more_codes c (code_of (last_table left)) (codes_on (way_to t)) has))
            (frames_after a b number (cut_codes left t) version
            (takes_part number (version_of a number) (down_codes left (code_of t + 1))
            (cut_codes left t) a.cache b.cache (down_cut t holds behind) h.takes)
            (may.frames t is behind within));
        gone = h.gone;
      }

  -- what waited more is among what may wait when its turn is over: if it is the double indirect block, this one waits
  -- no more
  down_still : (c : Parts) (t : FileBlock) → IsFileBlock t → code_of t < 131 → code_of (last_table left) ≤ code_of t
      → GoneDown c number left (code_of t)
      → (d : ℕ) → Contains (down_codes left (code_of t + 1)) d
      → (code_of t ≡ d → IsLocked (key_of number (version_of c number) (code_of t)) c.cache)
      → Contains (down_codes left (code_of t)) d
  down_still c t is holds behind gone d has locked = elim (down_cases left (code_of t + 1) d has) [
    | inr there ↦ down_last left (code_of t) d there
    | inl two ↦ elim (cases_lt 2 (code_of t)) [
      | inl more ↦ subst (Contains (down_codes left (code_of t))) (sym two.0) (down_two left (code_of t) more)
      | inr few ↦
          let from = two.1 in
          let own : code_of t ≡ d = omega (arith, two.0) in
          let double = double_apart left t behind (own ∙ two.0) in
          let past = first_under-past t (left - 1) holds double in
          absurd (gone_free c number t (gone.tables t is holds (omega arith) (omega arith)) (locked own))
    ]
  ]

  -- and went
  pub drops_more : (b c : Parts) (t : FileBlock) → IsFileBlock t → code_of t ≢ 0
      → code_of t ≤ code_of (table_of (Data (blocks - 1))) → code_of t < 131 → code_of (last_table left) ≤ code_of t
      → DropsDown number left (code_of t + 1) a b
      → DropsTable number t left b c → DropsDown number left (code_of t) a c
  drops_more b c t is other within holds behind p q =
      let version = rest_version number a b p.rest number in
      let after = rest_version number b c q.rest number in
      record {
        staged = q.staged;
        rest = rest_trans number a b c p.rest q.rest;
        takes = λ key locked. elim (q.takes key locked) [
          | inr was ↦ elim (p.takes key was) [
            | inr before ↦ inr before
            | inl one ↦ inl (
              one.0,
              down_still c t is holds behind q.gone one.0 one.1 (λ own.
                  subst (λ k. IsLocked k c.cache)
                  (one.2 ∙ ap (λ n. key_of number n one.0) (sym version ∙ sym after)
                  ∙ ap (key_of number (version_of c number)) (sym own)) locked),
              one.2,
            )
          ]
          | inl one ↦ elim (cases_eq (code_of t) (code_of (last_table left))) [
            | inl last ↦
                let some = may.some in let bounded = may.bounded in let ordered = may.ordered in
                let same = same_block t (last_table left) is (table_of-is (Data (left - 1)) (omega arith)) last in
                inl (
                  one.0,
                  down_last left (code_of t) one.0
                      (subst (λ x. Contains (codes_on (way_to x)) one.0) same one.1),
                  one.2
                      ∙ ap (λ n. key_of number n one.0) version,
                )
            | inr more ↦ elim (code_cases one.0 (code_of t) (codes_on (way_to (table_of t)))
                (subst (λ cs. Contains cs one.0) (codes_on-block t is other) one.1)) [
                  | inl own ↦
                      let past = first_under-past t (left - 1) holds (omega arith) in
                      absurd (gone_free c number t (q.gone.tables t is holds (omega arith) (omega arith))
                      (subst (λ k. IsLocked k c.cache) (one.2 ∙ ap (λ n. key_of number n one.0) (sym after)
                      ∙ ap (key_of number (version_of c number)) (sym own)) locked))
                  | inr above ↦
                      let two = codes_on-above t holds one.0 above in
                      inl (
                        one.0,
                        subst (Contains (down_codes left (code_of t))) (sym two.0)
                            (down_two left (code_of t) two.1),
                        one.2 ∙ ap (λ n. key_of number n one.0) version,
                      )
                ]
          ]
        ];
        gone = q.gone;
        data_same = λ n k apart. q.data_same n k apart ∙ p.data_same n k apart;
      }

  -- a code that no block has is passed over
  pub drops_same : (b : Parts) (code : ℕ) → ((x : FileBlock) → IsFileBlock x → code_of x ≡ code → ⊥)
      → DropsDown number left (code + 1) a b → DropsDown number left code a b
  drops_same b code none h = record {
    staged = h.staged;
    rest = h.rest;
    takes = takes_part number (version_of a number) (down_codes left (code + 1)) (down_codes left code) a.cache b.cache
        (λ c has. elim (down_cases left (code + 1) c has) [
          | inr there ↦ down_last left code c there
          | inl two ↦ elim (cases_eq code 2) [
            | inl double ↦ absurd (none Double tt (sym double))
            | inr other ↦ let from = two.1 in subst (Contains (down_codes left code)) (sym two.0)
                (down_two left code (omega arith))
          ]
        ]) h.takes;
    gone = record {
      tables = λ x is few from past. elim (cases_eq (code_of x) code) [
        | inl same ↦ absurd (none x is same)
        | inr other ↦ h.gone.tables x is few (omega arith) past
      ];
      blocks = λ k low from past. elim (cases_eq (code_of (table_of (Data k))) code) [
        | inl same ↦ absurd (none (table_of (Data k)) (table_of-is (Data k) low) same)
        | inr other ↦ h.gone.blocks k low (omega arith) past
      ];
    };
    data_same = h.data_same;
  }

  -- below the one that leads to the last block that is left there is nothing either
  pub drops_down : (b : Parts) (turn : ℕ) → turn ≤ max (code_of (last_table left)) 1 → DropsDown number left turn a b
      → DropsDown number left 1 a b
  drops_down b turn few h = record {
    staged = h.staged;
    rest = h.rest;
    takes = takes_part number (version_of a number) (down_codes left turn) (down_codes left 1) a.cache b.cache
        (λ c has. elim (down_cases left turn c has) [
          | inr there ↦ down_last left 1 c there
          | inl two ↦
              let from = two.1 in
              let bounded = may.bounded in let ordered = may.ordered in let some = may.some in
              let holder = table_of-code (Data (left - 1)) (omega arith) in
              down_last left 1 c (subst (Contains (codes_on (way_to (last_table left)))) (sym two.0)
              (codes_on-two (last_table left) (omega arith) holder))
        ]) h.takes;
    gone = record {
      tables = λ x is low from past. elim (cases_lt (code_of x) turn) [
        | inr there ↦ h.gone.tables x is low there past
        | inl before ↦ elim (cases_eq left 0) [
          | inl none ↦
              let first : code_of (last_table left) ≡ 0 = ap (λ n. code_of (last_table n)) none
              ∙ ap code_of (table_of-direct 0 (omega arith)) in
              absurd (omega arith)
          | inr some ↦ let least = first_under-least x (left - 1) (omega arith) in absurd (omega arith)
        ]
      ];
      blocks = λ k low from past. elim (cases_lt (code_of (table_of (Data k))) turn) [
        | inr there ↦ h.gone.blocks k low there past
        | inl before ↦ let later = table_of-later (left - 1) k (omega arith) in absurd (omega arith)
      ];
    };
    data_same = h.data_same;
  }

  -- ---- the data blocks whose addresses stand in the record go last
  module _ (b : Parts) (from direct : ℕ) (own : (k : ℕ) → k < FILE_BLOCKS → (table_of (Data k) ≡ Record)
      ↔ ((from ≤ k) × (k < direct))) (zero_ : from ≡ 0)
      (h : DropsDown number left 1 a b) where
    pub may_direct : MayClearBetween b number (min left direct) (min blocks direct)
    may_direct = record {
      staged = h.staged;
      in_use = rest_used number a b h.rest may.in_use;
      waits = h.rest.waits;
      bounded = let bounded = may.bounded in omega arith;
      within = λ f is. let count = rest_count number blocks a b may.staged may.in_use h.rest may.all f is in
          omega arith;
      holders = λ k least low.
          subst (λ x. HolderWaits b.cache number (version_of b number) (way_to x))
          (sym ((own k (let bounded = may.bounded in omega arith)).1 (omega arith, omega arith))) tt;
    }

    pub drops_all : (c : Parts) → ClearsBlocks number (min left direct) (min blocks direct) b c
        → DropsBlocks number left a c
    drops_all c q =
        let rest = rest_trans number a b c h.rest q.rest in
        let ordered = may.ordered in
        record {
          staged = q.staged;
          rest = rest;
          takes = takes_part number (version_of a number) (down_codes left 1)
              (codes_on (way_to (last_table left))) a.cache c.cache (λ d has. elim (down_cases left 1 d has) [
                | inr there ↦ there
                | inl two ↦ let from = two.1 in absurd (omega arith)
              ]) (λ key locked. h.takes key (q.only key locked));
          gone = each;
          data_same = λ n k apart. q.data_same n k (elim apart [
            | inl other ↦ inl other
            | inr low ↦ elim (cases_lt k (min left direct)) [
              | inl first ↦ inr (inl first)
              | inr past ↦ inr (inr (omega arith))
            ]
          ]) ∙ h.data_same n k apart;
        }
      where
        each : (x : FileBlock) → IsFileBlock x → code_of x ≢ 0 → left ≤ first_under x → IsGone c number (way_to x)
        each Record is other past = absurd (other refl)
        each Single is other past = q.still Single is (h.gone.tables Single is (omega arith) (omega arith) past)
        each Double is other past = q.still Double is (h.gone.tables Double is (omega arith) (omega arith) past)
        each (Child k) is other past = q.still (Child k) is
            (h.gone.tables (Child k) is (omega arith) (omega arith) past)
        each (Data k) is other past = elim (cases_eq (code_of (table_of (Data k))) 0) [
          | inr some ↦ q.still (Data k) is (h.gone.blocks k is (omega arith) past)
          | inl none ↦
              let at = (own k is).0 (same_block (table_of (Data k)) Record (table_of-is (Data k) is) tt none) in
              let low = at.1 in
              elim (cases_lt k blocks) [
                | inl inside ↦ q.gone k (omega arith) (omega arith)
                | inr out ↦
                    let rest = rest_trans number a b c h.rest q.rest in
                    past_gone c number blocks q.staged (rest_used number a c rest may.in_use)
                    (rest_count number blocks a c may.staged may.in_use rest may.all) (Data k) is out
              ]
        ]
