-- What the last block of a length has past it is zeroed, and nothing where the length ends with a block: `cut_one`,
-- `last_whole`, `last_cut`, for `cut_block` and `cut_last`. The blocks before it are whole, so a cut leaves them
-- as they are (`below_cut` of `lfs_bmap`). What it has wait is among what the drop behind it may have wait
-- (`length_codes-cut`, by `codes_on-behind`), which is why one count of frames serves both in CutFileLemmas.
use Rattle.std.proofs.Common.{◌≡◌, ◌≢◌, ℕ, ◌+◌, ◌-◌, ◌*◌, ◌/◌, ◌%◌, ◌<◌, ◌≤◌, List, [], ◌∷◌, ◌++◌, length, suc}
use Rattle.std.proofs.Common.{zero-add, refl, sym, ap, ◌∙◌, subst, inl, inr, arith}
use Rattle.std.specs.Prelude.{if◌then◌else◌, ◌==◌}
use Rattle.std.specs.List.{Contains}
use Rattle.std.proofs.lemmas.Bool.{cases_eq, cond-false, cond-true, eq-eqb, ne_eqb, le-ltb}
use Rattle.std.proofs.lemmas.List.Elements.{Contains-append_right}
use Rattle.lfs_types.specs.declared.limits.TheConstants.{FILE_BLOCKS}
use Rattle.lfs_inodes.specs.declared.inode.Inode.{Inode}
use Rattle.lfs_inodes.specs.Facts.{block_count}
use Rattle.lfs_inodes.specs.Reading.{fields_of}
use Rattle.lfs_bmap.specs.declared.blocks.FileBlock.{FileBlock}
use Rattle.lfs_bmap.specs.declared.blocks.FileBlock.TheVariants.{Data}
use Rattle.lfs_bmap.specs.Blocks.{code_of, way_to}
use Rattle.lfs_bmap.specs.Pieces.{IsBlockCut}
use Rattle.lfs_bmap.specs.Reading.{data_block}
use Rattle.lfs_bmap.specs.Ways.{codes_on}
use Rattle.lfs_bmap.proofs.HolderLemmas.{code_cases, codes_on-block}
use Rattle.lfs_bmap.proofs.PieceLemmas.{below_cut}
use Rattle.lfs_bmap.proofs.TableLemmas.{codes_on-behind, codes_on-long}
use Rattle.lfs_parts.specs.declared.parts.Parts.{Parts}
use Rattle.lfs_staging.specs.Changing.{frames_of_length, length_codes, length_table}
use Rattle.lfs_staging.specs.Cutting.{CutsBlock, CutsLast, cut_codes, last_table}
use Rattle.lfs_staging.specs.Staging.{IsStaged, IsZeroPast, MayStage, StagesData, TakesOnly}
use Rattle.lfs_parts.specs.View.{tree_of, version_of}
use Rattle.lfs_staging.proofs.TakenLemmas.{first_code, more_codes, takes_none}

-- ---- the codes of a length
-- where it ends within a block they are those on this one's way
length_codes-some : (len : ℕ) → len % 512 ≢ 0 → block_count len - 1 < FILE_BLOCKS → length_codes len
    ≡ codes_on (way_to (Data (block_count len - 1)))
length_codes-some len some low =
    ap (λ xs. xs ++ codes_on (way_to (length_table len)))
    (cond-false _ [] ((131 + (block_count len - 1)) ∷ []) (ne_eqb (len % 512) 0 some))
    ∙ sym (codes_on-block (Data (block_count len - 1)) low (λ e. omega arith))

pub length_codes-length : (len : ℕ) → length (length_codes len) ≡ frames_of_length len
length_codes-length len =
    let last : List ℕ = (131 + (block_count len - 1)) ∷ [] in
    let above : List ℕ = codes_on (way_to (length_table len)) in
    let rest = codes_on-long (way_to (length_table len)) in
    elim (cases_eq (len % 512) 0) [
      | inl none ↦
          ap (λ (xs : List ℕ). length (xs ++ above)) (cond-true _ [] last (eq-eqb (len % 512) 0 none)) ∙ rest
          ∙ sym (zero-add (length (way_to (length_table len))))
          ∙ ap (λ n. n + length (way_to (length_table len))) (sym (cond-true {A = ℕ} _ 0 1 (eq-eqb (len % 512) 0 none)))
      | inr some ↦
          ap (λ (xs : List ℕ). length (xs ++ above)) (cond-false _ [] last (ne_eqb (len % 512) 0 some)) ∙ ap suc rest
          ∙ one_more (length (way_to (length_table len)))
          ∙ ap (λ n. n + length (way_to (length_table len)))
          (sym (cond-false {A = ℕ} _ 0 1 (ne_eqb (len % 512) 0 some)))
    ]
  where
    one_more : (n : ℕ) → suc n ≡ 1 + n
    one_more n = omega arith

-- those that lead to the last block are among them
pub length_codes-table : (len c : ℕ) → Contains (codes_on (way_to (length_table len))) c → Contains (length_codes len) c
length_codes-table len c has =
    Contains-append_right (if len % 512 == 0 then []
    else (131 + (block_count len - 1)) ∷ []) (codes_on (way_to (length_table len))) c has

-- what leads to the last data block that is left is among what a cut has wait
pub last_codes-cut : (left : ℕ) (t : FileBlock) → code_of t < 131 → code_of (last_table left) ≤ code_of t → (c : ℕ)
    → Contains (codes_on (way_to (last_table left))) c
    → Contains (cut_codes left t) c
last_codes-cut left t holds behind c has =
    let holder : ℕ = code_of (last_table left) in
    more_codes c (131 + (left - 1)) (holder ∷ codes_on (way_to t))
    (elim (codes_on-behind (left - 1) t holds behind c has) [
      | inl own ↦ subst (Contains (holder ∷ codes_on (way_to t))) own (first_code holder (codes_on (way_to t)))
      | inr there ↦ more_codes c holder (codes_on (way_to t)) there
    ])

-- and all are among those that a cut has wait
pub length_codes-cut : (len : ℕ) (t : FileBlock) → code_of t < 131 → code_of (length_table len) ≤ code_of t → (c : ℕ)
    → Contains (length_codes len) c
    → Contains (cut_codes (block_count len) t) c
length_codes-cut len t holds behind c has =
    let last : ℕ = 131 + (block_count len - 1) in
    let above : List ℕ = codes_on (way_to (length_table len)) in
    let deep : Contains above c → Contains (cut_codes (block_count len) t) c =
    last_codes-cut (block_count len) t holds behind c in
    elim (cases_eq (len % 512) 0) [
      | inl none ↦ deep (subst (λ xs. Contains (xs ++ above) c)
          (cond-true _ [] (last ∷ []) (eq-eqb (len % 512) 0 none)) has)
      | inr some ↦ elim (code_cases c last above
          (subst (λ xs. Contains (xs ++ above) c) (cond-false _ [] (last ∷ []) (ne_eqb (len % 512) 0 some)) has)) [
            | inl own ↦ subst (Contains (cut_codes (block_count len) t)) own
                (first_code last (code_of (length_table len) ∷ codes_on (way_to t)))
            | inr there ↦ deep there
          ]
    ]

-- ---- a block is cut
-- a block that is zero past a length is zero past a greater size
pub cut_zeros : (index len size : ℕ) (before after : List ℕ) → IsBlockCut index len before after → len ≤ size
    → IsZeroPast size index after
cut_zeros index len size before after cut less k low past = cut.each k low
    ∙ cond-false _ _ _ (le-ltb (512 * index + k) len (omega arith))

pub cut_one : (old new : Parts) (v : Inode) (index len : ℕ) (before after : List ℕ) → IsStaged new 0
    → StagesData v.number index after old new
    → before ≡ data_block (tree_of old v.number) index → IsBlockCut index len before after
    → CutsBlock v.number index len old new
cut_one old new v index len before after staged h is cut = record {
  staged = staged;
  log = h.log;
  records = h.records;
  addresses = h.addresses;
  cut = subst (λ b. IsBlockCut index len b (data_block (tree_of new v.number) index)) is
      (subst (IsBlockCut index len before) (sym h.here) cut);
  others = h.others;
  takes = h.takes;
}

-- ---- the last block of a length
-- the blocks below the last one are whole
whole_cut : (p : Parts) (v : Inode) (m len : ℕ) → MayStage p v → 512 * m + 512 ≤ len
    → IsBlockCut m len (data_block (tree_of p v.number) m) (data_block (tree_of p v.number) m)
whole_cut p v m len may below =
    below_cut m len (data_block (tree_of p v.number) m)
    ((may.files.files v.number (fields_of v) may.here).padded.whole m) below

pub last_whole : (p : Parts) (v : Inode) (len : ℕ) → MayStage p v → IsStaged p 0 → len % 512 ≡ 0
    → CutsLast v.number len p p
last_whole p v len may staged none = record {
  staged = staged;
  log = refl;
  records = λ n. refl;
  addresses = λ n way known. refl;
  cut = λ m low. whole_cut p v m len may (omega arith);
  others = λ n m apart. refl;
  takes = takes_none v.number (version_of p v.number) (length_codes len) p.cache p.cache refl;
  waiting = refl;
  waits = λ waits. waits;
}

pub last_cut : (old new : Parts) (v : Inode) (len : ℕ) → MayStage old v → len % 512 ≢ 0 → len / 512 < FILE_BLOCKS
    → CutsBlock v.number (len / 512) len old new
    → CutsLast v.number len old new
last_cut old new v len may some low h =
    let last : block_count len - 1 ≡ len / 512 = omega arith in
    record {
      staged = h.staged;
      log = h.log;
      records = h.records;
      addresses = h.addresses;
      cut = λ m below. elim (cases_eq m (len / 512)) [
        | inl is ↦ subst (λ k. IsBlockCut k len (data_block (tree_of old v.number) k)
            (data_block (tree_of new v.number) k)) (sym is) h.cut
        | inr other ↦
            subst (IsBlockCut m len (data_block (tree_of old v.number) m)) (sym (h.others v.number m (inr other)))
            (whole_cut old v m len may (omega arith))
      ];
      others = λ n m apart. h.others n m (elim apart [ inl other ↦ inl other | inr past ↦ inr (λ e. omega arith) ]);
      takes = subst (λ cs. TakesOnly v.number (version_of old v.number) cs old.cache new.cache)
          (ap (λ k. codes_on (way_to (Data k))) (sym last)
          ∙ sym (length_codes-some len some (omega arith))) h.takes.takes;
      waiting = h.takes.records;
      waits = λ _. h.takes.waits.record_waits;
    }
