-- What is known of a block that leaves what waits: its old segment has its live bytes (`live_had`), its holder waits
-- (`waited_parent`), and what waits else stays (`stays_landed`), for GivenBackLemmas, EmptiedLemmas and `land_block`.
-- Live bytes are a sum over keys, and a key with an address is one of its terms; a block's way is its index and the way
-- of the block above (`way_some`, by the three ranges of indices). If live bytes were counted another way than by keys,
-- subtracting could go below zero here.
use Rattle.std.proofs.Common.{◌≡◌, ◌≢◌, ℕ, ◌-◌, ◌*◌, ◌/◌, ◌%◌, ◌<◌, ◌≤◌, List, [], ◌∷◌, length, IsSome, refl, sym}
use Rattle.std.proofs.Common.{ap, ◌∙◌, subst, inl, inr, arith}
use Rattle.std.proofs.lemmas.Bool.{cases_lt}
use Rattle.std.proofs.lemmas.List.Elements.{All-weaker}
use Rattle.std.specs.Prelude.{All}
use Rattle.lfs_cache.specs.Changes.{IsContents}
use Rattle.lfs_ifile.specs.declared.inode.InodeRow.{InodeRow}
use Rattle.lfs_ifile.specs.Tables.{row_at}
use Rattle.lfs_inodes.specs.declared.inode.Inode.{Inode}
use Rattle.lfs_cache.specs.Contents.{block_in}
use Rattle.lfs_log.specs.Parts.{live_of}
use Rattle.lfs_bmap.specs.declared.blocks.TheConstants.{BLOCK_CODES}
use Rattle.lfs_bmap.specs.declared.blocks.FileBlock.{FileBlock}
use Rattle.lfs_bmap.specs.declared.blocks.FileBlock.TheVariants.{Record, Single, Double, Child, Data}
use Rattle.lfs_bmap.specs.Blocks.{IsFileBlock, code_of, way_to}
use Rattle.lfs_bmap.specs.Counting.{units, weight_of}
use Rattle.lfs_bmap.specs.Log.{IsLog}
use Rattle.lfs_bmap.specs.Reading.{address}
use Rattle.lfs_bmap.specs.Ways.{code_at, way_of}
use Rattle.lfs_bmap.proofs.CountingLemmas.{live-part, weight-here}
use Rattle.lfs_bmap.proofs.WayLemmas.{data_way-direct, data_way-double, data_way-single}
use Rattle.lfs_parts.specs.declared.parts.Parts.{Parts}
use Rattle.lfs_parts.specs.Keys.{log_state}
use Rattle.lfs_parts.specs.Waiting.{numbers_of}
use Rattle.lfs_staging.specs.Addressing.{IsWaiting, StaysWaiting}
use Rattle.lfs_parts.specs.Store.{HolderWaits, IsPresent}
use Rattle.lfs_parts.specs.View.{key_of, tree_of, waiting_in}
use Rattle.lfs_parts.proofs.KeyLemmas.{place-block}

-- the segment of the old address has the block's live bytes
pub live_had : (p : Parts) (number code from : ℕ) → IsLog (log_state p) 0 → number < length p.log.tables.rows
    → code < BLOCK_CODES → code ≢ 0
    → address (tree_of p number) (way_of code) ≡ from → from ≢ 0 → 128 * units code ≤ live_of p.log.tables (from / 64)
live_had p number code from log low below block is some =
    let at : (log_state p).at number code ≡ 4 * from = place-block p number code block ∙ ap (λ a. 4 * a) is in
    let key = log.keys number code (record {
      number_below = low;
      code_below = below;
      somewhere = λ none. omega (arith, at, none, some);
    }) in
    let inside : from / 64 < p.log.memory.segments = omega (arith, at, key.in_volume) in
    let part = live-part (length p.log.tables.rows) BLOCK_CODES (log_state p).at (from / 64) number code low below in
    let weight : weight_of ((log_state p).at number code) (from / 64) code ≡ 128 * units code =
    ap (λ w. weight_of w (from / 64) code) at
    ∙ weight-here (4 * from) (from / 64) code (λ none. omega arith) (omega arith) in
    let counted = log.counted (from / 64) inside in
    omega (arith, part, weight, counted)

-- a block's way leads somewhere, but for the record's
pub way_some : (block : FileBlock) → IsFileBlock block → code_of block ≢ 0 → (i : ℕ) × (up : List ℕ)
    × (way_to block ≡ i ∷ up)
way_some Record can other = absurd (other refl)
way_some Single can other = (12, [], refl)
way_some Double can other = (13, [], refl)
way_some (Child index) can other = (index, 13 ∷ [], refl)
way_some (Data index) can other =
    elim (cases_lt index 12) [
      | inl direct ↦ (index, [], data_way-direct index direct)
      | inr past ↦ elim (cases_lt index 140) [
        | inl near ↦ (index - 12, 12 ∷ [], data_way-single index past near)
        | inr far ↦ ((index - 140) % 128, ((index - 140) / 128) ∷ 13 ∷ [], data_way-double index far)
      ]
    ]

pub waited_parent : (p : Parts) (v : Inode) → IsWaiting p v → (up : List ℕ) → HolderWaits p.cache v.number v.version up
    → up ≢ [] → IsSome ((tree_of p v.number).waits up)
waited_parent p v is [] waits some = absurd (some refl)
waited_parent p v is (j ∷ above) waits some =
    subst (λ n. IsSome (block_in (key_of v.number n (code_at (j ∷ above))) p.cache.locked)) is.at_version waits

-- what waits stays of its number where the inode map is the same
pub stays_landed : (p r s q : Parts) (v : Inode) → StaysWaiting r s v → r.waiting ≡ p.waiting → q.waiting ≡ s.waiting
    → q.log.tables.rows ≡ s.log.tables.rows
    → IsContents q.cache → StaysWaiting p q v
stays_landed p r s q v stays before after rows formed = record {
  cache = formed;
  present = subst (λ items. All (λ (x : Inode). IsPresent q x.number x.version) items) (sym after)
      (All-weaker (λ (x : Inode). IsPresent s x.number x.version) (λ (x : Inode). IsPresent q x.number x.version)
      (λ x h. record {
        in_use = ap (λ (rs : List InodeRow). (row_at rs x.number).used) rows ∙ h.in_use;
        at_version = h.at_version ∙ sym (ap (λ (rs : List InodeRow). (row_at rs x.number).version) rows);
      }) s.waiting stays.present);
  after = stays.after;
  here = record {
    waits = ap (λ items. waiting_in items stays.after.number) after ∙ stays.here.waits;
    in_use = ap (λ (rs : List InodeRow). (row_at rs stays.after.number).used) rows ∙ stays.here.in_use;
    at_version = stays.here.at_version ∙ sym (ap (λ (rs : List InodeRow). (row_at rs stays.after.number).version) rows);
  };
  same = stays.same;
  others = λ number other. ap (λ items. waiting_in items number) after ∙ stays.others number other
      ∙ ap (λ items. waiting_in items number) before;
  numbers = ap numbers_of after ∙ stays.numbers ∙ ap numbers_of before;
}
