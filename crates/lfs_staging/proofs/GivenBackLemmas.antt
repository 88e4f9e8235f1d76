-- A block whose address was set to 0 and whose live bytes went is given back: `given_back`, with `may_lose` and
-- `gives_forgotten`, for `clear` and EmptiedLemmas. Two steps make it: the holder of the address has 0 now and waits
-- (Sets), then the table of live bytes lets the block's go, and its frame is forgotten (Gives), so sums and places
-- agree again. The block must not stay clean in the cache, as a clean block must have an address (`unclean`); a `clear`
-- that kept its frame would break Mirrors.
use Rattle.std.proofs.Common.{◌≡◌, ◌≢◌, ℕ, ◌*◌, List, ◌∷◌, None, false, true, refl, sym, ap, ◌∙◌, subst, arith}
use Rattle.lfs_inodes.specs.declared.inode.Inode.{Inode}
use Rattle.lfs_inodes.specs.Reading.{fields_of}
use Rattle.lfs_cache.specs.declared.key.Key.{Key}
use Rattle.lfs_cache.specs.Keys.{same_key}
use Rattle.lfs_cache.specs.Changes.{IsContents, KeepsOthers}
use Rattle.lfs_cache.specs.Contents.{block_in, block_of}
use Rattle.lfs_cache.proofs.CallerLemmas.{none_both}
use Rattle.lfs_log.specs.Parts.{IsParts, LogParts, MayMoveLive, SameButLive}
use Rattle.lfs_log.specs.Parts as log
use Rattle.lfs_ifile.specs.Tables.{row_of}
use Rattle.lfs_bmap.specs.declared.blocks.FileBlock.{FileBlock}
use Rattle.lfs_bmap.specs.Blocks.{IsFileBlock, code_of, way_to}
use Rattle.lfs_bmap.specs.Counting.{placed}
use Rattle.lfs_bmap.specs.Log.{Assigns}
use Rattle.lfs_bmap.specs.Reading.{address}
use Rattle.lfs_bmap.specs.Ways.{way_of}
use Rattle.lfs_bmap.proofs.BlockLemmas.{code_of-below}
use Rattle.lfs_bmap.proofs.WayLemmas.{way_of-code_of}
use Rattle.lfs_parts.specs.declared.parts.Parts.{Parts}
use Rattle.lfs_staging.specs.Addressing.{IsWaiting, Sets, StaysWaiting}
use Rattle.lfs_parts.specs.Clean.{GainsNoClean}
use Rattle.lfs_staging.specs.Cutting.{ClearsBlock, MayClear}
use Rattle.lfs_parts.specs.Keys.{log_state}
use Rattle.lfs_staging.specs.Staging.{IsStaged}
use Rattle.lfs_parts.specs.View.{LiesIn, blocks_of, key_of, tree_from, tree_of}
use Rattle.lfs_staging.proofs.ClearedLemmas.{Steps, log_after}
use Rattle.lfs_parts.proofs.FileLemmas.{tree_from-of}
use Rattle.lfs_staging.proofs.ForgettingLemmas.{live_had, stays_landed, waited_parent}
use Rattle.lfs_parts.proofs.SameLogLemmas.{used_low}
use Rattle.lfs_staging.proofs.GivingLemmas.{beneath_of, cleared, parent_of}
use Rattle.lfs_parts.proofs.HeldLemmas.{forgets_none}
use Rattle.lfs_parts.proofs.KeyLemmas.{lies_in, place-block}
use Rattle.lfs_staging.proofs.SettingLemmas.{waiting_record}

-- the file of a record that waits
pub waiting_tree : (p : Parts) (v : Inode) → IsStaged p 0 → IsWaiting p v → tree_from p v ≡ tree_of p v.number
waiting_tree p v staged is = let has = waiting_record p v is in
    tree_from-of p v.number v has (staged.whole.files v.number (fields_of v) has)

pub waiting_inside : (p : Parts) (v : Inode) → IsStaged p 0 → IsWaiting p v → LiesIn (blocks_of p) (tree_from p v)
waiting_inside p v staged is =
    subst (LiesIn (blocks_of p)) (sym (waiting_tree p v staged is))
    (lies_in p v.number 0 (used_low p v.number is.in_use) staged.whole.parts.laid_out staged.log)

-- The live bytes of a block at an address went, and it waits no more.
pub record Gives (s q : Parts) (v : Inode) (code from : ℕ) : Type 0 where
  pub memory : q.log.memory ≡ s.log.memory
  pub rows : q.log.tables.rows ≡ s.log.tables.rows
  pub states : q.log.tables.states ≡ s.log.tables.states
  pub clean_count : q.log.clean ≡ s.log.clean
  pub parts : IsParts q.log
  pub step : (at : ℕ → ℕ → ℕ) → at v.number code ≡ 4 * from
      → Assigns (log.log_state s.log at) (log.log_state q.log (placed at v.number code 0)) v.number code 0
  pub waiting : q.waiting ≡ s.waiting
  pub formed : IsContents q.cache
  pub gone : block_in (key_of v.number v.version code) q.cache.locked ≡ None
  pub kept : (key : Key) → same_key (key_of v.number v.version code) key ≡ false → block_in key q.cache.locked
      ≡ block_in key s.cache.locked
  pub clean : GainsNoClean s.cache q.cache
  pub unclean : block_in (key_of v.number v.version code) q.cache.lru ≡ None

-- as its live bytes go, and its key is forgotten
pub gives_forgotten : (s q : Parts) (v : Inode) (code from : ℕ) (key : Key) → key ≡ key_of v.number v.version code
    → q.log.memory ≡ s.log.memory → SameButLive s.log.tables q.log.tables
    → q.log.clean ≡ s.log.clean → IsParts q.log
    → ((at : ℕ → ℕ → ℕ) → at v.number code ≡ 4 * from
    → Assigns (log.log_state s.log at) (log.log_state q.log (placed at v.number code 0)) v.number code 0)
    → q.waiting ≡ s.waiting → IsContents q.cache → block_in key q.cache.locked ≡ None → block_of key q.cache ≡ None
    → KeepsOthers key s.cache q.cache → Gives s q v code from
gives_forgotten s q v code from key is memory others clean parts step waiting formed unlocked gone keeps = record {
  memory = memory;
  rows = others.rows;
  states = others.states;
  clean_count = clean;
  parts = parts;
  step = step;
  waiting = waiting;
  formed = formed;
  gone = subst (λ k. block_in k q.cache.locked ≡ None) is unlocked;
  kept = λ other apart. keeps.dirty other (subst (λ k. same_key k other ≡ false) (sym is) apart);
  clean = forgets_none s.cache q.cache key formed keeps gone;
  unclean = subst (λ k. block_in k q.cache.lru ≡ None) is (none_both _ _ gone).1;
}

-- so where its address is none too, it was given back
pub given_back : (p s q : Parts) (v : Inode) (block : FileBlock) (i : ℕ) (up : List ℕ) (from : ℕ) → IsWaiting p v
    → MayClear p v.number block → way_to block ≡ i ∷ up
    → Sets p s v i up 0 → StaysWaiting p s v → address (tree_of p v.number) (way_to block) ≡ from
    → Gives s q v (code_of block) from → ClearsBlock v.number block p q
given_back p s q v block i up from is may way set stays there g =
    let low = used_low p v.number is.in_use in
    let st : Steps p s q v block i up = record {
      log = may.staged.log;
      is = is;
      low = low;
      can = may.can;
      other = may.other;
      way = way;
      waited = waited_parent p v is up (parent_of p v block may is.at_version i up way);
      beneath = beneath_of p v.number block may i up way;
      set = set;
      memory = g.memory ∙ ap (λ (l : LogParts). l.memory) set.log;
      rows = g.rows ∙ ap (λ (l : LogParts). l.tables.rows) set.log;
      waiting = g.waiting;
      gone = g.gone;
      kept = g.kept;
      clean = g.clean;
      unclean = g.unclean;
    } in
    let landed = stays_landed p p s q v stays refl g.waiting g.rows g.formed in
    let coded : address (tree_of p v.number) (way_of (code_of block))
    ≡ from = ap (address (tree_of p v.number)) (way_of-code_of block may.can) ∙ there in
    let at : (log_state p).at v.number (code_of block) ≡ 4 * from = place-block p v.number (code_of block) may.other
    ∙ ap (λ a. 4 * a) coded in
    let left = subst (λ (l : LogParts). Assigns (log.log_state l (log_state p).at)
    (log.log_state q.log (placed (log_state p).at v.number (code_of block) 0)) v.number (code_of block) 0)
    set.log (g.step (log_state p).at at) in
    cleared p s q v block i up st may landed g.parts (log_after p s q v block i up st left) (g.states
    ∙ ap (λ (l : LogParts). l.tables.states) set.log)
    (g.clean_count ∙ ap (λ (l : LogParts). l.clean) set.log)

-- the live bytes of a block may go
pub may_lose : (p : Parts) (number : ℕ) (block : FileBlock) (from : ℕ) → IsStaged p 0
    → (row_of p.log.tables number).used ≡ true → IsFileBlock block → code_of block ≢ 0
    → address (tree_of p number) (way_to block) ≡ from → MayMoveLive p.log (code_of block) from 0
may_lose p number block from staged used can other there =
    let laid = staged.whole.parts.laid_out in
    let low = used_low p number used in
    let lies = lies_in p number 0 low laid staged.log in
    let inside = lies.each block can in
    let least = laid.at_least in
    let coded : address (tree_of p number) (way_of (code_of block))
    ≡ from = ap (address (tree_of p number)) (way_of-code_of block can) ∙ there in
    record {
      from_inside = omega (arith, inside, there);
      to_inside = omega (arith, least);
      had = λ some. live_had p number (code_of block) from staged.log low (code_of-below block can) other coded some;
      fits = λ some. absurd (some refl);
    }
