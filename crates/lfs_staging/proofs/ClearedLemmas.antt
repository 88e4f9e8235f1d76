-- A block given back in three steps is `Clears` for its file, nothing for other files, and keeps `IsLog`: `clears`,
-- `others_same`, `log_after`, for GivingLemmas and GivenBackLemmas. UnstagedLemmas has the address set and the frame
-- gone; the block holds no address itself (`beneath`), so nothing else is read otherwise, and for the log its key loses
-- its place (`left_log`). With an address left in the block, what stands there would keep a place that no way leads to.
use Rattle.std.proofs.Common.{◌≡◌, ◌≢◌, ℕ, ◌+◌, ◌<◌, ◌⊎◌, List, [], ◌∷◌, length, None, IsSome, false, sym, ap, ◌∙◌}
use Rattle.std.proofs.Common.{subst, inl, inr, arith}
use Rattle.std.specs.Prelude.{⊤}
use Rattle.std.proofs.lemmas.Bool.{cases_eq, cases_lt}
use Rattle.lfs_types.specs.declared.limits.TheConstants.{FILE_BLOCKS}
use Rattle.lfs_types.specs.Blocks.{zero_block}
use Rattle.lfs_inodes.specs.declared.inode.Inode.{Inode}
use Rattle.lfs_inodes.proofs.ZeroedLemmas.{slice_index-cells_zero_block}
use Rattle.lfs_segments.specs.Memory.{SegmentMemory, block_at}
use Rattle.lfs_cache.specs.declared.key.Key.{Key}
use Rattle.lfs_cache.specs.Contents.{block_in}
use Rattle.lfs_cache.specs.Keys.{same_key}
use Rattle.lfs_log.specs.Parts as log
use Rattle.lfs_bmap.specs.declared.blocks.TheConstants.{BLOCK_CODES}
use Rattle.lfs_bmap.specs.declared.blocks.FileBlock.{FileBlock}
use Rattle.lfs_bmap.specs.declared.blocks.FileBlock.TheVariants.{Data}
use Rattle.lfs_bmap.specs.Blocks.{IsFileBlock, code_of, way_to}
use Rattle.lfs_bmap.specs.Counting.{placed}
use Rattle.lfs_bmap.specs.Log.{Assigns, IsLog}
use Rattle.lfs_bmap.specs.Moves.{Moves}
use Rattle.lfs_bmap.specs.Reading.{SameReadings, address, data_block, read}
use Rattle.lfs_bmap.specs.Ways.{IsBlockWay, IsWay, code_at, way_of}
use Rattle.lfs_bmap.proofs.BlockLemmas.{code_of-below}
use Rattle.lfs_bmap.proofs.CountingLemmas.{placed-cases}
use Rattle.lfs_bmap.proofs.LogLemmas.{left_log}
use Rattle.lfs_bmap.proofs.PlaceLemmas.{data_block-read, data_block-past}
use Rattle.lfs_bmap.proofs.ReadingLemmas.{cleared_address, cleared_addresses, cleared_bytes, cleared_others}
use Rattle.lfs_bmap.proofs.ReadingLemmas.{kept_blocks, Clears}
use Rattle.lfs_bmap.proofs.WayLemmas.{no_way_through, same_code, way_of-known}
use Rattle.lfs_parts.specs.declared.parts.Parts.{Parts}
use Rattle.lfs_parts.specs.Clean.{GainsNoClean}
use Rattle.lfs_parts.specs.Keys.{log_state}
use Rattle.lfs_staging.specs.Addressing.{IsWaiting, Sets}
use Rattle.lfs_parts.specs.View.{key_of, record_of, root_in, tree_of, version_of}
use Rattle.lfs_staging.proofs.TableLemmas.{room_at}
use Rattle.lfs_staging.proofs.UnstagedLemmas as unstaged
use Rattle.lfs_staging.proofs.UnstagedLemmas.{Readdresses, Unstages, known, parent_set, place_after, place_kept}
use Rattle.lfs_staging.proofs.UnstagedLemmas.{record_here, waits_none, waits_other, waits_rest, way_here}

-- The steps: the address is set to none, the live bytes go, and the block waits no more.
pub record Steps (p s q : Parts) (v : Inode) (block : FileBlock) (i : ℕ) (up : List ℕ) : Type 0 where
  pub log : IsLog (log_state p) 0
  pub is : IsWaiting p v
  pub low : v.number < length p.log.tables.rows
  pub can : IsFileBlock block
  pub other : code_of block ≢ 0
  pub way : way_to block ≡ i ∷ up
  pub waited : up ≢ [] → IsSome ((tree_of p v.number).waits up)
  pub beneath : (j : ℕ) → IsBlockWay (j ∷ i ∷ up) → address (tree_of p v.number) (j ∷ i ∷ up) ≡ 0
  pub set : Sets p s v i up 0
  pub memory : q.log.memory ≡ p.log.memory
  pub rows : q.log.tables.rows ≡ p.log.tables.rows
  pub waiting : q.waiting ≡ s.waiting
  pub gone : block_in (key_of v.number v.version (code_of block)) q.cache.locked ≡ None
  pub kept : (key : Key) → same_key (key_of v.number v.version (code_of block)) key ≡ false
      → block_in key q.cache.locked ≡ block_in key s.cache.locked
  pub clean : GainsNoClean s.cache q.cache
  pub unclean : block_in (key_of v.number v.version (code_of block)) q.cache.lru ≡ None

module _ (p s q : Parts) (v : Inode) (block : FileBlock) (i : ℕ) (up : List ℕ) (h : Steps p s q v block i up) where
  -- the address is set to none
  unstages : Unstages p s q v block 0 i up
  unstages = record {
    can = h.can;
    way = h.way;
    at_version = h.is.at_version;
    set = h.set;
    memory = h.memory;
    rows = h.rows;
    waiting = h.waiting;
    gone = h.gone;
    kept = h.kept;
  }

  known_way : IsBlockWay (i ∷ up)
  known_way = known block i up h.can h.way

  pub record_other : (m : ℕ) → m ≢ v.number → record_of q m ≡ record_of p m
  record_other = unstaged.record_other p s q v block 0 i up unstages

  pub waits_key : (key : Key) → same_key (key_of v.number v.version (code_of block)) key ≡ false
      → same_key (key_of v.number v.version (code_at up)) key ≡ false
      → block_in key q.cache.locked ≡ block_in key p.cache.locked
  waits_key = unstaged.waits_key p s q v block 0 i up unstages

  pub version_same : (m : ℕ) → version_of q m ≡ version_of p m
  version_same = unstaged.version_same p s q v block 0 i up unstages

  blocks_same : (b : ℕ) → block_at q.log.memory b ≡ block_at p.log.memory b
  blocks_same b = ap (λ (m : SegmentMemory). block_at m b) h.memory

  -- the files of other numbers
  pub others_same : (m : ℕ) → m ≢ v.number → SameReadings (tree_of p m) (tree_of q m)
  others_same m other =
      kept_blocks (tree_of p m) (tree_of q m) (ap root_in (record_other m other))
      (λ way there. waits_other p s q v block 0 i up unstages m way other)
      (λ way there some. blocks_same (address (tree_of p m) way))

  -- the block of the file is given back
  pub clears : Clears (tree_of p v.number) (tree_of q v.number) i up
  clears = record {
    room = room_at p v block h.is h.can h.other i up h.way;
    parent = parent_set p s q v block 0 i up unstages;
    root = λ some. ap root_in (record_here p s q v block 0 i up unstages some);
    flushed = waits_none p s q v block 0 i up unstages;
    waits = waits_rest p s q v block 0 i up unstages;
    blocks = blocks_same;
    beneath = h.beneath;
  }

  -- it has no address and reads as zeros
  pub address_here : address (tree_of q v.number) (i ∷ up) ≡ 0
  address_here = cleared_address (tree_of p v.number)
      (tree_of q v.number) i up known_way slice_index-cells_zero_block clears

  pub address_rest : (way : List ℕ) → IsBlockWay way → way ≢ i ∷ up → address (tree_of q v.number) way
      ≡ address (tree_of p v.number) way
  address_rest = cleared_addresses (tree_of p v.number)
      (tree_of q v.number) i up known_way slice_index-cells_zero_block clears

  pub zeros_here : (k : ℕ) → block ≡ Data k → data_block (tree_of q v.number) k ≡ zero_block
  zeros_here k is =
      let low : k < FILE_BLOCKS = subst IsFileBlock is h.can in
      let code : code_of block ≡ 131 + k = ap code_of is in
      data_block-read (tree_of q v.number) k low
      ∙ ap (read (tree_of q v.number)) (ap way_of (sym code) ∙ way_here block i up h.can h.way)
      ∙ cleared_bytes (tree_of p v.number) (tree_of q v.number) i up known_way slice_index-cells_zero_block clears

  -- every other data block reads as before
  data_at : (k : ℕ) → k < FILE_BLOCKS → 131 + k ≢ code_of block → read (tree_of q v.number) (way_of (131 + k))
      ≡ read (tree_of p v.number) (way_of (131 + k))
  data_at k low ne =
      cleared_others (tree_of p v.number) (tree_of q v.number) i up known_way slice_index-cells_zero_block clears
      (way_of (131 + k)) (way_of-known (131 + k) (omega arith))
      (λ e. no_way_through (131 + k) i (omega arith) (subst (λ w. IsWay (i ∷ w)) (sym e) known_way.leads))
      (λ e. ne (same_code (131 + k) (code_of block) (e ∙ sym (way_here block i up h.can h.way))))

  pub data_same : (m k : ℕ) → (m ≢ v.number) ⊎ (131 + k ≢ code_of block) → data_block (tree_of q m) k
      ≡ data_block (tree_of p m) k
  data_same m k apart =
      elim (cases_lt k FILE_BLOCKS) [
        | inl low ↦ data_block-read (tree_of q m) k low ∙ (elim (cases_eq m v.number) [
          | inl e ↦
              let other : 131 + k ≢ code_of block = elim apart [ inl ne ↦ absurd (ne e) | inr ne ↦ ne ] in
              ap (λ n. read (tree_of q n) (way_of (131 + k))) e ∙ data_at k low other
              ∙ ap (λ n. read (tree_of p n) (way_of (131 + k))) (sym e)
          | inr ne ↦ (others_same m ne).bytes (way_of (131 + k)) (way_of-known (131 + k) (omega arith))
        ]) ∙ sym (data_block-read (tree_of p m) k low)
        | inr past ↦ data_block-past (tree_of q m) k past ∙ sym (data_block-past (tree_of p m) k past)
      ]

  -- the places of the keys
  readdresses : Readdresses (λ m. ⊤) p q v block 0
  readdresses = record {
    other = h.other;
    rows = h.rows;
    here = ap (address (tree_of q v.number)) (way_here block i up h.can h.way) ∙ address_here;
    rest = λ way there ne. address_rest way there (λ e. ne (e ∙ sym (way_here block i up h.can h.way)));
    others = λ m is. others_same m;
  }

  pub address_same : (m d : ℕ) → d < BLOCK_CODES → (m ≢ v.number) ⊎ (d ≢ code_of block)
      → address (tree_of q m) (way_of d) ≡ address (tree_of p m) (way_of d)
  address_same m d = unstaged.address_same (λ m. ⊤) p q v block 0 readdresses m d tt

  -- a key that has a place had it
  pub moves : Moves (λ segment. ⊤) (log_state p) (log_state q)
  moves = record {
    numbers = ap length h.rows;
    places = λ number code there within.
        elim (placed-cases (log_state p).at v.number (code_of block) 0 number code) [
          | inl e ↦ absurd (there.somewhere (place_after
              (λ m. ⊤) p q v block 0 readdresses number code tt there.code_below ∙ e.2))
          | inr e ↦ sym (place_kept (λ m. ⊤) p q v block 0 readdresses number code tt there.code_below e.0)
        ];
    versions = λ number code there within. sym (version_same number);
  }

  -- The log is kept.
  pub log_after : Assigns (log_state p) (log.log_state q.log (placed (log_state p).at v.number (code_of block) 0))
      v.number (code_of block) 0 → IsLog (log_state q) 0
  log_after left =
      let now : Assigns (log_state p) (log_state q) v.number (code_of block) 0 = record {
        numbers = left.numbers;
        segments = left.segments;
        places = λ m d inside. place_after (λ m. ⊤) p q v block 0 readdresses m d tt;
        versions = left.versions;
        end = record { active = left.end.active; next = left.end.next };
        used = record { states = left.used.states; clean = left.used.clean };
        live = left.live;
        owners = left.owners;
      } in
      left_log (log_state p) (log_state q) 0 v.number (code_of block) h.log h.low (code_of-below block h.can) now
