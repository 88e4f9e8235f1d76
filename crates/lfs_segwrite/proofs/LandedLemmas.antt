-- A block put at the log's end, its address set and its frame made clean is `Lands` for its file, and no data block of
-- any file reads otherwise: `lands`, `data_same`, `place_after`, `log_after`, for `landing::land_block` and
-- KeepingLemmas. No block of any file had that address (`unread`), so ReadingLemmas of `lfs_bmap` applies; for the log
-- the put makes 512 bytes spare, which the key takes (`written_log`, `taken_log`). The log must name the key there: a
-- block that lands out of the summary's order breaks `log_after`.
use Rattle.std.proofs.Common.{◌≡◌, ◌≢◌, ℕ, ◌+◌, ◌-◌, ◌*◌, ◌/◌, ◌<◌, ◌≤◌, ◌⊎◌, List, [], ◌∷◌, length, None, Some, IsSome}
use Rattle.std.proofs.Common.{false, sym, ap, ◌∙◌, subst, inl, inr, arith}
use Rattle.std.specs.Prelude.{slice_set}
use Rattle.std.proofs.lemmas.Bool.{cases_eq, cases_lt, cond-true, cond-false, eq-eqb, ne_eqb, lt-ltb, le-ltb}
use Rattle.lfs_types.specs.declared.limits.TheConstants.{FILE_BLOCKS}
use Rattle.lfs_ifile.specs.declared.inode.InodeRow.{InodeRow}
use Rattle.lfs_ifile.specs.Tables.{Tables, row_at, row_of}
use Rattle.lfs_inodes.specs.declared.inode.Inode.{Inode}
use Rattle.lfs_segments.specs.Log.{entry_at}
use Rattle.lfs_segments.specs.Memory.{SegmentMemory, block_at, next_address}
use Rattle.lfs_cache.specs.declared.key.Key.{Key}
use Rattle.lfs_cache.specs.Contents.{Contents, block_in}
use Rattle.lfs_cache.specs.Keys.{same_key}
use Rattle.lfs_log.specs.Parts.{live_of}
use Rattle.lfs_log.specs.Parts as log
use Rattle.lfs_log.proofs.NameLemmas.{named_at-block}
use Rattle.lfs_bmap.specs.declared.blocks.TheConstants.{BLOCK_CODES}
use Rattle.lfs_bmap.specs.declared.blocks.FileBlock.{FileBlock}
use Rattle.lfs_bmap.specs.Blocks.{IsFileBlock, code_of, logical_of, way_to}
use Rattle.lfs_bmap.specs.Counting.{placed, units}
use Rattle.lfs_bmap.specs.Log.{Assigns, IsLog, LogState}
use Rattle.lfs_bmap.specs.Reading.{Lands, SameReadings, address, data_block, read, table}
use Rattle.lfs_bmap.specs.Ways.{IsBlockWay, code_at, data_way, way_of}
use Rattle.lfs_bmap.proofs.BlockLemmas.{code_of-below}
use Rattle.lfs_bmap.proofs.LogLemmas.{taken_log, written_log, MayTake}
use Rattle.lfs_bmap.proofs.ReadingLemmas.{kept_blocks, landed_address, landed_addresses, landed_data, read-waits}
use Rattle.lfs_bmap.proofs.WayLemmas.{way_of-data, way_of-known}
use Rattle.lfs_parts.specs.declared.parts.Parts.{Parts}
use Rattle.lfs_parts.specs.Keys.{log_state}
use Rattle.lfs_staging.specs.Addressing.{IsWaiting, Sets}
use Rattle.lfs_segwrite.specs.Landing.{AppendsBlock}
use Rattle.lfs_parts.specs.View.{key_of, record_of, root_in, tree_of, version_of}
use Rattle.lfs_staging.proofs.TableLemmas.{apart_code, longer, room_at, table_same}
use Rattle.lfs_parts.proofs.ViewLemmas.{code_at-way_to}
use Rattle.lfs_parts.specs.Store.{HolderWaits}
use Rattle.lfs_staging.proofs.UnstagedLemmas as unstaged
use Rattle.lfs_staging.proofs.UnstagedLemmas.{Readdresses, Unstages, above_known, code_apart, known, parent_set}
use Rattle.lfs_staging.proofs.UnstagedLemmas.{record_here, waits_none, waits_other, waits_rest, way_here}

-- The steps of a landing: the block is put, its address is set, its live bytes move, and it waits no more.
pub record Steps (p r s q : Parts) (v : Inode) (block : FileBlock) (a i : ℕ) (up : List ℕ) : Type 0 where
  pub log : IsLog (log_state p) 0
  pub is : IsWaiting p v
  pub low : v.number < length p.log.tables.rows
  pub can : IsFileBlock block
  pub other : code_of block ≢ 0
  pub way : way_to block ≡ i ∷ up
  pub put : AppendsBlock p r a (read (tree_of p v.number) (i ∷ up))
  pub set : Sets r s v i up a
  pub memory : q.log.memory ≡ r.log.memory
  pub rows : q.log.tables.rows ≡ r.log.tables.rows
  pub waiting : q.waiting ≡ s.waiting
  pub gone : block_in (key_of v.number v.version (code_of block)) q.cache.locked ≡ None
  pub kept : (key : Key) → same_key (key_of v.number v.version (code_of block)) key ≡ false
      → block_in key q.cache.locked ≡ block_in key s.cache.locked
  pub clean : (key : Key) (bytes : List ℕ) → same_key (key_of v.number v.version (code_of block)) key ≡ false
      → block_in key q.cache.lru ≡ Some bytes → block_in key s.cache.lru ≡ Some bytes
  pub own : (bytes : List ℕ) → block_in (key_of v.number v.version (code_of block)) q.cache.lru ≡ Some bytes → bytes
      ≡ read (tree_of p v.number) (i ∷ up)

-- what waits for a block does still when it was put and its address was set
pub waits_set : (p r s : Parts) (v : Inode) (block : FileBlock) (a i : ℕ) (up bytes : List ℕ) → IsFileBlock block
    → way_to block ≡ i ∷ up
    → AppendsBlock p r a bytes → Sets r s v i up a
    → block_in (key_of v.number v.version (code_of block)) s.cache.locked
    ≡ block_in (key_of v.number v.version (code_of block)) p.cache.locked
waits_set p r s v block a i up bytes can way put set =
    let key = key_of v.number v.version (code_of block) in
    set.waits key (apart_code v.number v.number v.version v.version (code_at up) (code_of block)
    (λ e. code_apart block i up can way up (above_known block i up can way) (longer i up) (sym e)))
    ∙ ap (λ (c : Contents). block_in key c.locked) put.cache

-- a block that waits is what it reads as
pub waits_read : (p : Parts) (v : Inode) (block : FileBlock) (i : ℕ) (up bytes : List ℕ) → IsWaiting p v → way_to block
    ≡ i ∷ up
    → block_in (key_of v.number v.version (code_of block)) p.cache.locked ≡ Some bytes → bytes
    ≡ read (tree_of p v.number) (i ∷ up)
waits_read p v block i up bytes is way there =
    let code : code_at (i ∷ up) ≡ code_of block = ap code_at (sym way) ∙ code_at-way_to block in
    sym (read-waits (tree_of p v.number) (i ∷ up) bytes
    (ap (λ c. block_in (key_of v.number (version_of p v.number) c) p.cache.locked) code
    ∙ ap (λ n. block_in (key_of v.number n (code_of block)) p.cache.locked) (sym is.at_version) ∙ there))

module _ (p r s q : Parts) (v : Inode) (block : FileBlock) (a i : ℕ) (up : List ℕ)
    (h : Steps p r s q v block a i up) where
  pub rows_all : q.log.tables.rows ≡ p.log.tables.rows
  rows_all = h.rows ∙ ap (λ (t : Tables). t.rows) h.put.tables

  pub version_same : (m : ℕ) → version_of q m ≡ version_of p m
  version_same m = ap (λ (rs : List InodeRow). (row_at rs m).version) rows_all

  -- the address is set when the block was put
  unstages : Unstages r s q v block a i up
  unstages = record {
    can = h.can;
    way = h.way;
    at_version = h.is.at_version ∙ sym (ap (λ (t : Tables). (row_of t v.number).version) h.put.tables);
    set = h.set;
    memory = h.memory;
    rows = h.rows;
    waiting = h.waiting;
    gone = h.gone;
    kept = h.kept;
  }

  known_way : IsBlockWay (i ∷ up)
  known_way = known block i up h.can h.way

  pub record_other : (m : ℕ) → m ≢ v.number → record_of q m ≡ record_of p m
  record_other m other = unstaged.record_other r s q v block a i up unstages m other ∙ h.put.records m

  -- what waits
  pub waits_key : (key : Key) → same_key (key_of v.number v.version (code_of block)) key ≡ false
      → same_key (key_of v.number v.version (code_at up)) key ≡ false
      → block_in key q.cache.locked ≡ block_in key p.cache.locked
  waits_key key apart above = unstaged.waits_key r s q v block a i up unstages key apart above
      ∙ ap (λ (c : Contents). block_in key c.locked) h.put.cache

  waits_put : (m : ℕ) (way : List ℕ) → (tree_of r m).waits way ≡ (tree_of p m).waits way
  waits_put m way =
      ap (λ (t : Tables). block_in (key_of m (row_of t m).version (code_at way)) r.cache.locked) h.put.tables
      ∙ ap (λ (c : Contents). block_in (key_of m (version_of p m) (code_at way)) c.locked) h.put.cache

  pub block_other : (b : ℕ) → b ≢ a → block_at q.log.memory b ≡ block_at p.log.memory b
  block_other b other = ap (λ (m : SegmentMemory). block_at m b) h.memory ∙ h.put.blocks b other

  -- the files of other numbers
  pub others_same : (m : ℕ) → m < length p.log.tables.rows → m ≢ v.number → SameReadings (tree_of p m) (tree_of q m)
  others_same m inside other =
      kept_blocks (tree_of p m) (tree_of q m) (ap root_in (record_other m other))
      (λ way there. waits_other r s q v block a i up unstages m way other ∙ waits_put m way)
      (λ way there some. block_other (address (tree_of p m) way) (h.put.unread m inside way there))

  table_before : (up ≢ [] → IsSome ((tree_of p v.number).waits up)) → table (tree_of r v.number) up
      ≡ table (tree_of p v.number) up
  table_before waited =
      table_same (tree_of p v.number) (tree_of r v.number) up (ap root_in (h.put.records v.number))
      (λ some. (waits_put v.number up, waited some))

  -- the file of the number lands
  pub lands : (up ≢ [] → IsSome ((tree_of p v.number).waits up))
      → Lands (tree_of p v.number) (tree_of q v.number) i up a
  lands waited = record {
    somewhere = h.put.somewhere;
    room = room_at p v block h.is h.can h.other i up h.way;
    parent = parent_set r s q v block a i up unstages ∙ ap (λ ys. slice_set ys i a) (table_before waited);
    root = λ some. ap root_in (record_here r s q v block a i up unstages some ∙ h.put.records v.number);
    flushed = waits_none r s q v block a i up unstages;
    waits = λ way there ne far. waits_rest r s q v block a i up unstages way there ne far ∙ waits_put v.number way;
    written = ap (λ (m : SegmentMemory). block_at m a) h.memory ∙ h.put.written;
    blocks = λ b other. block_other b other;
  }

  -- so every data block reads as before
  pub data_same : (up ≢ [] → IsSome ((tree_of p v.number).waits up)) → (m k : ℕ) → m < length p.log.tables.rows
      → data_block (tree_of q m) k ≡ data_block (tree_of p m) k
  unfolding data_block
  data_same waited m k inside =
      elim (cases_lt k FILE_BLOCKS) [
        | inl below ↦ cond-true _ _ _ (lt-ltb k FILE_BLOCKS below) ∙ reads below
            ∙ sym (cond-true _ _ _ (lt-ltb k FILE_BLOCKS below))
        | inr past ↦ cond-false _ _ _ (le-ltb k FILE_BLOCKS past) ∙ sym (cond-false _ _ _ (le-ltb k FILE_BLOCKS past))
      ]
    where
      reads : k < FILE_BLOCKS → read (tree_of q m) (data_way k) ≡ read (tree_of p m) (data_way k)
      reads below =
          elim (cases_eq m v.number) [
            | inl e ↦ ap (λ n. read (tree_of q n) (data_way k)) e ∙ ap (read (tree_of q v.number)) (sym (way_of-data k))
                ∙ landed_data (tree_of p v.number) (tree_of q v.number) i up a known_way (lands waited)
                (h.put.unread v.number h.low) (131 + k) (omega arith) (omega arith)
                ∙ ap (read (tree_of p v.number)) (way_of-data k) ∙ ap (λ n. read (tree_of p n) (data_way k)) (sym e)
            | inr ne ↦ (others_same m inside ne).bytes (data_way k)
                (subst IsBlockWay (way_of-data k) (way_of-known (131 + k) (omega arith)))
          ]

  -- the places of the keys
  module _ (waited : up ≢ [] → IsSome ((tree_of p v.number).waits up)) where
    pub address_here : address (tree_of q v.number) (way_of (code_of block)) ≡ a
    address_here = ap (address (tree_of q v.number)) (way_here block i up h.can h.way)
        ∙ landed_address (tree_of p v.number) (tree_of q v.number) i up a known_way (lands waited)
        (h.put.unread v.number h.low)

    readdresses : Readdresses (λ m. m < length p.log.tables.rows) p q v block a
    readdresses = record {
      other = h.other;
      rows = rows_all;
      here = address_here;
      rest = λ way there ne. landed_addresses (tree_of p v.number) (tree_of q v.number) i up a known_way (lands waited)
          (h.put.unread v.number h.low) way there
          (λ e. ne (e ∙ sym (way_here block i up h.can h.way)));
      others = others_same;
    }

    pub address_same : (m d : ℕ) → m < length p.log.tables.rows → d < BLOCK_CODES → (m ≢ v.number) ⊎ (d ≢ code_of block)
        → address (tree_of q m) (way_of d) ≡ address (tree_of p m) (way_of d)
    address_same = unstaged.address_same (λ m. m < length p.log.tables.rows) p q v block a readdresses

    pub place_after : (m d : ℕ) → m < length p.log.tables.rows → d < BLOCK_CODES → (log_state q).at m d
        ≡ placed (log_state p).at v.number (code_of block) (4 * a) m d
    place_after = unstaged.place_after (λ m. m < length p.log.tables.rows) p q v block a readdresses

-- ---- live bytes
units_most : (code : ℕ) → 128 * units code ≤ 512
units_most code =
    elim (cases_eq code 0) [
      | inl e ↦ let one : units code ≡ 1 = cond-true _ _ _ (eq-eqb code 0 e) in omega (arith, one)
      | inr ne ↦ let four : units code ≡ 4 = cond-false _ _ _ (ne_eqb code 0 ne) in omega (arith, four)
    ]

-- a segment has room for the live bytes of the block that was put
pub live_fits : (p : Parts) (a code : ℕ) → IsLog (log_state p) 0 → a ≡ next_address p.log.memory
    → a < p.log.memory.active * 64 + 64
    → live_of p.log.tables (a / 64) + 128 * units code ≤ 32768
live_fits p a code log end inside =
    let here : a / 64 ≡ p.log.memory.active = omega arith in
    let spared = log.spared in
    let most = units_most code in
    let live : live_of p.log.tables (a / 64)
    ≡ live_of p.log.tables p.log.memory.active = ap (live_of p.log.tables) here in
    omega (arith, live, spared, most)

-- spare bytes may be fewer
spare_none : (l : LogState) (spare : ℕ) → IsLog l spare → IsLog l 0
spare_none l spare log = record {
  segments = log.segments;
  keys = log.keys;
  counted = log.counted;
  spared = let spared = log.spared in omega arith;
}

-- The log is kept.
pub log_after : (p r s q : Parts) (v : Inode) (block : FileBlock) (a i : ℕ) (up : List ℕ) → Steps p r s q v block a i up
    → (up ≢ [] → IsSome ((tree_of p v.number).waits up))
    → entry_at r.log.memory a ≡ Some (record { number = v.number; version = v.version; block = logical_of block })
    → Assigns (log.log_state r.log (log_state p).at)
    (log.log_state q.log (placed (log_state p).at v.number (code_of block) (4 * a))) v.number (code_of block)
    (4 * a)
    → IsLog (log_state q) 0
log_after p r s q v block a i up h waited named taken =
    let was : LogState = log.log_state r.log (log_state p).at in
    let mid : IsLog was (0 + 512 * 1) = written_log (log_state p) was 0 1 h.log h.put.step in
    let active = h.put.step.active in
    let next = h.put.step.next in
    let end = h.put.end in
    let inside = h.put.inside in
    let owned : was.owner (4 * a) ≡ Some (record { number = v.number; version = v.version; code = code_of block }) =
    named_at-block r.log.memory a v.number v.version block h.other named in
    let version : v.version ≡ (row_of r.log.tables v.number).version = h.is.at_version
    ∙ sym (ap (λ (t : Tables). (row_of t v.number).version) h.put.tables) in
    let may : MayTake was (0 + 512 * 1) v.number (code_of block) (4 * a) = record {
      number_below = subst (λ (t : Tables). v.number < length t.rows) (sym h.put.tables) h.low;
      code_below = code_of-below block h.can;
      somewhere = λ none. h.put.somewhere (omega (arith, none));
      here = omega (arith, active, end, inside);
      written = omega (arith, next, end);
      owned = owned ∙ ap (λ n. Some (record { number = v.number; version = n; code = code_of block })) version;
      enough = units_most (code_of block);
    } in
    let now : Assigns was (log_state q) v.number (code_of block) (4 * a) = record {
      numbers = taken.numbers;
      segments = taken.segments;
      places = λ m d inside below. place_after p r s q v block a i up h waited m d
          (subst (λ (t : Tables). m < length t.rows) h.put.tables inside) below;
      versions = taken.versions;
      end = record { active = taken.end.active; next = taken.end.next };
      used = record { states = taken.used.states; clean = taken.used.clean };
      live = taken.live;
      owners = taken.owners;
    } in
    spare_none (log_state q) (0 + 512 * 1 - 128 * units (code_of block))
    (taken_log was (log_state q) (0 + 512 * 1) v.number (code_of block) (4 * a) mid may now)

-- ---- what lets a block land
pub parent_kept : (p q : Parts) (v : Inode) (up : List ℕ) → q.cache ≡ p.cache
    → HolderWaits p.cache v.number v.version up → HolderWaits q.cache v.number v.version up
parent_kept p q v up cache waits = subst (λ (c : Contents). HolderWaits c v.number v.version up) (sym cache) waits
