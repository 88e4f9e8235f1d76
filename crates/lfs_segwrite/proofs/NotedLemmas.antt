-- A record that stands in a slot of the log waits no more, and all files are what they were: `flushed_staged`,
-- `flushed_advances`, for `records::note_landed`. Read at its new place it is the one that waited (`record_here`);
-- its key takes the place and with it 128 of the spare bytes that the inode block brought (`taken_log`). The last
-- record is popped, and as no number waits twice none of its number is left (`last_once`); nothing else may wait by
-- then, which `no_frame` says.
use Rattle.std.proofs.Common.{◌≡◌, ◌≢◌, ℕ, zero, suc, ◌+◌, ◌-◌, ◌*◌, ◌/◌, ◌<◌, ◌≤◌, List, [], ◌∷◌, ◌++◌, length, None}
use Rattle.std.proofs.Common.{Some, IsSome, is_some, true, length-append, option_and_then, refl, sym, ap, ◌∙◌, subst}
use Rattle.std.proofs.Common.{inl, inr, arith}
use Rattle.std.specs.Prelude.{All, if◌then◌else◌, ◌==◌}
use Rattle.std.proofs.lemmas.Bool.{cases_eq, cond-true, cond-false, ne_eqb, false≢true}
use Rattle.std.proofs.lemmas.Option.{none-some}
use Rattle.std.proofs.lemmas.List.Elements.{All-pop}
use Rattle.lfs_ifile.specs.declared.inode.InodePlace.{InodePlace}
use Rattle.lfs_ifile.specs.declared.inode.InodeRow.{InodeRow}
use Rattle.lfs_ifile.specs.Inode.{fresh_row, place_in, placed_row}
use Rattle.lfs_ifile.specs.Tables.{Tables, place_of, row_of}
use Rattle.lfs_inodes.specs.declared.inode.Inode.{Inode}
use Rattle.lfs_cache.specs.Contents.{Contents, IsLocked, block_in}
use Rattle.lfs_segments.specs.Log.{first_of}
use Rattle.lfs_segments.specs.Memory.{SegmentMemory, block_at, has_serials, next_address}
use Rattle.lfs_segments.specs.Rising.{IsRising}
use Rattle.lfs_log.specs.Parts.{IsParts, MayMoveLive, record_place}
use Rattle.lfs_log.specs.Parts as log
use Rattle.lfs_log.proofs.TakeLemmas.{MayMoveLive-taken, MayTake-written}
use Rattle.lfs_bmap.specs.declared.blocks.TheConstants.{BLOCK_CODES}
use Rattle.lfs_bmap.specs.Counting.{placed, units}
use Rattle.lfs_bmap.specs.Reading as ways
use Rattle.lfs_bmap.specs.Ways.{code_at}
use Rattle.lfs_bmap.specs.Log.{Assigns, IsLog}
use Rattle.lfs_bmap.proofs.CountingLemmas.{placed-code, placed-here, placed-number}
use Rattle.lfs_bmap.proofs.LogLemmas.{taken_log, MayTake}
use Rattle.lfs_bmap.proofs.ReadingLemmas.{kept_blocks}
use Rattle.lfs_parts.specs.declared.parts.Parts.{Parts}
use Rattle.lfs_segwrite.specs.Flushing.{Waits}
use Rattle.lfs_parts.specs.Keys.{log_state}
use Rattle.lfs_segwrite.specs.Recording.{Advances, StandsAt}
use Rattle.lfs_staging.specs.Staging.{IsStaged}
use Rattle.lfs_parts.specs.Store.{IsPresent}
use Rattle.lfs_parts.specs.View.{fields_at, key_of, record_of, root_in, tree_of, version_of, waiting_in, waiting_or}
use Rattle.lfs_parts.specs.Waiting.{AreOnce}
use Rattle.lfs_segwrite.proofs.AlikeLemmas.{AreAlike, alike_content, alike_files, alike_place, alike_staged}
use Rattle.lfs_parts.proofs.SameLogLemmas.{used_low}
use Rattle.lfs_staging.proofs.SettingLemmas.{waiting_record}
use Rattle.lfs_parts.proofs.ViewLemmas.{record_of-logged}
use Rattle.lfs_parts.proofs.RecordsLemmas.{once_front, waiting-front}
use Rattle.lfs_parts.proofs.WaitingLemmas.{waiting-head, waiting-tail}
use Rattle.lfs_parts.proofs.KeyLemmas.{row_place}
use Rattle.lfs_staging.proofs.HeldFrames.{KeepsFrames-same}

-- ---- the list of records, and the last of them
waiting-last : (front : List Inode) (v : Inode) → waiting_in front v.number ≡ None
    → waiting_in (front ++ v ∷ []) v.number ≡ Some v
waiting-last [] v none = waiting-head v [] v.number refl
waiting-last (w ∷ front) v none = elim (cases_eq w.number v.number) [
  | inl is ↦ absurd (none-some w (sym none ∙ waiting-head w front v.number is))
  | inr ne ↦ waiting-tail w (front ++ v ∷ []) v.number ne
      ∙ waiting-last front v (sym (waiting-tail w front v.number ne) ∙ none)
]

-- ---- the record's place
record_row : (p q : Parts) (n : ℕ) → q.log.memory ≡ p.log.memory → row_of q.log.tables n ≡ row_of p.log.tables n
    → waiting_in q.waiting n ≡ waiting_in p.waiting n → record_of q n ≡ record_of p n
unfolding record_of
record_row p q n memory row waits =
    ap (λ w. option_and_then (λ (place : InodePlace). waiting_or w (fields_at q.log.memory place))
    (place_of q.log.tables n)) waits
    ∙ ap (λ (m : SegmentMemory). option_and_then
    (λ (place : InodePlace). waiting_or (waiting_in p.waiting n) (fields_at m place)) (place_of q.log.tables n))
    memory
    ∙ ap (λ (r : InodeRow). option_and_then (λ (place : InodePlace). waiting_or (waiting_in p.waiting n)
    (fields_at p.log.memory place)) (place_in r)) row

place_row : (s t : Tables) (n : ℕ) → row_of t n ≡ row_of s n → record_place t n ≡ record_place s n
unfolding record_place
place_row s t n row = ap (λ (r : InodeRow). if r.address == 0 then 0 else 4 * r.address + r.slot) row

place_some : (t : Tables) (n : ℕ) (r : InodeRow) → row_of t n ≡ r → r.address ≢ 0 → record_place t n ≡ 4 * r.address
    + r.slot
unfolding record_place
place_some t n r row some = ap (λ (r : InodeRow). if r.address == 0 then 0 else 4 * r.address + r.slot) row
    ∙ cond-false _ _ _ (ne_eqb r.address 0 some)

first_least : (segment address : ℕ) → first_of segment ≤ address → address ≢ 0
first_least zero address from none = absurd (omega arith)
first_least (suc segment) address from none = absurd (omega arith)

-- ---- what lets it settle
module _ (p : Parts) (v : Inode) (front : List Inode) (address slot spare : ℕ) (staged : IsStaged p (spare + 128))
    (items : p.waiting ≡ front ++ v ∷ []) (stands : StandsAt p v address slot) where
  pub last_once : (waiting_in front v.number ≡ None) × AreOnce front
  last_once = once_front front v (subst AreOnce items staged.once)

  pub last_waits : waiting_in p.waiting v.number ≡ Some v
  last_waits = ap (λ vs. waiting_in vs v.number) items ∙ waiting-last front v last_once.0

  pub last_present : IsPresent p v.number v.version
  last_present = (All-pop (λ (w : Inode). IsPresent p w.number w.version) p.waiting front
      (Some v) items staged.whole.records).1

  pub front_present : All (λ (w : Inode). IsPresent p w.number w.version) front
  front_present = (All-pop (λ (w : Inode). IsPresent p w.number w.version) p.waiting front
      (Some v) items staged.whole.records).0

  pub last_low : v.number < length p.log.tables.rows
  last_low = used_low p v.number last_present.in_use

  pub last_may : MayTake (log_state p) (spare + 128) v.number 0 (4 * address + slot)
  last_may =
      MayTake-written p.log (log_state p).at (spare
      + 128) v.number 0 address slot staged.whole.parts stands.from stands.below stands.in_block last_low
      (omega arith)
      (stands.named ∙ ap (λ n. Some (record { number = v.number; version = n; code = 0 })) last_present.at_version)
      (omega arith)

  pub last_move : MayMoveLive p.log 0 (row_of p.log.tables v.number).address address
  last_move =
      let slots = (staged.whole.parts.formed.each_row v.number fresh_row last_low).slot in
      MayMoveLive-taken p.log (log_state p).at (spare + 128) v.number 0
      (row_of p.log.tables v.number).address staged.log last_low (omega arith)
      (row_place p.log.tables v.number slots) (4 * address + slot) address last_may
      (let low = stands.in_block in omega arith)

-- ---- what settling makes
pub record Flushes (p q : Parts) (v : Inode) (front : List Inode) (address slot : ℕ) : Type 0 where
  pub staged : IsStaged p 128
  pub no_frame : p.cache.locked ≡ []
  pub items : p.waiting ≡ front ++ v ∷ []
  pub stands : StandsAt p v address slot
  pub left : q.waiting ≡ front
  pub cache : q.cache ≡ p.cache
  pub memory : q.log.memory ≡ p.log.memory
  pub row : row_of q.log.tables v.number ≡ placed_row address slot (row_of p.log.tables v.number)
  pub rows : (other : ℕ) → other ≢ v.number → row_of q.log.tables other ≡ row_of p.log.tables other
  pub inodes : length q.log.tables.rows ≡ length p.log.tables.rows
  pub states : q.log.tables.states ≡ p.log.tables.states
  pub clean : q.log.clean ≡ p.log.clean
  pub kept : IsParts q.log
  pub step : (at : ℕ → ℕ → ℕ) → at v.number 0 ≡ record_place p.log.tables v.number
      → Assigns (log.log_state p.log at) (log.log_state q.log
      (placed at v.number 0 (record_place q.log.tables v.number))) v.number 0 (record_place q.log.tables v.number)

module _ (p q : Parts) (v : Inode) (front : List Inode) (address slot : ℕ) (h : Flushes p q v front address slot) where
  present : IsPresent p v.number v.version
  present = last_present p v front address slot 0 h.staged h.items h.stands

  some_address : address ≢ 0
  some_address = first_least p.log.memory.active address h.stands.from

  used_same : (n : ℕ) → (row_of q.log.tables n).used ≡ (row_of p.log.tables n).used
  used_same n = elim (cases_eq n v.number) [
    | inl e ↦ ap (λ m. (row_of q.log.tables m).used) e ∙ ap (λ (r : InodeRow). r.used) h.row
        ∙ ap (λ m. (row_of p.log.tables m).used) (sym e)
    | inr ne ↦ ap (λ (r : InodeRow). r.used) (h.rows n ne)
  ]

  version_kept : (n : ℕ) → version_of q n ≡ version_of p n
  version_kept n = elim (cases_eq n v.number) [
    | inl e ↦ ap (λ m. (row_of q.log.tables m).version) e ∙ ap (λ (r : InodeRow). r.version) h.row
        ∙ ap (λ m. (row_of p.log.tables m).version) (sym e)
    | inr ne ↦ ap (λ (r : InodeRow). r.version) (h.rows n ne)
  ]

  waits_other : (n : ℕ) → n ≢ v.number → waiting_in q.waiting n ≡ waiting_in p.waiting n
  waits_other n ne =
      ap (λ vs. waiting_in vs n) h.left ∙ sym (waiting-front front v n (λ e. ne (sym e)))
      ∙ ap (λ vs. waiting_in vs n) (sym h.items)

  gone : waiting_in q.waiting v.number ≡ None
  gone = ap (λ vs. waiting_in vs v.number) h.left ∙ (last_once p v front address slot 0 h.staged h.items h.stands).0

  -- the record at its place is the one that waited
  record_here : record_of q v.number ≡ record_of p v.number
  record_here =
      let used : (row_of q.log.tables v.number).used ≡ true = used_same v.number ∙ present.in_use in
      record_of-logged q v.number _ (cond-true _ _ _ used) gone
      ∙ ap (λ (r : InodeRow). fields_at q.log.memory (record { addr = r.address; slot = r.slot; version = v.version }))
      h.row
      ∙ ap (λ (m : SegmentMemory). fields_at m (record { addr = address; slot = slot; version = v.version })) h.memory
      ∙ h.stands.reads
      ∙ sym (waiting_record p v (record {
        waits = last_waits p v front address slot 0 h.staged h.items h.stands;
        in_use = present.in_use;
        at_version = present.at_version;
      }))

  record_kept : (n : ℕ) → record_of q n ≡ record_of p n
  record_kept n = elim (cases_eq n v.number) [
    | inl e ↦ ap (record_of q) e ∙ record_here ∙ ap (record_of p) (sym e)
    | inr ne ↦ record_row p q n h.memory (h.rows n ne) (waits_other n ne)
  ]

  pub alike : AreAlike p q
  alike = record {
    cache = h.cache;
    numbers = h.inodes;
    used = used_same;
    versions = version_kept;
    records = record_kept;
    readings = λ n low. kept_blocks (tree_of p n) (tree_of q n) (ap root_in (record_kept n))
        (λ way known. ap (λ m. block_in (key_of n m (code_at way)) q.cache.locked) (version_kept n)
        ∙ ap (λ (c : Contents). block_in (key_of n (version_of p n) (code_at way)) c.locked) h.cache)
        (λ way known some. ap (λ (m : SegmentMemory). block_at m (address_of n way)) h.memory);
  }
    where
      address_of : ℕ → List ℕ → ℕ
      address_of n way = ways.address (tree_of p n) way

  -- its place is the slot
  place_here : record_place q.log.tables v.number ≡ 4 * address + slot
  place_here = place_some q.log.tables v.number
      (placed_row address slot (row_of p.log.tables v.number)) h.row some_address

  place_other : (n : ℕ) → n ≢ v.number → record_place q.log.tables n ≡ record_place p.log.tables n
  place_other n ne = place_row p.log.tables q.log.tables n (h.rows n ne)

  places_after : (n c : ℕ) → n < length p.log.tables.rows → c < BLOCK_CODES → (log_state q).at n c
      ≡ placed (log_state p).at v.number 0 (4 * address + slot) n c
  places_after n c low below = elim (cases_eq c 0) [
    | inr some ↦ alike_place p q alike n c low below some
        ∙ sym (placed-code (log_state p).at v.number 0 (4 * address + slot) n c some)
    | inl none ↦ ap ((log_state q).at n) none ∙ (elim (cases_eq n v.number) [
      | inl e ↦ ap (record_place q.log.tables) e ∙ place_here
          ∙ sym (ap (λ m. placed (log_state p).at v.number 0 (4 * address + slot) m 0) e
          ∙ placed-here (log_state p).at v.number 0 (4 * address + slot))
      | inr ne ↦ place_other n ne ∙ sym (placed-number (log_state p).at v.number 0 (4 * address + slot) n 0 ne)
    ]) ∙ ap (placed (log_state p).at v.number 0 (4 * address + slot) n) (sym none)
  ]

  assigns : Assigns (log_state p) (log_state q) v.number 0 (4 * address + slot)
  assigns =
      let taken = subst (λ place. Assigns (log_state p)
      (log.log_state q.log (placed (log_state p).at v.number 0 place)) v.number 0 place) place_here
      (h.step (log_state p).at refl) in
      record {
        numbers = taken.numbers;
        segments = taken.segments;
        places = places_after;
        versions = taken.versions;
        end = record { active = taken.end.active; next = taken.end.next };
        used = record { states = taken.used.states; clean = taken.used.clean };
        live = taken.live;
        owners = taken.owners;
      }

  pub flushed_staged : (spare : ℕ) → IsStaged p (spare + 128) → IsStaged q spare
  flushed_staged spare staged =
      let may = last_may p v front address slot spare staged h.items h.stands in
      let log = taken_log (log_state p) (log_state q) (spare + 128) v.number 0 (4 * address
      + slot) staged.log may assigns in
      let left : spare + 128 - 128 * units 0 ≡ spare = omega arith in
      let files = alike_files p q alike staged.whole h.kept
      (subst (All (λ (w : Inode). IsPresent p w.number w.version)) (sym h.left)
      (front_present p v front address slot spare staged h.items h.stands)) in
      let count : length p.waiting ≡ length front + 1 = ap length h.items ∙ length-append front (v ∷ []) in
      let left_count = ap length h.left in
      alike_staged p q alike (spare + 128) spare staged files (subst (IsLog (log_state q)) left log)
      (subst AreOnce (sym h.left) (last_once p v front address slot spare staged h.items h.stands).1) (omega arith)
      (λ key locked waits. absurd (false≢true (sym (ap (λ es. is_some (block_in key es)) h.no_frame) ∙ locked)))

  -- only the record's key has another place
  waits_before : (n c : ℕ) → Waits q n c → Waits p n c
  waits_before n zero waits = elim (cases_eq n v.number) [
    | inl e ↦ absurd (false≢true (sym (ap (λ m. is_some (waiting_in q.waiting m)) e ∙ ap is_some gone) ∙ waits))
    | inr ne ↦ subst IsSome (waits_other n ne) waits
  ]
  waits_before n (suc c) waits = subst (λ m. IsLocked (key_of n m (suc c)) p.cache) (version_kept n)
      (subst (IsLocked (key_of n (version_of q n) (suc c))) h.cache waits)

  stays : (n c : ℕ) → n < length p.log.tables.rows → c < BLOCK_CODES → (Waits p n c → ⊥) → (log_state q).at n c
      ≡ (log_state p).at n c
  stays n zero low below none = place_other n
      (λ e. none (ap (λ m. is_some (waiting_in p.waiting m)) e
      ∙ ap is_some (last_waits p v front address slot 0 h.staged h.items h.stands)))
  stays n (suc c) low below none = alike_place p q alike n (suc c) low below (λ e. absurd (omega arith))

  moves : (from : ℕ) → from ≤ address → (n c : ℕ) → n < length p.log.tables.rows → c < BLOCK_CODES → Waits p n c
      → (Waits q n c → ⊥)
      → (from ≤ (log_state q).at n c / 4) × ((log_state q).at n c / 4 < next_address q.log.memory)
  moves from first n zero low below waits none = elim (cases_eq n v.number) [
    | inl e ↦
        let at : record_place q.log.tables n ≡ 4 * address + slot = ap (record_place q.log.tables) e ∙ place_here in
        let slot_ = h.stands.in_block in
        let end = h.stands.below in
        let next : next_address q.log.memory ≡ next_address p.log.memory =
        ap (λ (m : SegmentMemory). next_address m) h.memory in
        (omega arith, omega arith)
    | inr ne ↦ absurd (none (subst IsSome (sym (waits_other n ne)) waits))
  ]
  moves from first n (suc c) low below waits none =
      absurd (none (subst (IsLocked (key_of n (version_of q n) (suc c))) (sym h.cache)
      (subst (λ m. IsLocked (key_of n m (suc c)) p.cache) (sym (version_kept n)) waits)))

  pub flushed_advances : (from : ℕ) → from ≤ address → Advances from p q
  flushed_advances from first = record {
    content = alike_content p q alike;
    segments = ap (λ (m : SegmentMemory). m.segments) h.memory;
    serials = ap has_serials h.memory;
    rising = subst IsRising (sym h.memory);
    active = ap (λ (m : SegmentMemory). m.active) h.memory;
    states = h.states;
    clean = h.clean;
    numbers = h.inodes;
    used = used_same;
    versions = version_kept;
    next = let next : next_address q.log.memory
        ≡ next_address p.log.memory = ap (λ (m : SegmentMemory). next_address m) h.memory in omega arith;
    only = λ n c low below waits. waits_before n c waits;
    still = stays;
    moved = moves from first;
    blocks = λ a apart. ap (λ (m : SegmentMemory). block_at m a) h.memory;
    held = KeepsFrames-same p.cache q.cache h.cache;
  }
