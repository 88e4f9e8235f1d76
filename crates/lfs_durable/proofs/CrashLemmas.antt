-- What a crash leaves spares the store (`crash_spares`). Of a segment that is not clean the log stays (`log_stays`): its
-- partial segments end before the end of the active segment's log (`end_before`). And whatever partial segment or record is
-- found in what is left was found before (`none_new`, `no_record`): behind the end none is whole (`torn_chain`), and of what
-- is being filled with zeros whole ones are as they were (`wiped_same`).
use Rattle.std.proofs.Common.{◌≡◌, ◌≢◌, ℕ, ◌+◌, ◌*◌, ◌/◌, ◌<◌, ◌≤◌, inl, inr, true, List, [], ◌∷◌, Option, None, Some}
use Rattle.std.proofs.Common.{get_or, length, refl, sym, ap, subst, ◌∙◌, ⊎_elim, arith}
use Rattle.std.specs.List.{Contains}
use Rattle.std.proofs.lemmas.Bool.{cases_lt}
use Rattle.std.proofs.lemmas.Option.{none-some}
use Rattle.lfs_types.specs.Blocks.{zero_block}
use Rattle.lfs_inodes.specs.Reading.{fields_in}
use Rattle.lfs_inodes.specs.Slots.{slot_of}
use Rattle.lfs_inodes.proofs.FieldsRead.{fields_in-unused}
use Rattle.lfs_segments.specs.Log.{expected_at, first_of}
use Rattle.lfs_segments.specs.Memory.{SegmentMemory, block_at, next_address}
use Rattle.lfs_segments.specs.Serial.{told_in}
use Rattle.lfs_segments.proofs.LogLemmas.{expected_at-first}
use Rattle.lfs_segments.proofs.RisingLemmas.{none_behind}
use Rattle.lfs_ifile.specs.declared.segment.SegState.TheVariants.{Clean}
use Rattle.lfs_ifile.specs.Tables.{row_of}
use Rattle.lfs_log.specs.Parts.{state_of}
use Rattle.lfs_recovery.specs.declared.places.PartialSegment.{PartialSegment}
use Rattle.lfs_recovery.specs.declared.places.RecordPlace.{RecordPlace}
use Rattle.lfs_recovery.specs.Logs.{IsChain, IsLink, IsLogged, log_place}
use Rattle.lfs_recovery.specs.Newest.{IsNewest, IsNoNewer, IsRecord}
use Rattle.lfs_recovery.specs.Whole.{IsWhole}
use Rattle.lfs_found.specs.Written.{IsFindable}
use Rattle.lfs_found.proofs.ChainLemmas.{expected-next, expects_in, finds_begun, none_within}
use Rattle.lfs_parts.specs.declared.parts.Parts.{Parts}
use Rattle.lfs_parts.specs.Keys.{log_state}
use Rattle.lfs_durable.specs.Crashes.{FindsAfterCrash, IsBarren, IsCrashOf, IsLeft, IsNoneWhole, IsTorn, IsWiped}
use Rattle.lfs_durable.specs.Names.{IsDurable}
use Rattle.lfs_durable.specs.Spared.{IsHeld, Spares}
use Rattle.lfs_durable.proofs.ChainLemmas.{HasSame, chain_logged, chain_same, in_chain, whole_same}
use Rattle.lfs_durable.proofs.ChainLemmas.{zeros_last, zeros_tell}
use Rattle.lfs_durable.proofs.ContentLemmas.{finds_spared}
use Rattle.lfs_durable.proofs.EndLemmas.{nothing_past}
use Rattle.lfs_durable.proofs.OwnLemmas.{held_named}
use Rattle.lfs_durable.proofs.PlaceLemmas.{there}
use Rattle.lfs_durable.proofs.SparedLemmas.{record_held}

-- where a partial segment of a log stands
pub record StandsIn (segment : ℕ) (s : PartialSegment) : Type 0 where
  pub low : first_of segment ≤ s.address
  pub high : s.address + s.count < (segment + 1) * 64
  pub start : s.address / 64 ≡ segment
  pub end : (s.address + s.count) / 64 ≡ segment

stands : (m : SegmentMemory) (segment above : ℕ) (address : ℕ) (ps : List PartialSegment) (s : PartialSegment)
    → first_of segment ≤ address → IsChain m segment address above ps → Contains ps s → StandsIn segment s
stands m segment above address ps s from chain in_ps =
    let c = in_chain m segment address above ps s chain in_ps in
    let low = c.low in
    let high = c.high in
    record { low = omega arith; high = high; start = omega arith; end = omega arith }

logged_stands : (m : SegmentMemory) (s : PartialSegment) (l : IsLogged m s) → StandsIn l.segment s
logged_stands m s l = stands m l.segment 0 (log_place l.segment) l.log s (omega arith) l.is.chain l.there

-- one record is no newer than a third one
newer_than : (t s r : RecordPlace) → IsNoNewer t s → IsNoNewer s r → IsNoNewer t r
newer_than t s r (inl less) (inl more) = inl (omega arith)
newer_than t s r (inl less) (inr same) = let level = same.0 in inl (omega arith)
newer_than t s r (inr same) (inl more) = let level = same.0 in inl (omega arith)
newer_than t s r (inr same) (inr level) =
    let place = same.1 in let behind = level.1 in inr (same.0 ∙ level.0, omega arith)

module _ (p : Parts) (n : SegmentMemory) (d : IsDurable p) (crash : IsCrashOf p n) where
  abbrev m : SegmentMemory
  m = p.log.memory

  findable : IsFindable m d.next
  findable = d.recoverable.to d.next d.serial d.bound

  -- a partial segment of the active segment ends before the log does
  end_before : (s : PartialSegment) → IsLogged m s → s.address / 64 ≡ m.active → s.address + s.count < next_address m
  end_before s logged here =
      let f = findable in
      let laid = d.store.whole.parts.laid_out in
      let within = laid.within in
      let l = logged_stands m s logged in
      let high = l.high in
      let start = l.start in
      let b = finds_begun m s f.kind logged in
      let at = expects_in m m.active s.address b.told b.summary here in
      let count = b.count in
      ⊎_elim
      (λ (before : s.address < next_address m). ⊎_elim
      (λ (less : s.address + s.count < next_address m). less)
      (λ (not_less : next_address m ≤ s.address + s.count).
      absurd (none_within m m.active s.address (next_address m) b.told f.kind at.0 at.1 b.summary.told before (omega arith)
      d.store.ready.pending))
      (cases_lt (s.address + s.count) (next_address m)))
      (λ (past : next_address m ≤ s.address).
      absurd (none_behind m [] s.address b.told d.store.ready past (omega arith) b.summary))
      (cases_lt s.address (next_address m))

  -- ---- what stays
  -- the blocks of a partial segment in a segment that is not clean
  kept_in : (segment : ℕ) (s : PartialSegment) (a : ℕ) → IsLeft p n segment → state_of p.log.tables segment ≢ Clean
      → IsLogged m s → s.address / 64 ≡ segment → s.address ≤ a → a ≤ s.address + s.count
      → block_at n a ≡ block_at m a
  kept_in segment s a left dirty logged here low high =
      let l = logged_stands m s logged in
      let start = l.start in
      let end = l.high in
      let inside : a / 64 ≡ segment = omega arith in
      elim left [
        | inl same ↦ same.each a inside
        | inr (inl torn) ↦
            let before = end_before s logged (here ∙ torn.active) in
            torn.before a inside (omega arith)
        | inr (inr (inl wiped)) ↦ absurd (dirty wiped.clean)
        | inr (inr (inr barren)) ↦ absurd (dirty barren.clean)
      ]

  log_stays : (s : PartialSegment) (l : IsLogged m s) → state_of p.log.tables l.segment ≢ Clean → IsLogged n s
  log_stays s l dirty =
      let segments = crash.segments in
      let below = l.below in
      let left = crash.each l.segment (omega arith) in
      chain_logged n l.segment l.log s (omega arith)
      (chain_same m n l.segment (log_place l.segment) 0 l.log
      (λ q in_log.
      let logged : IsLogged m q =
      record { segment = l.segment; log = l.log; below = l.below; is = l.is; there = in_log } in
      let start = (logged_stands m q logged).start in (
        kept_in l.segment q q.address left dirty logged start (omega arith) (omega arith),
        kept_in l.segment q (q.address + q.count) left dirty logged start (omega arith) (omega arith),
      )) l.is.chain) l.there

  -- ---- nothing new is found
  -- of a torn end
  torn_chain : (segment address above : ℕ) (ps : List PartialSegment) → IsTorn m n segment → first_of segment ≤ address
      → address ≤ next_address m → expected_at m segment address ≡ Some [] → IsChain n segment address above ps
      → IsChain m segment address above ps
  torn_chain segment address above [] torn from to expects chain = tt
  torn_chain segment address above (q ∷ ps) torn from to expects chain =
      let link = chain.0 in
      let place = link.place in
      let inside = link.inside in
      let count = link.whole.count in
      let active = torn.active in
      let kind = (findable).kind in
      let at : expected_at m segment q.address ≡ Some [] = ap (expected_at m segment) place ∙ expects in
      ⊎_elim
      (λ (before : q.address < next_address m).
      let start : q.address / 64 ≡ segment = omega arith in
      let end : (q.address + q.count) / 64 ≡ segment = omega arith in
      let first = torn.before q.address start before in
      let told = ap told_in (sym first) ∙ link.whole.spelled in
      ⊎_elim
      (λ (less : q.address + q.count < next_address m).
      let same : HasSame n m q = (sym first, sym (torn.before (q.address + q.count) end less)) in
      let behind : q.address + 1 + length link.whole.told.entries ≡ q.address + 1 + q.count =
      ap (λ (k : ℕ). q.address + 1 + k) count in
      let here : IsLink m segment address above q = record {
        whole = whole_same n m q same link.whole;
        place = place;
        inside = inside;
        rises = link.rises;
      } in (
        here,
        torn_chain segment (q.address + 1 + q.count) q.serial ps torn (omega arith) (omega arith)
            (ap (expected_at m segment) (sym behind)
            ∙ expected-next m segment q.address link.whole.told kind (omega arith) at told) chain.1,
      ))
      (λ (not_less : next_address m ≤ q.address + q.count).
      absurd (none_within m segment q.address (next_address m) link.whole.told kind (omega arith) at told before (omega arith)
      (ap (λ (k : ℕ). expected_at m k (next_address m)) active ∙ d.store.ready.pending)))
      (cases_lt (q.address + q.count) (next_address m)))
      (λ (past : next_address m ≤ q.address). absurd (torn.torn q link.whole (omega arith)))
      (cases_lt q.address (next_address m))

  -- of a segment that is being filled with zeros
  wiped_same : (segment : ℕ) (s : PartialSegment) → IsWiped p n segment → StandsIn segment s → IsWhole n s → HasSame n m s
  wiped_same segment s wiped at whole = (
    ⊎_elim
        (λ (same : block_at n s.address ≡ block_at m s.address). sym same)
        (λ (zeros : block_at n s.address ≡ zero_block).
        absurd (none-some whole.told (sym zeros_tell ∙ ap told_in (sym zeros) ∙ whole.spelled)))
        (wiped.each s.address at.start),
    ⊎_elim
        (λ (same : block_at n (s.address + s.count) ≡ block_at m (s.address + s.count)). sym same)
        (λ (zeros : block_at n (s.address + s.count) ≡ zero_block).
        absurd (zeros_last n (s.address + s.count) zeros whole.record_there))
        (wiped.each (s.address + s.count) at.end),
  )

  -- of any segment
  chain_was : (segment : ℕ) (ps : List PartialSegment) → IsLeft p n segment → IsChain n segment (log_place segment) 0 ps
      → IsChain m segment (log_place segment) 0 ps
  chain_was segment ps (inl same) chain =
      chain_same n m segment (log_place segment) 0 ps (λ s in_ps.
      let at = stands n segment 0 (log_place segment) ps s (omega arith) chain in_ps in
      (sym (same.each s.address at.start), sym (same.each (s.address + s.count) at.end))) chain
  chain_was segment ps (inr (inl torn)) chain =
      let laid = d.store.whole.parts.laid_out in
      let begun = laid.begun in
      let active = torn.active in
      let start : log_place segment ≤ next_address m =
      subst (λ (k : ℕ). log_place k ≤ next_address m) (sym active) (omega arith) in
      torn_chain segment (log_place segment) 0 ps torn (omega arith) start (expected_at-first m segment) chain
  chain_was segment ps (inr (inr (inl wiped))) chain =
      chain_same n m segment (log_place segment) 0 ps (λ s in_ps.
      wiped_same segment s wiped (stands n segment 0 (log_place segment) ps s (omega arith) chain in_ps)
      (in_chain n segment (log_place segment) 0 ps s chain in_ps).whole) chain
  chain_was segment [] (inr (inr (inr barren))) chain = tt
  chain_was segment (s ∷ ps) (inr (inr (inr barren))) chain = absurd (barren.torn s chain.0.whole chain.0.place)

  pub none_new : (s : PartialSegment) → IsLogged n s → IsLogged m s
  none_new s l =
      let segments = crash.segments in
      let below = l.below in
      chain_logged m l.segment l.log s (omega arith)
      (chain_was l.segment l.log (crash.each l.segment l.below) l.is.chain) l.there

  -- ---- records
  -- a record stays where its summary and its block do
  record_moved : (a b : SegmentMemory) (r : RecordPlace) (is : IsRecord a r) → IsLogged b is.segment
      → block_at b is.segment.address ≡ block_at a is.segment.address → block_at b r.address ≡ block_at a r.address
      → IsRecord b r
  record_moved a b r is logged first own = record {
    segment = is.segment;
    logged = logged;
    told = is.told;
    spelled = ap told_in first ∙ is.spelled;
    entry = is.entry;
    named = is.named;
    inodes = is.inodes;
    serial = is.serial;
    address = is.address;
    slot = is.slot;
    fields = is.fields;
    read = ap (λ (block : List ℕ). fields_in (slot_of block r.slot)) own ∙ is.read;
    number = is.number;
    version = is.version;
  }

  -- the summary and the block of a record that is found were there
  record_was : (r : RecordPlace) (is : IsRecord n r) (segment : ℕ) → StandsIn segment is.segment
      → IsLogged m is.segment → (IsBarren p n segment → ⊥) → IsLeft p n segment
      → (block_at m is.segment.address ≡ block_at n is.segment.address) × (block_at m r.address ≡ block_at n r.address)
  record_was r is segment at logged some (inl same) =
      let address = is.address in
      let named = is.named in
      let start = at.start in
      let high = at.high in
      let inside : r.address / 64 ≡ segment = omega arith in
      (sym (same.each is.segment.address at.start), sym (same.each r.address inside))
  record_was r is segment at logged some (inr (inl torn)) =
      let address = is.address in
      let named = is.named in
      let start = at.start in
      let high = at.high in
      let inside : r.address / 64 ≡ segment = omega arith in
      let before = end_before is.segment logged (at.start ∙ torn.active) in (
        sym (torn.before is.segment.address at.start (omega arith)),
        sym (torn.before r.address inside (omega arith)),
      )
  record_was r is segment at logged some (inr (inr (inl wiped))) =
      let address = is.address in
      let named = is.named in
      let start = at.start in
      let high = at.high in
      let inside : r.address / 64 ≡ segment = omega arith in (
        ⊎_elim
            (λ (same : block_at n is.segment.address ≡ block_at m is.segment.address). sym same)
            (λ (zeros : block_at n is.segment.address ≡ zero_block).
            absurd (none-some is.told (sym zeros_tell ∙ ap told_in (sym zeros) ∙ is.spelled)))
            (wiped.each is.segment.address at.start),
        ⊎_elim
            (λ (same : block_at n r.address ≡ block_at m r.address). sym same)
            (λ (zeros : block_at n r.address ≡ zero_block).
            absurd (none-some is.fields (sym (fields_in-unused (block_at n r.address) r.slot is.slot zeros) ∙ is.read)))
            (wiped.each r.address inside),
      )
  record_was r is segment at logged some (inr (inr (inr barren))) = absurd (some barren)

  -- of a log that is barren none is found
  none_found : (segment : ℕ) (ps : List PartialSegment) (s : PartialSegment) → IsBarren p n segment
      → IsChain n segment (log_place segment) 0 ps → Contains ps s → ⊥
  none_found segment [] s barren chain in_ps = let below = in_ps.1 in absurd (omega arith)
  none_found segment (q ∷ ps) s barren chain in_ps = barren.torn q chain.0.whole chain.0.place

  no_record : (r : RecordPlace) → IsRecord n r → IsRecord m r
  no_record r is =
      let l = is.logged in
      let logged = none_new is.segment l in
      let was = record_was r is l.segment (logged_stands n is.segment l) logged
      (λ barren. none_found l.segment l.log is.segment barren l.is.chain l.there) (crash.each l.segment l.below) in
      record_moved n m r is logged was.0 was.1

  -- ---- what the store holds
  held_dirty : (a : ℕ) → IsHeld p a → state_of p.log.tables (a / 64) ≢ Clean
  held_dirty a held =
      let place : ℕ = (log_state p).at held.number held.code in
      let key = d.store.log.keys held.number held.code held.placed in
      let here = held.here in
      let segment : place / 256 ≡ a / 64 = omega arith in
      subst (λ (k : ℕ). state_of p.log.tables k ≢ Clean) segment key.not_clean

  held_kept : (a : ℕ) → IsHeld p a → block_at n a ≡ block_at m a
  held_kept a held =
      let key = d.store.log.keys held.number held.code held.placed in
      let here = held.here in
      let in_volume = key.in_volume in
      let segments = crash.segments in
      let dirty = held_dirty a held in
      elim (crash.each (a / 64) (omega arith)) [
        | inl same ↦ same.each a refl
        | inr (inl torn) ↦
            let active = torn.active in
            let before = key.written (omega arith) in
            torn.before a refl (omega arith)
        | inr (inr (inl wiped)) ↦ absurd (dirty wiped.clean)
        | inr (inr (inr barren)) ↦ absurd (dirty barren.clean)
      ]

  -- the newest record of a number in use is there
  newest_there : (number : ℕ) → (row_of p.log.tables number).used ≡ true → (s : RecordPlace)
      → s.address ≡ (row_of p.log.tables number).address → IsRecord m s → IsRecord n s
  newest_there number used s place is =
      let l = is.logged in
      let at = logged_stands m is.segment l in
      let start = at.start in
      let high = at.high in
      let address = is.address in
      let named = is.named in
      let segments = crash.segments in
      let below = l.below in
      let held : IsHeld p s.address = subst (IsHeld p) (sym place) (record_held p d number used) in
      let inside : s.address / 64 ≡ l.segment = omega arith in
      let dirty : state_of p.log.tables l.segment ≢ Clean =
      subst (λ (k : ℕ). state_of p.log.tables k ≢ Clean) inside (held_dirty s.address held) in
      let left = crash.each l.segment (omega arith) in
      record_moved m n s is (log_stays is.segment l dirty)
      (kept_in l.segment is.segment is.segment.address left dirty l at.start (omega arith) (omega arith))
      (kept_in l.segment is.segment s.address left dirty l at.start (omega arith) (omega arith))

  newest_was : (number : ℕ) (o : Option RecordPlace) → (row_of p.log.tables number).used ≡ true → IsNewest n number o
      → IsNewest m number o
  newest_was number None used is =
      let s = there p d number used in
      absurd (is s.newest (newest_there number used s.newest s.address s.found.0) s.found.1.0)
  newest_was number (Some r) used is =
      let s = there p d number used in
      let no_newer = is.1.1 s.newest (newest_there number used s.newest s.address s.found.0) s.found.1.0 in (
        no_record r is.0,
        (is.1.0, λ t found own. newer_than t s.newest r (s.found.1.1 t found own) no_newer),
      )

  pub crash_spares : Spares p n
  crash_spares = record {
    segments = crash.segments;
    label = crash.label;
    held = held_kept;
    newest = newest_was;
    ends = λ last logged latest address held past.
        let named = held_named p d address held in
        nothing_past m d.next findable last (none_new last logged)
        (λ s l here.
        let at = logged_stands m s l in
        let start = at.start in
        let own = past.0 in
        let inside : address / 64 ≡ l.segment = omega arith in
        latest s (log_stays s l
        (subst (λ (k : ℕ). state_of p.log.tables k ≢ Clean) inside (held_dirty address held))))
        address named.entry named.named past;
  }

pub finds_after_crash : FindsAfterCrash
finds_after_crash p q w n d shows tree crash made store done =
    finds_spared p q w n d shows tree (crash_spares p n d crash) made store done

-- ---- the blocks alone decide
none_same : (m n : SegmentMemory) (a : ℕ) → n.blocks ≡ m.blocks → IsNoneWhole m a → IsNoneWhole n a
none_same m n a same none = λ s whole at.
    let at_block : (x : ℕ) → block_at m x ≡ block_at n x =
    λ x. ap (λ (bs : List (List ℕ)). get_or bs x []) (sym same) in
    none s (whole_same n m s (at_block s.address, at_block (s.address + s.count)) whole) at

pub crash_same : (p : Parts) (m n : SegmentMemory) → n.blocks ≡ m.blocks → n.segments ≡ m.segments → IsCrashOf p m
    → IsCrashOf p n
crash_same p m n same size crash =
    let at_block : (x : ℕ) → block_at n x ≡ block_at m x = λ x. ap (λ (bs : List (List ℕ)). get_or bs x []) same in
    record {
      segments = size ∙ crash.segments;
      label = at_block 0 ∙ crash.label;
      each = λ segment below. elim (crash.each segment (omega arith)) [
        | inl left ↦ inl (record { each = λ a here. at_block a ∙ left.each a here })
        | inr (inl torn) ↦ inr (inl (record {
          active = torn.active;
          before = λ a here low. at_block a ∙ torn.before a here low;
          torn = none_same m n (next_address p.log.memory) same torn.torn;
        }))
        | inr (inr (inl wiped)) ↦ inr (inr (inl (record {
          clean = wiped.clean;
          each = λ a here. ⊎_elim
              (λ (was : block_at m a ≡ block_at p.log.memory a). inl (at_block a ∙ was))
              (λ (zeros : block_at m a ≡ zero_block). inr (at_block a ∙ zeros))
              (wiped.each a here);
        })))
        | inr (inr (inr barren)) ↦ inr (inr (inr (record {
          clean = barren.clean;
          torn = none_same m n (log_place segment) same barren.torn;
        })))
      ];
    }
