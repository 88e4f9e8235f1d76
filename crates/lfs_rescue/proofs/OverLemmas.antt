-- What a crash left of a store's log has nothing of the store behind the log of a segment (`held_ahead`): each block that
-- the store holds is named by a partial segment of a segment that wasn't clean, and those stay (`log_stays`).
use Rattle.std.proofs.Common.{◌≡◌, ◌≢◌, ℕ, ◌+◌, ◌-◌, ◌*◌, ◌/◌, ◌<◌, ◌≤◌, inl, inr, Bool, List, [], ◌∷◌, Option, None, Some}
use Rattle.std.proofs.Common.{length, option_map, refl, sym, ap, subst, ◌∙◌, ⊎_elim, arith}
use Rattle.std.specs.List.{Contains}
use Rattle.std.proofs.lemmas.Bool.{cases_lt}
use Rattle.std.proofs.lemmas.Option.{none-some}
use Rattle.lfs_ifile.specs.declared.segment.SegState.TheVariants.{Clean}
use Rattle.lfs_segments.specs.declared.entry.SummaryEntry.{SummaryEntry}
use Rattle.lfs_segments.specs.Log.{after_block, entry_at, expected, expected_at, first_of, log_block}
use Rattle.lfs_segments.specs.Memory.{SegmentMemory, block_at, has_serials, next_address}
use Rattle.lfs_segments.specs.Serial.{Told, told_in}
use Rattle.lfs_segments.proofs.LogLemmas.{entry_at-ended, entry_at-in, expected_at-first, expected_at-more, next_entry}
use Rattle.lfs_segments.proofs.RisingLemmas.{none_behind}
use Rattle.lfs_log.specs.Parts.{state_of}
use Rattle.lfs_recovery.specs.declared.places.PartialSegment.{PartialSegment}
use Rattle.lfs_recovery.specs.Course.{end_of, partials}
use Rattle.lfs_recovery.specs.Logs.{IsChain, IsLog, IsLogged, log_place}
use Rattle.lfs_recovery.proofs.LogLemmas.{log_start-few, partials-logs}
use Rattle.lfs_found.specs.Found.{IsBegun}
use Rattle.lfs_found.specs.Written.{IsFindable}
use Rattle.lfs_found.proofs.ChainLemmas.{expects_in, finds_all, finds_begun, none_within, summary_at}
use Rattle.lfs_parts.specs.declared.parts.Parts.{Parts}
use Rattle.lfs_parts.specs.Keys.{log_state}
use Rattle.lfs_durable.specs.Crashes.{IsCrashOf, IsLeft}
use Rattle.lfs_durable.specs.Names.{IsDurable}
use Rattle.lfs_durable.specs.Spared.{IsHeld}
use Rattle.lfs_durable.proofs.ChainLemmas.{chain_logged, chain_same, cons_cases, cons_first, cons_there, in_chain}
use Rattle.lfs_durable.proofs.EndLemmas.{nothing_past}
use Rattle.lfs_durable.proofs.OwnLemmas.{held_named}
use Rattle.lfs_rescue.specs.Recovering.{IsPastLog}
use Rattle.lfs_rescue.proofs.AgainLemmas.{in_log}

-- the one of the highest serial in a chain
record HasTop (ps : List PartialSegment) : Type 0 where
  top : PartialSegment
  there : Contains ps top
  most : (r : PartialSegment) → Contains ps r → r.serial ≤ top.serial

top_of : (m : SegmentMemory) (segment address above : ℕ) (q : PartialSegment) (ps : List PartialSegment)
    → IsChain m segment address above (q ∷ ps) → HasTop (q ∷ ps)
top_of m segment address above q [] chain = record {
  top = q;
  there = cons_first q [];
  most = λ r there. ⊎_elim
      (λ (same : q ≡ r). let serial = ap (λ (s : PartialSegment). s.serial) same in omega arith)
      (λ (none : Contains [] r). let below = none.1 in absurd (omega arith))
      (cons_cases q r [] there);
}
top_of m segment address above q (s ∷ rest) chain =
    let next : ℕ = q.address + 1 + q.count in
    let t = top_of m segment next q.serial s rest chain.1 in
    let rises = (in_chain m segment next q.serial (s ∷ rest) t.top chain.1 t.there).rises in
    record {
      top = t.top;
      there = cons_there q t.top (s ∷ rest) t.there;
      most = λ r there. ⊎_elim
          (λ (same : q ≡ r). let serial = ap (λ (u : PartialSegment). u.serial) same in omega arith)
          (λ (later : Contains (s ∷ rest) r). t.most r later)
          (cons_cases q r (s ∷ rest) there);
    }

-- where a log names an address, one of its partial segments ends there or behind it
module _ (m : SegmentMemory) (next : ℕ) (f : IsFindable m next) (segment a : ℕ) (entry : SummaryEntry)
    (below : segment < m.segments) (here : a / 64 ≡ segment) (named : entry_at m a ≡ Some entry) where
  none_first : (o : Option Told) → told_in (block_at m (first_of segment)) ≡ o → IsLog m segment [] → ⊥
  none_first (Some t) is log =
      let start : ℕ = first_of segment in
      let few = log_start-few segment in
      let s = summary_at m segment start t below (omega arith) (omega arith) (expected_at-first m segment) is in
      let q : PartialSegment = record { serial = t.serial; address = start; count = length t.entries } in
      let begun : IsBegun m q = record { told = t; summary = s; serial = refl; count = refl } in
      let there = in_log m segment [] q log (finds_all m next q f.kind f.rising f.whole begun) (omega arith) in
      let low = there.1 in
      absurd (omega arith)
  none_first None is log = ⊎_elim
      (λ (more : first_of segment < a).
      let ended : expected_at m segment (first_of segment + 1) ≡ None =
      expected_at-more m segment (first_of segment) [] (omega arith) (expected_at-first m segment)
      ∙ ap (λ (s : Bool). after_block s [] (block_at m (first_of segment))) f.kind
      ∙ ap (option_map (λ (u : Told). u.entries)) is in
      none-some entry (sym (entry_at-ended m segment (first_of segment + 1) a ended (omega arith) here (omega arith))
      ∙ named))
      (λ (not_more : a ≤ first_of segment).
      let none : a - first_of segment ≡ first_of segment - first_of segment = omega arith in
      let first : expected_at m segment a ≡ Some [] =
      ap (expected (has_serials m) (log_block m segment)) none ∙ expected_at-first m segment in
      none-some entry (sym (entry_at-in m segment a here ∙ ap next_entry first) ∙ named))
      (cases_lt (first_of segment) a)

  pub none_named : (ps : List PartialSegment) → IsLog m segment ps
      → ((s : PartialSegment) → Contains ps s → s.address + s.count < a) → ⊥
  none_named [] log before = none_first (told_in (block_at m (first_of segment))) refl log
  none_named (q ∷ ps) log before =
      let t = top_of m segment (log_place segment) 0 q ps log.chain in
      let c = in_chain m segment (log_place segment) 0 (q ∷ ps) t.top log.chain t.there in
      let low = c.low in
      let high = c.high in
      let inside : t.top.address / 64 ≡ segment = omega arith in
      let logged : IsLogged m t.top =
      record { segment = segment; log = q ∷ ps; below = below; is = log; there = t.there } in
      let end = before t.top t.there in
      nothing_past m next f t.top logged
      (λ s l own. t.most s (in_log m segment (q ∷ ps) s log l (own ∙ inside))) a entry named
      (here ∙ sym inside, omega arith)

module _ (p : Parts) (n : SegmentMemory) (d : IsDurable p) (crash : IsCrashOf p n) where
  abbrev m : SegmentMemory
  m = p.log.memory

  findable : IsFindable m d.next
  findable = d.recoverable.to d.next d.serial d.bound

  -- a partial segment of the active segment ends before the log does
  end_before : (s : PartialSegment) → IsLogged m s → s.address / 64 ≡ m.active → s.address + s.count < next_address m
  end_before s logged here =
      let f = findable in
      let within = d.store.whole.parts.laid_out.within in
      let c = in_chain m logged.segment (log_place logged.segment) 0 logged.log s logged.is.chain logged.there in
      let low = c.low in
      let high = c.high in
      let b = finds_begun m s f.kind logged in
      let at = expects_in m m.active s.address b.told b.summary here in
      let count = b.count in
      ⊎_elim
      (λ (before : s.address < next_address m). ⊎_elim
      (λ (less : s.address + s.count < next_address m). less)
      (λ (not_less : next_address m ≤ s.address + s.count).
      absurd (none_within m m.active s.address (next_address m) b.told f.kind at.0 at.1 b.summary.told before (omega arith)
      d.store.ready.pending))
      (cases_lt (s.address + s.count) (next_address m)))
      (λ (past : next_address m ≤ s.address).
      absurd (none_behind m [] s.address b.told d.store.ready past (omega arith) b.summary))
      (cases_lt s.address (next_address m))

  -- ---- what stays
  kept_in : (segment : ℕ) (s : PartialSegment) (a : ℕ) → IsLeft p n segment → state_of p.log.tables segment ≢ Clean
      → IsLogged m s → s.address / 64 ≡ segment → a / 64 ≡ segment → a ≤ s.address + s.count
      → block_at n a ≡ block_at m a
  kept_in segment s a left dirty logged here inside high = elim left [
    | inl same ↦ same.each a inside
    | inr (inl torn) ↦
        let before = end_before s logged (here ∙ torn.active) in
        torn.before a inside (omega arith)
    | inr (inr (inl wiped)) ↦ absurd (dirty wiped.clean)
    | inr (inr (inr barren)) ↦ absurd (dirty barren.clean)
  ]

  pub log_stays : (s : PartialSegment) (l : IsLogged m s) → state_of p.log.tables l.segment ≢ Clean → IsLogged n s
  log_stays s l dirty =
      let segments = crash.segments in
      let below = l.below in
      let left = crash.each l.segment (omega arith) in
      chain_logged n l.segment l.log s (omega arith)
      (chain_same m n l.segment (log_place l.segment) 0 l.log
      (λ q in_log.
      let logged : IsLogged m q =
      record { segment = l.segment; log = l.log; below = l.below; is = l.is; there = in_log } in
      let c = in_chain m l.segment (log_place l.segment) 0 l.log q l.is.chain in_log in
      let low = c.low in
      let high = c.high in
      let start : q.address / 64 ≡ l.segment = omega arith in
      let end : (q.address + q.count) / 64 ≡ l.segment = omega arith in (
        kept_in l.segment q q.address left dirty logged start start (omega arith),
        kept_in l.segment q (q.address + q.count) left dirty logged start end (omega arith),
      )) l.is.chain) l.there

  -- so those of a segment that is known
  pub stays_in : (segment : ℕ) (s : PartialSegment) → IsLogged m s → s.address / 64 ≡ segment
      → state_of p.log.tables segment ≢ Clean → IsLogged n s
  stays_in segment s l here dirty =
      let c = in_chain m l.segment (log_place l.segment) 0 l.log s l.is.chain l.there in
      let low = c.low in
      let high = c.high in
      let same : segment ≡ l.segment = sym here ∙ omega arith in
      log_stays s l (subst (λ (k : ℕ). state_of p.log.tables k ≢ Clean) same dirty)

  -- ---- what the store holds
  held_dirty : (a : ℕ) → IsHeld p a → state_of p.log.tables (a / 64) ≢ Clean
  held_dirty a held =
      let place : ℕ = (log_state p).at held.number held.code in
      let key = d.store.log.keys held.number held.code held.placed in
      let here = held.here in
      let segment : place / 256 ≡ a / 64 = omega arith in
      subst (λ (k : ℕ). state_of p.log.tables k ≢ Clean) segment key.not_clean

  pub held_ahead : (a : ℕ) → IsHeld p a → IsPastLog n a → ⊥
  held_ahead a held past =
      let named = held_named p d a held in
      let inside = named.inside in
      let below : a / 64 < m.segments = omega arith in
      let logs = partials-logs m (partials m (end_of m)) refl in
      let is : IsLog m (a / 64) (logs.logs (a / 64)) = logs.each (a / 64) below in
      none_named m d.next findable (a / 64) a named.entry below refl named.named (logs.logs (a / 64)) is
      (λ s there.
      let logged : IsLogged m s =
      record { segment = a / 64; log = logs.logs (a / 64); below = below; is = is; there = there } in
      let c = in_chain m (a / 64) (log_place (a / 64)) 0 (logs.logs (a / 64)) s is.chain there in
      let low = c.low in
      let high = c.high in
      let here : s.address / 64 ≡ a / 64 = omega arith in
      past.past s (stays_in (a / 64) s logged here (held_dirty a held)) here)
