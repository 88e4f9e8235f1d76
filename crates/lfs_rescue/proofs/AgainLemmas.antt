-- What is recovered tells the same: where blocks are kept up to the end of the last partial segment of the highest serial,
-- and zeros stand behind it and behind the logs of clean segments, the logs have the same partial segments (`logged_kept`,
-- `kept_logged`), and each number the same newest record (`tells_same`, `recovered_same`).
use Rattle.std.proofs.Common.{◌≡◌, ◌≢◌, ◌⊎◌, ℕ, ◌+◌, ◌*◌, ◌/◌, ◌<◌, ◌≤◌, List, [], ◌∷◌, ◌++◌, Option, Some, true, false, ◌==◌}
use Rattle.std.proofs.Common.{None, inl, inr, refl, sym, ap, subst, ◌∙◌, ⊎_elim, arith}
use Rattle.std.specs.List.{Contains}
use Rattle.std.proofs.lemmas.Bool.Decides.{eqb_tells}
use Rattle.std.proofs.lemmas.List.Elements.{Contains-push, Contains-push_cases}
use Rattle.std.proofs.lemmas.Option.{none-some}
use Rattle.lfs_inodes.specs.Reading.{fields_in}
use Rattle.lfs_inodes.specs.Slots.{slot_of}
use Rattle.lfs_segments.specs.Memory.{SegmentMemory, block_at}
use Rattle.lfs_segments.specs.Serial.{told_in}
use Rattle.lfs_ifile.specs.declared.segment.SegState.{SegState}
use Rattle.lfs_ifile.specs.declared.segment.SegState.TheVariants.{Active, Clean, Dirty}
use Rattle.lfs_bmap.proofs.LogLemmas.{active_not_clean, dirty_not_clean}
use Rattle.lfs_log.specs.Parts.{LogParts, state_of}
use Rattle.lfs_recovery.specs.declared.places.PartialSegment.{PartialSegment}
use Rattle.lfs_recovery.specs.declared.places.RecordPlace.{RecordPlace}
use Rattle.lfs_recovery.specs.Logs.{AreLogs, IsChain, IsLog, IsLogged, log_place}
use Rattle.lfs_recovery.specs.Newest.{IsNewest, IsRecord}
use Rattle.lfs_recovery.proofs.LogLemmas.{longest_one}
use Rattle.lfs_durable.proofs.ChainLemmas.{HasSame, chain_same, cons_cases, cons_first, cons_there, in_chain, zeros_tell}
use Rattle.lfs_rescue.specs.Recovering.{EndsBehind, IsBehind, IsKept, IsLeftOver, IsPastLog, IsRecovered, TellsTheSame}

-- none has a serial above that of one
abbrev pub IsHighest : List PartialSegment → PartialSegment → Type 0
IsHighest ps last = (q : PartialSegment) → Contains ps q → q.serial ≤ last.serial

-- in a chain the partial segment of the highest serial is the last one
ends_last : (m : SegmentMemory) (segment address above : ℕ) (ps : List PartialSegment) (last p : PartialSegment)
    → IsChain m segment address above ps → Contains ps last → IsHighest ps last → Contains ps p
    → p.address + p.count ≤ last.address + last.count
ends_last m segment address above [] last p chain there highest here = let below = there.1 in absurd (omega arith)
ends_last m segment address above (q ∷ rest) last p chain there highest here = ⊎_elim
    (λ (first : q ≡ last).
    let serial = ap (λ (r : PartialSegment). r.serial) first in
    let start = ap (λ (r : PartialSegment). r.address) first in
    let count = ap (λ (r : PartialSegment). r.count) first in
    ⊎_elim
    (λ (same : q ≡ p).
    let from = ap (λ (r : PartialSegment). r.address) same in
    let long = ap (λ (r : PartialSegment). r.count) same in omega arith)
    (λ (behind : Contains rest p).
    let rises = (in_chain m segment (q.address + 1 + q.count) q.serial rest p chain.1 behind).rises in
    let most = highest p here in absurd (omega arith))
    (cons_cases q p rest here))
    (λ (later : Contains rest last). ⊎_elim
    (λ (same : q ≡ p).
    let low = (in_chain m segment (q.address + 1 + q.count) q.serial rest last chain.1 later).low in
    let from = ap (λ (r : PartialSegment). r.address) same in
    let long = ap (λ (r : PartialSegment). r.count) same in omega arith)
    (λ (behind : Contains rest p).
    ends_last m segment (q.address + 1 + q.count) q.serial rest last p chain.1 later
    (λ r in_rest. highest r (cons_there q r rest in_rest)) behind)
    (cons_cases q p rest here))
    (cons_cases q last rest there)

-- behind one without others the next one stands
next_alone : (m : SegmentMemory) (segment : ℕ) (rest : List PartialSegment) (q p : PartialSegment)
    → IsChain m segment (q.address + 1 + q.count) q.serial (rest ++ p ∷ []) → IsHighest rest q
    → p.address ≡ q.address + 1 + q.count
next_alone m segment [] q p chain highest = chain.0.place
next_alone m segment (r ∷ rest) q p chain highest =
    let rises = chain.0.rises in
    let most = highest r (cons_first r rest) in absurd (omega arith)

-- and so behind the last one
next_last : (m : SegmentMemory) (segment address above : ℕ) (ps : List PartialSegment) (last p : PartialSegment)
    → IsChain m segment address above (ps ++ p ∷ []) → Contains ps last → IsHighest ps last
    → p.address ≡ last.address + 1 + last.count
next_last m segment address above [] last p chain there highest = let below = there.1 in absurd (omega arith)
next_last m segment address above (q ∷ rest) last p chain there highest = ⊎_elim
    (λ (first : q ≡ last).
    subst (λ (r : PartialSegment). p.address ≡ r.address + 1 + r.count) first
    (next_alone m segment rest q p chain.1
    (λ r in_rest. let most = highest r (cons_there q r rest in_rest) in
    let serial = ap (λ (s : PartialSegment). s.serial) first in omega arith)))
    (λ (later : Contains rest last).
    next_last m segment (q.address + 1 + q.count) q.serial rest last p chain.1 later
    (λ r in_rest. highest r (cons_there q r rest in_rest)))
    (cons_cases q last rest there)

-- ---- what is kept

-- blocks are kept up to the end of the last partial segment, and zeros stand behind it
pub record IsKeptTo (m : SegmentMemory) (g : LogParts) (last : PartialSegment) : Type 0 where
  pub segments : g.memory.segments ≡ m.segments
  pub ends : EndsBehind last g.memory
  pub kept : (address : ℕ) → address < m.segments * 64 → IsKept m g address
  pub logged : IsLogged m last
  pub latest : (p : PartialSegment) → IsLogged m p → p.serial ≤ last.serial

in_segment : (segment x : ℕ) → segment * 64 ≤ x → x < (segment + 1) * 64 → x / 64 ≡ segment
in_segment segment x low high = omega arith

-- the last one stands in the log of the active segment
last_there : (m : SegmentMemory) (g : LogParts) (last : PartialSegment) (ps : List PartialSegment) (k : IsKeptTo m g last)
    → IsLog m g.memory.active ps → Contains ps last
last_there m g last ps k is =
    let l = k.logged in
    let c = in_chain m l.segment (log_place l.segment) 0 l.log last l.is.chain l.there in
    let low = c.low in
    let high = c.high in
    let from : l.segment * 64 ≤ last.address = omega arith in
    let here : last.address / 64 ≡ l.segment = in_segment l.segment last.address from (omega arith) in
    let active : g.memory.active ≡ l.segment = k.ends.active ∙ here in
    let same : l.log ≡ ps = longest_one m l.segment (log_place l.segment) 0 l.log ps l.is
    (subst (λ (s : ℕ). IsLog m s ps) active is) in
    subst (λ (xs : List PartialSegment). Contains xs last) same l.there

-- no block of a partial segment of a log stands behind the end
ahead : (m : SegmentMemory) (g : LogParts) (last : PartialSegment) (segment : ℕ) (ps : List PartialSegment)
    (p : PartialSegment) (x : ℕ) → IsKeptTo m g last → segment < m.segments → IsLog m segment ps → Contains ps p → p.address ≤ x
    → x ≤ p.address + p.count → IsBehind g.memory x → ⊥
ahead m g last segment ps p x k below is there low high behind =
    let c = in_chain m segment (log_place segment) 0 ps p is.chain there in
    let from = c.low in
    let to = c.high in
    let here : x / 64 ≡ segment = in_segment segment x (omega arith) (omega arith) in
    let active : g.memory.active ≡ segment = sym behind.0 ∙ here in
    let in_active : IsLog m g.memory.active ps = subst (λ (s : ℕ). IsLog m s ps) (sym active) is in
    let ends = ends_last m segment (log_place segment) 0 ps last p is.chain (last_there m g last ps k in_active)
    (λ q in_ps. k.latest q (record { segment = segment; log = ps; below = below; is = is; there = in_ps })) there in
    let end = k.ends.end in
    let past = behind.1 in
    omega arith

-- so each is kept
same_block : (m : SegmentMemory) (g : LogParts) (last : PartialSegment) (segment : ℕ) (ps : List PartialSegment)
    (p : PartialSegment) (x : ℕ) → IsKeptTo m g last → segment < m.segments → IsLog m segment ps → Contains ps p → p.address ≤ x
    → x ≤ p.address + p.count → block_at g.memory x ≡ block_at m x
same_block m g last segment ps p x k below is there low high =
    let c = in_chain m segment (log_place segment) 0 ps p is.chain there in
    let from = c.low in
    let to = c.high in
    let inside : x < m.segments * 64 = omega arith in
    let here : p.address / 64 ≡ x / 64 =
    in_segment segment p.address (omega arith) (omega arith) ∙ sym (in_segment segment x (omega arith) (omega arith)) in
    let logged : IsLogged m p = record { segment = segment; log = ps; below = below; is = is; there = there } in
    (k.kept x inside).same (ahead m g last segment ps p x k below is there low high)
    (λ over. let past = over.past.past p logged here in absurd (omega arith))

same_ends : (m : SegmentMemory) (g : LogParts) (last : PartialSegment) (segment : ℕ) (ps : List PartialSegment)
    (p : PartialSegment) → IsKeptTo m g last → segment < m.segments → IsLog m segment ps → Contains ps p → HasSame m g.memory p
same_ends m g last segment ps p k below is there = (
  same_block m g last segment ps p p.address k below is there (omega arith) (omega arith),
  same_block m g last segment ps p (p.address + p.count) k below is there (omega arith) (omega arith),
)

-- a segment is clean, or it isn't
pub is_clean : (state : SegState) → (state ≡ Clean) ⊎ (state ≢ Clean)
is_clean Clean = inl refl
is_clean Dirty = inr (λ e. dirty_not_clean e)
is_clean Active = inr (λ e. active_not_clean e)

-- in a chain each but the last one ends before that
before_last : (m : SegmentMemory) (segment address above : ℕ) (ps : List PartialSegment) (p q : PartialSegment)
    → IsChain m segment address above (ps ++ p ∷ []) → Contains ps q → q.address + q.count < p.address
before_last m segment address above [] p q chain there = let below = there.1 in absurd (omega arith)
before_last m segment address above (r ∷ rest) p q chain there = ⊎_elim
    (λ (first : r ≡ q).
    let low = (in_chain m segment (r.address + 1 + r.count) r.serial (rest ++ p ∷ []) p chain.1
    (Contains-push rest p)).low in
    let start = ap (λ (s : PartialSegment). s.address) first in
    let count = ap (λ (s : PartialSegment). s.count) first in
    omega arith)
    (λ (later : Contains rest q).
    before_last m segment (r.address + 1 + r.count) r.serial rest p q chain.1 later)
    (cons_cases r q rest there)

-- a partial segment stands in the log of its segment
pub in_log : (m : SegmentMemory) (segment : ℕ) (ps : List PartialSegment) (q : PartialSegment) → IsLog m segment ps
    → IsLogged m q → q.address / 64 ≡ segment → Contains ps q
in_log m segment ps q is l here =
    let c = in_chain m l.segment (log_place l.segment) 0 l.log q l.is.chain l.there in
    let low = c.low in
    let high = c.high in
    let same : l.segment ≡ segment = sym (in_segment l.segment q.address (omega arith) (omega arith)) ∙ here in
    let one : l.log ≡ ps = longest_one m segment (log_place segment) 0 l.log ps
    (subst (λ (s : ℕ). IsLog m s l.log) same l.is) is in
    subst (λ (xs : List PartialSegment). Contains xs q) one l.there

-- what stands behind each of a log stands behind the log
pub past_log : (m : SegmentMemory) (segment : ℕ) (ps : List PartialSegment) → IsLog m segment ps → (p : PartialSegment)
    → p.address / 64 ≡ segment → log_place segment ≤ p.address
    → ((q : PartialSegment) → Contains ps q → q.address + q.count < p.address) → IsPastLog m p.address
past_log m segment ps is p here from past = record {
  from = subst (λ (s : ℕ). log_place s ≤ p.address) (sym here) from;
  past = λ q logged own. past q (in_log m segment ps q is logged (own ∙ here));
}

-- what goes on behind a log, by the blocks that are kept, did so before
no_more : (m : SegmentMemory) (g : LogParts) (last : PartialSegment) (segment : ℕ) (ps : List PartialSegment)
    (p : PartialSegment) → IsKeptTo m g last → segment < m.segments → IsLog m segment ps
    → IsChain g.memory segment (log_place segment) 0 (ps ++ p ∷ []) → ⊥
no_more m g last segment ps p k below is chain =
    let c = in_chain g.memory segment (log_place segment) 0 (ps ++ p ∷ []) p chain (Contains-push ps p) in
    let low = c.low in
    let high = c.high in
    let from : segment * 64 ≤ p.address = omega arith in
    let here : (x : ℕ) → p.address ≤ x → x ≤ p.address + p.count → x / 64 ≡ segment =
    λ x above under. in_segment segment x (omega arith) (omega arith) in
    ⊎_elim
    (λ (active : ((g.memory.active == segment) ≡ true) × (g.memory.active ≡ segment)).
    let there = last_there m g last ps k (subst (λ (s : ℕ). IsLog m s ps) (sym active.1) is) in
    let next = next_last g.memory segment (log_place segment) 0 ps last p chain there
    (λ q in_ps. k.latest q (record { segment = segment; log = ps; below = below; is = is; there = in_ps })) in
    let end = k.ends.end in
    let behind : IsBehind g.memory p.address = (here p.address (omega arith) (omega arith) ∙ sym active.1, omega arith) in
    let zeros = (k.kept p.address (omega arith)).zeros behind in
    none-some c.whole.told (sym zeros_tell ∙ ap (λ (b : List ℕ). told_in b) (sym zeros) ∙ c.whole.spelled))
    (λ (other : ((g.memory.active == segment) ≡ false) × (g.memory.active ≢ segment)).
    ⊎_elim
    (λ (clean : state_of g.tables segment ≡ Clean).
    let at = here p.address (omega arith) (omega arith) in
    let over : IsLeftOver m g p.address = record {
      clean = ap (state_of g.tables) at ∙ clean;
      past = past_log m segment ps is p at low
          (λ q in_ps. before_last g.memory segment (log_place segment) 0 ps p q chain in_ps);
    } in
    let zeros = (k.kept p.address (omega arith)).wiped over in
    none-some c.whole.told (sym zeros_tell ∙ ap (λ (b : List ℕ). told_in b) (sym zeros) ∙ c.whole.spelled))
    (λ (used : state_of g.tables segment ≢ Clean).
    let kept : (x : ℕ) → p.address ≤ x → x ≤ p.address + p.count → block_at m x ≡ block_at g.memory x =
    λ x above under. sym ((k.kept x (omega arith)).same
    (λ behind. other.1 (sym behind.0 ∙ here x above under))
    (λ over. used (ap (state_of g.tables) (sym (here x above under)) ∙ over.clean))) in
    is.ended p (chain_same g.memory m segment (log_place segment) 0 (ps ++ p ∷ [])
    (λ q in_all. ⊎_elim
    (λ (in_ps : Contains ps q). let s = same_ends m g last segment ps q k below is in_ps in (sym s.0, sym s.1))
    (λ (it : p ≡ q). subst (λ (r : PartialSegment). HasSame g.memory m r) it
    (kept p.address (omega arith) (omega arith), kept (p.address + p.count) (omega arith) (omega arith)))
    (Contains-push_cases ps p q in_all)) chain))
    (is_clean (state_of g.tables segment)))
    (eqb_tells g.memory.active segment)

log_kept : (m : SegmentMemory) (g : LogParts) (last : PartialSegment) (segment : ℕ) (ps : List PartialSegment)
    → IsKeptTo m g last → segment < m.segments → IsLog m segment ps → IsLog g.memory segment ps
log_kept m g last segment ps k below is = record {
  chain = chain_same m g.memory segment (log_place segment) 0 ps
      (λ p there. same_ends m g last segment ps p k below is there) is.chain;
  ended = λ p chain. no_more m g last segment ps p k below is chain;
}

logged_kept : (m : SegmentMemory) (g : LogParts) (last p : PartialSegment) → IsKeptTo m g last → IsLogged m p
    → IsLogged g.memory p
logged_kept m g last p k l =
    let segments = k.segments in
    let below = l.below in
    record {
      segment = l.segment;
      log = l.log;
      below = omega arith;
      is = log_kept m g last l.segment l.log k l.below l.is;
      there = l.there;
    }

kept_logged : (m : SegmentMemory) (g : LogParts) (last p : PartialSegment) (list : List PartialSegment)
    → IsKeptTo m g last → AreLogs m list → IsLogged g.memory p → IsLogged m p
kept_logged m g last p list k a l =
    let segments = k.segments in
    let under = l.below in
    let below : l.segment < m.segments = omega arith in
    let was = a.each l.segment below in
    let same : l.log ≡ a.logs l.segment =
    longest_one g.memory l.segment (log_place l.segment) 0 l.log (a.logs l.segment) l.is
    (log_kept m g last l.segment (a.logs l.segment) k below was) in
    record {
      segment = l.segment;
      log = a.logs l.segment;
      below = below;
      is = was;
      there = subst (λ (xs : List PartialSegment). Contains xs p) same l.there;
    }

-- ---- records

-- the blocks of a partial segment are the same
record HasKept (m n : SegmentMemory) (p : PartialSegment) : Type 0 where
  block : (x : ℕ) → p.address ≤ x → x ≤ p.address + p.count → block_at n x ≡ block_at m x

record_same : (m n : SegmentMemory) (r : RecordPlace) (i : IsRecord m r) → IsLogged n i.segment → HasKept m n i.segment
    → IsRecord n r
record_same m n r i logged kept =
    let at = i.address in
    let named = i.named in
    record {
      segment = i.segment;
      logged = logged;
      told = i.told;
      spelled = ap (λ (b : List ℕ). told_in b) (kept.block i.segment.address (omega arith) (omega arith)) ∙ i.spelled;
      entry = i.entry;
      named = i.named;
      inodes = i.inodes;
      serial = i.serial;
      address = i.address;
      slot = i.slot;
      fields = i.fields;
      read = ap (λ (b : List ℕ). fields_in (slot_of b r.slot)) (kept.block r.address (omega arith) (omega arith)) ∙ i.read;
      number = i.number;
      version = i.version;
    }

record_kept : (m : SegmentMemory) (g : LogParts) (last : PartialSegment) (r : RecordPlace) → IsKeptTo m g last
    → IsRecord m r → IsRecord g.memory r
record_kept m g last r k i =
    let l = i.logged in
    record_same m g.memory r i (logged_kept m g last i.segment k l) (record {
      block = λ x low high. same_block m g last l.segment l.log i.segment x k l.below l.is l.there low high;
    })

kept_record : (m : SegmentMemory) (g : LogParts) (last : PartialSegment) (r : RecordPlace) (list : List PartialSegment)
    → IsKeptTo m g last → AreLogs m list → IsRecord g.memory r → IsRecord m r
kept_record m g last r list k a i =
    let l = kept_logged m g last i.segment list k a i.logged in
    record_same g.memory m r i l (record {
      block = λ x low high. sym (same_block m g last l.segment l.log i.segment x k l.below l.is l.there low high);
    })

newest_same : (m n : SegmentMemory) (number : ℕ) (newest : Option RecordPlace)
    → ((r : RecordPlace) → IsRecord m r → IsRecord n r) → ((r : RecordPlace) → IsRecord n r → IsRecord m r)
    → IsNewest m number newest → IsNewest n number newest
newest_same m n number None there back is = λ r in_n e. is r (back r in_n) e
newest_same m n number (Some s) there back is =
    (there s is.0, (is.1.0, λ r in_n e. is.1.1 r (back r in_n) e))

pub tells_same : (m : SegmentMemory) (g : LogParts) (last : PartialSegment) (list : List PartialSegment)
    → IsKeptTo m g last → AreLogs m list → TellsTheSame m g.memory
tells_same m g last list k a =
    let there : (r : RecordPlace) → IsRecord m r → IsRecord g.memory r = λ r i. record_kept m g last r k i in
    let back : (r : RecordPlace) → IsRecord g.memory r → IsRecord m r = λ r i. kept_record m g last r list k a i in
    record {
      logged = λ p. (λ l. kept_logged m g last p list k a l, λ l. logged_kept m g last p k l);
      newest = λ number newest. (
        λ is. newest_same g.memory m number newest back there is,
        λ is. newest_same m g.memory number newest there back is,
      );
    }

-- so what is recovered
pub recovered_same : (m : SegmentMemory) (l : LogParts) (list : List PartialSegment) → AreLogs m list → IsRecovered m l
    → TellsTheSame m l.memory
recovered_same m l list a r = tells_same m l r.last list (record {
  segments = r.segments;
  ends = r.ends;
  kept = r.kept;
  logged = r.logged;
  latest = r.latest;
}) a
