-- What is found of what a crash left can be found again (`can_be_found`): no summary stands in it but those of its partial
-- segments (`are_listed`). Behind the logs of its clean segments and of the active one there are zeros (`wiped_other`),
-- and each other segment is as the store had it (`untouched`), where all are listed.
use Rattle.std.proofs.Common.{◌≡◌, ◌≢◌, ◌⊎◌, ℕ, ◌+◌, ◌*◌, ◌/◌, ◌<◌, ◌≤◌, inl, inr, true, List, [], ◌∷◌, Option, None, Some}
use Rattle.std.proofs.Common.{get_or, is_some, length, refl, sym, ap, subst, ◌∙◌, ⊎_elim, arith}
use Rattle.std.specs.List.{All, Contains}
use Rattle.std.proofs.lemmas.Bool.{cases_eq}
use Rattle.std.proofs.lemmas.List.Elements.{Contains-get_or}
use Rattle.lfs_types.specs.Ranges.{least_frames}
use Rattle.lfs_ifile.specs.declared.inode.InodePlace.{InodePlace}
use Rattle.lfs_ifile.specs.declared.segment.SegState.TheVariants.{Clean}
use Rattle.lfs_ifile.specs.Inode.{fresh_row}
use Rattle.lfs_ifile.specs.Tables.{place_of}
use Rattle.lfs_segments.specs.Memory.{SegmentMemory, block_at, has_serials}
use Rattle.lfs_segments.specs.Serial.{told_in}
use Rattle.lfs_bmap.specs.declared.blocks.TheConstants.{BLOCK_CODES}
use Rattle.lfs_bmap.specs.Counting.{seg_of}
use Rattle.lfs_bmap.specs.Log.{IsPlaced}
use Rattle.lfs_bmap.proofs.CountingLemmas.{live-none}
use Rattle.lfs_log.specs.Parts.{LogParts, record_place, state_of}
use Rattle.lfs_recovery.specs.declared.places.PartialSegment.{PartialSegment}
use Rattle.lfs_recovery.specs.declared.places.RecordPlace.{RecordPlace}
use Rattle.lfs_recovery.specs.Course.{end_of, partials}
use Rattle.lfs_recovery.specs.Logs.{AreLogs, IsChain, IsLog, IsLogged, log_place}
use Rattle.lfs_recovery.specs.Newest.{IsNewest}
use Rattle.lfs_recovery.specs.Whole.{IsWhole}
use Rattle.lfs_recovery.proofs.LogLemmas.{log_start-few, partials-logs}
use Rattle.lfs_found.specs.Written.{IsFindable}
use Rattle.lfs_found.proofs.ChainLemmas.{finds_begun}
use Rattle.lfs_parts.specs.declared.parts.Parts.{Parts}
use Rattle.lfs_parts.specs.Keys.{log_state}
use Rattle.lfs_parts.specs.Store.{IsStore}
use Rattle.lfs_segwrite.specs.Ordered.{HasLatest}
use Rattle.lfs_fsck.specs.Stored.{IsStored, flushed, keys_of}
use Rattle.lfs_fsck.specs.Stored.{stored as over}
use Rattle.lfs_image.specs.Image.{IsLabelled}
use Rattle.lfs_durable.specs.Crashes.{IsCrashOf, IsUntouched}
use Rattle.lfs_durable.specs.Kept.{CanBeFound}
use Rattle.lfs_durable.specs.Names.{IsDurable}
use Rattle.lfs_durable.specs.Spared.{IsHeld}
use Rattle.lfs_durable.proofs.ChainLemmas.{cons_cases, cons_first, cons_there, in_chain, zeros_tell}
use Rattle.lfs_durable.proofs.CrashLemmas.{none_new}
use Rattle.lfs_durable.proofs.ListLemmas.{listed_logged, logged_listed}
use Rattle.lfs_durable.proofs.OwnLemmas.{held_named}
use Rattle.lfs_findable.specs.Judging.{AreListed, AreOrdered, BeginsAt, IsNoOther, StandsAt, place_behind}
use Rattle.lfs_findable.proofs.LogLemmas as listing
use Rattle.lfs_findable.proofs.StandingLemmas.{latest_there}
use Rattle.lfs_rescue.specs.Contents.{EndsInOrder, IsFindableAgain}
use Rattle.lfs_rescue.specs.Recovering.{GoesOn, HasNewest, IsPastLog, IsRecovered, TellsTheSame}
use Rattle.lfs_rescue.proofs.AgainLemmas.{in_log, is_clean, recovered_same}
use Rattle.lfs_rescue.proofs.OverLemmas.{none_named, stays_in}
use Rattle.lfs_rescue.proofs.SameLemmas.{IsAgain, same_numbers, same_place, same_segments}

goes_on : (o : Option ℕ) (last : ℕ) → GoesOn o last → is_some o ≡ true
goes_on None last h = absurd h
goes_on (Some serial) last h = refl

serial_is : (o : Option ℕ) (last next : ℕ) → GoesOn o last → o ≡ Some next → next ≡ last + 1
serial_is o last next h is = subst (λ (p : Option ℕ). GoesOn p last) is h

newest_stands : (o : Option InodePlace) (newest : Option RecordPlace) → HasNewest o newest → StandsAt o newest
newest_stands None newest h = tt
newest_stands (Some place) None h = absurd h
newest_stands (Some place) (Some newest) h = λ some. h

-- one of some partial segments begins at an address
abbrev HasAt : List PartialSegment → ℕ → Type 0
HasAt ps a = (q : PartialSegment) × (Contains ps q × (q.address ≡ a))

-- behind one of a chain the next one begins, or all end before
next_or_end : (m : SegmentMemory) (segment address above : ℕ) (ps : List PartialSegment) (p : PartialSegment)
    → IsChain m segment address above ps → Contains ps p
    → HasAt ps (place_behind p) ⊎ ((q : PartialSegment) → Contains ps q → q.address + q.count < place_behind p)
next_or_end m segment address above [] p chain there = let below = there.1 in absurd (omega arith)
next_or_end m segment address above (h ∷ []) p chain there = ⊎_elim
    (λ (first : h ≡ p). inr (λ q is. ⊎_elim
    (λ (same : h ≡ q).
    let one = ap (λ (s : PartialSegment). s.address) (sym same ∙ first) in
    let two = ap (λ (s : PartialSegment). s.count) (sym same ∙ first) in omega arith)
    (λ (none : Contains [] q). let below = none.1 in absurd (omega arith))
    (cons_cases h q [] is)))
    (λ (none : Contains [] p). let below = none.1 in absurd (omega arith))
    (cons_cases h p [] there)
next_or_end m segment address above (h ∷ (t ∷ rest)) p chain there = ⊎_elim
    (λ (first : h ≡ p).
    let place = chain.1.0.place in
    let one = ap (λ (s : PartialSegment). s.address) first in
    let two = ap (λ (s : PartialSegment). s.count) first in
    inl (t, (cons_there h t (t ∷ rest) (cons_first t rest), omega arith)))
    (λ (later : Contains (t ∷ rest) p).
    let next : ℕ = h.address + 1 + h.count in
    let low = (in_chain m segment next h.serial (t ∷ rest) p chain.1 later).low in
    ⊎_elim
    (λ (found : HasAt (t ∷ rest) (place_behind p)).
    inl (found.0, (cons_there h found.0 (t ∷ rest) found.1.0, found.1.1)))
    (λ (all : (q : PartialSegment) → Contains (t ∷ rest) q → q.address + q.count < place_behind p).
    inr (λ q is. ⊎_elim
    (λ (same : h ≡ q).
    let one = ap (λ (s : PartialSegment). s.address) same in
    let two = ap (λ (s : PartialSegment). s.count) same in omega arith)
    (λ (there_too : Contains (t ∷ rest) q). all q there_too)
    (cons_cases h q (t ∷ rest) is)))
    (next_or_end m segment next h.serial (t ∷ rest) p chain.1 later))
    (cons_cases h p (t ∷ rest) there)

-- where a log begins its first one does, or it has none
first_or_none : (m : SegmentMemory) (segment address above : ℕ) (ps : List PartialSegment) → IsChain m segment address above ps
    → HasAt ps address ⊎ ((q : PartialSegment) → Contains ps q → q.address + q.count < address)
first_or_none m segment address above [] chain = inr (λ q there. let below = there.1 in absurd (omega arith))
first_or_none m segment address above (h ∷ rest) chain = inl (h, (cons_first h rest, chain.0.place))

module _ (p : Parts) (m : SegmentMemory) (l : LogParts) (g : IsAgain p m l) (stored : IsStored l) (order : EndsInOrder m) where
  abbrev d : IsDurable p
  d = g.durable

  abbrev crash : IsCrashOf p m
  crash = g.crash

  abbrev r : IsRecovered m l
  r = g.draft.recovered

  abbrev n : SegmentMemory
  n = l.memory

  store : IsStore (flushed l)
  store = stored least_frames

  was : IsFindable p.log.memory d.next
  was = d.recoverable.to d.next d.serial d.bound

  old_logs : AreLogs m (partials m (end_of m))
  old_logs = partials-logs m (partials m (end_of m)) refl

  same : TellsTheSame m n
  same = recovered_same m l (partials m (end_of m)) old_logs r

  abbrev ps : List PartialSegment
  ps = partials n (end_of n)

  logs : AreLogs n ps
  logs = partials-logs n ps refl

  abbrev qs : List PartialSegment
  qs = partials p.log.memory (end_of p.log.memory)

  first_logs : AreLogs p.log.memory qs
  first_logs = partials-logs p.log.memory qs refl

  -- what is found in what is built was found in what the crash left
  found_before : (s : PartialSegment) → Contains ps s → IsLogged m s
  found_before s there = (same.logged s).0 (listed_logged n ps s logs there)

  found_after : (s : PartialSegment) → IsLogged m s → Contains ps s
  found_after s there = logged_listed n ps s logs ((same.logged s).1 there)

  -- ---- segments in which something is live
  module _ (s : ℕ) (low : s < n.segments) (other : s ≢ n.active) (used : state_of l.tables s ≢ Clean) where
    -- so a key is there
    no_key : ((number code : ℕ) → IsPlaced (log_state p) number code → seg_of ((log_state p).at number code) ≢ s) → ⊥
    no_key none = used ((r.given_back s low other).1 (store.log.counted s low
        ∙ live-none (length l.tables.rows) BLOCK_CODES (keys_of l).at s
        (λ number code below known some here.
        let numbers = same_numbers p m l g in
        let here_too = same_place p m l g number code (omega arith) known in
        none number code
        (record { number_below = omega arith; code_below = known; somewhere = λ e. some (here_too ∙ e) })
        (ap seg_of (sym here_too) ∙ here))))

    was_used : state_of p.log.tables s ≢ Clean
    was_used clean = no_key (λ number code placed here.
        (d.store.log.keys number code placed).not_clean (ap (state_of p.log.tables) here ∙ clean))

    -- it isn't the one that was written
    not_torn_by : (list : List PartialSegment) → IsLog p.log.memory s list → s ≡ p.log.memory.active → ⊥
    not_torn_by [] log active = no_key (λ number code placed here.
        let a : ℕ = (log_state p).at number code / 4 in
        let held : IsHeld p a = record { number = number; code = code; placed = placed; here = refl } in
        let named = held_named p d a held in
        let size = same_segments p m l g in
        none_named p.log.memory d.next was s a named.entry (omega arith) (omega arith) named.named [] log
        (λ t there. let below = there.1 in absurd (omega arith)))
    not_torn_by (t ∷ rest) log active =
        let size = same_segments p m l g in
        let there : IsLogged p.log.memory t = record {
          segment = s;
          log = t ∷ rest;
          below = omega arith;
          is = log;
          there = cons_first t rest;
        } in
        let c = in_chain p.log.memory s (log_place s) 0 (t ∷ rest) t log.chain (cons_first t rest) in
        let from = c.low in
        let to = c.high in
        let here : t.address / 64 ≡ s = omega arith in
        let most = r.latest t (stays_in p m d crash s t there here was_used) in
        let b = finds_begun p.log.memory t was.kind there in
        let e = finds_begun p.log.memory r.last was.kind (none_new p m d crash r.last r.logged) in
        let serial = b.serial in
        let serial_too = e.serial in
        let less = was.rising.active r.last.address t.address e.told b.told e.summary b.summary
        (λ at. other (active ∙ sym at ∙ sym r.ends.active)) (here ∙ active) in
        absurd (omega arith)

    untouched : IsUntouched p.log.memory m s
    untouched =
        let size = same_segments p m l g in
        let size_too = r.segments in
        elim (crash.each s (omega arith)) [
          | inl is ↦ is
          | inr (inl torn) ↦
              absurd (not_torn_by (first_logs.logs s) (first_logs.each s (omega arith)) torn.active)
          | inr (inr (inl wiped)) ↦ absurd (was_used wiped.clean)
          | inr (inr (inr barren)) ↦ absurd (was_used barren.clean)
        ]

    same_block : (a : ℕ) → a / 64 ≡ s → block_at n a ≡ block_at p.log.memory a
    same_block a here =
        let size = r.segments in
        (r.kept a (omega arith)).same (λ behind. other (sym here ∙ behind.0))
        (λ over. used (ap (state_of l.tables) (sym here) ∙ over.clean))
        ∙ untouched.each a here

    used_other : (a : ℕ) → a / 64 ≡ s → IsNoOther p.log.memory qs a → IsNoOther n ps a
    used_other a here is = ⊎_elim
        (λ (begins : BeginsAt qs a).
        let t = begins.0 in
        let at = begins.1.1 in
        let logged = listed_logged p.log.memory qs t first_logs begins.1.0 in
        inl (t, (found_after t (stays_in p m d crash s t logged (ap (λ (k : ℕ). k / 64) at ∙ here) was_used), at)))
        (λ (none : told_in (block_at p.log.memory a) ≡ None). inr (ap told_in (same_block a here) ∙ none))
        is

  -- ---- the others
  wiped_other : (a : ℕ) → a < m.segments * 64 → (state_of l.tables (a / 64) ≡ Clean) ⊎ (a / 64 ≡ n.active) → IsPastLog m a
      → told_in (block_at n a) ≡ None
  wiped_other a low is past = ⊎_elim
      (λ (clean : state_of l.tables (a / 64) ≡ Clean).
      ap told_in ((r.kept a low).wiped (record { clean = clean; past = past })) ∙ zeros_tell)
      (λ (active : a / 64 ≡ n.active).
      let before = past.past r.last r.logged (sym r.ends.active ∙ sym active) in
      let end = r.ends.end in
      ap told_in ((r.kept a low).zeros (active, omega arith)) ∙ zeros_tell)
      is

  other_at : (s a : ℕ) → s < m.segments → a / 64 ≡ s → log_place s ≤ a → (state_of l.tables s ≡ Clean) ⊎ (s ≡ n.active)
      → (list : List PartialSegment) → IsLog m s list
      → HasAt list a ⊎ ((q : PartialSegment) → Contains list q → q.address + q.count < a) → IsNoOther n ps a
  other_at s a low here from is list log found = ⊎_elim
      (λ (at : HasAt list a).
      let logged : IsLogged m at.0 =
      record { segment = s; log = list; below = low; is = log; there = at.1.0 } in
      inl (at.0, (found_after at.0 logged, at.1.1)))
      (λ (all : (q : PartialSegment) → Contains list q → q.address + q.count < a).
      inr (wiped_other a (omega arith)
      (subst (λ (k : ℕ). (state_of l.tables k ≡ Clean) ⊎ (k ≡ n.active)) (sym here) is)
      (record {
        from = subst (λ (k : ℕ). log_place k ≤ a) (sym here) from;
        past = λ q logged own. all q (in_log m s list q log logged (own ∙ here));
      })))
      found

  -- a segment is clean, active, or another one
  kind_of : (s : ℕ) → ((state_of l.tables s ≡ Clean) ⊎ (s ≡ n.active)) ⊎ ((s ≢ n.active) × (state_of l.tables s ≢ Clean))
  kind_of s = ⊎_elim
      (λ (clean : state_of l.tables s ≡ Clean). inl (inl clean))
      (λ (used : state_of l.tables s ≢ Clean). ⊎_elim
      (λ (active : s ≡ n.active). inl (inr active))
      (λ (other : s ≢ n.active). inr (other, used))
      (cases_eq s n.active))
      (is_clean (state_of l.tables s))

  first_listed : (s : ℕ) → s < n.segments → IsNoOther n ps (log_place s)
  first_listed s low =
      let size = r.segments in
      let size_too = same_segments p m l g in
      let few = log_start-few s in
      let here : log_place s / 64 ≡ s = omega arith in
      ⊎_elim
      (λ (is : (state_of l.tables s ≡ Clean) ⊎ (s ≡ n.active)).
      let log = old_logs.each s (omega arith) in
      other_at s (log_place s) (omega arith) here (omega arith) is (old_logs.logs s) log
      (first_or_none m s (log_place s) 0 (old_logs.logs s) log.chain))
      (λ (is : (s ≢ n.active) × (state_of l.tables s ≢ Clean)).
      used_other s low is.0 is.1 (log_place s) here
      ((listing.listed_all p.log.memory d.next qs first_logs was).first s (omega arith)))
      (kind_of s)

  next_listed : (t : PartialSegment) → Contains ps t → place_behind t / 64 ≡ t.address / 64
      → IsNoOther n ps (place_behind t)
  next_listed t there within =
      let size = r.segments in
      let s : ℕ = t.address / 64 in
      let logged = found_before t there in
      let c = in_chain m logged.segment (log_place logged.segment) 0 logged.log t logged.is.chain logged.there in
      let from = c.low in
      let to = c.high in
      let below = logged.below in
      let own : logged.segment ≡ s = omega arith in
      let start : log_place s ≤ t.address = subst (λ (k : ℕ). log_place k ≤ t.address) own from in
      ⊎_elim
      (λ (is : (state_of l.tables s ≡ Clean) ⊎ (s ≡ n.active)).
      let log = old_logs.each s (omega arith) in
      other_at s (place_behind t) (omega arith) within (omega arith) is (old_logs.logs s) log
      (next_or_end m s (log_place s) 0 (old_logs.logs s) t log.chain (in_log m s (old_logs.logs s) t log logged refl)))
      (λ (is : (s ≢ n.active) × (state_of l.tables s ≢ Clean)).
      used_other s (omega arith) is.0 is.1 (place_behind t) within
      ((listing.listed_all p.log.memory d.next qs first_logs was).next t
      (logged_listed p.log.memory qs t first_logs (none_new p m d crash t logged)) within))
      (kind_of s)

  are_listed : AreListed n ps
  are_listed = record { first = first_listed; next = next_listed }

  -- ---- serials
  are_ordered : (next : ℕ) → n.serial ≡ Some next → AreOrdered n.active next ps
  are_ordered next is = record {
    below = λ s there.
        let most = r.latest s (found_before s there) in
        let serial = serial_is n.serial r.last.serial next r.ends.serial is in
        omega arith;
    above = λ s t there here other at. order r.last s t r.logged r.latest (found_before s there) (found_before t here)
        (λ e. other (e ∙ sym r.ends.active)) (at ∙ r.ends.active);
    apart = λ s t there here even.
        let b = finds_begun p.log.memory s was.kind (none_new p m d crash s (found_before s there)) in
        let c = finds_begun p.log.memory t was.kind (none_new p m d crash t (found_before t here)) in
        was.rising.apart s.address t.address b.told c.told b.summary c.summary (b.serial ∙ even ∙ sym c.serial);
  }

  kind : has_serials n ≡ true
  kind = goes_on n.serial r.last.serial r.ends.serial

  are_whole : All (IsWhole n) ps
  are_whole = λ k e below.
      let s : PartialSegment = get_or ps k e in
      let logged = listed_logged n ps s logs (Contains-get_or ps k e below) in
      (in_chain n logged.segment (log_place logged.segment) 0 logged.log s logged.is.chain logged.there).whole

  findable : (next : ℕ) → n.serial ≡ Some next → IsFindable n next
  findable next is = listing.findable n ps kind logs are_whole are_listed store.whole.parts.laid_out next (are_ordered next is)

  -- ---- records
  latest : (next number : ℕ) → n.serial ≡ Some next → number < length l.tables.rows → record_place l.tables number ≢ 0
      → HasLatest l number
  latest next number is low some =
      let newest : Option RecordPlace = get_or r.places number None in
      let formed = store.whole.parts.formed in
      let most = formed.inodes_most in
      latest_there l next number (findable next is) (64 * length l.tables.live) newest (formed.each_row number fresh_row low)
      ((same.newest number newest).1 (r.newest number (omega arith)))
      (newest_stands (place_of l.tables number) newest (r.placed number low)) some

  pub can_be_found : (frames : ℕ) → CanBeFound (over frames l)
  can_be_found frames = record {
    serials = kind;
    recoverable = record { to = λ next is bound. findable next is };
    ordered = record { each = λ next number is bound low some. latest next number is low some };
    labelled = g.draft.labelled;
  }

pub findable_again : (m : SegmentMemory) (l : LogParts) (frames : ℕ) → IsRecovered m l → IsLabelled l → IsStored l
    → IsFindableAgain m (over frames l)
findable_again m l frames r labelled is p d shown crash order =
    let g : IsAgain p m l = record {
      durable = d;
      shown = shown;
      crash = crash;
      draft = record { recovered = r; parts = (is least_frames).whole.parts; labelled = labelled };
    } in
    can_be_found p m l g is order frames
