-- Where each block is as it was or zeros, and the blocks of each partial segment of a log are as they were, the logs
-- have the same partial segments, and each number the same newest record (`zeroed_tells`). So it is where some of the
-- blocks were written back that a found store has otherwise (`mixture_zeroed`): these spare the store
-- (`mixture_spares`), and what is found in them contains the same (`finds_the_same`).
use Rattle.std.proofs.Common.{◌≡◌, ◌≢◌, ◌⊎◌, ℕ, ◌+◌, ◌*◌, ◌/◌, ◌<◌, ◌≤◌, List, [], ◌∷◌, ◌++◌, Option, None, Some}
use Rattle.std.proofs.Common.{inl, inr, refl, sym, ap, subst, ◌∙◌, ⊎_elim, length, get_or, drop, arith}
use Rattle.std.specs.List.{Contains}
use Rattle.std.proofs.lemmas.Bool.{cases_eq}
use Rattle.std.proofs.lemmas.List.Elements.{Contains-push, Contains-push_cases}
use Rattle.std.proofs.lemmas.Option.{none-some}
use Rattle.lfs_types.specs.Blocks.{zero_block}
use Rattle.lfs_segments.specs.Memory.{SegmentMemory, block_at}
use Rattle.lfs_segments.specs.Serial.{told_in}
use Rattle.lfs_inodes.specs.Reading.{fields_in}
use Rattle.lfs_inodes.specs.Slots.{slot_of}
use Rattle.lfs_recovery.specs.declared.places.PartialSegment.{PartialSegment}
use Rattle.lfs_recovery.specs.declared.places.RecordPlace.{RecordPlace}
use Rattle.lfs_recovery.specs.Course.{end_of, partials}
use Rattle.lfs_recovery.specs.Logs.{AreLogs, IsChain, IsLog, IsLogged, log_place}
use Rattle.lfs_recovery.specs.Newest.{IsNewest, IsRecord}
use Rattle.lfs_recovery.proofs.LogLemmas.{longest_one, partials-logs}
use Rattle.lfs_log.specs.Parts.{LogParts, state_of}
use Rattle.lfs_parts.specs.declared.parts.Parts.{Parts}
use Rattle.lfs_parts.specs.Keys.{log_state}
use Rattle.lfs_durable.specs.Names.{IsDurable}
use Rattle.lfs_durable.specs.Spared.{IsHeld, Spares}
use Rattle.lfs_durable.proofs.ChainLemmas.{HasSame, chain_same, in_chain, zeros_last, zeros_tell}
use Rattle.lfs_durable.proofs.KeptLemmas.{flushed_is_durable}
use Rattle.lfs_durable.proofs.OwnLemmas.{held_named, own_spared}
use Rattle.lfs_rescue.specs.Recovering.{IsKept, IsRecovered, TellsTheSame}
use Rattle.lfs_disk_start.specs.Finding.{FindsTheSame, IsFoundOf, memory_of}
use Rattle.lfs_disk_start.specs.Mixing.{IsMixtureOf}

in_segment : (segment x : ℕ) → segment * 64 ≤ x → x < (segment + 1) * 64 → x / 64 ≡ segment
in_segment segment x low high = omega arith

-- each block is as it was or zeros, and those of each partial segment are as they were
record IsZeroedAround (m x : SegmentMemory) : Type 0 where
  pub segments : x.segments ≡ m.segments
  pub each : (a : ℕ) → a < m.segments * 64 → (block_at x a ≡ block_at m a) ⊎ (block_at x a ≡ zero_block)
  pub kept : (p : PartialSegment) (a : ℕ) → IsLogged m p → p.address ≤ a → a ≤ p.address + p.count
      → block_at x a ≡ block_at m a

module _ (m x : SegmentMemory) (z : IsZeroedAround m x) where
  same_ends : (segment : ℕ) (ps : List PartialSegment) (p : PartialSegment) → segment < m.segments → IsLog m segment ps
      → Contains ps p → HasSame m x p
  same_ends segment ps p below is there =
      let logged : IsLogged m p = record { segment = segment; log = ps; below = below; is = is; there = there } in (
        z.kept p p.address logged (omega arith) (omega arith),
        z.kept p (p.address + p.count) logged (omega arith) (omega arith),
      )

  -- what goes on behind a log did so before: zeros are no summary, nor the last block of a partial segment
  no_more : (segment : ℕ) (ps : List PartialSegment) (p : PartialSegment) → segment < m.segments → IsLog m segment ps
      → IsChain x segment (log_place segment) 0 (ps ++ p ∷ []) → ⊥
  no_more segment ps p below is chain =
      let c = in_chain x segment (log_place segment) 0 (ps ++ p ∷ []) p chain (Contains-push ps p) in
      let high = c.high in
      let first : block_at x p.address ≡ block_at m p.address = ⊎_elim
      (λ (same : block_at x p.address ≡ block_at m p.address). same)
      (λ (zeros : block_at x p.address ≡ zero_block). absurd (none-some c.whole.told
      (sym zeros_tell ∙ ap (λ (b : List ℕ). told_in b) (sym zeros) ∙ c.whole.spelled)))
      (z.each p.address (omega arith)) in
      let last : block_at x (p.address + p.count) ≡ block_at m (p.address + p.count) = ⊎_elim
      (λ (same : block_at x (p.address + p.count) ≡ block_at m (p.address + p.count)). same)
      (λ (zeros : block_at x (p.address + p.count) ≡ zero_block).
      absurd (zeros_last x (p.address + p.count) zeros c.whole.record_there))
      (z.each (p.address + p.count) (omega arith)) in
      is.ended p (chain_same x m segment (log_place segment) 0 (ps ++ p ∷ [])
      (λ q in_all. ⊎_elim
      (λ (in_ps : Contains ps q). let s = same_ends segment ps q below is in_ps in (sym s.0, sym s.1))
      (λ (it : p ≡ q). subst (λ (r : PartialSegment). HasSame x m r) it (sym first, sym last))
      (Contains-push_cases ps p q in_all)) chain)

  log_kept : (segment : ℕ) (ps : List PartialSegment) → segment < m.segments → IsLog m segment ps → IsLog x segment ps
  log_kept segment ps below is = record {
    chain = chain_same m x segment (log_place segment) 0 ps (λ p there. same_ends segment ps p below is there) is.chain;
    ended = λ p chain. no_more segment ps p below is chain;
  }

  logged_kept : (p : PartialSegment) → IsLogged m p → IsLogged x p
  logged_kept p l =
      let segments = z.segments in
      let below = l.below in
      record {
        segment = l.segment;
        log = l.log;
        below = omega arith;
        is = log_kept l.segment l.log l.below l.is;
        there = l.there;
      }

  logs : AreLogs m (partials m (end_of m))
  logs = partials-logs m (partials m (end_of m)) refl

  kept_logged : (p : PartialSegment) → IsLogged x p → IsLogged m p
  kept_logged p l =
      let segments = z.segments in
      let under = l.below in
      let below : l.segment < m.segments = omega arith in
      let was = logs.each l.segment below in
      let same : l.log ≡ logs.logs l.segment = longest_one x l.segment (log_place l.segment) 0 l.log (logs.logs l.segment)
      l.is (log_kept l.segment (logs.logs l.segment) below was) in
      record {
        segment = l.segment;
        log = logs.logs l.segment;
        below = below;
        is = was;
        there = subst (λ (xs : List PartialSegment). Contains xs p) same l.there;
      }

-- ---- records

-- the blocks of a partial segment are the same
record HasKept (m n : SegmentMemory) (p : PartialSegment) : Type 0 where
  block : (y : ℕ) → p.address ≤ y → y ≤ p.address + p.count → block_at n y ≡ block_at m y

record_same : (m n : SegmentMemory) (r : RecordPlace) (i : IsRecord m r) → IsLogged n i.segment → HasKept m n i.segment
    → IsRecord n r
record_same m n r i logged kept =
    let at = i.address in
    let named = i.named in
    record {
      segment = i.segment;
      logged = logged;
      told = i.told;
      spelled = ap (λ (b : List ℕ). told_in b) (kept.block i.segment.address (omega arith) (omega arith)) ∙ i.spelled;
      entry = i.entry;
      named = i.named;
      inodes = i.inodes;
      serial = i.serial;
      address = i.address;
      slot = i.slot;
      fields = i.fields;
      read = ap (λ (b : List ℕ). fields_in (slot_of b r.slot)) (kept.block r.address (omega arith) (omega arith)) ∙ i.read;
      number = i.number;
      version = i.version;
    }

newest_same : (m n : SegmentMemory) (number : ℕ) (newest : Option RecordPlace)
    → ((r : RecordPlace) → IsRecord m r → IsRecord n r) → ((r : RecordPlace) → IsRecord n r → IsRecord m r)
    → IsNewest m number newest → IsNewest n number newest
newest_same m n number None there back is = λ r in_n e. is r (back r in_n) e
newest_same m n number (Some s) there back is =
    (there s is.0, (is.1.0, λ r in_n e. is.1.1 r (back r in_n) e))

zeroed_tells : (m x : SegmentMemory) → IsZeroedAround m x → TellsTheSame m x
zeroed_tells m x z =
    let there : (r : RecordPlace) → IsRecord m r → IsRecord x r = λ r i.
    record_same m x r i (logged_kept m x z i.segment i.logged) (record {
      block = λ y low high. z.kept i.segment y i.logged low high;
    }) in
    let back : (r : RecordPlace) → IsRecord x r → IsRecord m r = λ r i.
    let l = kept_logged m x z i.segment i.logged in
    record_same x m r i l (record { block = λ y low high. sym (z.kept i.segment y l low high) }) in
    record {
      logged = λ p. (λ l. kept_logged m x z p l, λ l. logged_kept m x z p l);
      newest = λ number newest. (
        λ is. newest_same x m number newest back there is,
        λ is. newest_same m x number newest there back is,
      );
    }

-- ---- blocks that are written back

same_list : (xs ys : List ℕ) → (xs ≡ ys) ⊎ (xs ≢ ys)
same_list [] [] = inl refl
same_list [] (y ∷ ys) = inr (λ e. let n = ap (λ (l : List ℕ). length l) e in omega arith)
same_list (x ∷ xs) [] = inr (λ e. let n = ap (λ (l : List ℕ). length l) e in omega arith)
same_list (x ∷ xs) (y ∷ ys) = ⊎_elim
    (λ (heads : x ≡ y). ⊎_elim
    (λ (tails : xs ≡ ys). inl (ap (λ (h : ℕ). h ∷ xs) heads ∙ ap (λ (t : List ℕ). y ∷ t) tails))
    (λ (apart : xs ≢ ys). inr (λ e. apart (ap (λ (l : List ℕ). drop 1 l) e)))
    (same_list xs ys))
    (λ (apart : x ≢ y). inr (λ e. apart (ap (λ (l : List ℕ). get_or l 0 0) e)))
    (cases_eq x y)

either : (m : SegmentMemory) (l : LogParts) (a : ℕ) → IsKept m l a
    → (block_at l.memory a ≡ block_at m a) ⊎ (block_at l.memory a ≡ zero_block)
either m l a k = ⊎_elim
    (λ (same : block_at l.memory a ≡ block_at m a). inl same)
    (λ (other : block_at l.memory a ≢ block_at m a). ⊎_elim
    (λ (zeros : block_at l.memory a ≡ zero_block). inr zeros)
    (λ (some : block_at l.memory a ≢ zero_block).
    absurd (other (k.same (λ behind. some (k.zeros behind)) (λ over. some (k.wiped over)))))
    (same_list (block_at l.memory a) zero_block))
    (same_list (block_at l.memory a) (block_at m a))

-- no block of a partial segment is one that is written
part_kept : (m : SegmentMemory) (l : LogParts) → IsRecovered m l → TellsTheSame m l.memory → (p : PartialSegment) (a : ℕ)
    → IsLogged m p → p.address ≤ a → a ≤ p.address + p.count → block_at l.memory a ≡ block_at m a
part_kept m l r t p a logged low high =
    let c = in_chain m logged.segment (log_place logged.segment) 0 logged.log p logged.is.chain logged.there in
    let from = c.low in
    let to = c.high in
    let below = logged.below in
    let at : a / 64 ≡ logged.segment = in_segment logged.segment a (omega arith) (omega arith) in
    let first : p.address / 64 ≡ logged.segment = in_segment logged.segment p.address (omega arith) (omega arith) in
    let end : (p.address + p.count) / 64 ≡ logged.segment =
    in_segment logged.segment (p.address + p.count) (omega arith) (omega arith) in
    let told = (t.logged p).1 logged in
    let d = in_chain l.memory told.segment (log_place told.segment) 0 told.log p told.is.chain told.there in
    (r.kept a (omega arith)).same
    (λ behind.
    let past = behind.1 in
    zeros_last l.memory (p.address + p.count)
    ((r.kept (p.address + p.count) (omega arith)).zeros (end ∙ sym at ∙ behind.0, omega arith)) d.whole.record_there)
    (λ over. let past = over.past.past p logged (first ∙ sym at) in omega arith)

mixture_zeroed : (m x : SegmentMemory) (l : LogParts) → IsRecovered m l → TellsTheSame m l.memory → x.segments ≡ m.segments
    → IsMixtureOf m.blocks l.memory.blocks x.blocks → IsZeroedAround m x
mixture_zeroed m x l r t same mix = record {
  segments = same;
  each = λ a inside. ⊎_elim
      (λ (old : block_at x a ≡ block_at m a). inl old)
      (λ (new : block_at x a ≡ block_at l.memory a). ⊎_elim
      (λ (kept : block_at l.memory a ≡ block_at m a). inl (new ∙ kept))
      (λ (zeros : block_at l.memory a ≡ zero_block). inr (new ∙ zeros))
      (either m l a (r.kept a inside)))
      (mix.each a);
  kept = λ p a logged low high. ⊎_elim
      (λ (old : block_at x a ≡ block_at m a). old)
      (λ (new : block_at x a ≡ block_at l.memory a). new ∙ part_kept m l r t p a logged low high)
      (mix.each a);
}

-- a block that the store holds is as it was
held_kept : (m : SegmentMemory) (p : Parts) → IsRecovered m p.log → IsDurable p → (a : ℕ) → IsHeld p a
    → block_at p.log.memory a ≡ block_at m a
held_kept m p r d a held =
    let inside = (held_named p d a held).inside in
    let segments = r.segments in
    let place : ℕ = (log_state p).at held.number held.code in
    let key = d.store.log.keys held.number held.code held.placed in
    let here = held.here in
    let segment : place / 256 ≡ a / 64 = omega arith in
    (r.kept a (omega arith)).same
    (λ behind. let past = behind.1 in let before = key.written (segment ∙ behind.0) in omega arith)
    (λ over. key.not_clean (ap (state_of p.log.tables) segment ∙ over.clean))

label_kept : (m : SegmentMemory) (l : LogParts) → IsRecovered m l → block_at l.memory 0 ≡ block_at m 0
label_kept m l r =
    let below = r.logged.below in
    (r.kept 0 (omega arith)).same
    (λ behind. let past = behind.1 in let end = r.ends.end in omega arith)
    (λ over. let from : 1 ≤ 0 = over.past.from in omega arith)

pub mixture_spares : (m x : SegmentMemory) (frames : ℕ) (p : Parts) → IsFoundOf m frames p → IsDurable p
    → x.segments ≡ m.segments → IsMixtureOf m.blocks p.log.memory.blocks x.blocks → Spares p x
mixture_spares m x frames p f d same mix =
    let r = f.recovered in
    let own = own_spared p d in
    let told = zeroed_tells m x (mixture_zeroed m x p.log r f.tells same mix) in
    record {
      segments = same ∙ sym r.segments;
      label = ⊎_elim
          (λ (old : block_at x 0 ≡ block_at m 0). old ∙ sym (label_kept m p.log r))
          (λ (new : block_at x 0 ≡ block_at p.log.memory 0). new)
          (mix.each 0);
      held = λ a held. ⊎_elim
          (λ (old : block_at x a ≡ block_at m a). old ∙ sym (held_kept m p r d a held))
          (λ (new : block_at x a ≡ block_at p.log.memory a). new)
          (mix.each a);
      newest = λ number o used is. (f.tells.newest number o).1 ((told.newest number o).0 is);
      ends = λ last logged latest a held past.
          own.ends last ((f.tells.logged last).1 ((told.logged last).0 logged))
          (λ s in_p. latest s ((told.logged s).1 ((f.tells.logged s).0 in_p))) a held past;
    }

pub finds_the_same : FindsTheSame
finds_the_same blocks c frames more p q f counted mix g =
    let d = flushed_is_durable p counted.next f.findable f.store f.still counted.serial counted.bound in
    let long = mix.long in
    g.content p d f.world
    (mixture_spares (memory_of blocks) (memory_of c) frames p f d (ap (λ (n : ℕ). n / 64) long) mix)
