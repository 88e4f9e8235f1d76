-- Behind a flush only blocks from the log's end on are others (`flush_follows`): past the new end there were zeros, and
-- are. Where a segment was opened before it, only that segment's log has others (`opened_follows_on`). The two are all
-- ways of a call that writes (`flushing_ahead_follows_on`), as a clean segment isn't the active one.
use Rattle.std.proofs.Common.{◌≡◌, ℕ, ◌+◌, ◌*◌, ◌<◌, ◌≤◌, [], inl, inr, refl, sym, subst, ap, ◌∙◌, ⊎_elim, arith}
use Rattle.std.proofs.lemmas.Bool.{cases_lt}
use Rattle.lfs_ifile.specs.declared.segment.SegState.TheVariants.{Active, Clean}
use Rattle.lfs_segments.specs.Log.{Expects, first_of}
use Rattle.lfs_segments.specs.Memory.{IsLaidOut, SegmentMemory, block_at, log_start, next_address}
use Rattle.lfs_segments.proofs.WritingLemmas.{block_at-opened_other}
use Rattle.lfs_log.specs.Parts.{state_of}
use Rattle.lfs_parts.specs.declared.parts.Parts.{Parts}
use Rattle.lfs_parts.specs.Store.{IsStore}
use Rattle.lfs_segwrite.specs.Flushing.{Flushes}
use Rattle.lfs_disk.specs.Flushing.{FlushFollowsOn, FlushingAheadFollowsOn, MarkingFollowsOn, OpenedFollowsOn}
use Rattle.lfs_disk.specs.Flushing.{OpensCleanOnly, WritingFollowsOn}
use Rattle.lfs_disk.specs.Mirroring.{FollowsOn}

module _ (ready new : Parts) (f : Flushes ready new) where
  abbrev m : SegmentMemory
  m = ready.log.memory

  abbrev n : SegmentMemory
  n = new.log.memory

  -- behind the new end zeros stand, in front of the segment's
  past_end : Expects m [] → (a : ℕ) → next_address n ≤ a → block_at n a ≡ block_at m a
  past_end expects a past =
      let active = f.active in
      let grown = f.grown in
      ⊎_elim
      (λ (below : a < m.active * 64 + 64).
      f.store.ready.zeros a past (omega arith) ∙ sym (expects.zeros a (omega arith) below))
      (λ (beyond : m.active * 64 + 64 ≤ a). f.blocks a (inr (omega arith)))
      (cases_lt a (m.active * 64 + 64))

  pub flush_follows : IsLaidOut m → Expects m [] → FollowsOn m n
  flush_follows laid expects =
      let active = f.active in
      let grown = f.grown in
      let segments = f.segments in
      let was = laid.whole in
      let is = f.store.whole.parts.laid_out.whole in
      record {
        segments = segments;
        either = inl (record {
          active = active;
          ordered = omega arith;
          blocks = record {
            long = omega arith;
            outside = λ a out. ⊎_elim
                (λ (before : a < next_address m). f.blocks a (inl before))
                (λ (past : next_address n ≤ a). past_end expects a past)
                out;
          };
        });
      }

pub flush_follows_on : FlushFollowsOn
flush_follows_on old new store f = flush_follows old new f store.whole.parts.laid_out store.ready

pub opened_follows_on : OpenedFollowsOn
opened_follows_on old mid new segment store inside other is f =
    let m : SegmentMemory = old.log.memory in
    let n : SegmentMemory = new.log.memory in
    let laid = store.whole.parts.laid_out in
    let active : mid.log.memory.active ≡ segment = ap (λ (x : SegmentMemory). x.active) is in
    let next : next_address mid.log.memory ≡ first_of segment = ap next_address is in
    let count : mid.log.memory.segments ≡ m.segments = ap (λ (x : SegmentMemory). x.segments) is in
    let now : n.active ≡ segment = f.active ∙ active in
    let start : log_start n.active ≡ log_start segment = ap log_start now in
    let was_long = laid.whole in
    let is_long = f.store.whole.parts.laid_out.whole in
    let segments = f.segments in
    record {
      segments = segments ∙ count;
      either = inr (record {
        active = λ same. other (sym now ∙ same);
        blocks = record {
          long = omega arith;
          outside = λ a out. ⊎_elim
              (λ (before : a < first_of n.active).
              f.blocks a (inl (omega arith)) ∙ ap (λ (x : SegmentMemory). block_at x a) is
              ∙ block_at-opened_other m segment laid inside a (inl (omega arith)))
              (λ (past : n.active * 64 + 64 ≤ a).
              f.blocks a (inr (omega arith)) ∙ ap (λ (x : SegmentMemory). block_at x a) is
              ∙ block_at-opened_other m segment laid inside a (inr (omega arith)))
              out;
        };
      });
    }

-- ---- the calls that write
clean_not_active : Clean ≡ Active → ⊥
clean_not_active e = cc

pub flushing_ahead_follows_on : FlushingAheadFollowsOn
flushing_ahead_follows_on old new store ahead =
    let ready : SegmentMemory = ahead.ready.log.memory in
    elim ahead.end [
      | inl same ↦
          subst (λ (m : SegmentMemory). FollowsOn m new.log.memory) same
          (flush_follows ahead.ready new ahead.flushes (subst IsLaidOut (sym same) store.whole.parts.laid_out)
          (subst (λ (m : SegmentMemory). Expects m []) (sym same) store.ready))
      | inr opens ↦
          let count : ready.segments ≡ old.log.memory.segments = ap (λ (m : SegmentMemory). m.segments) opens.1 in
          let segments = ahead.flushes.segments in
          let active = ahead.flushes.active in
          let low = ahead.flushes.store.whole.parts.laid_out.active in
          opened_follows_on old ahead.ready new ready.active store (omega arith)
          (λ same. clean_not_active (sym opens.0 ∙ ap (state_of old.log.tables) same
          ∙ store.whole.parts.is_active)) opens.1 ahead.flushes
    ]

pub writing_follows_on : WritingFollowsOn
writing_follows_on old new store written = flushing_ahead_follows_on old new store written.flush

-- a memory that is the same goes on, by no block
same_follows : (m : SegmentMemory) → FollowsOn m m
same_follows m = record {
  segments = refl;
  either = inl (record {
    active = refl;
    ordered = omega arith;
    blocks = record { long = refl; outside = λ a out. refl };
  });
}

pub marking_follows_on : MarkingFollowsOn
marking_follows_on marks count old new store marked = elim marked.flush [
  | inl same ↦
      subst (λ (p : Parts). FollowsOn old.log.memory p.log.memory) (sym same) (same_follows old.log.memory)
  | inr ahead ↦ flushing_ahead_follows_on old new store ahead
]

pub opens_clean_only : OpensCleanOnly
opens_clean_only old new ahead other = elim ahead.end [
  | inl same ↦ absurd (other (ahead.flushes.active ∙ ap (λ (m : SegmentMemory). m.active) same))
  | inr opens ↦ ap (state_of old.log.tables) ahead.flushes.active ∙ opens.0
]
