-- The disk can follow a flush before which nothing had to be written (`none_follows`), and a segment that was opened for it
-- was clean before (`none_clean`); also where nothing changed (`same_follows`).
use Rattle.std.proofs.Common.{◌≡◌, ◌≢◌, ◌⊎◌, ℕ, ◌<◌, ◌≤◌, inl, inr, List, length, refl, sym, ◌∙◌}
use Rattle.std.proofs.Common.{subst, ⊎_elim, arith}
use Rattle.std.proofs.lemmas.Bool.{cases_lt}
use Rattle.lfs_segments.specs.Memory.{SegmentMemory, block_at, next_address}
use Rattle.lfs_ifile.specs.declared.segment.SegState.{SegState}
use Rattle.lfs_ifile.specs.declared.segment.SegState.TheVariants.{Active, Clean, Dirty}
use Rattle.lfs_log.specs.Parts.{state_of}
use Rattle.lfs_parts.specs.declared.parts.Parts.{Parts}
use Rattle.lfs_parts.specs.Store.{IsFlushed, IsStore}
use Rattle.lfs_segwrite.specs.Applying.{WritesWaiting, waiting_blocks}
use Rattle.lfs_disk.specs.Mirroring.{FollowsOn, IsBlankBehind, IsElsewhere, IsLonger}
use Rattle.lfs_disk.specs.Writing.{IsSameBut}
use Rattle.lfs_disk.proofs.FlushLemmas.{writing_follows_on}
use Rattle.lfs_durable_store.proofs.KeepLemmas.{flushed_blocks}

-- nothing changed
pub same_follows : (m n : SegmentMemory) → n ≡ m → FollowsOn m n
same_follows m n same = subst (FollowsOn m) (sym same) (record {
  segments = refl;
  either = inl (record {
    active = refl;
    ordered = omega arith;
    blocks = record { long = refl; outside = λ a out. refl };
  });
})

-- zeros stand behind the end of a store's log
pub store_blank : (p : Parts) → IsStore p → IsBlankBehind p.log.memory
store_blank p store a from below = store.ready.zeros a from below

-- ---- where nothing waited a flush writes nothing
cases_state : (s : SegState) → (s ≡ Clean) ⊎ ((s ≡ Dirty) ⊎ (s ≡ Active))
cases_state Clean = inl refl
cases_state Dirty = inr (inl refl)
cases_state Active = inr (inr refl)

pub dirty_not_active : Dirty ≡ Active → ⊥
dirty_not_active same = subst is_dirty same tt
  where
    is_dirty : SegState → Type 0
    is_dirty Clean = ⊥
    is_dirty Dirty = Unit {0}
    is_dirty Active = ⊥

pub dirty_not_clean : Dirty ≡ Clean → ⊥
dirty_not_clean same = subst is_dirty same tt
  where
    is_dirty : SegState → Type 0
    is_dirty Clean = ⊥
    is_dirty Dirty = Unit {0}
    is_dirty Active = ⊥

module _ (p q : Parts) (store : IsStore p) (flushed : IsFlushed p) (w : WritesWaiting p q) where
  none : waiting_blocks p ≡ 0
  none = flushed_blocks p flushed

  stays_clean : q.log.clean ≡ p.log.clean
  stays_clean = elim w.left [
    | inl here ↦ here.2
    | inr opened ↦ let short = opened.2 in let nothing = none in absurd (omega arith)
  ]

  stays_next : next_address q.log.memory ≡ next_address p.log.memory
  stays_next = elim w.left [
    | inl here ↦ let end = here.0 in let nothing = none in omega arith
    | inr opened ↦ let short = opened.2 in let nothing = none in absurd (omega arith)
  ]

  pub stays_active : q.log.memory.active ≡ p.log.memory.active
  stays_active = w.stays stays_clean

  follows : FollowsOn p.log.memory q.log.memory
  follows = writing_follows_on p q store w

  stays_blocks : (a : ℕ) → block_at q.log.memory a ≡ block_at p.log.memory a
  stays_blocks a =
      let end = stays_next in
      ⊎_elim
      (λ (longer : IsLonger p.log.memory q.log.memory). longer.blocks.outside a (⊎_elim
      (λ (before : a < next_address p.log.memory). inl before)
      (λ (past : next_address p.log.memory ≤ a). inr (omega arith))
      (cases_lt a (next_address p.log.memory))))
      (λ (elsewhere : IsElsewhere p.log.memory q.log.memory). absurd (elsewhere.active stays_active))
      follows.either

  stays_long : length q.log.memory.blocks ≡ length p.log.memory.blocks
  stays_long = ⊎_elim
      (λ (longer : IsLonger p.log.memory q.log.memory). longer.blocks.long)
      (λ (elsewhere : IsElsewhere p.log.memory q.log.memory). elsewhere.blocks.long)
      follows.either

  same_but : (start end : ℕ) (blocks : List (List ℕ)) → IsSameBut start end q.log.memory.blocks blocks
      → IsSameBut start end p.log.memory.blocks blocks
  same_but start end blocks s = record {
    long = s.long ∙ stays_long;
    outside = λ a out. s.outside a out ∙ stays_blocks a;
  }

  -- so the disk can follow a flush behind it
  pub none_follows : (r : SegmentMemory) → FollowsOn q.log.memory r → FollowsOn p.log.memory r
  none_follows r on = record {
    segments = on.segments ∙ follows.segments;
    either = ⊎_elim
        (λ (longer : IsLonger q.log.memory r).
        let active = stays_active in
        let end = stays_next in
        let ordered = longer.ordered in
        inl (record {
          active = longer.active ∙ active;
          ordered = omega arith;
          blocks = subst (λ (k : ℕ). IsSameBut k (next_address r) p.log.memory.blocks r.blocks) end
              (same_but (next_address q.log.memory) (next_address r) r.blocks longer.blocks);
        }))
        (λ (elsewhere : IsElsewhere q.log.memory r).
        inr (record {
          active = λ same. elsewhere.active (same ∙ sym stays_active);
          blocks = same_but _ _ r.blocks elsewhere.blocks;
        }))
        on.either;
  }

  -- a segment that is clean then was clean
  pub none_clean : (s : ℕ) → s < q.log.memory.segments → s ≢ q.log.memory.active → state_of q.log.tables s ≡ Clean
      → state_of p.log.tables s ≡ Clean
  none_clean s inside other clean =
      let count : q.log.memory.segments ≡ p.log.memory.segments = follows.segments in
      elim (cases_state (state_of p.log.tables s)) [
        | inl was ↦ was
        | inr used ↦ elim used [
          | inl dirty ↦ absurd (dirty_not_clean (sym (w.log.dirty.dirty s (omega arith) dirty) ∙ clean))
          | inr active ↦ absurd (other (store.whole.parts.no_other s (omega arith) active ∙ sym stays_active))
        ]
      ]
