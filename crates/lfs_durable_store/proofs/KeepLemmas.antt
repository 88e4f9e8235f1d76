-- A store keeps what a durable store keeps (`IsKept`): where it is its own base (`kept_settled`, `kept_written`), and where
-- nothing was written since (`kept_read`, `kept_reclaimed`, `kept_staged`).
use Rattle.std.proofs.Common.{◌≡◌, ℕ, ◌+◌, ◌≤◌, ◌∙◌, Bool, true, List, length, refl, sym, ap, subst, arith}
use Rattle.std.specs.Prelude.{if◌then◌else◌, ◌==◌}
use Rattle.lfs_inodes.specs.declared.inode.Inode.{Inode}
use Rattle.lfs_ifile.specs.Tables.{Tables}
use Rattle.lfs_segments.specs.Memory.{room_of}
use Rattle.lfs_log.specs.Parts.{LogParts}
use Rattle.lfs_parts.specs.declared.parts.Parts.{Parts}
use Rattle.lfs_parts.specs.Filling.{SameButClean}
use Rattle.lfs_parts.specs.Files.{content_of}
use Rattle.lfs_parts.specs.Store.{IsFlushed, IsStore}
use Rattle.lfs_segwrite.specs.Applying.{WritesWaiting, waiting_blocks}
use Rattle.lfs_segwrite.specs.Collecting.{blocks_of_entries, entries_of}
use Rattle.lfs_segwrite.specs.Ordered.{IsOrdered}
use Rattle.lfs_segwrite.proofs.CollectingLemmas.{entries_of-length}
use Rattle.lfs_segwrite.proofs.OrderLemmas.{entries_of-same}
use Rattle.lfs_parts.proofs.FilledLemmas.{same_content}
use Rattle.lfs_logstore.specs.Cleaning.{IsReclaimed}
use Rattle.lfs_logstore.proofs.RoomLemmas.{same_waiting}
use Rattle.lfs_durable.specs.Kept.{CanBeFound}
use Rattle.lfs_durable.proofs.KeptLemmas.{same_can_be_found, writes_can_be_found}
use Rattle.lfs_durable_store.specs.declared.mark.Mark.{Mark}
use Rattle.lfs_durable_store.specs.Keeping.{Durably, IsKept, settled}

-- where nothing waits no block does
pub flushed_blocks : (p : Parts) → IsFlushed p → waiting_blocks p ≡ 0
flushed_blocks p flushed =
    let frames : length p.cache.locked ≡ 0 = ap length flushed.no_frame in
    let records : length p.waiting ≡ 0 = ap (λ (vs : List Inode). length vs) flushed.no_record in
    let many : length (entries_of p) ≡ 0 = let all = entries_of-length p in omega arith in
    ap (λ n. if n == 0 then 0 else n + 1) many

pub kept_settled : (turn : Bool) (p : Parts) → CanBeFound p → IsStore p → IsFlushed p → IsKept (settled turn p)
kept_settled turn p found store flushed = record {
  found = found;
  base_found = found;
  base_store = store;
  base_flushed = flushed;
  memory = refl;
  fits = let none = flushed_blocks p flushed in omega arith;
  whole = λ told. refl;
}

-- a store that is its own base, as is told
pub own_is : (turn : Bool) (p b : Parts) (m : Mark) → b ≡ p → m ≡ record { is_whole = true; turn = turn }
    → record { store = p; base = b; mark = m } ≡ settled turn p
own_is turn p b m same told = λ i. record { store = p; base = same i; mark = told i }

pub kept_own : (turn : Bool) (p b : Parts) (m : Mark) → b ≡ p → m ≡ record { is_whole = true; turn = turn } → CanBeFound p
    → IsStore p → IsFlushed p → IsKept (record { store = p; base = b; mark = m })
kept_own turn p b m same told found store flushed =
    subst IsKept (sym (own_is turn p b m same told)) (kept_settled turn p found store flushed)

pub kept_written : (turn : Bool) (p q : Parts) → CanBeFound p → WritesWaiting p q → IsKept (settled turn q)
kept_written turn p q found w = kept_settled turn q (writes_can_be_found p q w.log found) w.store w.flushed

-- nothing was written, and what waits fits still
module _ (s : Durably) (k : IsKept s) (p : Parts) (m : Mark) (memory : p.log.memory ≡ s.store.log.memory) where
  pub kept_since : CanBeFound p → waiting_blocks p ≤ room_of s.store.log.memory
      → (m.is_whole ≡ true → content_of s.base ≡ content_of p) → IsKept (record { store = p; base = s.base; mark = m })
  kept_since found fits whole = record {
    found = found;
    base_found = k.base_found;
    base_store = k.base_store;
    base_flushed = k.base_flushed;
    memory = memory ∙ k.memory;
    fits = let left = ap room_of memory in omega arith;
    whole = whole;
  }

pub kept_read : (s : Durably) (p : Parts) → IsKept s → SameButClean s.store p
    → IsKept (record { store = p; base = s.base; mark = s.mark })
kept_read s p k h =
    let memory = ap (λ (l : LogParts). l.memory) h.log in
    let numbers = ap (λ (l : LogParts). length l.tables.rows) h.log in
    let found = same_can_be_found s.store p memory numbers (subst IsOrdered (sym h.log)) k.found in
    let waits = same_waiting s.store p h in
    let fits = k.fits in
    kept_since s k p s.mark memory found (omega arith) (λ told. k.whole told ∙ sym (same_content s.store p h))

pub kept_reclaimed : (s : Durably) (segment : ℕ) (p : Parts) → IsKept s → IsReclaimed s.store segment p
    → IsKept (record { store = p; base = s.base; mark = s.mark })
kept_reclaimed s segment p k h =
    let numbers = ap (λ (t : Tables). length t.rows) h.tables in
    let found = same_can_be_found s.store p h.memory numbers h.ordered k.found in
    let waits : waiting_blocks p ≡ waiting_blocks s.store =
    ap blocks_of_entries (entries_of-same s.store p h.cache h.waiting) in
    let fits = k.fits in
    kept_since s k p s.mark h.memory found (omega arith) (λ told. k.whole told ∙ sym h.content)
