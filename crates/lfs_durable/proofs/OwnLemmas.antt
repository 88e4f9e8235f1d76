-- A store's own log spares it (`own_spared`): each block that it holds is named by the log (`named`), so it doesn't stand
-- behind the last partial segment.
use Rattle.std.proofs.Common.{◌≡◌, ℕ, ◌*◌, ◌/◌, ◌<◌, Some, IsSome, refl, ap, ◌∙◌, sym, arith}
use Rattle.lfs_types.proofs.Somewhere.{there_of, present}
use Rattle.lfs_segments.specs.declared.entry.SummaryEntry.{SummaryEntry}
use Rattle.lfs_segments.specs.Log.{entry_at}
use Rattle.lfs_segments.specs.Memory.{SegmentMemory}
use Rattle.lfs_bmap.proofs.OwnerLemmas.{owner_at-named}
use Rattle.lfs_log.specs.Names.{named_at, record_at}
use Rattle.lfs_parts.specs.declared.parts.Parts.{Parts}
use Rattle.lfs_parts.specs.Keys.{log_state}
use Rattle.lfs_durable.specs.Names.{IsDurable}
use Rattle.lfs_durable.specs.Spared.{IsHeld, Spares}
use Rattle.lfs_durable.proofs.EndLemmas.{nothing_past}

-- where the log names an owner, it has an entry
entry_there : (m : SegmentMemory) (place : ℕ) → IsSome (named_at m place) → IsSome (entry_at m (place / 4))
unfolding named_at
entry_there m place some =
    let o = there_of (named_at m place) some in
    present (owner_at-named (entry_at m) (record_at m) place o.value o.is).1

-- a block that a store holds lies in its volume, and the log names it
pub record IsNamedAt (p : Parts) (address : ℕ) : Type 0 where
  pub inside : address < p.log.memory.segments * 64
  pub entry : SummaryEntry
  pub named : entry_at p.log.memory address ≡ Some entry

pub held_named : (p : Parts) → IsDurable p → (address : ℕ) → IsHeld p address → IsNamedAt p address
held_named p d address h =
    let m = p.log.memory in
    let place : ℕ = (log_state p).at h.number h.code in
    let key = d.store.log.keys h.number h.code h.placed in
    let in_volume = key.in_volume in
    let here = h.here in
    let entry = there_of (entry_at m (place / 4)) (entry_there m place (present key.owned)) in
    record { inside = omega arith; entry = entry.value; named = ap (entry_at m) (sym h.here) ∙ entry.is }

pub own_spared : (p : Parts) → IsDurable p → Spares p p.log.memory
own_spared p d = record {
  segments = refl;
  label = refl;
  held = λ address held. refl;
  newest = λ number o used is. is;
  ends = λ last logged latest address held past.
      let named = held_named p d address held in
      nothing_past p.log.memory d.next (d.recoverable.to d.next d.serial d.bound) last logged
      (λ s is here. latest s is) address named.entry
      named.named past;
}
