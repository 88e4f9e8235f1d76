-- What a crash leaves of a durable store (`survives`, `survives_later`).
use Rattle.std.proofs.Common.{◌≡◌, ◌∙◌, refl, sym, ap, subst, inl, inr}
use Rattle.lfs_types.specs.Tree.{Content}
use Rattle.lfs_segments.specs.Memory.{SegmentMemory}
use Rattle.lfs_parts.specs.declared.parts.Parts.{Parts}
use Rattle.lfs_calls.specs.Content.{Shows}
use Rattle.lfs_durable.specs.Crashes.{IsCrashOf, IsInFlush}
use Rattle.lfs_durable.proofs.CrashLemmas.{finds_after_crash}
use Rattle.lfs_durable.proofs.FlushLemmas.{flush_crashes, staged_crashes}
use Rattle.lfs_durable.proofs.KeptLemmas.{flushed_is_durable}
use Rattle.lfs_durable_store.specs.Keeping.{Durably, IsKept}
use Rattle.lfs_durable_store.specs.Surviving.{Survives, SurvivesLater}

-- at rest all blocks are there
at_rest : (p : Parts) (n : SegmentMemory) → n ≡ p.log.memory → IsCrashOf p n
at_rest p n same = subst (IsCrashOf p) (sym same) (record {
  segments = refl;
  label = refl;
  each = λ segment below. inl (record { each = λ a here. refl });
})

pub survives : (s : Durably) → IsKept s → Survives s
survives s k n found counted shown cut on =
    let serial = ap (λ (m : SegmentMemory). m.serial) (sym k.memory) ∙ counted.serial in
    let durable = flushed_is_durable s.base counted.next k.base_found k.base_store k.base_flushed serial counted.bound in
    let crash : IsCrashOf s.base n = elim cut [
      | inl rest ↦ at_rest s.base n (rest ∙ k.memory)
      | inr flush ↦ flush_crashes s.base n durable (inl (subst (λ (m : SegmentMemory). IsInFlush m n) k.memory flush))
    ] in
    finds_after_crash s.base found shown.world n durable shown.shows shown.tree crash on.made on.store on.flushed

pub survives_later : SurvivesLater
survives_later s n found shown l on =
    let durable = flushed_is_durable l.before l.counted.next l.found l.store l.flushed l.counted.serial l.counted.bound in
    let crash : IsCrashOf l.before n = elim l.cut [
      | inl rest ↦ at_rest l.before n (rest ∙ l.stays.memory)
      | inr midway ↦ staged_crashes l.before l.staged n durable l.stays midway
    ] in
    let shows = subst (λ (c : Content). Shows c shown.world) (sym l.content) shown.shows in
    finds_after_crash l.before found shown.world n durable shows shown.tree crash on.made on.store on.flushed ∙ l.content
