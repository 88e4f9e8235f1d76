use Rattle.std.proofs.Common.{subst, sym}
use Rattle.lfs_found.specs.Written.{IsRecoverable}
use Rattle.lfs_parts.specs.declared.parts.Parts.{Parts}
use Rattle.lfs_segwrite.specs.Ordered.{IsOrdered}
use Rattle.lfs_logstore.proofs.RoomLemmas.{flushed_room}
use Rattle.lfs_logstore.proofs.store.LogStore.gain.Goals as goal

pub invariant_of-self : goal.invariant_of-self
invariant_of-self c = (
  c.empty_segment.ensures.moved.store,
  flushed_room c.empty_segment.new.parts c.empty_segment.ensures.moved.flushed,
)

pub invariant_of-self-in-None : goal.invariant_of-self-in-None
invariant_of-self-in-None c = (
  c.write_waiting.ensures.store,
  flushed_room c.write_waiting.new.parts c.write_waiting.ensures.flushed,
)

pub returns-in-Some-clause-whole : goal.returns-in-Some-clause-whole
returns-in-Some-clause-whole c =
    subst (λ (p : Parts). IsRecoverable p.log.memory → IsRecoverable c.reclaim.new.self.log.memory) c.self.view_is
    (λ was. subst IsRecoverable (sym c.reclaim.ensures.memory)
    (c.empty_segment.ensures.moved.whole (c.write_waiting.ensures.log.whole was)))

pub returns-in-None-clause-whole : goal.returns-in-None-clause-whole
returns-in-None-clause-whole c =
    subst (λ (p : Parts). IsRecoverable p.log.memory → IsRecoverable c.write_waiting.new.parts.log.memory) c.self.view_is
    c.write_waiting.ensures.log.whole

pub returns-in-Some-clause-ordered : goal.returns-in-Some-clause-ordered
returns-in-Some-clause-ordered c =
    subst (λ (p : Parts). IsRecoverable p.log.memory → IsOrdered p.log → IsOrdered c.reclaim.new.self.log) c.self.view_is
    (λ was order. c.reclaim.ensures.ordered (c.empty_segment.ensures.moved.ordered (c.write_waiting.ensures.log.whole was)
    (c.write_waiting.ensures.log.ordered was order)))

pub returns-in-None-clause-ordered : goal.returns-in-None-clause-ordered
returns-in-None-clause-ordered c =
    subst (λ (p : Parts). IsRecoverable p.log.memory → IsOrdered p.log → IsOrdered c.write_waiting.new.parts.log)
    c.self.view_is c.write_waiting.ensures.log.ordered
