use Rattle.std.proofs.Common.{◌≡◌, ◌+◌, ◌-◌, ◌*◌, ◌<◌}
use Rattle.lfs_segwrite.specs.Gaining.{space}
use Rattle.lfs_parts.specs.Store.{IsFlushed}
use Rattle.lfs_logstore.specs.States.{state_of}
use Rattle.lfs_share.specs.Answering.{WritesThenCleans}
use Rattle.lfs_share.specs.Share.{KeepsOne}
use Rattle.lfs_share.proofs.restoring.restore.Given as goal

abbrev pub invariant-loop-store : goal.invariant-loop-store
invariant-loop-store l = record {
  flushed : IsFlushed l.store;
  content : (state_of l.store).content ≡ (state_of l.fn.store).content;
  shape : (state_of l.store).shape ≡ (state_of l.fn.store).shape;
  kept : KeepsOne l.fn.store → 0 < l.store.log.clean;
  idle : WritesThenCleans l.fn.store l.store;
}

-- each gain adds to the space
abbrev pub decreases-loop-store : goal.decreases-loop-store
decreases-loop-store l = 63 * l.store.log.memory.segments + 65 - space l.store
