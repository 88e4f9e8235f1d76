-- A store with serials can be found from the start (`fresh_can_be_found`) and stays so, as each call that writes keeps the
-- label (`writes_can_be_found`, `moves_can_be_found`, `same_can_be_found`). Where nothing waits it is durable (`flushed_is_durable`).
use Rattle.std.proofs.Common.{◌∙◌, ℕ, Option, is_some, sym, subst, ap, ap₂, arith}
use Rattle.lfs_segments.specs.Memory.{SegmentMemory, block_at, has_serials, label}
use Rattle.lfs_found.specs.Written.{IsRecoverable}
use Rattle.lfs_cache.specs.Contents.{Contents}
use Rattle.lfs_durable.specs.Kept.{FlushedIsDurable, FreshCanBeFound, FreshIsDurable, MovesCanBeFound, SameCanBeFound}
use Rattle.lfs_durable.specs.Kept.{WritesCanBeFound}

pub fresh_can_be_found : FreshCanBeFound
fresh_can_be_found p segments inodes frames h recoverable ordered = record {
  serials = ap (λ (o : Option ℕ). is_some o) h.memory.next;
  recoverable = recoverable;
  ordered = ordered;
  labelled = h.label ∙ ap₂ label (sym h.size) (sym h.tables.inodes);
}

pub fresh_is_durable : FreshIsDurable
fresh_is_durable p segments inodes frames h store recoverable ordered = record {
  store = store;
  flushed = record { no_record = h.no_record; no_frame = ap (λ (c : Contents). c.locked) h.cache };
  recoverable = recoverable;
  ordered = ordered;
  next = 2;
  serial = h.memory.next;
  bound = omega arith;
  labelled = (fresh_can_be_found p segments inodes frames h recoverable ordered).labelled;
}

pub writes_can_be_found : WritesCanBeFound
writes_can_be_found old new w can = record {
  serials = w.serials ∙ can.serials;
  recoverable = w.whole can.recoverable;
  ordered = w.ordered can.recoverable can.ordered;
  labelled = w.label ∙ can.labelled ∙ ap₂ label (sym w.segments) (sym w.numbers);
}

pub moves_can_be_found : MovesCanBeFound
moves_can_be_found old new w can = record {
  serials = w.serials ∙ can.serials;
  recoverable = w.whole can.recoverable;
  ordered = w.ordered can.recoverable can.ordered;
  labelled = w.label ∙ can.labelled ∙ ap₂ label (sym w.segments) (sym w.numbers);
}

pub same_can_be_found : SameCanBeFound
same_can_be_found old new same numbers ordered can = record {
  serials = ap has_serials same ∙ can.serials;
  recoverable = subst IsRecoverable (sym same) can.recoverable;
  ordered = ordered can.ordered;
  labelled = ap (λ (m : SegmentMemory). block_at m 0) same ∙ can.labelled
      ∙ ap₂ label (ap (λ (m : SegmentMemory). m.segments) (sym same)) (sym numbers);
}

pub flushed_is_durable : FlushedIsDurable
flushed_is_durable p next can store done serial bound = record {
  store = store;
  flushed = done;
  recoverable = can.recoverable;
  ordered = can.ordered;
  next = next;
  serial = serial;
  bound = bound;
  labelled = can.labelled;
}
