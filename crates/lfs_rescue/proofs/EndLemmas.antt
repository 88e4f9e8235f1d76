-- What a crash leaves of a store that showed a tree has an end that tells which partial segment is the newest
-- (`some_logged`, `serial_low`). Whatever partial segment is found in it was found before (`none_new` of lfs_durable), so
-- its serial is below the store's next one; and one is found, since the root has a record.
use Rattle.std.proofs.Common.{ℕ, ◌<◌, [], None, arith}
use Rattle.lfs_types.specs.declared.limits.TheConstants.{ROOT_INODE}
use Rattle.lfs_segments.specs.Memory.{SegmentMemory}
use Rattle.lfs_recovery.specs.declared.places.PartialSegment.{PartialSegment}
use Rattle.lfs_recovery.specs.Logs.{IsLogged}
use Rattle.lfs_recovery.specs.Newest.{IsNewest}
use Rattle.lfs_found.specs.Written.{IsFindable}
use Rattle.lfs_found.proofs.ChainLemmas.{finds_begun}
use Rattle.lfs_parts.specs.declared.parts.Parts.{Parts}
use Rattle.lfs_logstore.specs.States.{state_of}
use Rattle.lfs_calls.specs.Volumes.{HasWorld}
use Rattle.lfs_reach.specs.Reach.{begins}
use Rattle.lfs_durable.specs.Crashes.{IsCrashOf}
use Rattle.lfs_durable.specs.Names.{IsDurable}
use Rattle.lfs_durable.proofs.CrashLemmas.{crash_spares, none_new}
use Rattle.lfs_durable.proofs.NameLemmas.{IsUsed, finds_spared_names}
use Rattle.lfs_durable.proofs.PlaceLemmas.{there}
use Rattle.lfs_rescue.specs.Recovering.{last_serial}

module _ (p : Parts) (n : SegmentMemory) (d : IsDurable p) (crash : IsCrashOf p n) where
  abbrev m : SegmentMemory
  m = p.log.memory

  findable : IsFindable m d.next
  findable = d.recoverable.to d.next d.serial d.bound

  -- its serial is below the next one
  pub serial_low : (s : PartialSegment) → IsLogged n s → s.serial < last_serial
  serial_low s l =
      let f = findable in
      let b = finds_begun m s f.kind (none_new p n d crash s l) in
      let below = f.rising.below s.address b.told b.summary in
      let serial = b.serial in
      let bound = d.bound in
      omega arith

  -- ---- one is found
  nothing_newest : ((s : PartialSegment) → IsLogged n s → ⊥) → (number : ℕ) → IsNewest n number None
  nothing_newest none number = λ r is own. none is.segment is.logged

  root_used : HasWorld (state_of p) → ((s : PartialSegment) → IsLogged n s → ⊥) → IsUsed p ROOT_INODE
  root_used shown none =
      let w = shown.1 in
      (finds_spared_names p n shown.0 [] ROOT_INODE d (crash_spares p n d crash) w.shows w.tree
      (record { each = λ number low. nothing_newest none number })).0 begins

  pub some_logged : HasWorld (state_of p) → ((s : PartialSegment) → IsLogged n s → ⊥) → ⊥
  some_logged shown none =
      let used = root_used shown none in
      let s = there p d ROOT_INODE used in
      (crash_spares p n d crash).newest ROOT_INODE None used (nothing_newest none ROOT_INODE) s.newest s.found.0
      s.found.1.0
