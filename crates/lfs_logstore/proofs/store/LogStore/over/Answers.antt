use Rattle.std.proofs.Common.{◌≡◌, ◌+◌, List, length, inl, ap, arith}
use Rattle.std.specs.Prelude.{if◌then◌else◌, ◌==◌}
use Rattle.lfs_inodes.specs.declared.inode.Inode.{Inode}
use Rattle.lfs_parts.specs.declared.parts.Parts.{Parts}
use Rattle.lfs_parts.specs.Store.{IsFlushed}
use Rattle.lfs_segwrite.specs.Applying.{waiting_blocks}
use Rattle.lfs_segwrite.specs.Collecting.{entries_of}
use Rattle.lfs_segwrite.proofs.CollectingLemmas.{entries_of-length}
use Rattle.lfs_logstore.proofs.store.LogStore.over.Goals as goal

-- nothing that waits takes no block
flushed_none : (p : Parts) → IsFlushed p → waiting_blocks p ≡ 0
flushed_none p flushed =
    let frames : length p.cache.locked ≡ 0 = ap length flushed.no_frame in
    let records : length p.waiting ≡ 0 = ap (λ (vs : List Inode). length vs) flushed.no_record in
    let none : length (entries_of p) ≡ 0 = let all = entries_of-length p in omega arith in
    ap (λ n. if n == 0 then 0 else n + 1) none

pub invariant_of-result : goal.invariant_of-result
invariant_of-result c =
    let none = flushed_none c.args.parts c.requires.flushed in
    (c.requires.store, record { room = inl (omega arith) })
