use Rattle.std.proofs.Common.{◌≡◌, List, ap, subst, ◌∙◌}
use Rattle.lfs_disk.specs.declared.calls.Call.{Call}
use Rattle.lfs_disk.specs.declared.calls.Call.TheVariants.{Synced}
use Rattle.lfs_disk.specs.Calls.{left_from, seen_after}
use Rattle.lfs_disk.proofs.CallLemmas.{elapses-to, left-sync, seen-sync, sync_left}
use Rattle.lfs_disk.proofs.memory.MemoryDiskBlockDisk.sync.Goals as goal

pub returns-in-Ok-clause-synced : goal.returns-in-Ok-clause-synced
returns-in-Ok-clause-synced c l left =
    let disk = c.args.self.now in
    left-sync (λ d. d ≡ disk.first.items) disk.first.items disk.calls.items l
    (subst (λ (calls : List Call). left_from disk.first.items calls l) c.in-Ok.ensures.items left)

pub returns-in-Ok-clause-seen : goal.returns-in-Ok-clause-seen
returns-in-Ok-clause-seen c =
    let disk = c.args.self.now in
    ap (seen_after disk.first.items) c.in-Ok.ensures.items ∙ seen-sync disk.first.items disk.calls.items

pub returns-in-Ok-clause-crash : goal.returns-in-Ok-clause-crash
returns-in-Ok-clause-crash c l left =
    let disk = c.args.self.now in
    sync_left disk.first.items disk.calls.items l
    (subst (λ (calls : List Call). left_from disk.first.items calls l) c.in-Ok.ensures.items left)

pub returns-in-Ok-clause-elapses : goal.returns-in-Ok-clause-elapses
returns-in-Ok-clause-elapses c =
    let disk = c.args.self.now in
    elapses-to disk.first.items disk.calls.items c.push.new.self.items Synced c.in-Ok.ensures.items
