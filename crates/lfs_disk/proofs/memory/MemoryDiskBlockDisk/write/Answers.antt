use Rattle.std.proofs.Common.{◌≡◌, List, [], ◌∷◌, ◌++◌, ap, subst, ◌∙◌}
use Rattle.lfs_disk.specs.declared.calls.Call.{Call}
use Rattle.lfs_disk.specs.declared.calls.Call.TheVariants.{Written}
use Rattle.lfs_disk.specs.Calls.{left_from, seen_after}
use Rattle.lfs_disk.proofs.CallLemmas.{elapses-to, left-write, seen-write}
use Rattle.lfs_disk.proofs.memory.MemoryDiskBlockDisk.write.Goals as goal

pub returns-in-Ok-clause-written : goal.returns-in-Ok-clause-written
returns-in-Ok-clause-written c =
    let disk = c.args.self.now in
    let is : c.push.new.self.items ≡ disk.calls.items ++ Written c.args.address c.args.block.now ∷ [] =
    c.in-Ok.ensures.items in
    ap (seen_after disk.first.items) is ∙ seen-write disk.first.items disk.calls.items c.args.address c.args.block.now

pub returns-in-Ok-clause-crash : goal.returns-in-Ok-clause-crash
returns-in-Ok-clause-crash c l left =
    let disk = c.args.self.now in
    let is : c.push.new.self.items ≡ disk.calls.items ++ Written c.args.address c.args.block.now ∷ [] =
    c.in-Ok.ensures.items in
    left-write (λ d. d ≡ disk.first.items) disk.first.items disk.calls.items c.args.address c.args.block.now l
    (subst (λ (calls : List Call). left_from disk.first.items calls l) is left)

pub returns-in-Ok-clause-elapses : goal.returns-in-Ok-clause-elapses
returns-in-Ok-clause-elapses c =
    let disk = c.args.self.now in
    elapses-to disk.first.items disk.calls.items c.push.new.self.items (Written c.args.address c.args.block.now)
    c.in-Ok.ensures.items
