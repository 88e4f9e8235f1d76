use Rattle.std.proofs.Common.{sym, subst}
use Rattle.lfs_staging.specs.Cutting.{ClearsBlock, MayClear}
use Rattle.lfs_staging.proofs.ClearingLemmas.{is_waiting}
use Rattle.lfs_parts.proofs.FrameLemmas.{waiting_number}
use Rattle.lfs_staging.proofs.cutting.clear_block.Goals as goal

pub clear-requires-clause-is : goal.clear-requires-clause-is
clear-requires-clause-is c =
    let p = c.args.parts.now in
    is_waiting p c.args.ino c.record_in_use-inode.result
    (c.record_in_use-inode.ensures.waits c.requires.waits) c.requires.in_use
    (λ f is. (c.requires.staged.whole.files c.args.ino f is).own_version)

pub clear-requires-clause-may : goal.clear-requires-clause-may
clear-requires-clause-may c =
    let p = c.args.parts.now in
    let same = waiting_number p.waiting c.args.ino c.record_in_use-inode.result
    (c.record_in_use-inode.ensures.waits c.requires.waits) in
    subst (λ n. MayClear p n c.args.block) (sym same) c.requires

pub returns : goal.returns
returns c =
    let p = c.args.parts.now in
    let same = waiting_number p.waiting c.args.ino c.record_in_use-inode.result
    (c.record_in_use-inode.ensures.waits c.requires.waits) in
    subst (λ n. ClearsBlock n c.args.block p c.clear.new.parts) same c.clear.ensures
