use Rattle.std.proofs.Common.{sym, subst}
use Rattle.lfs_staging.specs.Cutting.{ClearsTable, MayClearTable}
use Rattle.lfs_staging.proofs.ClearingLemmas.{is_waiting}
use Rattle.lfs_parts.proofs.FrameLemmas.{waiting_number}
use Rattle.lfs_staging.proofs.cutting.clear_table.Goals as goal

pub clear_whole-requires-clause-is : goal.clear_whole-requires-clause-is
clear_whole-requires-clause-is c =
    let p = c.args.parts.now in
    is_waiting p c.args.ino c.record_in_use-inode.result
    (c.record_in_use-inode.ensures.waits c.requires.may.blocks.waits) c.requires.may.blocks.in_use
    (λ f is. (c.requires.may.blocks.staged.whole.files c.args.ino f is).own_version)

pub clear_whole-requires-clause-may : goal.clear_whole-requires-clause-may
clear_whole-requires-clause-may c =
    let p = c.args.parts.now in
    let same = waiting_number p.waiting c.args.ino c.record_in_use-inode.result
    (c.record_in_use-inode.ensures.waits c.requires.may.blocks.waits) in
    subst (λ n. MayClearTable p n c.args.table c.args.end) (sym same) c.requires.may

pub returns : goal.returns
returns c =
    let p = c.args.parts.now in
    let same = waiting_number p.waiting c.args.ino c.record_in_use-inode.result
    (c.record_in_use-inode.ensures.waits c.requires.may.blocks.waits) in
    subst (λ n. ClearsTable n c.args.table c.args.end p c.clear_whole.new.parts) same c.clear_whole.ensures
