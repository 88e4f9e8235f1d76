use Rattle.std.proofs.Common.{None, sym, arith}
use Rattle.std.proofs.lemmas.List.{get_or_past, get_or_read_under}
use Rattle.lfs_known.specs.Says.{says}
use Rattle.lfs_known.proofs.slots.Slots.look.Goals as goal

pub returns-then-number-lt-MOST_INODES : goal.returns-then-number-lt-MOST_INODES
unfolding says
returns-then-number-lt-MOST_INODES g c =
    let slots = c.args.self.now.slots in
    get_or_read_under slots.items c.args.number slots.len c.index.result.now None c.index.ensures
    (omega arith) slots.ok.0

pub returns-else-number-lt-MOST_INODES : goal.returns-else-number-lt-MOST_INODES
unfolding says
returns-else-number-lt-MOST_INODES g c =
    let slots = c.args.self.now.slots in
    let sized = c.args.self.now.sized in
    let long = slots.ok.0 in
    sym (get_or_past slots.items c.args.number None (omega arith))
