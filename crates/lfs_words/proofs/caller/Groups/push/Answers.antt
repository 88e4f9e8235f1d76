use Rattle.std.proofs.Common.{arith}
use Rattle.lfs_words.proofs.GroupLists.{push_full}
use Rattle.lfs_words.proofs.caller.Groups.push.Goals as goal

pub returns-else-self-lt-KEPT : goal.returns-else-self-lt-KEPT
returns-else-self-lt-KEPT c =
    rw (← c.self.view_is) (push_full c.self.inside.kept c.self.inside.count c.args.group c.self.invariant.1
    c.self.invariant.0 (omega arith))
