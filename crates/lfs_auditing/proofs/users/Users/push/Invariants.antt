use Rattle.std.proofs.Common.{◌≡◌, ◌++◌}
use Rattle.std.specs.List.{flat_map}
use Rattle.lfs_auditing.specs.Users.{user_text}
use Rattle.lfs_auditing.proofs.users.Users.push.Given as goal

abbrev pub invariant-loop-uid : goal.invariant-loop-uid
invariant-loop-uid l = l.out.items ++ flat_map user_text l.uid-iterator ≡ l.fn.out.items
    ++ flat_map user_text l.self.counts.entries
