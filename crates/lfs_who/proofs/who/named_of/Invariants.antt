use Rattle.std.proofs.Common.{take}
use Rattle.lfs_who.specs.Who.{AreNamed}
use Rattle.lfs_who.proofs.who.named_of.Given as goal

-- the users so far are named
abbrev pub invariant-loop-uid : goal.invariant-loop-uid
invariant-loop-uid l = AreNamed l.fn.questions l.named.items l.fn.others (take l.uid-index l.users)
