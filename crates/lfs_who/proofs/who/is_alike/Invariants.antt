use Rattle.std.proofs.Common.{◌≡◌, take}
use Rattle.lfs_who.proofs.who.is_alike.Given as goal

-- they are the same so far
abbrev pub invariant-loop-at : goal.invariant-loop-at
invariant-loop-at l = take l.at l.fn.lines ≡ take l.at l.fn.others
