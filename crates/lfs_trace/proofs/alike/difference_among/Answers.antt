use Rattle.std.proofs.Common.{sym, subst}
use Rattle.lfs_calls.specs.Volumes.{HasWorld}
use Rattle.lfs_trace.proofs.alike.difference_among.Goals as goal

pub is_alike_at-requires-clause-plain : goal.is_alike_at-requires-clause-plain
is_alike_at-requires-clause-plain g c = subst HasWorld (sym c.loop-number.invariant.plain) c.requires.plain

pub is_alike_at-requires-clause-store : goal.is_alike_at-requires-clause-store
is_alike_at-requires-clause-store g c = subst HasWorld (sym c.loop-number.invariant.state) c.requires.store
