use Rattle.std.proofs.Common.{sym, subst}
use Rattle.lfs_calls.specs.Volumes.{HasWorld}
use Rattle.lfs_trace.proofs.alike.difference.Goals as goal

pub difference_among-requires-in-None-clause-plain : goal.difference_among-requires-in-None-clause-plain
difference_among-requires-in-None-clause-plain g c =
    subst HasWorld (sym c.difference_among.ensures.plain) c.requires.plain

pub difference_among-requires-in-None-clause-store : goal.difference_among-requires-in-None-clause-store
difference_among-requires-in-None-clause-store g c =
    subst HasWorld (sym c.difference_among.ensures.state) c.requires.store
