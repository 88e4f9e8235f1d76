use Rattle.lfs_who.proofs.who.who_calls.Goals as goal

pub returns-clause-who : goal.returns-clause-who
returns-clause-who g c w v at =
    c.in_ok-who.ensures w v.tree at (c.in_ok-paths.ensures.first w v) (c.in_ok-paths.ensures.second w v)
