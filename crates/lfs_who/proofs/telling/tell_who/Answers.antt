use Rattle.lfs_who.proofs.telling.tell_who.Goals as goal

pub returns-clause-told : goal.returns-clause-told
returns-clause-told g c w v at =
    c.in_ok-text.ensures w v.tree at (c.in_ok-paths.ensures.first w v) (c.in_ok-paths.ensures.second w v)
