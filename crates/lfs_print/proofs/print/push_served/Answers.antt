use Rattle.lfs_print.proofs.print.push_served.Goals as goal

pub returns-in-Stat : goal.returns-in-Stat
returns-in-Stat c = rw c.in-Stat.is c.push_stat.ensures
