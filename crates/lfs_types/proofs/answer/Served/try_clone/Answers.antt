use Rattle.lfs_types.proofs.answer.Served.try_clone.Goals as goal
use Rattle.lfs_types.proofs.answer.Served.try_clone.Goals.{in-Stat, in-Bytes+in_ok-try_clone-in-Bytes}
use Rattle.lfs_types.proofs.answer.Served.try_clone.Goals.{in-Names+in_ok-try_clone-in-Names, in-Done}

pub returns-clause-copy : goal.returns-clause-copy
returns-clause-copy c =
    elim c.match-self.branch [
      | in-Stat w ↦ rw (w.result-is, w.in-Stat.is)
      | in-Bytes+in_ok-try_clone-in-Bytes w ↦ rw (w.result-is, w.in-Bytes.is, w.in_ok-try_clone-in-Bytes.ensures)
      | in-Names+in_ok-try_clone-in-Names w ↦ rw (w.result-is, w.in-Names.is, w.in_ok-try_clone-in-Names.ensures)
      | in-Done w ↦ rw (w.result-is, w.in-Done.is)
    ]
