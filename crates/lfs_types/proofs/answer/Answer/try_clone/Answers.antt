use Rattle.lfs_types.proofs.answer.Answer.try_clone.Goals as goal
use Rattle.lfs_types.proofs.answer.Answer.try_clone.Goals.{in-Served+in_ok-try_clone-in-Served, in-Denied, in-Refused}

pub returns-clause-copy : goal.returns-clause-copy
returns-clause-copy c =
    elim c.match-self.branch [
      | in-Served+in_ok-try_clone-in-Served w ↦
          rw (w.result-is, w.in-Served.is, w.in_ok-try_clone-in-Served.ensures.copy)
      | in-Denied w ↦ rw (w.result-is, w.in-Denied.is)
      | in-Refused w ↦ rw (w.result-is, w.in-Refused.is)
    ]
