use Rattle.std.proofs.Common.{inl, inr}
use Rattle.lfs_model.proofs.CountLemmas.{cleaner_denied_counted, done_counted, fault_counted}
use Rattle.lfs_model.proofs.counts.Counts.add_outcome.Goals as goal

pub returns-in-Denied : goal.returns-in-Denied
returns-in-Denied c = λ act. cleaner_denied_counted c.args.self.now act c.args.outcome _ c.in-Denied.is
    c.count_denial.ensures

pub returns-in-Fault : goal.returns-in-Fault
returns-in-Fault c = λ act. elim c.in-Fault.is [
  | inl fault ↦ fault_counted c.args.self.now act c.args.outcome fault.0 fault.1
  | inr done ↦ done_counted c.args.self.now act c.args.outcome done.0 done.1
]
