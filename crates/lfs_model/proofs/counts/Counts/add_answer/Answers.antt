use Rattle.lfs_model.proofs.CountLemmas.{denied_counted, refused_counted, served_counted}
use Rattle.lfs_model.proofs.counts.Counts.add_answer.Goals as goal

pub returns-in-Served : goal.returns-in-Served
returns-in-Served c = λ request. served_counted c.args.self.now request c.args.answer.now _ c.in-Served.is

pub returns-in-Denied : goal.returns-in-Denied
returns-in-Denied c = λ request. denied_counted c.args.self.now request c.args.answer.now _ _ c.in-Denied.is
    c.count_denial.ensures

pub returns-in-Refused : goal.returns-in-Refused
returns-in-Refused c = λ request. refused_counted c.args.self.now request c.args.answer.now _ c.in-Refused.is
