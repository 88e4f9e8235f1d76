use Rattle.std.proofs.Common.{sym, subst, ◌≡◌}
use Rattle.lfs_model.specs.Counts.{counts_after}
use Rattle.lfs_model.proofs.counts.Counts.add.Goals as goal

pub returns-in-User : goal.returns-in-User
returns-in-User c = subst (λ event. c.add_answer.new.self ≡ counts_after event c.args.self.now) (sym c.in-User.is)
    (c.add_answer.ensures _)
