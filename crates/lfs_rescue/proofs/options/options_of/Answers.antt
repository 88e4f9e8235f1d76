use Rattle.std.proofs.lemmas.Result.{IfErr-weaker}
use Rattle.lfs_rescue.proofs.options.options_of.Goals as goal

pub returns-then-not-recovers-clause-unread : goal.returns-then-not-recovers-clause-unread
returns-then-not-recovers-clause-unread g c =
    IfErr-weaker c.args.words _ _ (λ _ _. c.wrong_value.ensures) c.matches_of.ensures

pub returns-then-not-recovers-2-clause-unread : goal.returns-then-not-recovers-2-clause-unread
returns-then-not-recovers-2-clause-unread g c =
    IfErr-weaker c.args.words _ _ (λ _ _. c.wrong_value-then-not-recovers-2.ensures) c.matches_of.ensures
