use Rattle.std.proofs.Common.{◌∙◌}
use Rattle.std.proofs.lemmas.Result.{on_ok_weaker}
use Rattle.lfs_live.proofs.KeepingLemmas.{never_both}
use Rattle.lfs_live.proofs.tended.Tended.tidy.Goals as goal

pub returns-then-is_due-clause-tidied : goal.returns-then-is_due-clause-tidied
returns-then-is_due-clause-tidied g c =
    on_ok_weaker c.pass.result
    (λ done. (
      done.0,
      record {
        passes = λ _. (done.1, done.2, done.3, done.4);
        stays = λ none. absurd (never_both c.is_due.result c.if-is_due.true (c.is_due.ensures ∙ none));
      },
    ))
    c.pass.ensures.passed
