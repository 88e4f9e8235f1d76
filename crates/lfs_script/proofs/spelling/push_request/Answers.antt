use Rattle.std.proofs.lemmas.Result.{on_ok_weaker}
use Rattle.lfs_script.proofs.SpellingLemmas.{line_back}
use Rattle.lfs_script.proofs.spelling.push_request.Goals as goal

pub returns-clause-back : goal.returns-clause-back
returns-clause-back c =
    on_ok_weaker c.push_operands.result (λ back spells. line_back c.args.request.now (back spells))
    c.push_operands.ensures.back
