use Rattle.std.proofs.lemmas.Result.{on_ok_weaker}
use Rattle.lfs_script.proofs.CleanerBack.{act_back}
use Rattle.lfs_script.proofs.cleaner_spelling.push_act.Goals as goal

pub returns-clause-back : goal.returns-clause-back
returns-clause-back c = on_ok_weaker c.push_handed_in.result (act_back c.args.act.now) c.push_handed_in.ensures.back
