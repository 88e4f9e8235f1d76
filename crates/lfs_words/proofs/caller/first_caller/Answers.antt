use Rattle.std.proofs.lemmas.Result.{MatchResult-at_ok}
use Rattle.lfs_words.proofs.caller.first_caller.Goals as goal

pub returns : goal.returns
returns c = (MatchResult-at_ok _ _ c.unwrap.result c.unwrap.ensures c.new.ensures).1
