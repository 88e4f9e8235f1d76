use Rattle.lfs_hearing.proofs.HearingLemmas.{dot_many}
use Rattle.lfs_hearing.proofs.hearing.dot_of.Goals as goal

pub returns-in_default-2 : goal.returns-in_default-2
returns-in_default-2 c = dot_many c.args.words.now c.in_default.len_at_least
