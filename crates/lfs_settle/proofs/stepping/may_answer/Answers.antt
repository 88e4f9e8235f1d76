use Rattle.std.proofs.Common.{rules}
use Rattle.lfs_settle.proofs.stepping.may_answer.Goals as goal

pub returns-in-Refused-JournalFull : goal.returns-in-Refused-JournalFull
returns-in-Refused-JournalFull c = search rules
