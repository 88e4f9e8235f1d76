use Rattle.std.proofs.Common.{arith}
use Rattle.lfs_journal_lines.proofs.BackLine.{entry_back}
use Rattle.lfs_journal_lines.proofs.law.reads_back.Goals as goal

pub returns : goal.returns
returns c = λ told. entry_back c.args.entry.now (omega arith) c.walk_caller.ensures c.walk_event.ensures told
