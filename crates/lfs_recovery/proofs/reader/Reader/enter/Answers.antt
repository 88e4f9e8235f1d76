use Rattle.std.proofs.Common.{sym}
use Rattle.lfs_recovery.proofs.CourseLemmas.{entered-other, entered-start}
use Rattle.lfs_recovery.proofs.reader.Reader.enter.Goals as goal

pub returns-then-begins_log : goal.returns-then-begins_log
returns-then-begins_log c = entered-start c.args.address c.args.self.now (sym c.if-begins_log.ensures)

pub returns-else-begins_log : goal.returns-else-begins_log
returns-else-begins_log c = entered-other c.args.address c.args.self.now (sym c.if-begins_log.ensures)
