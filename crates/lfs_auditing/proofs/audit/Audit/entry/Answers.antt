use Rattle.std.proofs.Common.{subst}
use Rattle.lfs_trace.specs.Errors.{IsCheckedAs}
use Rattle.lfs_auditing.proofs.AuditLemmas.{read_more}
use Rattle.lfs_auditing.proofs.audit.Audit.entry.Goals as goal

pub returns-in_ok-note-in-Ok-clause-read : goal.returns-in_ok-note-in-Ok-clause-read
returns-in_ok-note-in-Ok-clause-read c from es read =
    read_more from c.args.self.now c.note.new.self c.entry_as.new.self es c.args.entry read
    (subst (IsCheckedAs c.args.self.now.denials c.args.self.now.checker c.entry_as.new.self c.args.entry.cred
    c.args.entry.event) c.in-Ok.is
    c.entry_as.ensures)
    c.note.ensures.checker c.note.ensures.denials c.in_ok-note-in-Ok.ensures.counted
    (c.in_ok-note-in-Ok.ensures.users es read.users)
