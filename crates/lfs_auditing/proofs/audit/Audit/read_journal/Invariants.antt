use Rattle.std.proofs.Common.{List}
use Rattle.lfs_types.specs.Tree.{World}
use Rattle.lfs_model.specs.declared.journal.Entry.{Entry}
use Rattle.lfs_auditing.specs.Audits.{HasRead, IsOfSame}
use Rattle.lfs_auditing.proofs.AuditLemmas.{SoFar}
use Rattle.lfs_auditing.proofs.audit.Audit.read_journal.Given as goal

abbrev pub invariant-loop : goal.invariant-loop
invariant-loop g l = record {
  so_far : (from : World) (es : List Entry) → HasRead from l.fn.self es
      → SoFar (g.R.Read.remaining l.fn.reader) (g.R.Read.remaining l.reader) from es l.self;
  same : IsOfSame l.fn.self l.self;
}
