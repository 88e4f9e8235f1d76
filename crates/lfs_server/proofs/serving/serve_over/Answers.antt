use Rattle.std.proofs.Common.{IfErr, List, subst}
use Rattle.lfs_types.specs.Caller.{Caller}
use Rattle.lfs_types.specs.declared.request.Request.{Request}
use Rattle.lfs_settle.specs.Interleaving.{IsLowestToDiffer, run_of}
use Rattle.lfs_server.specs.Unserved.{NamesUnsettled}
use Rattle.lfs_server.proofs.serving.serve_over.Goals as goal

pub returns-clause-unsettled : goal.returns-clause-unsettled
returns-clause-unsettled g c =
    subst (λ (scripts : List (List (Caller × Request))). IfErr c.run_kept.result (NamesUnsettled (λ session closed.
    IsLowestToDiffer (run_of closed.volume.journal closed.volume.limit c.args.setup closed.setup.items scripts
    closed.transcripts.items) session))) c.as_slice.ensures.value c.run_kept.ensures.unsettled
