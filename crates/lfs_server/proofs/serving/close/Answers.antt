use Rattle.std.proofs.Common.{IfErr, List, Result, subst}
use Rattle.std.specs.Global.{Vec}
use Rattle.lfs_types.specs.declared.answer.Answer.{Answer}
use Rattle.lfs_settle.specs.Interleaving.{IsLowestToDiffer, Run, run_of}
use Rattle.lfs_settle.specs.declared.entries.Unsettled.{Unsettled}
use Rattle.lfs_server.proofs.serving.close.Goals as goal

pub returns-in-Err-clause-unsettled : goal.returns-in-Err-clause-unsettled
returns-in-Err-clause-unsettled g c =
    let v = c.args.volume in
    let run : List Answer → List (Vec Answer) → Run =
    λ answers transcripts. run_of v.journal v.limit c.args.setup.now answers c.args.sessions.now transcripts in
    let answers = c.as_slice.result.now in
    let transcripts = c.as_slice-2.result.now in
    let told = subst (λ (result : Result (Unit {0}) Unsettled). IfErr result
    (λ u. IsLowestToDiffer (run answers transcripts) u.0)) c.in-Err.is c.settle-settled.ensures.lowest in
    subst (λ (l : List Answer). IsLowestToDiffer (run l c.args.transcripts.items) c.in-Err.field-0.0) c.as_slice.ensures.value
    (subst (λ (l : List (Vec Answer)). IsLowestToDiffer (run answers l) c.in-Err.field-0.0) c.as_slice-2.ensures.value told)
