use Rattle.std.proofs.Common.{◌≡◌, subst}
use Rattle.std.specs.Prelude.{IfOk}
use Rattle.lfs_model.specs.Steps.{world_after}
use Rattle.lfs_volume.specs.Journals.{Begins}
use Rattle.lfs_why.proofs.LineLemmas.{why_told}
use Rattle.lfs_live.proofs.TellingLemmas.{if_ok_at}
use Rattle.lfs_live.proofs.telling.tell_why.Goals as goal

pub returns-clause-text : goal.returns-clause-text
returns-clause-text g c =
    let e = c.in_ok-explanation.ensures in
    let state = g.F.FileStore.state in
    let old = c.args.volume.now in
    if_ok_at c.tell_explanation.result (λ from. Begins (state old.since) old.since_level from) _ (λ from begins.
    subst (λ t. IfOk c.tell_explanation.result (λ text. text.items ≡ t))
    (why_told (world_after (state old.store).shape.numbers old.journal from) c.args.cred.now c.args.request.now
    c.in_ok-explanation.explanation
    (e.checks from begins) (e.first from begins) (e.second from begins))
    c.tell_explanation.ensures)
