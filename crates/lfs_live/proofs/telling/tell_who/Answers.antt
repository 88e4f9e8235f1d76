use Rattle.std.proofs.Common.{◌≡◌, sym, ◌∙◌}
use Rattle.lfs_explain.specs.Trails.{IsTrail, first_names, second_names}
use Rattle.lfs_model.specs.Steps.{world_after}
use Rattle.lfs_model.specs.World.{IsTree}
use Rattle.lfs_volume.specs.Journals.{Begins}
use Rattle.lfs_who.specs.WhoText.{IsWhoTold}
use Rattle.lfs_live.proofs.TellingLemmas.{if_ok_at, if_ok_from}
use Rattle.lfs_live.proofs.telling.tell_who.Goals as goal

pub returns-clause-text : goal.returns-clause-text
returns-clause-text g c =
    let e = c.in_ok-explanation.ensures in
    let state = g.F.FileStore.state in
    let old = c.args.volume.now in
    let paths = c.in_ok-explanation.explanation in
    let request = c.args.request.now in
    let numbers = (state old.store).shape.numbers in
    if_ok_at c.tell_who_along.result (λ from. Begins (state old.since) old.since_level from) _ (λ from begins.
    let w = world_after numbers old.journal from in
    let kept = c.counts-counts.ensures.legal from begins in
    if_ok_from c.tell_who_along.result (λ w. IsTree w.rows) (λ w. w.level ≡ c.level.result)
    (λ w. IsTrail w.rows (first_names request) paths.first)
    (λ w. IsTrail w.rows (second_names request) paths.second) (λ w text. IsWhoTold w request text.items)
    c.tell_who_along.ensures w kept.shown.tree (kept.at_level ∙ sym (c.level.ensures ∙ e.level))
    (e.first from begins) (e.second from begins))
