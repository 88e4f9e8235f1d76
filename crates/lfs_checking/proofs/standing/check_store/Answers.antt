use Rattle.std.proofs.Common.{ℕ, List, sym, subst, ◌∙◌}
use Rattle.lfs_checking.specs.Volumes.{IsVerdict}
use Rattle.lfs_checking.proofs.StandingLemmas.{flushed_now, flushed_told, flushed_volume, well_told}
use Rattle.lfs_checking.proofs.standing.check_store.Goals as goal

pub returns : goal.returns
returns c = λ world labelled.
    let p = c.args.store.now in
    let none = sym c.is_waiting.ensures.waits ∙ c.if-is_waiting.false in
    flushed_told p _ none
    (well_told p c.args.level c.in_ok-image.image.items c.in_ok-verdict.verdict.status _ c.in_ok-image.ensures
    (flushed_volume p c.args.level (flushed_now p none) c.is_waiting.ensures.store world labelled)
    (subst (λ (b : List ℕ). IsVerdict b c.in_ok-verdict.verdict.status c.in_ok-verdict.verdict.text.items)
    c.as_slice.ensures.value c.in_ok-verdict.ensures))
