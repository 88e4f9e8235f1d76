use Rattle.std.proofs.Common.{◌<◌, All, sym, ◌∙◌, subst}
use Rattle.lfs_bmap.specs.Moves.{DirtyIn}
use Rattle.lfs_parts.specs.Keys.{log_state}
use Rattle.lfs_segwrite.specs.Gaining.{MovesEights, eights}
use Rattle.lfs_segwrite.proofs.GainLemmas.{LiesDirty, emptied}
use Rattle.lfs_segwrite.proofs.InfoLemmas.{live_here}
use Rattle.lfs_segwrite.proofs.gaining.empty_segment.Goals as goal

pub mark_by_eights-requires-clause-dirty : goal.mark_by_eights-requires-clause-dirty
mark_by_eights-requires-clause-dirty c =
    let p = c.args.parts.now in
    subst (All (LiesDirty p)) (sym (c.items.ensures.items ∙ c.live_infos-infos.ensures))
    (λ k d low.
    let here = live_here p c.args.segment k d low in (
      subst (DirtyIn (log_state p)) (sym here) c.requires.gainful.dirty,
      subst (λ s. s < p.log.memory.segments) (sym here) c.requires.gainful.inside,
    ))

pub returns : goal.returns
returns c =
    let p = c.args.parts.now in
    emptied c.args.segment p c.mark_by_eights.new.parts c.requires.store c.requires.gainful
    (subst (λ infos. MovesEights infos (eights infos) p c.mark_by_eights.new.parts) (c.items.ensures.items
    ∙ c.live_infos-infos.ensures) c.mark_by_eights.ensures)
