use Rattle.std.proofs.Common.{[], ◌∷◌, ◌++◌, get_or, length, take, sym, ap, ◌∙◌, arith}
use Rattle.std.specs.Prelude.{not}
use Rattle.std.specs.List.{filter}
use Rattle.std.proofs.lemmas.Bool.{cond-true, cond-false}
use Rattle.std.proofs.lemmas.List.{append-nil, length-take, take_all}
use Rattle.std.proofs.lemmas.List.Elements.{filter_more}
use Rattle.lfs_types.specs.declared.cleaner.BlockInfo.{BlockInfo}
use Rattle.lfs_segwrite.specs.Giving.{staying_infos, stays}
use Rattle.lfs_segwrite.proofs.GainLemmas.{length_filter}
use Rattle.lfs_segwrite.proofs.giving.staying_infos.Goals.{else-not-are_removing, then-not-are_removing}
use Rattle.lfs_segwrite.proofs.giving.staying_infos.Goals as goal

-- an info that names nothing
abbrev nothing : BlockInfo
nothing = record { ino = 0; version = 0; lbn = 0; addr = 0 }

pub push-requires : goal.push-requires
push-requires c =
    let i = c.loop-info.info-index in
    let infos = c.items-info-items.result.now in
    let some = length_filter (stays c.args.changes.now) (take i infos) in
    let taken = length-take i infos in
    let same = ap length c.items-info-items.ensures.items in
    let fits = c.items-info-items.ensures.fits in
    let so_far = ap length c.loop-info.invariant in
    let low = c.loop-info-test.true in
    (omega arith, omega arith)

pub loop-info-preserved : goal.loop-info-preserved
loop-info-preserved c =
    let i = c.loop-info.info-index in
    let infos = c.items-info-items.result.now in
    let stay = stays c.args.changes.now in
    let info = get_or infos i nothing in
    let more = filter_more stay infos i nothing c.loop-info-test.true in
    let is = ap not c.are_removing.ensures in
    elim c.if-not-are_removing.branch [
      | then-not-are_removing w ↦
          w.staying-is ∙ w.push.ensures ∙ ap (λ (xs : _). xs ++ info ∷ []) c.loop-info.invariant
          ∙ sym (more ∙ ap (λ (xs : _). filter stay (take i infos) ++ xs)
          (cond-true (stay info) (info ∷ []) [] (sym is ∙ ap not w.if-not-are_removing.true)))
      | else-not-are_removing w ↦
          w.staying-is ∙ c.loop-info.invariant
          ∙ sym (more ∙ ap (λ (xs : _). filter stay (take i infos) ++ xs)
          (cond-false (stay info) (info ∷ []) [] (sym is ∙ ap not w.if-not-are_removing.false)) ∙ append-nil _)
    ]

pub returns : goal.returns
unfolding staying_infos
returns c =
    let stay = stays c.args.changes.now in
    c.loop-info.invariant ∙ ap (filter stay)
    (take_all c.loop-info.info-index c.items-info-items.result.now c.loop-info-test.false)
    ∙ ap (filter stay) (c.items-info-items.ensures.items ∙ c.live_infos-live.ensures)
