use Rattle.std.proofs.Common.{[], ◌∷◌, ◌++◌, get_or, length, take, sym, ap, ◌∙◌, arith}
use Rattle.std.specs.List.{filter}
use Rattle.std.proofs.lemmas.Bool.Decides.{same_from_decides}
use Rattle.std.proofs.lemmas.Bool.{cond-true, cond-false}
use Rattle.std.proofs.lemmas.List.{append-nil, length-take, take_all}
use Rattle.std.proofs.lemmas.List.Elements.{filter_more}
use Rattle.lfs_types.specs.declared.cleaner.BlockInfo.{BlockInfo}
use Rattle.lfs_parts.specs.Keys.{log_state}
use Rattle.lfs_segwrite.specs.Gaining.{live_infos, names_block}
use Rattle.lfs_segwrite.proofs.GainLemmas.{length_filter}
use Rattle.lfs_segwrite.proofs.InfoLemmas.{names_decides}
use Rattle.lfs_segwrite.proofs.gaining.live_infos.Goals.{then-is_named, else-is_named}
use Rattle.lfs_segwrite.proofs.gaining.live_infos.Goals as goal

-- an info that names nothing
abbrev nothing : BlockInfo
nothing = record { ino = 0; version = 0; lbn = 0; addr = 0 }

pub push-requires : goal.push-requires
push-requires c =
    let i = c.loop-info.info-index in
    let infos = c.items-info-items.result.now in
    let some = length_filter (names_block (log_state c.args.parts.now)) (take i infos) in
    let taken = length-take i infos in
    let same = ap length c.items-info-items.ensures.items in
    let fits = c.items-info-items.ensures.fits in
    let so_far = ap length c.loop-info.invariant in
    let low = c.loop-info-test.true in
    (omega arith, omega arith)

pub loop-info-preserved : goal.loop-info-preserved
loop-info-preserved c =
    let i = c.loop-info.info-index in
    let infos = c.items-info-items.result.now in
    let names = names_block (log_state c.args.parts.now) in
    let info = get_or infos i nothing in
    let more = filter_more names infos i nothing c.loop-info-test.true in
    let is = same_from_decides c.is_named.result (names info) c.is_named.ensures
    (names_decides (log_state c.args.parts.now) info) in
    elim c.if-is_named.branch [
      | then-is_named w ↦
          w.live-is ∙ w.push.ensures ∙ ap (λ (xs : _). xs ++ info ∷ []) c.loop-info.invariant
          ∙ sym (more ∙ ap (λ (xs : _). filter names (take i infos) ++ xs)
          (cond-true (names info) (info ∷ []) [] (sym is ∙ w.if-is_named.true)))
      | else-is_named w ↦
          w.live-is ∙ c.loop-info.invariant
          ∙ sym (more ∙ ap (λ (xs : _). filter names (take i infos) ++ xs)
          (cond-false (names info) (info ∷ []) [] (sym is ∙ w.if-is_named.false)) ∙ append-nil _)
    ]

pub returns : goal.returns
unfolding live_infos
returns c =
    let names = names_block (log_state c.args.parts.now) in
    c.loop-info.invariant ∙ ap (filter names)
    (take_all c.loop-info.info-index c.items-info-items.result.now c.loop-info-test.false)
    ∙ ap (filter names) (c.items-info-items.ensures.items ∙ c.infos-infos.ensures.infos)
