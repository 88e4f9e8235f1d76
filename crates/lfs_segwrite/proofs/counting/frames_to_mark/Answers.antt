use Rattle.std.proofs.Common.{[], get_or, length, take, sym, ap, ◌∙◌, subst, arith}
use Rattle.std.specs.List.{flat_map}
use Rattle.std.proofs.lemmas.List.{length-take-le, take_all}
use Rattle.lfs_types.specs.declared.cleaner.BlockInfo.{BlockInfo}
use Rattle.lfs_segwrite.specs.Counting.{AddsKeys}
use Rattle.lfs_segwrite.specs.Marking.{frames_to_mark, keys_to_mark}
use Rattle.lfs_segwrite.proofs.CountingLemmas.{adds_both, adds_none, gathered, keys_few, keys_more}
use Rattle.lfs_segwrite.proofs.counting.frames_to_mark.Goals as goal

pub loop-info-init : goal.loop-info-init
loop-info-init c = subst (AddsKeys [] []) (sym c.empty-keys.ensures) (adds_none [])

pub add_info-requires : goal.add_info-requires
add_info-requires c =
    let few = c.loop-info.invariant.few in
    let most = keys_few (take c.loop-info.info-index c.args.named.now) in
    let low = c.loop-info-test.true in
    let limit = c.requires in
    let some = length-take-le c.loop-info.info-index c.args.named.now (omega arith) in
    omega arith

pub loop-info-preserved : goal.loop-info-preserved
loop-info-preserved c =
    let i = c.loop-info.info-index in
    let infos = c.args.named.now in
    let d : BlockInfo = record { ino = 0; version = 0; lbn = 0; addr = 0 } in
    subst (λ more. AddsKeys more [] c.add_info.new.self) (sym (keys_more infos i d c.loop-info-test.true))
    (adds_both (flat_map keys_to_mark (take i infos))
    (keys_to_mark (get_or infos i d)) [] c.loop-info.keys c.add_info.new.self c.loop-info.invariant
    c.add_info.ensures)

pub returns-clause-frames : goal.returns-clause-frames
returns-clause-frames c =
    ap length c.keys.ensures.keys ∙ gathered
    (flat_map keys_to_mark (take c.loop-info.info-index c.args.named.now)) c.loop-info.keys c.loop-info.invariant
    ∙ ap frames_to_mark (take_all c.loop-info.info-index c.args.named.now (omega arith))
