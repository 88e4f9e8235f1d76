use Rattle.std.proofs.Common.{◌<◌, List, [], ap, get_or, length, refl, sym, take, ◌∙◌}
use Rattle.std.proofs.lemmas.List.{get_or_default, take_more}
use Rattle.lfs_disk.specs.declared.calls.Call.{Call}
use Rattle.lfs_disk.specs.declared.calls.Call.TheVariants.{Synced}
use Rattle.lfs_disk.specs.Calls.{behind_call, seen_after}
use Rattle.lfs_disk.proofs.CallLemmas.{seen-behind}
use Rattle.lfs_disk.proofs.memory.block_behind.Goals as goal

pub loop-call-init : goal.loop-call-init
unfolding seen_after
loop-call-init c = refl

pub loop-call-preserved : goal.loop-call-preserved
loop-call-preserved c =
    let first = c.args.first.now in
    let calls = c.args.calls.now in
    let at = c.loop-call.call-index in
    let address = c.args.address in
    let call = get_or calls at Synced in
    let below : at < length calls = c.loop-call-test.true in
    c.behind_call-seen.ensures
    ∙ ap (λ (one : Call). behind_call one address c.loop-call.seen.now) (get_or_default calls at _ Synced below)
    ∙ ap (behind_call call address) c.loop-call.invariant
    ∙ sym (seen-behind first (take at calls) call address c.requires.inside)
    ∙ ap (λ (list : List Call). get_or (seen_after first list) address []) (sym (take_more calls at Synced below))
