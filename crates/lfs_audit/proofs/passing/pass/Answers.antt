use Rattle.std.proofs.Common.{None, Some, refl, subst}
use Rattle.lfs_cleaner.specs.Passing.{Steps}
use Rattle.lfs_volume.specs.Cleanings.{cleaner_of}
use Rattle.lfs_audit.proofs.RunLemmas.{pass_begins, pass_ends, pass_goes_on}
use Rattle.lfs_audit.proofs.passing.pass.Goals as goal

pub loop-call-init : goal.loop-call-init
loop-call-init g c =
    let s = g.F.CleanedStore in
    let r = cleaner_of g.F.FileStore.state g.F.FileStore.is_flushed g.F.FileStore.made s.cleaner in
    pass_begins r c.args.volume.now c.args.refusals.now c.args.asker.session c.args.asker.cred c.new-pass.result _ _ c.new-pass.ensures.ready refl
    c.new-pass.ensures.left

pub loop-call-preserved : goal.loop-call-preserved
loop-call-preserved g c =
    let s = g.F.CleanedStore in
    let r = cleaner_of g.F.FileStore.state g.F.FileStore.is_flushed g.F.FileStore.made s.cleaner in
    pass_goes_on r c.args.volume.now c.loop-call.volume c.clean.new.volume c.args.refusals.now c.loop-call.refusals
    c.clean.new.refusals c.args.asker.session c.args.asker.cred
    c.loop-call.pass c.loop-call.last c.in-Some.call c.in_ok-clean.field-0 c.next.new.self
    c.args.text.now.items c.loop-call.text.items c.clean.new.text.items c.loop-call.invariant
    (subst (λ l. Steps c.loop-call.pass l (Some c.in-Some.call) c.next.new.self)
    (c.as_ref.ensures.value) c.in-Some.ensures.steps) c.in-Some.ensures.fewer c.in_ok-clean.ensures

pub returns : goal.returns
returns g c =
    let s = g.F.CleanedStore in
    let r = cleaner_of g.F.FileStore.state g.F.FileStore.is_flushed g.F.FileStore.made s.cleaner in
    pass_ends r c.args.volume.now c.loop-call.volume c.args.refusals.now c.loop-call.refusals c.args.asker.session
    c.args.asker.cred c.loop-call.pass c.loop-call.last c.next.new.self c.args.text.now.items c.loop-call.text.items
    c.loop-call.invariant
    (subst (λ l. Steps c.loop-call.pass l None c.next.new.self) (c.as_ref.ensures.value) c.in_default.ensures.steps)
