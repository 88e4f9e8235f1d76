use Rattle.std.proofs.Common.{ap, arith, refl, ◌++◌, ◌∙◌}
use Rattle.std.specs.Option.{option_to_list}
use Rattle.lfs_volume.specs.Cleanings.{cleaner_of}
use Rattle.lfs_browse.proofs.WalkLemmas.{ended_early, ended_full, none_left, walking_more, walking_none}
use Rattle.lfs_browse.proofs.walk.Walk.go.Goals as goal

pub loop-init : goal.loop-init
loop-init g c =
    walking_none (cleaner_of g.F.FileStore.state g.F.FileStore.is_flushed g.F.FileStore.made g.F.CleanedStore.cleaner)
    c.args.volume.now c.args.asker.now c.args.self.now

pub loop-preserved : goal.loop-preserved
loop-preserved g c =
    walking_more (cleaner_of g.F.FileStore.state g.F.FileStore.is_flushed g.F.FileStore.made g.F.CleanedStore.cleaner)
    c.args.volume.now c.loop.volume c.visit-made.new.volume c.args.asker.now c.args.self.now c.loop.self
    (record c.loop.self { pending = c.pop.new.self }) c.visit-made.new.self c.loop.counter c.in-Some.visit
    c.loop.invariant
    (c.pop.ensures.items ∙ ap (λ o. c.pop.new.self.items ++ option_to_list o) c.in-Some.is) refl refl
    c.in_ok-made.ensures

pub returns-in_default : goal.returns-in_default
returns-in_default g c =
    ended_early (cleaner_of g.F.FileStore.state g.F.FileStore.is_flushed g.F.FileStore.made g.F.CleanedStore.cleaner)
    c.args.volume.now c.loop.volume c.args.asker.now c.args.self.now c.loop.self
    (record c.loop.self { pending = c.pop.new.self }) c.loop.counter c.loop.invariant (omega arith)
    (c.pop.ensures.items ∙ ap (λ o. c.pop.new.self.items ++ option_to_list o) c.in_default.is)
    (none_left c.loop.self.pending.items c.pop.new.self.items c.pop.result c.in_default.is c.pop.ensures.items
    (λ some. c.pop.ensures.variant.1 (omega (arith, some, c.loop.self.pending.ok.0)))) refl refl

pub returns : goal.returns
returns g c =
    ended_full (cleaner_of g.F.FileStore.state g.F.FileStore.is_flushed g.F.FileStore.made g.F.CleanedStore.cleaner)
    c.args.volume.now c.loop.volume c.args.asker.now c.args.self.now c.loop.self c.loop.counter c.loop.invariant
    (omega (arith, c.loop-test.false, c.loop.auto.counter-end))
