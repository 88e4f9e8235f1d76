use Rattle.std.proofs.Common.{◌≡◌, [], ap, ◌∙◌, arith}
use Rattle.std.specs.Prelude.{replicate}
use Rattle.lfs_script.proofs.SplitLemmas.{empty_more}
use Rattle.lfs_script.proofs.split.empty_lists.Goals as goal

pub loop-preserved : goal.loop-preserved
loop-preserved c =
    empty_more c.loop.lists.items c.push.new.self.items c.new.result c.loop.counter c.in_ok-push.ensures.items
    c.new.ensures.items c.loop.invariant

pub returns : goal.returns
returns c =
    let all : c.loop.counter ≡ c.args.count = omega arith in
    c.loop.invariant ∙ ap (λ n. replicate n []) all
