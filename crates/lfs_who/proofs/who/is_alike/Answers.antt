use Rattle.std.proofs.Common.{ap, sym, ◌∙◌, ◌<◌, ◌≤◌, length, get_or, arith}
use Rattle.lfs_who.specs.Lines.{Told}
use Rattle.std.proofs.lemmas.List.{take_more_same}
use Rattle.lfs_who.proofs.ActLemmas.{take_whole}
use Rattle.lfs_who.proofs.who.is_alike.Goals as goal

pub loop-at-preserved : goal.loop-at-preserved
loop-at-preserved c =
    let sizes = c.if-lines-others.false in
    let long = c.loop-at-test.true in
    let far : c.loop-at.at < length c.args.others.now = omega (arith, sizes, long) in
    let same = c.is_same.ensures c.if-not-is_same.false in
    take_more_same c.args.lines.now c.args.others.now c.loop-at.at c.index-lines-at.result long far c.loop-at.invariant
    (sym c.index-lines-at.is ∙ same ∙ c.index-others-at.is
    ∙ ap (λ (r : Told). get_or c.args.others.now c.loop-at.at r) (sym same))

pub returns : goal.returns
returns c alike =
    let sizes = c.if-lines-others.false in
    let over = c.loop-at-test.false in
    let behind : length c.args.others.now ≤ c.loop-at.at = omega (arith, sizes, over) in
    sym (take_whole c.args.lines.now c.loop-at.at over) ∙ c.loop-at.invariant
    ∙ take_whole c.args.others.now c.loop-at.at behind
