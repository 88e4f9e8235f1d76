use Rattle.std.proofs.Common.{arith}
use Rattle.lfs_view.proofs.WalkLemmas.{passed_named, passed_summary, stands_summary}
use Rattle.lfs_view.proofs.walk.Walk.pass.Goals as goal

pub returns-then-self-2-clause-next : goal.returns-then-self-2-clause-next
returns-then-self-2-clause-next c =
    let w = c.self.inside in
    let held = c.self.invariant in
    passed_named c.args.has_serials w.entries w.next w.count w.is_ended c.args.block.now c.args.self.now c.self.view_is c.if-self.false
    c.if-self-2.true (omega arith)

pub returns-in-Some-clause-stands : goal.returns-in-Some-clause-stands
returns-in-Some-clause-stands c =
    let w = c.self.inside in
    let s = c.in-Some.summary in
    let most = s.at_most in
    let whole = s.whole in
    stands_summary c.args.has_serials w.entries w.next w.count w.is_ended c.args.block.now c.args.self.now s c.self.view_is c.if-self.false
    c.if-self-2.false c.in-Some.ensures (omega arith)

pub returns-in-Some-clause-next : goal.returns-in-Some-clause-next
returns-in-Some-clause-next c =
    let w = c.self.inside in
    passed_summary c.args.has_serials w.entries w.next w.count w.is_ended c.args.block.now c.args.self.now c.in-Some.summary c.self.view_is
    c.if-self.false c.if-self-2.false
    c.in-Some.ensures
