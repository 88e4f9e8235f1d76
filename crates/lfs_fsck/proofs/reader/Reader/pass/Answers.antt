use Rattle.std.proofs.Common.{arith}
use Rattle.lfs_fsck.proofs.ReaderLemmas.{first_none, nothing, passed_named, passed_summary}
use Rattle.lfs_fsck.proofs.reader.Reader.pass.Goals as goal

pub returns-then-self-2-clause-next : goal.returns-then-self-2-clause-next
returns-then-self-2-clause-next c =
    let r = c.self.inside in
    let held = c.self.invariant in
    passed_named c.args.has_serials r.entries r.next r.count r.is_ended c.args.block.now c.args.self.now c.self.view_is c.if-self.false
    c.if-self-2.true (omega arith)

pub returns-in-Some-clause-named : goal.returns-in-Some-clause-named
returns-in-Some-clause-named c =
    let r = c.self.inside in
    first_none c.args.self.now (nothing r.entries r.next r.count r.is_ended c.args.self.now c.self.view_is
    c.if-self.false c.if-self-2.false)

pub returns-in-Some-clause-next : goal.returns-in-Some-clause-next
returns-in-Some-clause-next c =
    let r = c.self.inside in
    passed_summary c.args.has_serials r.entries r.next r.count r.is_ended c.args.block.now c.args.self.now c.in-Some.summary c.self.view_is
    c.if-self.false c.if-self-2.false
    c.in-Some.ensures
