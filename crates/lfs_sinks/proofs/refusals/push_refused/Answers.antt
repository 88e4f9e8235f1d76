use Rattle.std.proofs.lemmas.Result.{on_ok_weaker}
use Rattle.lfs_sinks.proofs.RefusalLemmas.{refused_none, refused_some}
use Rattle.lfs_sinks.proofs.refusals.push_refused.Goals as goal

pub returns-then-number-eq0 : goal.returns-then-number-eq0
returns-then-number-eq0 c =
    refused_none c.args.out.now.items c.args.word.now c.args.number c.if-number-eq0.true

pub returns : goal.returns
returns c =
    on_ok_weaker c.push_count.result
    (refused_some c.args.out.now.items c.extend_from_slice.new.self.items c.push_count.new.out.items c.args.word.now
    c.args.number c.if-number-eq0.false c.in_ok-extend_from_slice.ensures.items)
    c.push_count.ensures
