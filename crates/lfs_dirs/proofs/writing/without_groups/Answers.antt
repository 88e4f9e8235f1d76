use Rattle.std.proofs.Common.{sym, ◌∙◌, arith}
use Rattle.lfs_dirs.proofs.Ending.{front_shorter, group_off}
use Rattle.lfs_dirs.proofs.writing.without_groups.Goals as goal

pub loop-rest-preserved : goal.loop-rest-preserved
loop-rest-preserved c =
    let front = c.loop-rest.front.now in
    let rest = c.in-Some.rest.now in
    let cut = c.in-Some.ensures.cases in
    let none = sym c.from_be_bytes.ensures ∙ c.if-from_be_bytes-ne0.false in record {
      front = front_shorter c.args.bytes.now front rest 8 c.loop-rest.invariant.front
          (group_off front rest c.in-Some.group.now (omega (arith, cut.2)) cut.0 cut.1 none);
    }
