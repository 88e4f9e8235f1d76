use Rattle.std.proofs.Common.{List, ℕ, ap, arith, length, length-append, subst}
use Rattle.lfs_script.specs.Taking.{IsTaken}
use Rattle.lfs_script.proofs.lines.LineParser.take_lines.Goals as goal

pub loop-alloc-preserved : goal.loop-alloc-preserved
loop-alloc-preserved c =
    let self = c.loop-alloc.self in
    let cut = c.in-Some.ensures in
    record {
      taken = λ whole taken. c.take_line.ensures.taken whole c.in-Some.behind.now cut.first
          (subst (λ (l : List ℕ). IsTaken whole l self) cut.whole (c.loop-alloc.invariant.taken whole taken));
      counted = omega (
        arith,
        c.take_line.ensures.counted,
        c.loop-alloc.invariant.counted,
        simp length-append at (ap length cut.whole),
      );
    }
