use Rattle.std.proofs.Common.{sym, ◌∙◌}
use Rattle.lfs_dirs.proofs.Removing.{front_first, front_next}
use Rattle.lfs_dirs.proofs.reading.behind.Goals as goal

pub loop-found-init : goal.loop-found-init
loop-found-init c = record { front = front_first c.args.block.now c.args.name.now }

pub loop-found-preserved : goal.loop-found-preserved
loop-found-preserved c = record {
  front = front_next c.args.block.now c.args.name.now c.loop-found.rest.now c.in-Some.others.now
      (c.in-Some.field-0-0, c.in-Some.found.now) c.loop-found.invariant.front c.in-Some.ensures (sym c.is_same.ensures ∙ c.if-is_same.false);
}
