use Rattle.std.proofs.Common.{sym}
use Rattle.lfs_types.proofs.Cuts.{front_clean, front_more}
use Rattle.lfs_types.proofs.name.ShortBytes.front_of.Goals as goal

pub loop-count-preserved : goal.loop-count-preserved
loop-count-preserved c =
    front_more c.args.text.now c.loop-count.bytes c.loop-count.count c.loop-count.invariant c.loop-count-test.true
    c.if-count-lt-SHORT_BYTES.true (sym c.if-not-stops.ensures)

pub returns-clause-clean : goal.returns-clause-clean
returns-clause-clean c = front_clean c.args.text.now c.loop-count.bytes c.loop-count.count c.loop-count.invariant
