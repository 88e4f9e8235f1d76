use Rattle.std.proofs.Common.{arith}
use Rattle.lfs_bmap.specs.Blocks.{code_of}
use Rattle.lfs_log.proofs.LiveLemmas.{live-gained, live-nowhere}
use Rattle.lfs_log.proofs.live.gain.Goals as goal

pub returns-then-to-ne0-clause-live : goal.returns-then-to-ne0-clause-live
returns-then-to-ne0-clause-live c =
    live-gained c.args.ifile.now c.add_live.new.self c.args.to
    (code_of c.args.block) c.size_of.result c.if-to-ne0.true c.size_of.ensures c.add_live.ensures.live
    c.add_live.ensures.kept

pub returns-else-to-ne0-clause-live : goal.returns-else-to-ne0-clause-live
returns-else-to-ne0-clause-live c = λ s. let none = live-nowhere c.args.to s (code_of c.args.block) c.if-to-ne0.false in
    omega arith
