use Rattle.std.proofs.Common.{◌≤◌, ◌/◌, arith, subst, sym}
use Rattle.lfs_bmap.specs.Blocks.{code_of}
use Rattle.lfs_log.specs.Parts.{live_of}
use Rattle.lfs_log.proofs.LiveLemmas.{live-lost, live-nowhere}
use Rattle.lfs_log.proofs.live.lose.Goals as goal

pub returns-then-from-ne0-clause-live : goal.returns-then-from-ne0-clause-live
returns-then-from-ne0-clause-live c =
    let had : c.size_of.result ≤ live_of c.args.ifile.now (c.args.from / 64) =
    subst (λ n. n ≤ live_of c.args.ifile.now (c.args.from / 64)) (sym c.size_of.ensures)
    (c.requires.had c.if-from-ne0.true) in
    live-lost c.args.ifile.now c.drop_live.new.self c.args.from
    (code_of c.args.block) c.size_of.result c.if-from-ne0.true c.size_of.ensures had c.drop_live.ensures.live
    c.drop_live.ensures.kept

pub returns-else-from-ne0-clause-live : goal.returns-else-from-ne0-clause-live
returns-else-from-ne0-clause-live c = λ s. let none =
    live-nowhere c.args.from s (code_of c.args.block) c.if-from-ne0.false in omega arith
