use Rattle.std.proofs.Common.{arith}
use Rattle.lfs_parts.specs.Keys.{log_state}
use Rattle.lfs_segwrite.proofs.PutLemmas.{appends}
use Rattle.lfs_segwrite.proofs.landing.append_block.Goals as goal

pub put-requires : goal.put-requires
put-requires c = let fit = c.requires.expected.expects.fit in omega arith

pub returns-clause-put : goal.returns-clause-put
returns-clause-put c =
    let p = c.args.parts.now in let e = c.requires.expected in let put = c.put.ensures in
    appends p c.put.new.self c.put.result c.args.bytes.now c.requires.parts c.requires.log e put.address put.block
    put.tables put.extends (put.rising e.entry e.rest e.expects) put.next (put.expects e.entry e.rest e.expects)
    (put.step (log_state p).at)
