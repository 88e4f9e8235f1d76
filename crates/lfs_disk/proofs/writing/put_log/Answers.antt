use Rattle.std.proofs.Common.{◌<◌, length, arith}
use Rattle.lfs_disk.proofs.BlockLemmas.{all_taken}
use Rattle.lfs_disk.proofs.WayLemmas.{log_way, rest_way}
use Rattle.lfs_disk.proofs.writing.put_log.Goals as goal

pub returns-in_err-put_blocks-clause-crash : goal.returns-in_err-put_blocks-clause-crash
returns-in_err-put_blocks-clause-crash g c =
    let d = g.D.BlockDisk in
    let disk = c.args.disk.now in
    let inside : c.args.first < length (d.seen disk) =
    omega (arith, c.requires.some, c.requires.inside, c.requires.long) in
    rest_way d.time d.left_since disk c.put_blocks.new.disk c.put_blocks.new.disk (d.seen disk) c.args.memory.now.blocks
    c.args.first c.args.end inside c.requires.zeros c.put_blocks.ensures.crash

pub returns-in_err-put_block-clause-crash : goal.returns-in_err-put_block-clause-crash
returns-in_err-put_block-clause-crash g c =
    let d = g.D.BlockDisk in
    let disk = c.args.disk.now in
    let inside : c.args.first < length (d.seen disk) =
    omega (arith, c.requires.some, c.requires.inside, c.requires.long) in
    log_way d.time d.left_since disk c.put_blocks.new.disk c.put_block.new.disk (d.seen disk) c.args.memory.now.blocks
    c.args.first c.args.end inside (d.seen c.put_blocks.new.disk) c.block.result.now c.requires.zeros c.requires.same
    c.in_ok-put_blocks.ensures.written c.block.ensures.block c.put_blocks.ensures.crash c.put_block.ensures.crash

pub returns-clause-written : goal.returns-clause-written
returns-clause-written g c =
    let d = g.D.BlockDisk in
    let old = d.seen c.args.disk.now in
    let inside : c.args.first < length old = omega (arith, c.requires.some, c.requires.inside, c.requires.long) in
    all_taken c.args.memory.now.blocks c.args.first c.args.end old (d.seen c.put_blocks.new.disk)
    (d.seen c.put_block.new.disk) c.block.result.now inside c.requires.same c.in_ok-put_blocks.ensures.written
    c.block.ensures.block c.in_ok-put_block.ensures.written

pub returns-clause-crash : goal.returns-clause-crash
returns-clause-crash g c =
    let d = g.D.BlockDisk in
    let disk = c.args.disk.now in
    let inside : c.args.first < length (d.seen disk) =
    omega (arith, c.requires.some, c.requires.inside, c.requires.long) in
    log_way d.time d.left_since disk c.put_blocks.new.disk c.put_block.new.disk (d.seen disk) c.args.memory.now.blocks
    c.args.first c.args.end inside (d.seen c.put_blocks.new.disk) c.block.result.now c.requires.zeros c.requires.same
    c.in_ok-put_blocks.ensures.written c.block.ensures.block c.put_blocks.ensures.crash c.put_block.ensures.crash
