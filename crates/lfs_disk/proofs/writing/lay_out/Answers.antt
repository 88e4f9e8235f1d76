use Rattle.std.proofs.Common.{◌≡◌, ◌*◌, length, ◌∙◌, arith}
use Rattle.lfs_disk.proofs.BlockLemmas.{all_others}
use Rattle.lfs_disk.proofs.writing.lay_out.Goals as goal

pub returns-clause-written : goal.returns-clause-written
returns-clause-written g c =
    let d = g.D.BlockDisk in
    let memory = c.args.memory.now in
    let laid = c.segments.ensures.laid_out in
    let end = c.segments.result * 64 in
    let count : length memory.blocks ≡ end = omega (arith, laid.whole, c.segments.ensures.segments) in
    let size : length (d.seen c.args.disk.now) ≡ end = omega (arith, c.requires.long, c.segments.ensures.segments) in
    c.in_ok-sync.ensures.seen
    ∙ all_others memory.blocks end (d.seen c.args.disk.now) (d.seen c.write_blocks.new.disk) count size
    c.in_ok-write_blocks.ensures.written
