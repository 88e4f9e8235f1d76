use Rattle.std.proofs.Common.{◌≤◌, arith}
use Rattle.lfs_segments.specs.Memory.{next_address}
use Rattle.lfs_disk.proofs.BlockLemmas.{all_same}
use Rattle.lfs_disk.proofs.writing.write_behind.Goals as goal

pub returns-then-first-end-clause-written : goal.returns-then-first-end-clause-written
returns-then-first-end-clause-written g c =
    let end : next_address c.args.memory.now ≤ c.args.first = omega arith in
    all_same c.args.first (next_address c.args.memory.now) _ _ end c.requires.same
