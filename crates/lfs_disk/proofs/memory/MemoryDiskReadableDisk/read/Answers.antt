use Rattle.std.proofs.Common.{ap, length, arith}
use Rattle.lfs_disk.proofs.CallLemmas.{length-seen}
use Rattle.lfs_disk.proofs.memory.MemoryDiskReadableDisk.read.Goals as goal

pub block_behind-requires : goal.block_behind-requires
block_behind-requires c =
    let disk = c.args.self.now in
    let same = length-seen disk.first.items disk.calls.items in
    record { inside = omega (arith, c.requires.inside, same, ap length c.deref.ensures.value) }
