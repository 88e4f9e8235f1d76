use Rattle.std.specs.Vec.Iter.{into_iter_items}
use Rattle.lfs_script.proofs.ChunkLemmas.{taken}
use Rattle.lfs_script.proofs.chunks.next_chunk.Goals as goal

pub returns-in-Some-clause-ahead : goal.returns-in-Some-clause-ahead
returns-in-Some-clause-ahead g c =
    taken (into_iter_items c.args.chunks.now) c.in-Some.chunk (into_iter_items c.next.new.self)
    (into_iter_items c.into_iter.result) c.in-Some.ensures.items c.into_iter.ensures.rest
