use Rattle.lfs_trees.proofs.Stepping.{passes_directory, passes_file, reads_next}
use Rattle.lfs_trees.proofs.reading.read_number.Goals as goal

pub returns-in_default-clause-steps : goal.returns-in_default-clause-steps
returns-in_default-clause-steps g c =
    let done = c.finish.ensures in
    passes_file (g.F.FileStore.state c.args.store.now).content c.args.walk.now c.args.number c.requires.stands
    c.requires.next c.finish.new.self c.in_default.ensures done.done done.order done.numbers

pub read_directory-requires-clause-reading : goal.read_directory-requires-clause-reading
read_directory-requires-clause-reading g c =
    reads_next (g.F.FileStore.state c.args.store.now).content c.args.walk.now c.args.number c.requires.stands
    c.requires.next c.requires.bounded c.requires.files c.in-Some.ensures.directory

pub returns-clause-steps : goal.returns-clause-steps
returns-clause-steps g c =
    let read = c.in_ok-read_directory.ensures in
    let done = c.finish-2.ensures in
    passes_directory (g.F.FileStore.state c.args.store.now).content c.args.walk.now c.read_directory.new.walk
    c.finish-2.new.self
    c.args.number read.read read.blocks done.done done.order done.numbers
