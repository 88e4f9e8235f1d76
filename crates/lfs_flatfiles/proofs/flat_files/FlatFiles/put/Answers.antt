use Rattle.std.proofs.Common.{◌<◌, length, ◌∙◌, arith}
use Rattle.lfs_flatfiles.proofs.FlatFilesContent.{room_in_read, same_use, content_of-changed, grows_at}
use Rattle.lfs_flatfiles.proofs.flat_files.FlatFiles.put.Goals as goal

pub put-requires-clause-room : goal.put-requires-clause-room
put-requires-clause-room c =
    let places = c.args.self.now.places in
    let within : c.args.ino < length places.items = omega (arith, places.ok.0) in
    rw (← room_in_read places.items c.args.ino _ within c.index_mut.ensures.value) c.requires.room

pub invariant_of-self-clause-used : goal.invariant_of-self-clause-used
invariant_of-self-clause-used c =
    let places = c.args.self.now.places in
    let within : c.args.ino < length places.items = omega (arith, places.ok.0) in
    λ ino low high. same_use _ places.items c.args.ino _ _ within c.index_mut.ensures.value c.put.ensures.file ino
    ∙ c.args.self.now.used ino low high

pub invariant_of-self-clause-free : goal.invariant_of-self-clause-free
invariant_of-self-clause-free c =
    let places = c.args.self.now.places in
    let within : c.args.ino < length places.items = omega (arith, places.ok.0) in
    λ h. same_use _ places.items c.args.ino _ _ within c.index_mut.ensures.value c.put.ensures.file
    c.args.self.now.least_free ∙ c.args.self.now.free h

pub returns-clause-content : goal.returns-clause-content
returns-clause-content c =
    let places = c.args.self.now.places in
    let within : c.args.ino < length places.items = omega (arith, places.ok.0) in
    content_of-changed _ places.items c.args.ino _ _ within c.index_mut.ensures.value c.requires.used c.put.ensures.file

pub returns-clause-grows : goal.returns-clause-grows
returns-clause-grows c =
    let places = c.args.self.now.places in
    let within : c.args.ino < length places.items = omega (arith, places.ok.0) in
    grows_at places.items c.args.ino _ _ within c.index_mut.ensures.value c.put.ensures.grows
