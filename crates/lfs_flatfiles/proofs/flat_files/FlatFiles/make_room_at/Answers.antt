use Rattle.std.proofs.Common.{◌<◌, length, is_some, ap, ◌∙◌, arith}
use Rattle.lfs_flatfiles.proofs.FlatFilesContent.{same_content, same_files, grows_at, room_in-set_same}
use Rattle.lfs_flatfiles.proofs.flat_files.FlatFiles.make_room_at.Goals as goal

pub invariant_of-self-clause-used : goal.invariant_of-self-clause-used
invariant_of-self-clause-used c =
    let places = c.args.self.now.places in
    let within : c.args.ino < length places.items = omega (arith, places.ok.0) in
    λ ino low high. ap is_some (same_files places.items c.args.ino _ _ within c.index_mut.ensures.value
    c.make_room.ensures.same ino) ∙ c.args.self.now.used ino low high

pub invariant_of-self-clause-free : goal.invariant_of-self-clause-free
invariant_of-self-clause-free c =
    let places = c.args.self.now.places in
    let within : c.args.ino < length places.items = omega (arith, places.ok.0) in
    λ h. ap is_some (same_files places.items c.args.ino _ _ within c.index_mut.ensures.value c.make_room.ensures.same
    c.args.self.now.least_free) ∙ c.args.self.now.free h

pub returns-clause-content : goal.returns-clause-content
returns-clause-content c =
    let places = c.args.self.now.places in
    let within : c.args.ino < length places.items = omega (arith, places.ok.0) in
    same_content places.items _ (same_files places.items c.args.ino _ _ within c.index_mut.ensures.value
    c.make_room.ensures.same)

pub returns-clause-grows : goal.returns-clause-grows
returns-clause-grows c =
    let places = c.args.self.now.places in
    let within : c.args.ino < length places.items = omega (arith, places.ok.0) in
    grows_at places.items c.args.ino _ _ within c.index_mut.ensures.value c.make_room.ensures.grows

pub returns-clause-room : goal.returns-clause-room
returns-clause-room c =
    let places = c.args.self.now.places in
    let within : c.args.ino < length places.items = omega (arith, places.ok.0) in
    rw (room_in-set_same places.items c.args.ino c.make_room.new.self within) c.make_room.ensures.room
