use Rattle.std.proofs.Common.{vec_len}
use Rattle.lfs_flatfiles.specs.FlatFiles.{content_of}
use Rattle.lfs_flatfiles.proofs.FlatFilesReach.{IsBelow, content_below, all_in_reach}
use Rattle.lfs_flatfiles.proofs.flat_files.FlatFilesFileStore.apply.Goals as goal

pub make_room-requires : goal.make_room-requires
make_room-requires c =
    let places = c.args.self.now.places in
    let below : IsBelow (vec_len places) (content_of places.items) = rw places.ok.0 (content_below places.items) in
    all_in_reach (vec_len places) c.args.changes.now (content_of places.items) below c.requires.each
