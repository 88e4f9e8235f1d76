use Rattle.std.proofs.Common.{◌≡◌, ◌<◌, length, is_some, IsSome, sym, ap, ◌∙◌, arith}
use Rattle.lfs_types.specs.Stored.{bytes_of}
use Rattle.lfs_flatfiles.specs.FlatFiles.{content_of, file_at}
use Rattle.lfs_flatfiles.proofs.FlatFilesContent.{get-content_of, file_in_read, bytes_of_place}
use Rattle.lfs_flatfiles.proofs.FlatFilesReach.{content_below}
use Rattle.lfs_flatfiles.proofs.flat_files.FlatFilesFileStore.read.Goals as goal

pub index-requires : goal.index-requires
index-requires c = omega (
  arith,
  content_below c.args.self.now.places.items c.args.ino c.requires,
  c.args.self.now.places.ok.0,
)

pub returns-clause-reads : goal.returns-clause-reads
returns-clause-reads c =
    let places = c.args.self.now.places.items in
    let within : c.args.ino < length places = content_below places c.args.ino c.requires in
    let there = get-content_of places c.args.ino
    ∙ file_in_read places c.args.ino c.index.result.now within c.index.ensures in
    let used : IsSome (file_at c.index.result.now) = ap is_some (sym there) ∙ c.requires in
    let same : bytes_of (content_of places) c.args.ino
    ≡ c.index.result.now.bytes.items = rw there (bytes_of_place c.index.result.now used) in
    rw same c.read.ensures
