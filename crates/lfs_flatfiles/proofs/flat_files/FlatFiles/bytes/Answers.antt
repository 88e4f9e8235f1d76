use Rattle.std.proofs.Common.{◌<◌, ◌≤◌, length, sym, ap, ◌∙◌}
use Rattle.lfs_types.specs.Stored.{bytes_of_file}
use Rattle.lfs_flatfiles.proofs.FlatFilesContent.{get-content_of, file_in_past, file_in_read}
use Rattle.lfs_flatfiles.proofs.flat_files.FlatFiles.bytes.Goals as goal

pub returns-in-None : goal.returns-in-None
returns-in-None c =
    let places = c.args.self.now.places.items in
    let past : length places ≤ c.args.ino = rw (← c.deref.ensures.value) c.in-None.ensures.lookup.3 in
    ap bytes_of_file (sym (get-content_of places c.args.ino ∙ file_in_past places c.args.ino past))

pub returns-in-Some : goal.returns-in-Some
returns-in-Some c =
    let places = c.args.self.now.places.items in
    let within : c.args.ino < length places = rw (← c.deref.ensures.value) c.in-Some.ensures.lookup.3.0 in
    let is = rw c.deref.ensures.value at c.in-Some.ensures.lookup.1 in
    c.bytes.ensures ∙ ap bytes_of_file (sym (get-content_of places c.args.ino
    ∙ file_in_read places c.args.ino _ within is))
