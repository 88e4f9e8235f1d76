use Rattle.std.proofs.Common.{◌<◌, ◌≤◌, length, sym, ap, ◌∙◌, option_map}
use Rattle.lfs_types.specs.Tree.{attrs_of}
use Rattle.lfs_flatfiles.proofs.FlatFilesContent.{get-content_of, file_in_past, file_in_read}
use Rattle.lfs_flatfiles.proofs.flat_files.FlatFilesFileStore.attrs.Goals as goal

pub returns-in_err-get : goal.returns-in_err-get
returns-in_err-get c =
    let places = c.args.self.now.places.items in
    let past : length places ≤ c.args.ino = rw (← c.deref.ensures.value) c.in_err-get.ensures.lookup.3 in
    c.from_residual.ensures ∙ ap (option_map attrs_of)
    (sym (get-content_of places c.args.ino ∙ file_in_past places c.args.ino past))

pub returns : goal.returns
returns c =
    let places = c.args.self.now.places.items in
    let within : c.args.ino < length places = rw (← c.deref.ensures.value) c.in_ok-get.ensures.lookup.3.0 in
    let is = rw c.deref.ensures.value at c.in_ok-get.ensures.lookup.1 in
    c.attrs.ensures ∙ ap (option_map attrs_of)
    (sym (get-content_of places c.args.ino ∙ file_in_read places c.args.ino _ within is))
