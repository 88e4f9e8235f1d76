use Rattle.std.proofs.Common.{◌<◌, length, is_some, sym, ap, ◌∙◌, arith}
use Rattle.lfs_flatfiles.proofs.FlatFilesContent.{file_in_read, same_use, content_of-changed, grows_at}
use Rattle.lfs_flatfiles.proofs.flat_files.FlatFiles.set_attrs.Goals as goal

pub set_attrs-requires : goal.set_attrs-requires
set_attrs-requires c =
    let places = c.args.self.now.places in
    let within : c.args.ino < length places.items = omega (arith, places.ok.0) in
    ap is_some (sym (file_in_read places.items c.args.ino _ within c.index_mut.ensures.value)) ∙ c.requires.used

pub invariant_of-self-clause-used : goal.invariant_of-self-clause-used
invariant_of-self-clause-used c =
    let places = c.args.self.now.places in
    let within : c.args.ino < length places.items = omega (arith, places.ok.0) in
    λ ino low high. same_use _ places.items c.args.ino _ _ within c.index_mut.ensures.value c.set_attrs.ensures.file ino
    ∙ c.args.self.now.used ino low high

pub invariant_of-self-clause-free : goal.invariant_of-self-clause-free
invariant_of-self-clause-free c =
    let places = c.args.self.now.places in
    let within : c.args.ino < length places.items = omega (arith, places.ok.0) in
    λ h. same_use _ places.items c.args.ino _ _ within c.index_mut.ensures.value c.set_attrs.ensures.file
    c.args.self.now.least_free ∙ c.args.self.now.free h

pub returns-clause-content : goal.returns-clause-content
returns-clause-content c =
    let places = c.args.self.now.places in
    let within : c.args.ino < length places.items = omega (arith, places.ok.0) in
    content_of-changed _ places.items c.args.ino _ _ within c.index_mut.ensures.value c.requires.used
    c.set_attrs.ensures.file

pub returns-clause-grows : goal.returns-clause-grows
returns-clause-grows c =
    let places = c.args.self.now.places in
    let within : c.args.ino < length places.items = omega (arith, places.ok.0) in
    grows_at places.items c.args.ino _ _ within c.index_mut.ensures.value c.set_attrs.ensures.grows
