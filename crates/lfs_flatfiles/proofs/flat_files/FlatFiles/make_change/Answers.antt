use Rattle.std.proofs.Common.{is_some, sym, ap, ◌∙◌, arith}
use Rattle.lfs_types.proofs.Contents.{length_of_file}
use Rattle.lfs_flatfiles.proofs.FlatFilesContent.{get-content_of}
use Rattle.lfs_flatfiles.proofs.FlatFilesReach.{content_below, end_of_file, used_within, file_used}
use Rattle.lfs_flatfiles.proofs.flat_files.FlatFiles.make_change.Goals as goal

pub make-requires-clause-free : goal.make-requires-clause-free
make-requires-clause-free c =
    let can = rw c.in-Make.is at c.requires.can in
    sym (get-content_of c.args.self.now.places.items c.in-Make.ino) ∙ can.2

pub set_attrs-requires : goal.set_attrs-requires
set_attrs-requires c =
    let places = c.args.self.now.places in
    let can = rw c.in-SetAttrs.is at c.requires.can in
    record {
      within = omega (arith, places.ok.0, used_within places.items c.in-SetAttrs.ino _ can);
      used = file_used places.items c.in-SetAttrs.ino _ can;
    }

pub put-requires : goal.put-requires
put-requires c =
    let places = c.args.self.now.places in
    let can = rw c.in-Put.is at c.requires.can in
    record {
      within = omega (arith, places.ok.0, used_within places.items c.in-Put.ino _ can);
      used = file_used places.items c.in-Put.ino _ can;
      reach = end_of_file _ c.in-Put.off c.in-Put.bytes.now can;
      room = let room = rw c.in-Put.is at c.requires.room in room;
    }

pub remove-requires : goal.remove-requires
remove-requires c =
    let places = c.args.self.now.places in
    let can = rw c.in-Remove.is at c.requires.can in
    record {
      within = omega (arith, places.ok.0, content_below places.items c.in-Remove.ino can);
      used = ap is_some (sym (get-content_of places.items c.in-Remove.ino)) ∙ can;
    }

pub set_length-requires : goal.set_length-requires
set_length-requires c =
    let places = c.args.self.now.places in
    let can = rw c.in-SetLength.is at c.requires.can in
    record {
      within = omega (arith, places.ok.0, used_within places.items c.in-SetLength.ino _ can);
      used = file_used places.items c.in-SetLength.ino _ can;
      reach = length_of_file _ c.in-SetLength.len can;
      room = let room = rw c.in-SetLength.is at c.requires.room in room;
    }
