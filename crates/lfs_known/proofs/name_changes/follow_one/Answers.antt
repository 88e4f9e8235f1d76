use Rattle.std.proofs.Common.{[]}
use Rattle.lfs_types.specs.Splicing.{resized}
use Rattle.lfs_types.specs.Tree.{file_of}
use Rattle.lfs_types.proofs.Maps.{get-insert_other, get-remove_other}
use Rattle.std.specs.FinMap as map
use Rattle.lfs_known.proofs.FollowLemmas.{changed-others}
use Rattle.lfs_known.proofs.SpotLemmas.{placed_attrs, placed_forgotten, placed_put}
use Rattle.lfs_known.proofs.name_changes.follow_one.Goals as goal

pub returns-in-Make : goal.returns-in-Make
returns-in-Make c t was = rw c.in-Make.is
    (placed_forgotten c.args.table.now c.forget.new.table c.in-Make.ino t _ c.forget.ensures.others
    c.forget.ensures.keeps c.forget.ensures.forgotten
    (get-insert_other t c.in-Make.ino (file_of c.in-Make.attrs [])) was)

pub returns-in-Remove : goal.returns-in-Remove
returns-in-Remove c t was = rw c.in-Remove.is
    (placed_forgotten c.args.table.now c.forget-in-Remove.new.table c.in-Remove.ino t _
    c.forget-in-Remove.ensures.others c.forget-in-Remove.ensures.keeps c.forget-in-Remove.ensures.forgotten
    (get-remove_other t c.in-Remove.ino) was)

pub returns-in-SetAttrs : goal.returns-in-SetAttrs
returns-in-SetAttrs c t was = rw c.in-SetAttrs.is
    (placed_attrs c.args.table.now c.in-SetAttrs.ino c.in-SetAttrs.attrs t was)

pub returns-in-Put : goal.returns-in-Put
returns-in-Put c t was = rw c.in-Put.is (placed_put c.args.table.now c.put.new.table c.in-Put.ino t
    c.in-Put.off c.in-Put.bytes.now c.put.ensures.others c.put.ensures.keeps c.put.ensures.known was)

pub returns-in-SetLength : goal.returns-in-SetLength
returns-in-SetLength c t was = rw c.in-SetLength.is
    (placed_forgotten c.args.table.now c.forget-in-SetLength.new.table c.in-SetLength.ino t _
    c.forget-in-SetLength.ensures.others c.forget-in-SetLength.ensures.keeps c.forget-in-SetLength.ensures.forgotten
    (changed-others t c.in-SetLength.ino (map.get t c.in-SetLength.ino)
    (λ f. record f { bytes = resized f.bytes c.in-SetLength.len })) was)
