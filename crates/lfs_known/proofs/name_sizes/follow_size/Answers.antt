use Rattle.std.proofs.Common.{[], length}
use Rattle.std.specs.FinMap as map
use Rattle.lfs_types.specs.Splicing.{resized}
use Rattle.lfs_types.specs.Tree.{file_of}
use Rattle.lfs_types.proofs.Maps.{get-insert_other, get-remove_other}
use Rattle.lfs_known.proofs.EntryLemmas.{fewer_forgotten, fewer_put, sized_attrs, sized_forgotten, sized_put}
use Rattle.lfs_known.proofs.FollowLemmas.{changed-others}
use Rattle.lfs_known.proofs.name_sizes.follow_size.Goals as goal

pub returns-in-Make-clause-sized : goal.returns-in-Make-clause-sized
returns-in-Make-clause-sized c t was = rw c.in-Make.is
    (sized_forgotten c.args.whole.now c.forget.new.self c.in-Make.ino t _ c.forget.ensures.others
    c.forget.ensures.forgotten (get-insert_other t c.in-Make.ino (file_of c.in-Make.attrs [])) was)

pub returns-in-Make-clause-fewer : goal.returns-in-Make-clause-fewer
returns-in-Make-clause-fewer c =
    fewer_forgotten c.args.whole.now c.forget.new.self c.in-Make.ino c.forget.ensures.others c.forget.ensures.forgotten

pub returns-in-Remove-clause-sized : goal.returns-in-Remove-clause-sized
returns-in-Remove-clause-sized c t was = rw c.in-Remove.is
    (sized_forgotten c.args.whole.now c.forget-in-Remove.new.self c.in-Remove.ino t _ c.forget-in-Remove.ensures.others
    c.forget-in-Remove.ensures.forgotten (get-remove_other t c.in-Remove.ino) was)

pub returns-in-Remove-clause-fewer : goal.returns-in-Remove-clause-fewer
returns-in-Remove-clause-fewer c =
    fewer_forgotten c.args.whole.now c.forget-in-Remove.new.self c.in-Remove.ino c.forget-in-Remove.ensures.others
    c.forget-in-Remove.ensures.forgotten

pub returns-in-SetAttrs-clause-sized : goal.returns-in-SetAttrs-clause-sized
returns-in-SetAttrs-clause-sized c t was = rw c.in-SetAttrs.is
    (sized_attrs c.args.whole.now c.in-SetAttrs.ino c.in-SetAttrs.attrs t was)

pub returns-in-Put-clause-sized : goal.returns-in-Put-clause-sized
returns-in-Put-clause-sized c t was = rw c.in-Put.is (sized_put c.args.whole.now c.put_size.new.whole c.in-Put.ino t
    c.in-Put.off c.in-Put.bytes.now c.put_size.ensures.others c.put_size.ensures.known was)

pub returns-in-Put-clause-fewer : goal.returns-in-Put-clause-fewer
returns-in-Put-clause-fewer c = fewer_put c.args.whole.now c.put_size.new.whole c.in-Put.ino c.in-Put.off
    (length c.in-Put.bytes.now) c.put_size.ensures.others c.put_size.ensures.known

pub returns-in-SetLength-clause-sized : goal.returns-in-SetLength-clause-sized
returns-in-SetLength-clause-sized c t was = rw c.in-SetLength.is
    (sized_forgotten c.args.whole.now c.forget-in-SetLength.new.self c.in-SetLength.ino t _
    c.forget-in-SetLength.ensures.others c.forget-in-SetLength.ensures.forgotten
    (changed-others t c.in-SetLength.ino (map.get t c.in-SetLength.ino)
    (λ f. record f { bytes = resized f.bytes c.in-SetLength.len })) was)

pub returns-in-SetLength-clause-fewer : goal.returns-in-SetLength-clause-fewer
returns-in-SetLength-clause-fewer c =
    fewer_forgotten c.args.whole.now c.forget-in-SetLength.new.self c.in-SetLength.ino
    c.forget-in-SetLength.ensures.others c.forget-in-SetLength.ensures.forgotten
