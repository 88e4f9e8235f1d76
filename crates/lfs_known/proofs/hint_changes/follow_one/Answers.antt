use Rattle.std.proofs.Common.{[]}
use Rattle.lfs_types.specs.Splicing.{resized}
use Rattle.lfs_types.specs.Tree.{file_of}
use Rattle.lfs_known.proofs.FullLemmas.{full_attrs, full_changed, full_lower, full_made, full_removed}
use Rattle.lfs_known.proofs.hint_changes.follow_one.Goals as goal

pub returns-in-Make : goal.returns-in-Make
returns-in-Make c t was = rw c.in-Make.is
    (full_made c.args.hints.now c.forget.new.self c.in-Make.ino t c.forget.ensures.others c.forget.ensures.forgotten
    (file_of c.in-Make.attrs []) was)

pub returns-in-Remove : goal.returns-in-Remove
returns-in-Remove c t was = rw c.in-Remove.is
    (full_removed c.args.hints.now c.forget-in-Remove.new.self c.in-Remove.ino t c.forget-in-Remove.ensures.others
    c.forget-in-Remove.ensures.forgotten was)

pub returns-in-SetAttrs : goal.returns-in-SetAttrs
returns-in-SetAttrs c t was = rw c.in-SetAttrs.is
    (full_attrs c.args.hints.now c.in-SetAttrs.ino c.in-SetAttrs.attrs t was)

pub returns-in-Put : goal.returns-in-Put
returns-in-Put c t was = rw c.in-Put.is (full_lower c.args.hints.now c.lower.new.hints c.in-Put.ino t
    c.lower.ensures.others c.in-Put.off c.in-Put.bytes.now c.lower.ensures.lowered was)

pub returns-in-SetLength : goal.returns-in-SetLength
returns-in-SetLength c t was =
    rw c.in-SetLength.is (full_changed c.args.hints.now c.forget-in-SetLength.new.self c.in-SetLength.ino t
    c.forget-in-SetLength.ensures.others c.forget-in-SetLength.ensures.forgotten
    (λ f. record f { bytes = resized f.bytes c.in-SetLength.len }) was)
