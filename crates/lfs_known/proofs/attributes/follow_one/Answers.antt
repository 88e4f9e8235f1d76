use Rattle.std.proofs.Common.{ap, refl}
use Rattle.lfs_types.specs.Splicing.{resized}
use Rattle.lfs_types.specs.Tree.{attrs_of, file_of}
use Rattle.lfs_types.specs.declared.attrs.Attrs.{Attrs}
use Rattle.lfs_types.proofs.Pieces.{length-resized}
use Rattle.lfs_known.proofs.ShownLemmas.{shown_made, shown_mapped, shown_removed, shown_within}
use Rattle.lfs_known.proofs.attributes.follow_one.Goals as goal

pub returns-in-Make : goal.returns-in-Make
returns-in-Make c t was = rw c.in-Make.is
    (shown_made c.args.cache.now c.enter.new.self c.in-Make.ino t c.enter.ensures.others c.in-Make.attrs
    c.enter.ensures.entered was)

pub returns-in-Remove : goal.returns-in-Remove
returns-in-Remove c t was = rw c.in-Remove.is
    (shown_removed c.args.cache.now c.forget.new.self c.in-Remove.ino t c.forget.ensures.others
    c.forget.ensures.forgotten was)

pub returns-in-SetAttrs : goal.returns-in-SetAttrs
returns-in-SetAttrs c t was =
    let attrs = c.in-SetAttrs.attrs in
    rw c.in-SetAttrs.is
    (shown_mapped c.args.cache.now c.set_attrs.new.cache c.in-SetAttrs.ino t c.set_attrs.ensures.others
    (λ f. file_of attrs f.bytes) (λ (old : Attrs). record attrs { size = old.size }) (λ f. refl)
    c.set_attrs.ensures.set was)

pub returns-in-Put : goal.returns-in-Put
returns-in-Put c t was = rw c.in-Put.is (shown_within c.args.cache.now c.put_bytes.new.cache c.in-Put.ino t
    c.put_bytes.ensures.others c.in-Put.off c.in-Put.bytes.now c.put_bytes.ensures.within was)

pub returns-in-SetLength : goal.returns-in-SetLength
returns-in-SetLength c t was =
    let len = c.in-SetLength.len in
    rw c.in-SetLength.is
    (shown_mapped c.args.cache.now c.set_size.new.cache c.in-SetLength.ino t c.set_size.ensures.others
    (λ f. record f { bytes = resized f.bytes len }) (λ (old : Attrs). record old { size = len })
    (λ f. ap (λ n. record (attrs_of f) { size = n }) (length-resized f.bytes len))
    c.set_size.ensures.set was)
