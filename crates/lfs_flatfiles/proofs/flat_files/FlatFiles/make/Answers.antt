use Rattle.std.proofs.Common.{◌<◌, length, is_some, sym, ap, ◌∙◌, arith}
use Rattle.std.proofs.lemmas.List.{length-set}
use Rattle.lfs_flatfiles.proofs.FlatFilesContent.{file_in-set_other, content_of-set, grows_at, used_still, used_further}
use Rattle.lfs_flatfiles.proofs.flat_files.FlatFiles.make.Goals as goal

pub invariant_of-self-clause-within : goal.invariant_of-self-clause-within
invariant_of-self-clause-within c = omega (arith, c.as_slice.ensures.len, c.first_free-self.ensures.within)

pub invariant_of-self-clause-used : goal.invariant_of-self-clause-used
invariant_of-self-clause-used c =
    let places = c.args.self.now.places in
    let within : c.args.ino < length places.items = omega (arith, places.ok.0) in
    let after = rw c.as_slice.ensures.value at c.first_free-self.ensures.used in
    used_further places.items c.args.ino c.make.new.self _ c.first_free-self.result within c.make.ensures.file
    (λ k low high. c.args.self.now.used k low (omega arith)) after

pub invariant_of-self-clause-free : goal.invariant_of-self-clause-free
invariant_of-self-clause-free c =
    let free = rw c.as_slice.ensures.value at c.first_free-self.ensures.free in
    λ h. free (omega (
      arith,
      c.args.self.now.places.ok.0,
      length-set c.args.self.now.places.items c.args.ino c.make.new.self,
    ))

pub invariant_of-self-else-ino-self-clause-used : goal.invariant_of-self-else-ino-self-clause-used
invariant_of-self-else-ino-self-clause-used c =
    let places = c.args.self.now.places in
    let within : c.args.ino < length places.items = omega (arith, places.ok.0) in
    λ k low high. used_still places.items c.args.ino c.make.new.self _ k within c.make.ensures.file
    (λ apart. c.args.self.now.used k low high)

pub invariant_of-self-else-ino-self-clause-free : goal.invariant_of-self-else-ino-self-clause-free
invariant_of-self-else-ino-self-clause-free c = λ h.
    ap is_some (file_in-set_other c.args.self.now.places.items c.args.ino c.args.self.now.least_free c.make.new.self
    (λ e. c.if-ino-self.false (sym e)))
    ∙ c.args.self.now.free h

pub returns-then-ino-self-clause-content : goal.returns-then-ino-self-clause-content
returns-then-ino-self-clause-content c =
    let places = c.args.self.now.places in
    content_of-set places.items c.args.ino c.make.new.self _ (omega (arith, places.ok.0)) c.make.ensures.file

pub returns-then-ino-self-clause-grows : goal.returns-then-ino-self-clause-grows
returns-then-ino-self-clause-grows c =
    let places = c.args.self.now.places in
    grows_at places.items c.args.ino _ _ (omega (arith, places.ok.0)) c.index_mut.ensures.value c.make.ensures.grows

pub returns-else-ino-self-clause-content : goal.returns-else-ino-self-clause-content
returns-else-ino-self-clause-content c =
    let places = c.args.self.now.places in
    content_of-set places.items c.args.ino c.make.new.self _ (omega (arith, places.ok.0)) c.make.ensures.file

pub returns-else-ino-self-clause-grows : goal.returns-else-ino-self-clause-grows
returns-else-ino-self-clause-grows c =
    let places = c.args.self.now.places in
    grows_at places.items c.args.ino _ _ (omega (arith, places.ok.0)) c.index_mut.ensures.value c.make.ensures.grows
