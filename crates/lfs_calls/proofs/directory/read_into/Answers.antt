use Rattle.std.proofs.Common.{◌≡◌, length, take, drop, ◌++◌, ap, ◌∙◌, arith, length-take, length-drop, append-nil}
use Rattle.std.proofs.lemmas.List.{drop_all}
use Rattle.lfs_types.specs.Stored.{bytes_of, slice_of}
use Rattle.lfs_calls.proofs.directory.read_into.Goals as goal

pub returns-clause-block : goal.returns-clause-block
returns-clause-block g c =
    let filled = c.read.ensures.reads.filled in
    let bytes = bytes_of (g.F.FileStore.state c.args.store.now).content c.args.ino in
    let whole : length (take 512 (drop c.args.off bytes))
    ≡ 512 = simp (length-take, length-drop) (omega (arith, c.requires.whole)) in
    let old = c.args.block.now in
    filled
    ∙ ap (λ n. slice_of bytes c.args.off n ++ drop (length (slice_of bytes c.args.off n)) old) c.told-block
    ∙ ap (λ n. take 512 (drop c.args.off bytes) ++ drop n old) whole
    ∙ ap (λ rest. take 512 (drop c.args.off bytes) ++ rest) (drop_all 512 old (omega (arith, c.told-block)))
    ∙ append-nil _
