use Rattle.std.proofs.Common.{◌≡◌, ◌*◌, length, take, drop, ◌++◌, subst, ◌∙◌, arith, length-take, length-drop}
use Rattle.std.proofs.Common.{append-nil, replicate}
use Rattle.lfs_types.specs.Stored.{bytes_of}
use Rattle.lfs_trees.proofs.reading.block_of.Goals as goal

pub returns-clause-block : goal.returns-clause-block
returns-clause-block g c =
    let place = c.args.place in
    let filled = c.read.ensures.reads.filled in
    let bytes = bytes_of (g.F.FileStore.state c.args.store.now).content place.directory in
    let whole : length (take 512 (drop (512 * place.index) bytes)) ≡ 512 =
    simp (length-take, length-drop) (omega (arith, c.requires.whole.counted, c.requires.within)) in
    subst (λ n. c.read.new.into ≡ take 512 (drop (512 * place.index) bytes) ++ drop n (replicate 512 0)) whole filled
    ∙ append-nil _
