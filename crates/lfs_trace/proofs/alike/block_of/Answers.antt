use Rattle.std.proofs.Common.{◌≡◌, ◌*◌, length, take, drop, ◌++◌, subst, ◌∙◌, arith, length-take, length-drop}
use Rattle.std.proofs.Common.{append-nil, replicate}
use Rattle.lfs_types.specs.Stored.{bytes_of}
use Rattle.lfs_trace.proofs.alike.block_of.Goals as goal

pub overflow_mul-index : goal.overflow_mul-index
overflow_mul-index g c = omega (arith, c.requires.within, c.requires.bounded)

pub returns-clause-block : goal.returns-clause-block
returns-clause-block g c =
    let filled = c.read.ensures.reads.filled in
    let bytes = bytes_of (g.F.FileStore.state c.args.store.now).content c.args.directory in
    let whole : length (take 512 (drop (512 * c.args.index) bytes)) ≡ 512 =
    simp (length-take, length-drop) (omega (arith, c.requires.within)) in
    subst (λ n. c.read.new.into ≡ take 512 (drop (512 * c.args.index) bytes) ++ drop n (replicate 512 0)) whole filled
    ∙ append-nil _
