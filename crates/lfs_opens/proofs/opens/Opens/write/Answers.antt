use Rattle.std.proofs.Common.{◌≡◌, length, sym, ap, subst, arith}
use Rattle.lfs_fuse_wire.specs.Said.{write}
use Rattle.lfs_opens.specs.Rewritten.{LacksRoom, TellsWritten, end_of, part_of}
use Rattle.lfs_opens.proofs.opens.Opens.write.Goals as goal

pub returns-then-count-eq0-clause-tells : goal.returns-then-count-eq0-clause-tells
returns-then-count-eq0-clause-tells c =
    let said = write c.args.fields.now c.args.bytes.now in
    let files = c.args.self.now.files.items in
    let none : length (part_of c.args.bytes.now) ≡ 0 =
    omega (arith, c.if-count-eq0.true, ap length c.part_of.ensures.bytes) in
    subst (λ n. TellsWritten (LacksRoom said c.args.head.now.node c.args.size files) n (end_of said c.args.size)
    c.nothing_told.result) (sym none) (c.nothing_told.ensures.tells c.args.head.now.node files)
