use Rattle.std.proofs.Common.{◌<◌, ◌∷◌, [], length, refl, sym, arith}
use Rattle.std.proofs.lemmas.List.{set-append_left}
use Rattle.lfs_inodes.proofs.inode.Inode.with_direct.Goals as goal

pub returns-clause-attributes : goal.returns-clause-attributes
returns-clause-attributes c = refl

pub returns-clause-addresses : goal.returns-clause-addresses
returns-clause-addresses c =
    let v = c.args.self.now in let inside : c.args.n < length v.direct = omega (arith, v.whole) in
    sym (set-append_left v.direct (v.single ∷ v.double ∷ []) c.args.n c.args.address inside)
