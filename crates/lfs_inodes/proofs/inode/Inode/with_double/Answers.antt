use Rattle.std.proofs.Common.{◌∷◌, [], refl, sym, arith}
use Rattle.std.proofs.lemmas.List.{set-append_right}
use Rattle.lfs_inodes.proofs.inode.Inode.with_double.Goals as goal

pub returns-clause-attributes : goal.returns-clause-attributes
returns-clause-attributes c = refl

pub returns-clause-addresses : goal.returns-clause-addresses
returns-clause-addresses c =
    let v = c.args.self.now in sym (set-append_right v.direct (v.single ∷ v.double ∷ []) 12 13 c.args.address v.whole
    (omega arith))
