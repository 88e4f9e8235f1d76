use Rattle.std.proofs.Common.{◌≤◌, List, [], ◌∷◌, ℕ, length, arith, length-append, subst}
use Rattle.lfs_types.specs.Paths.{slashed}
use Rattle.lfs_types.proofs.path.Path.names.Goals as goal

-- a path has no more names than bytes
length-slashed : (names : List (List ℕ)) → length names ≤ length (slashed names)
length-slashed [] = omega arith
length-slashed (name ∷ names) = simp length-append (omega (arith, length-slashed names))

pub returns-clause-few : goal.returns-clause-few
returns-clause-few c =
    let bounded = subst (λ (names : List (List ℕ)). length (slashed names) ≤ 1024) c.self.view_is c.self.invariant in
    omega (arith, length-slashed c.args.self.now)
