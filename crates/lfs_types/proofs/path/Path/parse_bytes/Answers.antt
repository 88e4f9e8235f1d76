use Rattle.std.proofs.Common.{arith, ◌≡◌, ◌∷◌, ap, sym, ◌∙◌}
use Rattle.lfs_types.specs.Paths.{slashed}
use Rattle.lfs_types.proofs.Cuts.{slashed-parts, path_text-slashed}
use Rattle.lfs_types.proofs.path.Path.parse_bytes.Goals as goal
use Rattle.lfs_types.proofs.path.Path.parse_bytes.Goals.{In_ok-names}

spelled : (c : In_ok-names) → slashed c.in_ok-names.names.items ≡ 47 ∷ c.in-Some.behind.now
spelled c = ap slashed c.in_ok-names.ensures.1 ∙ slashed-parts c.in-Some.behind.now

pub invariant_of-result-2 : goal.invariant_of-result-2
invariant_of-result-2 c = rw (spelled c) (omega arith)

pub returns-clause-spelled : goal.returns-clause-spelled
returns-clause-spelled c = path_text-slashed _ _ (spelled c) ∙ sym c.in-Some.ensures
