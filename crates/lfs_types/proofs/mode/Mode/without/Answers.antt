use Rattle.std.proofs.Common.{arith, rules, ◌-◌, ◌^◌}
use Rattle.std.proofs.lemmas.Nat.{and_le_l}
use Rattle.lfs_types.proofs.mode.Mode.without.Goals as goal

pub invariant_of-result : goal.invariant_of-result
invariant_of-result c = omega (
  arith,
  c.remove.ensures tt,
  c.self.invariant,
  and_le_l c.self.inside.set.0 (2 ^ 16 - 1 - c.args.bits.0),
)

pub returns-clause-value : goal.returns-clause-value
returns-clause-value c = search rules
