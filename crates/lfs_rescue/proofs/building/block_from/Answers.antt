use Rattle.std.proofs.Common.{refl, arith}
use Rattle.lfs_types.specs.Blocks.{zero_block}
use Rattle.lfs_rescue.proofs.building.block_from.Goals as goal

pub returns-then-from-address-clause-told : goal.returns-then-from-address-clause-told
unfolding zero_block
returns-then-from-address-clause-told c = record {
  same = λ before. let past = c.if-from-address.true in absurd (omega arith);
  zeros = λ past. refl;
}
