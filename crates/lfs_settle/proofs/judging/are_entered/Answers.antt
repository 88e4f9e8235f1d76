use Rattle.std.proofs.Common.{arith}
use Rattle.std.proofs.lemmas.Grind.{common_steps}
use Rattle.lfs_settle.proofs.judging.are_entered.Goals as goal

pub loop-call-init : goal.loop-call-init
loop-call-init c = (λ h. h, λ h. h)

pub returns : goal.returns
returns c = grind (arith, common_steps)
