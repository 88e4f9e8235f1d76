use Rattle.std.proofs.Common.{rules}
use Rattle.lfs_parts.proofs.format.check_numbers.Goals as goal

pub returns-in_err-check_range-2-clause-too_few : goal.returns-in_err-check_range-2-clause-too_few
returns-in_err-check_range-2-clause-too_few c = search rules

pub returns-in_err-check_range-2-clause-too_many : goal.returns-in_err-check_range-2-clause-too_many
returns-in_err-check_range-2-clause-too_many c = search rules
