use Rattle.std.proofs.Common.{rules}
use Rattle.lfs_words.proofs.info.are_decimals.Goals as goal

pub returns-then-is_decimal-3 : goal.returns-then-is_decimal-3
returns-then-is_decimal-3 c = search rules
