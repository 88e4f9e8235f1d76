use Rattle.std.proofs.Common.{rules}
use Rattle.lfs_words.proofs.append.push_name_byte.Goals as goal

pub returns-in_ok-push-in_default : goal.returns-in_ok-push-in_default
returns-in_ok-push-in_default c = search rules
