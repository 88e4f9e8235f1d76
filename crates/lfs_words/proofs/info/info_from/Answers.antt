use Rattle.std.proofs.Common.{rules}
use Rattle.lfs_words.proofs.info.info_from.Goals as goal

pub returns-in_err-ino : goal.returns-in_err-ino
returns-in_err-ino c = search rules

pub returns-in_err-version : goal.returns-in_err-version
returns-in_err-version c = search rules

pub returns-in_err-lbn : goal.returns-in_err-lbn
returns-in_err-lbn c = search rules
