use Rattle.std.proofs.Common.{ap, sym}
use Rattle.lfs_print.specs.CleanerWords.{cleaner_word}
use Rattle.lfs_print.proofs.cleaner.cleaner_word.Goals as goal

pub returns-in-Bmapv : goal.returns-in-Bmapv
returns-in-Bmapv c = sym (ap cleaner_word c.in-Bmapv.is)
