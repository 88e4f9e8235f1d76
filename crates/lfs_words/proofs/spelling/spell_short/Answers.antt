use Rattle.std.proofs.Common.{arith}
use Rattle.lfs_words.proofs.ReadBack.{short_read}
use Rattle.lfs_words.proofs.WordBytes.{decimal_word}
use Rattle.lfs_words.proofs.spelling.spell_short.Goals as goal

pub returns-clause-back : goal.returns-clause-back
returns-clause-back c = record {
  word = decimal_word c.args.number (omega arith);
  back = short_read c.args.number (omega arith);
}
