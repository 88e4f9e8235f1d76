use Rattle.lfs_words.proofs.ReadBack.{flags_read_back}
use Rattle.lfs_words.proofs.WordBytes.{flags_word}
use Rattle.lfs_words.proofs.spelling.spell_flags.Goals as goal

pub returns-clause-back : goal.returns-clause-back
returns-clause-back c = record {
  word = flags_word c.args.flags;
  back = flags_read_back c.args.flags c.push_flags.ensures.bounded c.push_flags.ensures.known;
}
