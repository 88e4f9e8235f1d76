use Rattle.lfs_words.proofs.ReadBack.{mode_read}
use Rattle.lfs_words.proofs.WordBytes.{mode_word}
use Rattle.lfs_words.proofs.spelling.spell_mode.Goals as goal

pub returns-clause-back : goal.returns-clause-back
returns-clause-back c = record {
  word = mode_word c.args.mode c.push_mode.ensures.bounded;
  back = mode_read c.args.mode c.push_mode.ensures.bounded;
}
