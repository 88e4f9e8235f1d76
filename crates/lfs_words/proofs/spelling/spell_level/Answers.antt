use Rattle.lfs_words.proofs.ReadBack.{level_read_back}
use Rattle.lfs_words.proofs.WordBytes.{level_word_is}
use Rattle.lfs_words.proofs.spelling.spell_level.Goals as goal

pub returns-clause-back : goal.returns-clause-back
returns-clause-back c = record { word = level_word_is c.args.level; back = level_read_back c.args.level }
